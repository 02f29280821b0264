-- What holds of the elements of a set, and of what events put in, holds of the set past the events.
use Rattle.std.proofs.Common.{◌≡◌, Bool, true, false, not, ◌&&◌, ◌||◌, List, [], ◌∷◌, filter, Option, Some, None, refl, sym, subst, ◌∙◌}
use Rattle.std.specs.Prelude.{IfSome}
use Rattle.std.specs.List.{All}
use Rattle.std.specs.Option.{option_to_list}
use Rattle.std.proofs.lemmas.Bool.{false≢true}
use Rattle.std.proofs.lemmas.List.Elements.{All-head, All-tail}
use Rattle.dg_graph.proofs.Sets.{element_exact, has-filter, has-put, has-take_out, has-unioned, has-without_all}
use Rattle.dg_graph.specs.Composition.{Delta, applied}
use Rattle.dg_graph.specs.declared.element.Element.{Element}
use Rattle.dg_graph.specs.declared.event.Body.{Body}
use Rattle.dg_graph.specs.declared.event.Event.{Event}
use Rattle.dg_graph.specs.Effect.{added_by, forwards, removed_by}
use Rattle.dg_graph.specs.Elements.{has, same, with_one, without}
use Rattle.dg_graph.specs.Replay.{replay_from}
use Rattle.dg_graph.specs.Sets.{without_all}

or_of : {P : Type 0} (a b : Bool) → (a || b) ≡ true → (a ≡ true → P) → (b ≡ true → P) → P
or_of true b e f g = f refl
or_of false b e f g = g e

right_of : {P : Type 0} (a b : Bool) → (a && b) ≡ true → (b ≡ true → P) → P
right_of true b e f = f e
right_of false b e f = absurd (false≢true e)

left_of : {P : Type 0} (a b : Bool) → (a && b) ≡ true → (a ≡ true → P) → P
left_of true b e f = f refl
left_of false b e f = absurd (false≢true e)

-- it holds of each element that the set has
abbrev pub HoldsOfEach : (Element → Type 0) → List Element → Type 0
HoldsOfEach P set = (x : Element) → has set x ≡ true → P x

module _ (P : Element → Type 0) where
  pub of_none : HoldsOfEach P []
  of_none x h = absurd (false≢true h)

  pub of_more : (x : Element) (set : List Element) → P x → HoldsOfEach P set → HoldsOfEach P (x ∷ set)
  of_more x set here there q h = or_of (same q x) (has set q) h (λ is. subst P (sym (element_exact q x is)) here) (there q)

  pub of_one : (o : Option Element) → IfSome o P → HoldsOfEach P (option_to_list o)
  of_one None h = of_none
  of_one (Some x) h = of_more x [] h of_none

  -- of the set to which a delta leads, where it holds of what the delta puts in
  pub of_applied : (d : Delta) (set : List Element) → HoldsOfEach P d.plus → HoldsOfEach P set → HoldsOfEach P (applied d set)
  of_applied d set plus each q h =
      or_of (has (without_all set d.minus) q) (has d.plus q) (sym (has-unioned (without_all set d.minus) d.plus q) ∙ h)
      (λ is. left_of (has set q) (not (has d.minus q)) (sym (has-without_all set d.minus q) ∙ is) (each q)) (plus q)

  pub of_filtered : (p : Element → Bool) (set : List Element) → HoldsOfEach P set → HoldsOfEach P (filter p set)
  of_filtered p set each q h = right_of (p q) (has set q) (sym (has-filter p set q) ∙ h) (each q)

  module _ (Q : Body → Type 0) (puts : (b : Body) → Q b → IfSome (added_by b) P) where
    -- of the graph past the event
    pub past_event : (set : List Element) (e : Event) → HoldsOfEach P set → Q e.body → HoldsOfEach P (forwards set e)
    past_event set e each body = with (added_by e.body) (without set (removed_by e.body)) (puts e.body body) (less (removed_by e.body))
      where
        less : (o : Option Element) → HoldsOfEach P (without set o)
        less None q h = each q h
        less (Some x) q h = right_of (not (same q x)) (has set q) (sym (has-take_out x set q) ∙ h) (each q)

        with : (o : Option Element) (base : List Element) → IfSome o P → HoldsOfEach P base → HoldsOfEach P (with_one base o)
        with None base f g q h = g q h
        with (Some x) base f g q h = or_of (same q x) (has base q) (sym (has-put x base q) ∙ h) (λ is. subst P (sym (element_exact q x is)) f) (g q)

    -- and past all of them
    pub past_events : (set : List Element) (events : List Event) → HoldsOfEach P set → All (λ (e : Event). Q e.body) events → HoldsOfEach P (replay_from set events)
    past_events set [] each all = each
    past_events set (e ∷ events) each all =
        past_events (forwards set e) events (past_event set e each (All-head (λ (e : Event). Q e.body) e events all)) (All-tail (λ (e : Event). Q e.body) e events all)
