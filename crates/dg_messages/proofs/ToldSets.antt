-- The messages of an instant as a set: that of the messages in the order of the events. And the names that they have.
use Rattle.std.proofs.Common.{◌≡◌, ℕ, ◌==◌, Bool, true, false, if◌then◌else◌, List, [], ◌∷◌, ◌++◌, Option, Some, None, refl, sym, ap, ◌∙◌, subst}
use Rattle.std.specs.Prelude.{IfSome, ◌||◌}
use Rattle.std.specs.Option.{option_to_list}
use Rattle.std.proofs.lemmas.Bool.{false≢true}
use Rattle.std.proofs.lemmas.List.Elements.{All-head, All-tail}
use Rattle.dg_graph.specs.declared.element.Element.{Element}
use Rattle.dg_graph.specs.declared.event.Body.{Body}
use Rattle.dg_graph.specs.declared.event.Body.TheVariants as body
use Rattle.dg_graph.specs.declared.event.Event.{Event}
use Rattle.dg_graph.specs.Elements.{has, same, with_one}
use Rattle.dg_graph.specs.Replay.{message_of, told_at}
use Rattle.dg_graph.specs.Sets.{unioned}
use Rattle.dg_graph.proofs.Sets.{element_exact, has-put}
use Rattle.dg_messages.specs.Collected.{message_at, messages_at}
use Rattle.dg_records.specs.EventNames.{BodyHasNamesThere, EventNamesAreThere}
use Rattle.dg_retrieval.specs.NamesThere.{HasNamesThere, NamesAreThere}

first_put : (set : List Element) (o : Option Element) (xs : List Element) → unioned set (option_to_list o ++ xs) ≡ with_one (unioned set xs) o
first_put set None xs = refl
first_put set (Some x) xs = refl

-- the set of the messages, as they were sent
pub told_is : (t : ℕ) (events : List Event) → unioned [] (messages_at t events) ≡ told_at events t
told_is t [] = refl
told_is t (e ∷ events) = first_put [] (message_at t e) (messages_at t events) ∙ ap (λ set. with_one set (message_at t e)) (told_is t events)

-- ---- names

message_named : (names : ℕ) (b : Body) → BodyHasNamesThere names b → IfSome (message_of b) (HasNamesThere names)
message_named names (body.NodeAdded id) h = tt
message_named names (body.NodeRemoved id) h = tt
message_named names (body.EdgeAdded directed id src dst) h = tt
message_named names (body.EdgeRemoved directed id src dst) h = tt
message_named names (body.NodeAttr key id old new) h = tt
message_named names (body.EdgeAttr key id old new) h = tt
message_named names (body.Message src dst value) h = h

one_named : (names : ℕ) (set : List Element) (o : Option Element) → NamesAreThere names set → IfSome o (HasNamesThere names) → NamesAreThere names (with_one set o)
one_named names set None all one = all
one_named names set (Some y) all one = λ x there. by x (same x y) refl (sym (has-put y set x) ∙ there)
  where
    by : (x : Element) (b : Bool) → same x y ≡ b → (b || has set x) ≡ true → HasNamesThere names x
    by x true e h = subst (HasNamesThere names) (sym (element_exact x y e)) one
    by x false e h = all x h

pub told_named : (names t : ℕ) (events : List Event) → EventNamesAreThere names events → NamesAreThere names (told_at events t)
told_named names t [] all = λ x there. absurd (false≢true there)
told_named names t (e ∷ events) all =
    let Named : Event → Type 0 = λ (e : Event). BodyHasNamesThere names e.body in
    one_named names (told_at events t) (message_at t e) (told_named names t events (All-tail Named e events all)) (by (e.time == t) (message_of e.body) (message_named names e.body (All-head Named e events all)))
  where
    by : (b : Bool) (o : Option Element) → IfSome o (HasNamesThere names) → IfSome (if b then o else None) (HasNamesThere names)
    by true o h = h
    by false o h = tt
