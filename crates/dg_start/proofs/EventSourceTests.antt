-- How the events of several sources are tested, one source at a time.
use Rattle.std.proofs.Common.{◌≡◌, ℕ, ◌+◌, ◌≤◌, true, false, List, [], ◌∷◌, ◌++◌, Option, Some, None, is_some, length, map, take, drop, refl, sym, ◌∙◌, ap, subst, arith, drop-drop, length-drop}
use Rattle.std.proofs.lemmas.Bool.{false≢true}
use Rattle.std.proofs.lemmas.List.{drop_all, length-take-le, take-append-drop}
use Rattle.dg_graph.specs.declared.element.Element.{Element}
use Rattle.dg_graph.specs.declared.event.Event.{Event}
use Rattle.dg_graph.specs.Replay.{replay_from}
use Rattle.dg_graph.proofs.ExactEvents.{replay_append}
use Rattle.dg_start.specs.RecentEvents.{Source, first_wrong_event}
use Rattle.dg_start.specs.EventSources.{ArePartedBy, FirstWrong, bounded, or_later_number}
use Rattle.dg_start.proofs.RecentEventSources.{IsNextSource}

pub none_is : {A : Type 0} (o : Option A) → is_some o ≡ false → o ≡ None
none_is None h = refl
none_is (Some x) h = absurd (false≢true (sym h))

-- The events of the first sources, which are so many, are right, and lead one set to another.
pub record TestedSoFar (names : List (List ℕ)) (first : ℕ) (set : List Element) (all : List Source) (events : List Event) (i at : ℕ) (graph : List Element) : Type 0 where
  pub within : at ≤ length events
  pub right : first_wrong_event names first set (bounded all events) ≡ first_wrong_event names (first + at) graph (bounded (drop i all) (drop at events))
  pub led : replay_from graph (drop at events) ≡ replay_from set events
  pub parted : ArePartedBy (drop i all) (drop at events)

pub none_tested : (names : List (List ℕ)) (first : ℕ) (set : List Element) (all : List Source) (events : List Event) → ArePartedBy all events → TestedSoFar names first set all events 0 0 set
none_tested names first set all events parted = record {
  within = omega arith;
  right = ap (λ n. first_wrong_event names n set (bounded all events)) (let e : first ≡ first + 0 = omega arith in e);
  led = refl;
  parted = parted;
}

module _ (names : List (List ℕ)) (first : ℕ) (set : List Element) (all : List Source) (events : List Event) (i at : ℕ) (graph : List Element)
    (so_far : TestedSoFar names first set all events i at graph) (s : Source) (next : IsNextSource all i s) where
  parted_here : ArePartedBy (s ∷ drop (i + 1) all) (drop at events)
  parted_here = subst (λ (l : List Source). ArePartedBy l (drop at events)) next.rest so_far.parted

  -- the events of the next source are among them
  pub next_within : at + s.count ≤ length events
  next_within =
      let enough = parted_here.0 in
      let left = length-drop at events in
      let upto = so_far.within in
      omega (arith, enough, left, upto)

  behind : drop s.count (drop at events) ≡ drop (at + s.count) events
  behind = drop-drop s.count at events

  -- and come next
  right_here : first_wrong_event names first set (bounded all events)
      ≡ first_wrong_event names (first + at) graph (map (λ (e : Event). (s.ends, e)) (take s.count (drop at events)) ++ bounded (drop (i + 1) all) (drop s.count (drop at events)))
  right_here = so_far.right ∙ ap (λ (l : List Source). first_wrong_event names (first + at) graph (bounded l (drop at events))) next.rest

  -- those of the next source were tested
  module _ (own : List Event) (own_is : own ≡ take s.count (drop at events)) (wrong : Option ℕ) (then_graph : List Element)
      (tested : FirstWrong names s.ends (first + at) graph own wrong then_graph) where
    all_here : first_wrong_event names first set (bounded all events)
        ≡ or_later_number wrong (first_wrong_event names (first + at + length own) then_graph (bounded (drop (i + 1) all) (drop s.count (drop at events))))
    all_here =
        right_here
        ∙ ap (λ (es : List Event). first_wrong_event names (first + at) graph (map (λ (e : Event). (s.ends, e)) es ++ bounded (drop (i + 1) all) (drop s.count (drop at events)))) (sym own_is)
        ∙ tested (bounded (drop (i + 1) all) (drop s.count (drop at events)))

    -- one of them is wrong
    pub wrong_here : is_some wrong ≡ true → wrong ≡ first_wrong_event names first set (bounded all events)
    wrong_here some = by wrong refl some
      where
        by : (w : Option ℕ) → wrong ≡ w → is_some w ≡ true → wrong ≡ first_wrong_event names first set (bounded all events)
        by None is h = absurd (false≢true h)
        by (Some n) is h =
            is ∙ sym (all_here ∙ ap (λ (w : Option ℕ). or_later_number w (first_wrong_event names (first + at + length own) then_graph (bounded (drop (i + 1) all) (drop s.count (drop at events))))) is)

    -- all of them are right
    pub right_so_far : wrong ≡ None → (wrong ≡ None → then_graph ≡ replay_from graph own) → (end : ℕ) → end ≡ at + s.count
        → TestedSoFar names first set all events (i + 1) end then_graph
    right_so_far none led end end_is =
        let long : length own ≡ s.count = ap length own_is ∙ length-take-le s.count (drop at events) parted_here.0 in
        let from_here : drop s.count (drop at events) ≡ drop end events = behind ∙ ap (λ n. drop n events) (sym end_is) in
        let upto = next_within in
        record {
          within = omega (arith, upto, end_is);
          right =
              all_here
              ∙ ap (λ (w : Option ℕ). or_later_number w (first_wrong_event names (first + at + length own) then_graph (bounded (drop (i + 1) all) (drop s.count (drop at events))))) none
              ∙ (λ j. first_wrong_event names ((let e : first + at + length own ≡ first + end = omega (arith, long, end_is) in e) j) then_graph (bounded (drop (i + 1) all) (from_here j)));
          led =
              (λ j. replay_from (led none j) (sym from_here j))
              ∙ ap (λ (es : List Event). replay_from (replay_from graph es) (drop s.count (drop at events))) own_is
              ∙ sym (replay_append graph (take s.count (drop at events)) (drop s.count (drop at events)))
              ∙ ap (replay_from graph) (take-append-drop s.count (drop at events))
              ∙ so_far.led;
          parted = subst (ArePartedBy (drop (i + 1) all)) from_here parted_here.2;
        }

-- all sources were tested
module _ (names : List (List ℕ)) (first : ℕ) (set : List Element) (all : List Source) (events : List Event) (i at : ℕ) (graph : List Element)
    (so_far : TestedSoFar names first set all events i at graph) (past : length all ≤ i) where
  left : drop at events ≡ []
  left = subst (λ (l : List Source). ArePartedBy l (drop at events)) (drop_all i all past) so_far.parted

  pub none_wrong : None ≡ first_wrong_event names first set (bounded all events)
  none_wrong = sym (so_far.right ∙ ap (λ (l : List Source). first_wrong_event names (first + at) graph (bounded l (drop at events))) (drop_all i all past))

  pub all_led : graph ≡ replay_from set events
  all_led = sym (ap (replay_from graph) left) ∙ so_far.led
