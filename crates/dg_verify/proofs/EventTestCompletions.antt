-- Events that may follow one another, and how many of them there are in front.
use Rattle.std.proofs.Common.{◌≡◌, ℕ, suc, ◌+◌, ◌<◌, ◌≤◌, Bool, true, false, ◌&&◌, cond, List, [], ◌∷◌, ◌++◌, length, drop, get_or, refl, sym, ◌∙◌, ap, arith, add-one}
use Rattle.std.specs.Prelude.{nat_le}
use Rattle.std.proofs.Math.Seq.{drop-cons}
use Rattle.std.proofs.lemmas.Bool.{and_parts}
use Rattle.std.proofs.lemmas.List.{drop_all}
use Rattle.dg_graph.specs.declared.element.Element.{Element}
use Rattle.dg_graph.specs.declared.event.Event.{Event}
use Rattle.dg_graph.specs.Completion.{completes, has_key, is_change_of}
use Rattle.dg_graph.specs.Effect.{forwards}
use Rattle.dg_graph.specs.MadeByChanges.{AreMadeByChanges}
use Rattle.dg_graph.specs.Replay.{replay_from}
use Rattle.dg_history.specs.History.{last_time_from}
use Rattle.dg_sound.specs.OwnEvents.{are_completions}
use Rattle.dg_verify.specs.EventTests.{followed}

-- ---- the next event

module _ (names : List (List ℕ)) (time i : ℕ) (set : List Element) (events : List Event) (d : Event) (lt : i < length events) where
  here : followed names set time (drop i events)
      ≡ cond (completes names set (get_or events i d).body && nat_le time (get_or events i d).time)
      (followed names (forwards set (get_or events i d)) (get_or events i d).time (drop (suc i) events) + 1) 0
  here = ap (followed names set time) (drop-cons events i d lt)

  pub wrong_here : (completes names set (get_or events i d).body && nat_le time (get_or events i d).time) ≡ false → followed names set time (drop i events) ≡ 0
  wrong_here h = here ∙ ap (λ b. cond b (followed names (forwards set (get_or events i d)) (get_or events i d).time (drop (suc i) events) + 1) 0) h

  pub right_here : (then_set : List Element) → (completes names set (get_or events i d).body && nat_le time (get_or events i d).time) ≡ true → then_set ≡ forwards set (get_or events i d)
      → followed names set time (drop i events) ≡ followed names then_set (get_or events i d).time (drop (i + 1) events) + 1
  right_here then_set h on =
      here ∙ ap (λ b. cond b (followed names (forwards set (get_or events i d)) (get_or events i d).time (drop (suc i) events) + 1) 0) h
      ∙ (λ j. followed names (sym on j) (get_or events i d).time (drop (sym (add-one i) j) events) + 1)

-- no event is left
pub none_left : (names : List (List ℕ)) (time i : ℕ) (set : List Element) (events : List Event) → length events ≤ i → followed names set time (drop i events) ≡ 0
none_left names time i set events past = ap (followed names set time) (drop_all i events past)

-- ---- the front and all

module _ (names : List (List ℕ)) where
  pub at_most : (set : List Element) (time : ℕ) (events : List Event) → followed names set time events ≤ length events
  at_most set time [] = omega arith
  at_most set time (e ∷ events) = by (completes names set e.body && nat_le time e.time) (at_most (forwards set e) e.time events)
    where
      by : (t : Bool) → followed names (forwards set e) e.time events ≤ length events → cond t (followed names (forwards set e) e.time events + 1) 0 ≤ length (e ∷ events)
      by true h = omega (arith, h)
      by false h = omega arith

  -- all of the front, and those of the rest that go on from there
  pub more_followed : (set : List Element) (time : ℕ) (a b : List Event) → followed names set time a ≡ length a
      → followed names set time (a ++ b) ≡ length a + followed names (replay_from set a) (last_time_from time a) b
  more_followed set time [] b all = omega arith
  more_followed set time (e ∷ a) b all = by (completes names set e.body && nat_le time e.time) (more_followed (forwards set e) e.time a b) all
    where
      by : (t : Bool)
          → (followed names (forwards set e) e.time a ≡ length a
          → followed names (forwards set e) e.time (a ++ b) ≡ length a + followed names (replay_from (forwards set e) a) (last_time_from e.time a) b)
          → cond t (followed names (forwards set e) e.time a + 1) 0 ≡ length (e ∷ a)
          → cond t (followed names (forwards set e) e.time (a ++ b) + 1) 0 ≡ length (e ∷ a) + followed names (replay_from (forwards set e) a) (last_time_from e.time a) b
      by true later all = let rest = later (omega (arith, all)) in omega (arith, rest)
      by false later all = absurd (omega (arith, all))

  -- not all of the front
  pub same_followed : (set : List Element) (time : ℕ) (a b : List Event) → followed names set time a < length a → followed names set time (a ++ b) ≡ followed names set time a
  same_followed set time [] b lt = absurd (omega (arith, lt))
  same_followed set time (e ∷ a) b lt = by (completes names set e.body && nat_le time e.time) (same_followed (forwards set e) e.time a b) lt
    where
      by : (t : Bool)
          → (followed names (forwards set e) e.time a < length a → followed names (forwards set e) e.time (a ++ b) ≡ followed names (forwards set e) e.time a)
          → cond t (followed names (forwards set e) e.time a + 1) 0 < length (e ∷ a)
          → cond t (followed names (forwards set e) e.time (a ++ b) + 1) 0 ≡ cond t (followed names (forwards set e) e.time a + 1) 0
      by true later lt = ap (λ n. n + 1) (later (omega (arith, lt)))
      by false later lt = refl

  -- ---- what they are

  pub all_right : (set : List Element) (time : ℕ) (events : List Event) → followed names set time events ≡ length events → are_completions names set time events ≡ true
  all_right set time [] all = refl
  all_right set time (e ∷ events) all = by (completes names set e.body) (nat_le time e.time) (all_right (forwards set e) e.time events) all
    where
      by : (a b : Bool)
          → (followed names (forwards set e) e.time events ≡ length events → are_completions names (forwards set e) e.time events ≡ true)
          → cond (a && b) (followed names (forwards set e) e.time events + 1) 0 ≡ length (e ∷ events)
          → (a && (b && are_completions names (forwards set e) e.time events)) ≡ true
      by true true later all = later (omega (arith, all))
      by true false later all = absurd (omega (arith, all))
      by false b later all = absurd (omega (arith, all))

  pub some_wrong : (set : List Element) (time : ℕ) (events : List Event) → followed names set time events < length events → are_completions names set time events ≡ false
  some_wrong set time [] lt = absurd (omega (arith, lt))
  some_wrong set time (e ∷ events) lt = by (completes names set e.body) (nat_le time e.time) (some_wrong (forwards set e) e.time events) lt
    where
      by : (a b : Bool)
          → (followed names (forwards set e) e.time events < length events → are_completions names (forwards set e) e.time events ≡ false)
          → cond (a && b) (followed names (forwards set e) e.time events + 1) 0 < length (e ∷ events)
          → (a && (b && are_completions names (forwards set e) e.time events)) ≡ false
      by true true later lt = later (omega (arith, lt))
      by true false later lt = refl
      by false b later lt = refl

pub made_so : (names : List (List ℕ)) (set : List Element) (time : ℕ) (events : List Event) → are_completions names set time events ≡ true → AreMadeByChanges set events
made_so names set time [] h = tt
made_so names set time (e ∷ events) h =
    let first = and_parts (completes names set e.body) _ h in
    let rest = and_parts (nat_le time e.time) _ first.1 in
    ((and_parts (has_key names e.body) (is_change_of set e.body) first.0).1, made_so names (forwards set e) e.time events rest.1)
