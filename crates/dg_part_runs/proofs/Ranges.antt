-- The range of several parts, and the instant of a part that stands for another one.
use Rattle.std.proofs.Common.{arith, ◌≡◌, ℕ, ◌≤◌, Bool, true, false, cond, List, [], ◌∷◌, Option, Some, None, refl, sym, ap, ◌∙◌}
use Rattle.std.specs.Prelude.{◌&&◌, if◌then◌else◌, max, min, nat_lt}
use Rattle.std.proofs.lemmas.Bool.{le-leb, le-ltb, lt-ltb, ltb-true, ltb-false}
use Rattle.dg_graph.specs.declared.element.Columns.{Columns}
use Rattle.dg_graph.specs.declared.element.Element.{Element}
use Rattle.dg_graph.specs.declared.event.Event.{Event}
use Rattle.dg_graph.specs.Replay.{shown_at}
use Rattle.dg_history.specs.EventTimes.{RisesFrom}
use Rattle.dg_history.specs.History.{in_range, last_time_from, span_of}
use Rattle.dg_history.proofs.EventTimes.{rises_last}
use Rattle.dg_partition.specs.PartRanges.{shown_within}
use Rattle.dg_part_runs.specs.PartTimes.{joined, time_within}

pub joined_assoc : (a b c : Option (ℕ × ℕ)) → joined (joined a b) c ≡ joined a (joined b c)
joined_assoc None b c = refl
joined_assoc (Some a) None c = refl
joined_assoc (Some a) (Some b) None = refl
joined_assoc (Some a) (Some b) (Some c) =
    let first : min (min a.0 b.0) c.0 ≡ min a.0 (min b.0 c.0) = omega arith in
    let last : max (max a.1 b.1) c.1 ≡ max a.1 (max b.1 c.1) = omega arith in
    λ i. Some (first i, last i)

pub joined_none : (a : Option (ℕ × ℕ)) → joined a None ≡ a
joined_none None = refl
joined_none (Some a) = refl

-- ---- the instant that stands for another

-- what the events show where they are asked for this instant, if for any
abbrev pub shown_by_time : List Event → Columns → Option ℕ → List Element
shown_by_time events cols None = []
shown_by_time events cols (Some s) = shown_at events s cols

pub time_inside : (ends : Option (ℕ × ℕ)) (t s : ℕ) → time_within ends t ≡ Some s → in_range ends s ≡ true
time_inside None t s is = absurd (cc)
time_inside (Some ends) t s is = by (nat_lt (min t ends.1) ends.0) refl is
  where
    by : (b : Bool) → nat_lt (min t ends.1) ends.0 ≡ b → (if b then None else Some (min t ends.1)) ≡ Some s → in_range (Some ends) s ≡ true
    by true test at = absurd (cc)
    by false test at =
        let same : min t ends.1 ≡ s = cc in
        let low : ends.0 ≤ s = omega (arith, ltb-false (min t ends.1) ends.0 test, same) in
        let high : s ≤ ends.1 = omega (arith, same) in
        λ i. le-leb ends.0 s low i && le-leb s ends.1 high i

pub within_by_time : (cols : Columns) (t : ℕ) (events : List Event) → RisesFrom 0 events → shown_within events t cols ≡ shown_by_time events cols (time_within (span_of events) t)
within_by_time cols t [] rises = refl
within_by_time cols t (e ∷ events) rises = by (nat_lt t e.time) refl
  where
    le : e.time ≤ last_time_from e.time events
    le = rises_last e.time events rises.1

    by : (b : Bool) → nat_lt t e.time ≡ b → shown_within (e ∷ events) t cols ≡ shown_by_time (e ∷ events) cols (time_within (span_of (e ∷ events)) t)
    by true is =
        let late : nat_lt (min t (last_time_from e.time events)) e.time ≡ true = lt-ltb (min t (last_time_from e.time events)) e.time (omega (arith, ltb-true t e.time is)) in
        ap (λ b. cond b [] (shown_at (e ∷ events) (min t (last_time_from e.time events)) cols)) is
        ∙ sym (ap (λ b. shown_by_time (e ∷ events) cols (cond b None (Some (min t (last_time_from e.time events))))) late)
    by false is =
        let soon : nat_lt (min t (last_time_from e.time events)) e.time ≡ false = le-ltb (min t (last_time_from e.time events)) e.time (omega (arith, le, ltb-false t e.time is)) in
        ap (λ b. cond b [] (shown_at (e ∷ events) (min t (last_time_from e.time events)) cols)) is
        ∙ sym (ap (λ b. shown_by_time (e ∷ events) cols (cond b None (Some (min t (last_time_from e.time events))))) soon)
