-- The times of events: that they do not fall, and the last of them.
use Rattle.std.proofs.Common.{◌≡◌, ℕ, ◌+◌, ◌-◌, ◌≤◌, true, List, [], ◌∷◌, ◌++◌, Option, Some, None, length, refl, sym, ap, ◌∙◌, arith}
use Rattle.std.specs.Prelude.{nat_le, slice_get}
use Rattle.std.specs.List.{All}
use Rattle.std.proofs.lemmas.Bool.{and_from, le-leb}
use Rattle.std.proofs.lemmas.List.Elements.{All-head, All-tail}
use Rattle.dg_graph.specs.declared.element.Element.{Element}
use Rattle.dg_graph.specs.declared.event.Change.{Change}
use Rattle.dg_graph.specs.declared.event.Event.{Event}
use Rattle.dg_graph.specs.declared.limits.TheConstants.{TIME_MAX}
use Rattle.dg_graph.specs.ColumnMerge.{never_fall}
use Rattle.dg_graph.specs.Effect.{forwards}
use Rattle.dg_graph.proofs.Completions.{AllCome}
use Rattle.dg_history.specs.EventTimes.{RisesFrom}
use Rattle.dg_history.specs.History.{earliest_next, first_time_of, last_time_from, span_of}

-- ---- the last time

pub last_two : (t : ℕ) (xs ys : List Event) → last_time_from t (xs ++ ys) ≡ last_time_from (last_time_from t xs) ys
last_two t [] ys = refl
last_two t (x ∷ xs) ys = last_two x.time xs ys

-- the last time of a list that is not empty does not depend on what was before
pub last_some : (s t : ℕ) (events : List Event) → 1 ≤ length events → last_time_from s events ≡ last_time_from t events
last_some s t [] some = absurd (omega (arith, some))
last_some s t (e ∷ events) some = refl

-- the earliest time after events of which the last ones are not none
pub earliest_behind : (before events : List Event) → 1 ≤ length events → earliest_next (span_of (before ++ events)) ≡ last_time_from 0 events + 1
earliest_behind [] [] some = absurd (omega (arith, some))
earliest_behind [] (e ∷ events) some = refl
earliest_behind (x ∷ before) events some = ap (λ n. n + 1) (last_two x.time before events ∙ last_some (last_time_from x.time before) 0 events some)

pub last_earliest : (before : List Event) → last_time_from 0 before ≤ earliest_next (span_of before)
last_earliest [] = omega arith
last_earliest (e ∷ events) = omega arith

last_is : (e : Event) (es : List Event) (last : Event) → slice_get (e ∷ es) (length es) ≡ Some last → last_time_from e.time es ≡ last.time
last_is e [] last is = cc
last_is e (f ∷ es) last is = last_is f es last is

-- it is that of the last event
pub last_time_is : (es : List Event) (last : Event) → Some last ≡ slice_get es (length es - 1) → last.time ≡ last_time_from 0 es
last_time_is [] last is = cc
last_time_is (e ∷ es) last is =
    let at_end : slice_get (e ∷ es) (length es) ≡ Some last = ap (slice_get (e ∷ es)) (let n : length es ≡ length (e ∷ es) - 1 = omega arith in n) ∙ sym is in
    sym (last_is e es last at_end)

pub last_in_time : (t : ℕ) (events : List Event) → t ≤ TIME_MAX → All (λ (e : Event). e.time ≤ TIME_MAX) events → last_time_from t events ≤ TIME_MAX
last_in_time t [] le all = le
last_in_time t (e ∷ events) le all =
    last_in_time e.time events (All-head (λ (e : Event). e.time ≤ TIME_MAX) e events all) (All-tail (λ (e : Event). e.time ≤ TIME_MAX) e events all)

-- ---- times that do not fall

pub rises_last : (t : ℕ) (events : List Event) → RisesFrom t events → t ≤ last_time_from t events
rises_last t [] r = omega arith
rises_last t (e ∷ events) r = omega (arith, r.0, rises_last e.time events r.1)

pub first_and_last : (t : ℕ) (events : List Event) → 1 ≤ length events → RisesFrom t events → (t ≤ first_time_of events) × (first_time_of events ≤ last_time_from 0 events)
first_and_last t [] some r = absurd (omega (arith, some))
first_and_last t (e ∷ events) some r = (r.0, rises_last e.time events r.1)

pub rises_parts : (t : ℕ) (xs ys : List Event) → RisesFrom t (xs ++ ys) → RisesFrom t xs × RisesFrom (last_time_from t xs) ys
rises_parts t [] ys r = (tt, r)
rises_parts t (x ∷ xs) ys r =
    let more = rises_parts x.time xs ys r.1 in
    ((r.0, more.0), more.1)

pub rises_join : (t : ℕ) (xs ys : List Event) → RisesFrom t xs → RisesFrom (last_time_from t xs) ys → RisesFrom t (xs ++ ys)
rises_join t [] ys r more = more
rises_join t (x ∷ xs) ys r more = (r.0, rises_join x.time xs ys r.1 more)

pub rises_later : (s t : ℕ) (events : List Event) → s ≤ t → RisesFrom t events → RisesFrom s events
rises_later s t [] le r = tt
rises_later s t (e ∷ events) le r = (omega (arith, le, r.0), r.1)

pub no_fall : (t : ℕ) (events : List Event) → RisesFrom t events → never_fall t events ≡ true
no_fall t [] r = refl
no_fall t (e ∷ events) r = and_from (nat_le t e.time) _ (le-leb t e.time r.0) (no_fall e.time events r.1)

-- so are those of what changes come to
pub rises_come : (earliest : ℕ) (set : List Element) (changes : List (Option Change)) (events : List Event) → AllCome earliest set changes events → RisesFrom earliest events
rises_come earliest set [] [] h = tt
rises_come earliest set [] (e ∷ events) h = absurd h
rises_come earliest set (None ∷ changes) events h = absurd h
rises_come earliest set (Some c ∷ changes) [] h = absurd h
rises_come earliest set (Some c ∷ changes) (e ∷ events) h = (omega (arith, h.0.late, h.0.time), rises_come e.time (forwards set e) changes events h.1)
