-- Times that do not fall.
use Rattle.std.proofs.Common.{◌≡◌, ℕ, zero, suc, ◌≤◌, List, [], ◌∷◌, ◌++◌, length, map, take, drop, sym, ◌∙◌, ap, subst, arith}
use Rattle.std.proofs.lemmas.List.{take-append-drop}
use Rattle.dg_append.specs.BatchSegments.{BeginsBehind}
use Rattle.dg_build.specs.SpelledRecords.{last_in_rows}
use Rattle.dg_graph.specs.declared.event.Event.{Event}
use Rattle.dg_history.specs.EventTimes.{RisesFrom}
use Rattle.dg_history.specs.History.{first_time_of, last_time_from}
use Rattle.dg_history.proofs.EventTimes.{last_some, last_two, rises_parts}
use Rattle.dg_index.specs.FileOfHistory.{StoredList}
use Rattle.dg_index.specs.OpenedIndex.{list_row}

pub last_of_both : (t : ℕ) (xs ys : List Event) → 1 ≤ length ys → last_time_from t (xs ++ ys) ≡ last_time_from 0 ys
last_of_both t xs ys some = last_two t xs ys ∙ last_some (last_time_from t xs) 0 ys some

-- from the first of them on
pub from_first : (s t : ℕ) (events : List Event) → BeginsBehind s events → RisesFrom t events → RisesFrom s events
from_first s t [] le r = tt
from_first s t (e ∷ events) le r = (le, r.1)

-- behind some of them none is earlier
begins_later : (s t : ℕ) (events : List Event) → s ≤ t → RisesFrom t events → BeginsBehind s events
begins_later s t [] le r = tt
begins_later s t (e ∷ events) le r = omega (arith, le, r.0)

pub begins_after : (floor : ℕ) (lists : List StoredList) (rest : List Event) → RisesFrom (last_in_rows floor (map list_row lists)) rest → BeginsBehind (last_in_rows 0 (map list_row lists)) rest
begins_after floor [] rest r = begins_later 0 floor rest (omega arith) r
begins_after floor (x ∷ lists) rest r = begins_later (last_in_rows x.last (map list_row lists)) (last_in_rows x.last (map list_row lists)) rest (omega arith) r

pub begins_first : (t : ℕ) (events : List Event) → t ≤ first_time_of events → BeginsBehind t events
begins_first t [] le = tt
begins_first t (e ∷ events) le = le

front_rises : (t n : ℕ) (events : List Event) → RisesFrom t events → t ≤ last_time_from t (take n events)
front_rises t zero events r = omega arith
front_rises t (suc n) [] r = omega arith
front_rises t (suc n) (e ∷ events) r = omega (arith, r.0, front_rises e.time n events r.1)

module _ (t n : ℕ) (events : List Event) (r : RisesFrom t events) where
  whole : take n events ++ drop n events ≡ events
  whole = take-append-drop n events

  pub rest_rises : RisesFrom (last_time_from t (take n events)) (drop n events)
  rest_rises = (rises_parts t (take n events) (drop n events) (subst (RisesFrom t) (sym whole) r)).1

  pub rest_begins : BeginsBehind t (drop n events)
  rest_begins = begins_later t (last_time_from t (take n events)) (drop n events) (front_rises t n events r) rest_rises

  -- what is left ends with the last of them, where something is left
  pub rest_ends : (s : ℕ) → 1 ≤ length (drop n events) → last_time_from s (drop n events) ≡ last_time_from t events
  rest_ends s some =
      last_some s (last_time_from t (take n events)) (drop n events) some ∙ sym (last_two t (take n events) (drop n events)) ∙ ap (last_time_from t) whole
