-- How the recent events are read and tested, one source after another.
use Rattle.std.specs.Prelude.{◌≡◌, ℕ, ◌+◌, ◌≤◌, ◌<◌, ◌^◌, true, List, [], ◌∷◌, ◌++◌, Option, Some, None, is_some, length, map, take, drop, sum_by}
use Rattle.std.specs.Map.{lookup}
use Rattle.dg_graph.specs.declared.element.Element.{Element}
use Rattle.dg_graph.specs.declared.event.Event.{Event}
use Rattle.dg_history.specs.Keys.{same_key}
use Rattle.dg_history.specs.EventTimes.{RisesFrom}
use Rattle.dg_index.specs.declared.entry.Ends.{Ends}
use Rattle.dg_index.specs.OpenedIndex.{Opening}
use Rattle.dg_plan.specs.HistoryGraph.{all_columns}
use Rattle.dg_records.specs.ColumnReads.{asked_length, kept_in}
use Rattle.dg_start.specs.declared.event_source.EventSource.{EventSource}
use Rattle.dg_start.specs.RecentEvents.{Source, first_wrong_event}

-- where the events of a source stand
abbrev pub source_of : EventSource → Source
source_of s = record { key = s.key; count = s.count; ends = s.ends }

abbrev pub sources_in : List EventSource → List Source
sources_in found = map source_of found

-- the index keeps the record, and it has not too many events to be read
pub record CanBeRead (o : Opening) (s : Source) : Type 0 where
  pub held : is_some (lookup (same_key s.key) o.records) ≡ true
  pub few : s.count < 2 ^ 32

-- the fact holds of the image, where the disk tells it
abbrev pub WhereTold : Option (List ℕ) → (List ℕ → Type 0) → Type 0
WhereTold told P = (image : List ℕ) → told ≡ Some image → P image

-- the bytes that the columns of the sources' records have in the image
abbrev pub bytes_in_sources : List ℕ → Opening → List Source → ℕ
bytes_in_sources image o all = sum_by (λ (s : Source). asked_length (kept_in image o) all_columns s.key) all

-- Each event with the times that it has to lie between: the first of them are those of the first source, and so on.
abbrev pub bounded : List Source → List Event → List (Ends × Event)
bounded [] events = []
bounded (s ∷ more) events = map (λ (e : Event). (s.ends, e)) (take s.count events) ++ bounded more (drop s.count events)

-- The events are those of the sources, one source after another: as many as are due, and no event of a source is
-- earlier than the one before it.
abbrev pub ArePartedBy : List Source → List Event → Type 0
ArePartedBy [] events = events ≡ []
ArePartedBy (s ∷ more) events = (s.count ≤ length events) × RisesFrom 0 (take s.count events) × ArePartedBy more (drop s.count events)

-- the number that was found, or else what comes later
abbrev pub or_later_number : Option ℕ → Option ℕ → Option ℕ
or_later_number None later = later
or_later_number (Some n) later = Some n

-- The first of the events of one source that is not right has this number; where all are right, they lead
-- from one set to the other.
abbrev pub FirstWrong : List (List ℕ) → Ends → ℕ → List Element → List Event → Option ℕ → List Element → Type 0
FirstWrong names ends number set events wrong after =
    (more : List (Ends × Event)) → first_wrong_event names number set (map (λ (e : Event). (ends, e)) events ++ more)
    ≡ or_later_number wrong (first_wrong_event names (number + length events) after more)
