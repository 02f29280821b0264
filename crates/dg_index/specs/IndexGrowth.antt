-- What an index becomes with one more segment, and which segments may stand behind it.
use Rattle.std.specs.Prelude.{◌≡◌, ℕ, ◌+◌, ◌≤◌, true, List, [], ◌∷◌, Option, Some, None, length, map, sum_by, false}
use Rattle.dg_text.specs.declared.limits.TheConstants.{NAMES_MAX}
use Rattle.dg_history.specs.History.{is_wide}
use Rattle.dg_history.specs.declared.node.Key.{Key}
use Rattle.dg_index.specs.declared.entry.BatchEntry.{BatchEntry}
use Rattle.dg_index.specs.declared.entry.Entry.{Entry}
use Rattle.dg_index.specs.FileOfHistory.{Segment, segment_bytes, marker, stored_in}
use Rattle.dg_index.specs.OpenedIndex.{Opening, directory_of, earliest_in, event_total, first_in, last_list, list_count, delta_count, list_row, may_be_listed, may_follow, total, with_segment, AreUnheard, with_marker}

-- the names that batches bring
abbrev pub name_total : List BatchEntry → ℕ
name_total batches = sum_by (λ (b : BatchEntry). b.names) batches

-- the bytes of the columns of all records
abbrev pub columns_in : List (Key × Entry) → ℕ
columns_in records = sum_by (λ (r : Key × Entry). total r.1.lengths) records

-- the last time of the last batch, where there is one
abbrev pub last_time_in : List BatchEntry → Option ℕ
last_time_in [] = None
last_time_in (b ∷ []) = Some b.ends.last
last_time_in (b ∷ c ∷ batches) = last_time_in (c ∷ batches)

-- each batch may follow those before it
abbrev pub AreInTurn : ℕ → ℕ → List BatchEntry → Type 0
AreInTurn count earliest [] = Unit {0}
AreInTurn count earliest (b ∷ batches) =
    (may_follow count earliest b ≡ true) × AreInTurn (count + b.events) (b.ends.last + 1) batches

-- the bytes in use with the segment and the closed gate behind it
abbrev pub needed_for : Opening → Segment → ℕ
needed_for o s = o.used + length (segment_bytes (is_wide o.form) s) + 1

-- the bytes in use with the marker and the closed gate behind it
abbrev pub needed_for_marker : Opening → ℕ
needed_for_marker o = o.used + length marker + 1

-- the index with the segment
abbrev pub index_with : Opening → Segment → Opening
index_with o s = (with_segment (record { index = o; names = [] }) s).index

-- the upgraded index
abbrev pub index_upgraded : Opening → Opening
index_upgraded o = (with_marker (record { index = o; names = [] })).index

-- The segment has as many lists and deltas as its events give behind the index, its times may follow, there is room
-- for its names, and only the lists and the piece of a segment of the second form have messages.
pub record IsDue (o : Opening) (s : Segment) : Type 0 where
  pub lists : length s.lists ≡ list_count o s.events
  pub deltas : length s.deltas ≡ delta_count o s.events
  pub follows : may_follow (event_total o.batches) (earliest_in 0 o.batches) (directory_of s).batch ≡ true
  pub few_names : name_total o.batches + length s.names ≤ NAMES_MAX
  pub listed : may_be_listed (last_list (first_in s.first o.batches) o.records) s.last (map list_row s.lists) ≡ true
  pub deltas_unheard : AreUnheard s.deltas
  pub unheard : is_wide o.form ≡ false → AreUnheard (stored_in s)
