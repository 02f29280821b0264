-- A new segment by its parts.
use Rattle.std.specs.Prelude.{◌≡◌, true, ◌+◌, ◌<◌, ◌^◌, Option, Some, None, length, map}
use Rattle.dg_index.specs.declared.entry.Ends.{Ends}
use Rattle.dg_index.specs.FileOfHistory.{Stored, StoredList, Segment, segment_bytes}
use Rattle.dg_index.specs.OpenedIndex.{AreUnheard, list_row, record_row}
use Rattle.dg_segment.specs.PackedRecords.{StoredRecord, stored_row}
use Rattle.dg_segment.specs.declared.segment.Segment.TheInside.{Inside}

-- the instants of a list; of another record they mean nothing
abbrev pub ends_or_zero : Option Ends → Ends
ends_or_zero None = record { first = 0; last = 0 }
ends_or_zero (Some e) = e

abbrev pub list_of : StoredRecord → StoredList
list_of r = record { first = (ends_or_zero r.ends).first; last = (ends_or_zero r.ends).last; columns = r.columns }

abbrev pub delta_of : StoredRecord → Stored
delta_of r = r.columns

-- the segment of these parts
abbrev pub segment_in : Inside → Segment
segment_in s = record {
  events = s.events;
  first = s.first;
  last = s.last;
  names = s.names;
  lists = map list_of s.lists;
  deltas = map delta_of s.deltas;
  piece = s.piece;
}

-- Instants are there exactly for lists, no delta has messages, and the segment with the gate behind it is shorter than
-- 2^63 bytes, also in the second form.
pub record IsSoundSegment (s : Inside) : Type 0 where
  pub lists : map stored_row s.lists ≡ map list_row (map list_of s.lists)
  pub deltas : map stored_row s.deltas ≡ map record_row (map delta_of s.deltas)
  pub unheard : AreUnheard (map delta_of s.deltas)
  pub small : length (segment_bytes true (segment_in s)) + 1 < 2 ^ 63
