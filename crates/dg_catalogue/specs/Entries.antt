-- What a catalogue tells of the records of an index.
use Rattle.std.specs.Prelude.{◌≡◌, ℕ, ◌+◌, ◌≤◌, List, Option, Some, None, is_some}
use Rattle.std.specs.List.{All}
use Rattle.std.specs.Map.{keys_of, values_of}
use Rattle.dg_graph.specs.declared.element.Column.{Column}
use Rattle.dg_graph.specs.declared.element.Column.TheVariants.{Structure, NodeAttr, EdgeAttr, Transient}
use Rattle.dg_index.specs.declared.entry.Ends.{Ends}
use Rattle.dg_index.specs.declared.entry.Entry.{Entry}
use Rattle.dg_index.specs.IndexGrowth.{columns_in}
use Rattle.dg_index.specs.OpenedIndex.{total}
use Rattle.dg_catalogue.specs.declared.catalogue.TheConstants.{BYTES_MAX}
use Rattle.dg_history.specs.declared.node.Key.{Key}
use Rattle.dg_history.specs.Keys.{is_list}
use Rattle.dg_catalogue.specs.Keys.{IsNumbered}

-- What a catalogue holds: its records in the order in which they were added, no key twice, the first
-- and last instant of the history, and the number of records for which it has room.
pub record Holdings : Type 0 where
  pub entries : List (Key × Entry)
  pub span : Option Ends
  pub spare : ℕ

-- the bytes of one column
abbrev pub column_length_in : Entry → Column → ℕ
column_length_in e Structure = e.lengths.structure
column_length_in e NodeAttr = e.lengths.node_attrs
column_length_in e EdgeAttr = e.lengths.edge_attrs
column_length_in e Transient = e.lengths.transient

-- the byte at which a column begins: the columns stand one after another
abbrev pub offset_in : Entry → Column → ℕ
offset_in e Structure = e.offset
offset_in e NodeAttr = e.offset + e.lengths.structure
offset_in e EdgeAttr = e.offset + e.lengths.structure + e.lengths.node_attrs
offset_in e Transient = e.offset + e.lengths.structure + e.lengths.node_attrs + e.lengths.edge_attrs

-- the instants of the history, once a batch with these is added
abbrev pub spanned : Option Ends → Ends → Ends
spanned None ends = ends
spanned (Some span) ends = record span { last = ends.last }

-- the record ends at BYTES_MAX at the latest
abbrev pub IsInRange : Entry → Type 0
IsInRange e = e.offset + total e.lengths ≤ BYTES_MAX

-- there are instants exactly for a list
abbrev pub EndsIfList : Key × Entry → Type 0
EndsIfList e = is_some e.1.ends ≡ is_list e.0

-- what holds of the records of each catalogue, beside that no key is there twice
pub record RecordsAreSound (entries : List (Key × Entry)) : Type 0 where
  pub bytes : columns_in entries ≤ BYTES_MAX
  pub in_range : All IsInRange (values_of entries)
  pub numbered : All IsNumbered (keys_of entries)
  pub ends : All EndsIfList entries
