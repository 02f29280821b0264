-- Records one behind another: the rows that tell of them, and their columns in one run of bytes.
use Rattle.std.specs.Prelude.{◌≡◌, ℕ, ◌+◌, ◌<◌, ◌^◌, List, [], ◌∷◌, Option, length, map, take, drop}
use Rattle.std.specs.List.{flat_map}
use Rattle.dg_index.specs.declared.entry.Ends.{Ends}
use Rattle.dg_index.specs.declared.entry.Row.{Row}
use Rattle.dg_index.specs.declared.per_column.PerColumn.{PerColumn}
use Rattle.dg_index.specs.FileOfHistory.{Stored, bytes_of}
use Rattle.dg_index.specs.OpenedIndex.{lengths_of, record_row, total}

-- the columns of a record, and its instants where it is a list
pub record StoredRecord : Type 0 where
  pub ends : Option Ends
  pub columns : Stored

-- what a directory tells of a record
abbrev pub stored_row : StoredRecord → Row
stored_row r = record { ends = r.ends; lengths = lengths_of r.columns }

-- the columns of records, one record behind another
abbrev pub stored_bytes : List StoredRecord → List ℕ
stored_bytes records = flat_map (λ (r : StoredRecord). bytes_of r.columns) records

-- the columns of these lengths with which the bytes begin
abbrev pub stored_at : PerColumn ℕ → List ℕ → Stored
stored_at lengths bytes = record {
  structure = take lengths.structure bytes;
  node_attrs = take lengths.node_attrs (drop lengths.structure bytes);
  edge_attrs = take lengths.edge_attrs (drop (lengths.structure + lengths.node_attrs) bytes);
  transient = take lengths.transient (drop (lengths.structure + lengths.node_attrs + lengths.edge_attrs) bytes);
}

-- the records of these rows, whose columns are one run of bytes
abbrev pub unpacked : List Row → List ℕ → List StoredRecord
unpacked [] bytes = []
unpacked (r ∷ rows) bytes =
    record { ends = r.ends; columns = stored_at r.lengths bytes } ∷ unpacked rows (drop (total r.lengths) bytes)

-- The rows and the bytes are those of records, of which there are so few that four bytes count them.
pub record ArePacked (rows : List Row) (bytes : List ℕ) : Type 0 where
  pub rows_are : map stored_row (unpacked rows bytes) ≡ rows
  pub bytes_are : stored_bytes (unpacked rows bytes) ≡ bytes
  pub few : length rows < 2 ^ 32

-- the row and the bytes are those of one record that is no list
pub record IsPacked (row : Row) (bytes : List ℕ) : Type 0 where
  pub row_is : record_row (stored_at row.lengths bytes) ≡ row
  pub bytes_are : bytes_of (stored_at row.lengths bytes) ≡ bytes
