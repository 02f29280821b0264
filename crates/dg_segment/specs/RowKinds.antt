-- A row of a directory by what it tells of.
use Rattle.std.specs.Prelude.{ℕ, Bool, List}
use Rattle.dg_index.specs.declared.entry.Row.{Row}
use Rattle.dg_index.specs.OpenedIndex.{lengths_size, list_at, list_size, record_at}
use Rattle.dg_segment.specs.declared.rows_read.RowKind.{RowKind}
use Rattle.dg_segment.specs.declared.rows_read.RowKind.TheVariants as kind

-- its bytes
abbrev pub row_size : RowKind → Bool → ℕ
row_size kind.List wide = list_size wide
row_size kind.Other wide = lengths_size wide

-- the row at the offset
abbrev pub row_at : RowKind → Bool → List ℕ → ℕ → Row
row_at kind.List wide = list_at wide
row_at kind.Other wide = record_at wide
