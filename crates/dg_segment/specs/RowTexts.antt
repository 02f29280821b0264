-- A row of a directory as bytes.
use Rattle.std.specs.Prelude.{ℕ, Bool, true, false, List, ◌++◌, Option, Some, None}
use Rattle.dg_graph.specs.Columns.{eight}
use Rattle.dg_index.specs.declared.entry.Ends.{Ends}
use Rattle.dg_index.specs.declared.entry.Row.{Row}
use Rattle.dg_index.specs.declared.per_column.PerColumn.{PerColumn}

-- the lengths of the columns, as they stand in a directory of the second form or of the first
abbrev pub lengths_text : Bool → PerColumn ℕ → List ℕ
lengths_text false lengths = eight lengths.structure ++ (eight lengths.node_attrs ++ eight lengths.edge_attrs)
lengths_text true lengths =
    eight lengths.structure ++ (eight lengths.node_attrs ++ (eight lengths.edge_attrs ++ eight lengths.transient))

abbrev pub row_text_with : Bool → Option Ends → PerColumn ℕ → List ℕ
row_text_with wide None lengths = lengths_text wide lengths
row_text_with wide (Some e) lengths = eight e.first ++ (eight e.last ++ lengths_text wide lengths)

-- a row as it stands in a directory
abbrev pub row_text : Bool → Row → List ℕ
row_text wide r = row_text_with wide r.ends r.lengths
