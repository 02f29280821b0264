-- The bytes of the asked columns of lists.
use Rattle.std.specs.Prelude.{ℕ, ◌+◌, Option, Some, None, if◌then◌else◌}
use Rattle.std.specs.Map.{lookup}
use Rattle.dg_graph.specs.declared.element.Columns.{Columns}
use Rattle.dg_history.specs.declared.node.Key.TheVariants as key
use Rattle.dg_history.specs.Keys.{same_key}
use Rattle.dg_index.specs.declared.entry.Entry.{Entry}
use Rattle.dg_index.specs.OpenedIndex.{Opening}

-- the bytes of the asked columns of an entry, messages among them
abbrev pub asked_bytes : Columns → Entry → ℕ
asked_bytes cols e =
    e.lengths.structure
    + ((if cols.nodes_attr then e.lengths.node_attrs else 0)
    + ((if cols.edges_attr then e.lengths.edge_attrs else 0) + (if cols.transient then e.lengths.transient else 0)))

abbrev pub bytes_if : Columns → Option Entry → ℕ
bytes_if cols None = 0
bytes_if cols (Some e) = asked_bytes cols e

-- those of a list, and 0 where it is not held
abbrev pub list_bytes : Opening → Columns → ℕ → ℕ
list_bytes o cols i = bytes_if cols (lookup (same_key (key.List i)) o.records)
