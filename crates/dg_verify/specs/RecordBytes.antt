-- How many bytes the columns of records take, by what an index keeps of these records.
use Rattle.std.specs.Prelude.{ℕ, ◌+◌, List, ◌++◌, length, map, sum_by}
use Rattle.dg_graph.specs.declared.element.Column.{Column}
use Rattle.dg_graph.specs.declared.element.Column.TheVariants as column
use Rattle.dg_history.specs.declared.node.Key.{Key}
use Rattle.dg_history.specs.declared.node.Key.TheVariants as key
use Rattle.dg_index.specs.declared.per_column.PerColumn.{PerColumn}
use Rattle.dg_index.specs.Hierarchy.{numbers}
use Rattle.dg_index.specs.IndexRecords.{keys_of}
use Rattle.dg_index.specs.OpenedIndex.{Opening, entry_at, event_total, total}

-- of the lengths of a record's columns that of this one
abbrev pub length_at : PerColumn ℕ → Column → ℕ
length_at lengths column.Structure = lengths.structure
length_at lengths column.NodeAttr = lengths.node_attrs
length_at lengths column.EdgeAttr = lengths.edge_attrs
length_at lengths column.Transient = lengths.transient

-- the bytes of all but messages
abbrev pub graph_total : PerColumn ℕ → ℕ
graph_total lengths = lengths.structure + lengths.node_attrs + lengths.edge_attrs

-- the bytes of all columns of these records, each as often as it is among them
abbrev pub columns_bytes : Opening → List Key → ℕ
columns_bytes o keys = sum_by (λ k. total (entry_at o k).lengths) keys

-- the keys of the pieces
abbrev pub piece_keys : Opening → List Key
piece_keys o = map (λ s. key.Piece s) (numbers 0 (length o.batches))

-- the bytes of all columns of all records, each once: of the lists, tops and downs, and of the pieces
abbrev pub records_bytes : Opening → ℕ
records_bytes o = columns_bytes o (keys_of o.params (event_total o.batches) ++ piece_keys o)
