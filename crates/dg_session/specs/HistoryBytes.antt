-- How many bytes the columns of all records of a history have.
use Rattle.std.specs.Prelude.{ℕ, ◌+◌, ◌++◌, length, map, sum_by}
use Rattle.dg_graph.specs.declared.element.Column.TheVariants as column
use Rattle.dg_history.specs.declared.node.Key.{Key}
use Rattle.dg_history.specs.declared.node.Key.TheVariants as key
use Rattle.dg_history.specs.History.{History, events_of}
use Rattle.dg_index.specs.Hierarchy.{numbers}
use Rattle.dg_index.specs.IndexRecords.{column_in, keys_of}

-- the bytes of the columns of a record, messages among them
abbrev pub record_length : History → Key → ℕ
record_length z k =
    length (column_in z k column.Structure) + length (column_in z k column.NodeAttr) + length (column_in z k column.EdgeAttr) + length (column_in z k column.Transient)

-- the bytes of the columns of all records of a history, each once: of its lists, tops and downs, and of its pieces
abbrev pub records_length : History → ℕ
records_length z =
    sum_by (record_length z) (keys_of z.params (length (events_of z)) ++ map (λ s. key.Piece s) (numbers 0 (length z.batches)))
