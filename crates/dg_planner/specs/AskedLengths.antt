-- What a step that reads a record weighs: the bytes of the columns that are asked for.
use Rattle.std.specs.Prelude.{ℕ, ◌+◌, if◌then◌else◌, unwrap_or}
use Rattle.dg_graph.specs.declared.element.Column.{Column}
use Rattle.dg_graph.specs.declared.element.Column.TheVariants.{Structure, NodeAttr, EdgeAttr}
use Rattle.dg_graph.specs.declared.element.Columns.{Columns}
use Rattle.dg_history.specs.declared.node.Key.{Key}
use Rattle.dg_index.specs.declared.entry.Entry.{Entry}
use Rattle.dg_catalogue.specs.Entries.{Holdings, column_length_in}
use Rattle.dg_catalogue.specs.Held.{length_of}

-- the bytes of the asked columns, where this is what each column has: the structure is always asked for, and messages never
-- count, since no step reads them
abbrev pub asked_of : Columns → (Column → ℕ) → ℕ
asked_of cols bytes =
    bytes Structure
    + ((if cols.nodes_attr then bytes NodeAttr else 0)
    + (if cols.edges_attr then bytes EdgeAttr else 0))

-- those of an entry
abbrev pub asked_in : Entry → Columns → ℕ
asked_in e cols = asked_of cols (column_length_in e)

-- those of the record of a key, and 0 where the key is not held
abbrev pub asked_length_of : Holdings → Columns → Key → ℕ
asked_length_of c cols key = asked_of cols (λ col. unwrap_or (length_of c key col) 0)
