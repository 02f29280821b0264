-- The graph of the index of a history.
use Rattle.std.specs.Prelude.{true, false, [], length, nat_lt}
use Rattle.dg_graph.specs.declared.element.Columns.{Columns}
use Rattle.dg_history.specs.History.{History, events_of}
use Rattle.dg_index.specs.Hierarchy.{leaves}
use Rattle.dg_index.specs.IndexRecords.{length_in}
use Rattle.dg_plan.specs.IndexGraph.{Ground}

-- the graph of the records of a history, with the current graph where there is an event
abbrev pub ground_of_history : History → Columns → Ground
ground_of_history z cols = record {
  leaves = leaves z.params (length (events_of z));
  arity = z.params.k;
  bases = [];
  memory = nat_lt 0 (length (events_of z));
  weight = λ k. length_in z k cols;
}

-- structure, and the attributes of nodes and of edges
abbrev pub all_columns : Columns
all_columns = record { nodes_attr = true; edges_attr = true; transient = true }

-- the graph of the records of a history alone, without what is in memory
abbrev pub ground_of_records : History → Columns → Ground
ground_of_records z cols = record (ground_of_history z cols) { memory = false }
