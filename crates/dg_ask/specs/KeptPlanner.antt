-- The planners that a session keeps between commands.
use Rattle.std.specs.Prelude.{◌≡◌, ℕ, List, Option, Some, None}
use Rattle.std.specs.List.{All, Contains}
use Rattle.dg_fold.specs.Parts.{graph_columns}
use Rattle.dg_graph.specs.declared.element.Columns.{Columns}
use Rattle.dg_index.specs.OpenedIndex.{Opening, event_total}
use Rattle.dg_machine.specs.declared.stands.Stands.{Stands}
use Rattle.dg_machine.specs.Planning.{bases_in}
use Rattle.dg_planner.specs.Whole.{PlannerGraph}
use Rattle.dg_retrieval.specs.KeptGraph.{kept_edges, kept_nodes}

-- the graph is that of the index in these columns, with the current graph and with the handles that can serve
pub record IsGraphFor (o : Opening) (table : List (ℕ × Stands)) (cols : Columns) (g : PlannerGraph) : Type 0 where
  pub edges : g.edges ≡ kept_edges o (event_total o.batches) cols (bases_in cols table)
  pub nodes : g.nodes ≡ kept_nodes o (event_total o.batches) cols

-- there is an index, and the graph is that of it in the columns that are kept with the graph
abbrev pub IsGraphOver : Option Opening → List (ℕ × Stands) → Columns × PlannerGraph → Type 0
IsGraphOver None table k = ⊥
IsGraphOver (Some o) table k = IsGraphFor o table k.0 k.1

-- each graph that is kept is such a graph
abbrev pub IsKeptFor : Option Opening → List (ℕ × Stands) → List (Columns × PlannerGraph) → Type 0
IsKeptFor index table kept = All (IsGraphOver index table) kept

-- a graph in these columns is kept, messages left aside: no plan reads these
abbrev pub KeepsColumns : Columns → List (Columns × PlannerGraph) → Type 0
KeepsColumns cols kept = (g : PlannerGraph) × Contains kept (graph_columns cols, g)

-- this graph is that in these columns, of whatever index and handles those are that are kept
abbrev pub IsKeptIn : Columns → List (Columns × PlannerGraph) → PlannerGraph → Type 0
IsKeptIn cols kept g = (o : Opening) (table : List (ℕ × Stands)) → IsKeptFor (Some o) table kept → IsGraphFor o table cols g
