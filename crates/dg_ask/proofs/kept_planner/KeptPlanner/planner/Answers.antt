-- The planner that is kept without messages is that of the columns: no plan reads these.
use Rattle.std.proofs.Common.{List, Some, subst, sym}
use Rattle.std.specs.List.{Contains}
use Rattle.std.proofs.lemmas.List.Elements.{All-contains}
use Rattle.dg_fold.specs.Parts.{graph_columns}
use Rattle.dg_graph.specs.declared.element.Columns.{Columns}
use Rattle.dg_planner.specs.Whole.{PlannerGraph}
use Rattle.dg_ask.specs.KeptPlanner.{IsGraphFor, IsGraphOver, IsKeptIn}
use Rattle.dg_ask.proofs.kept_planner.KeptPlanner.planner.Goals as goal

kept_in : (cols : Columns) (kept : List (Columns × PlannerGraph)) (g : PlannerGraph) → Contains kept (graph_columns cols, g) → IsKeptIn cols kept g
kept_in cols kept g there o table is =
    let graph : IsGraphFor o table (graph_columns cols) g = All-contains (IsGraphOver (Some o) table) kept (graph_columns cols, g) is there in
    record { edges = graph.edges; nodes = graph.nodes }

pub unreachable-requires : goal.unreachable-requires
unreachable-requires c =
    let kept = c.requires.columns in
    c.in-None.ensures.none kept.0 (subst (λ asked. Contains c.args.self.now (asked, kept.0)) (sym c.graph_columns.ensures) kept.1)

pub returns : goal.returns
returns c = record {
  planner =
      kept_in c.args.cols c.args.self.now c.in-Some.planner.now
      (subst (λ asked. Contains c.args.self.now (asked, c.in-Some.planner.now)) c.graph_columns.ensures c.in-Some.ensures.some);
}
