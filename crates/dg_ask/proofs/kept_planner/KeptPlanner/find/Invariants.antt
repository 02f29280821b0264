-- What the search for a planner keeps: none before this one is in the columns.
use Rattle.std.proofs.Common.{◌≢◌, take}
use Rattle.std.specs.List.{All}
use Rattle.dg_graph.specs.declared.element.Columns.{Columns}
use Rattle.dg_planner.specs.Whole.{PlannerGraph}
use Rattle.dg_ask.proofs.kept_planner.KeptPlanner.find.Given as goal

abbrev pub invariant-loop-kept : goal.invariant-loop-kept
invariant-loop-kept l = All (λ (k : Columns × PlannerGraph). k.0 ≢ l.cols) (take l.kept-index l.kept-items)
