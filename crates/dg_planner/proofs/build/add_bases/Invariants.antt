use Rattle.std.proofs.Common.{◌≡◌, ◌++◌, take, map}
use Rattle.dg_plan.specs.IndexGraph.{kept, base_edge}
use Rattle.dg_planner.specs.Bases.{base_of}
use Rattle.dg_planner.proofs.build.add_bases.Given as goal

abbrev pub invariant-loop-base : goal.invariant-loop-base
invariant-loop-base l = l.edges.items ≡ l.fn.edges.items ++ kept (map base_edge (map base_of (take l.base-index l.bases)))
