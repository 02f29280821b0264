use Rattle.std.proofs.Common.{◌≡◌, ◌++◌}
use Rattle.std.specs.List.{flat_map}
use Rattle.dg_index.specs.Hierarchy.{numbers}
use Rattle.dg_plan.specs.IndexGraph.{kept, inner_edges}
use Rattle.dg_planner.specs.AskedLengths.{asked_length_of}
use Rattle.dg_planner.proofs.build.add_level.Given as goal

abbrev pub invariant-loop-n : goal.invariant-loop-n
invariant-loop-n l = l.edges.items ≡ l.fn.edges.items ++ kept (flat_map (inner_edges (asked_length_of l.catalogue l.cols) l.arity l.below) (numbers 1 l.n))
