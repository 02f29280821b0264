use Rattle.std.proofs.Common.{◌≡◌, ◌++◌}
use Rattle.std.specs.List.{flat_map}
use Rattle.dg_index.specs.Hierarchy.{numbers}
use Rattle.dg_plan.specs.IndexGraph.{kept, list_edges}
use Rattle.dg_planner.specs.AskedLengths.{asked_length_of}
use Rattle.dg_planner.proofs.build.add_lists.Given as goal

abbrev pub invariant-loop-i : goal.invariant-loop-i
invariant-loop-i l = l.edges.items ≡ l.fn.edges.items ++ kept (flat_map (list_edges (asked_length_of l.catalogue l.cols)) (numbers 0 l.i))
