use Rattle.std.proofs.Common.{◌≡◌, ◌++◌, ◌+◌, ◌-◌, ◌^◌, ◌≤◌}
use Rattle.std.specs.Prelude.{filter, nat_le}
use Rattle.std.specs.List.{flat_map}
use Rattle.dg_index.specs.Hierarchy.{numbers}
use Rattle.dg_plan.specs.IndexGraph.{kept, level_edges}
use Rattle.dg_planner.specs.AskedLengths.{asked_length_of}
use Rattle.dg_planner.proofs.build.add_levels.Given as goal

abbrev pub invariant-loop-width : goal.invariant-loop-width
invariant-loop-width l =
    (l.width ≡ l.arity ^ (l.below + 1))
    × (l.below ≤ l.leaves)
    × (l.edges.items ≡ l.fn.edges.items ++ kept (flat_map (level_edges (asked_length_of l.catalogue l.cols) l.leaves l.arity) (filter (λ h. nat_le (l.arity ^ h) l.leaves) (numbers 1 l.below))))

abbrev pub decreases-loop-width : goal.decreases-loop-width
decreases-loop-width l = l.leaves + 1 - l.width
