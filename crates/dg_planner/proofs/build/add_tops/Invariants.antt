use Rattle.std.proofs.Common.{◌≡◌, ◌++◌, ◌+◌, ◌-◌, ◌^◌, ◌≤◌, map}
use Rattle.std.specs.Prelude.{filter, nat_le}
use Rattle.dg_index.specs.Hierarchy.{numbers}
use Rattle.dg_plan.specs.IndexGraph.{kept, top_edge}
use Rattle.dg_planner.specs.AskedLengths.{asked_length_of}
use Rattle.dg_planner.proofs.build.add_tops.Given as goal

abbrev pub invariant-loop-width : goal.invariant-loop-width
invariant-loop-width l =
    (l.width ≡ l.arity ^ (l.below + 1))
    × (l.below ≤ l.leaves)
    × (l.edges.items ≡ l.fn.edges.items ++ kept (map (top_edge (asked_length_of l.catalogue l.cols)) (filter (λ h. nat_le (l.arity ^ h) l.leaves) (numbers 1 l.below))))

abbrev pub decreases-loop-width : goal.decreases-loop-width
decreases-loop-width l = l.leaves + 1 - l.width
