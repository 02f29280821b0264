use Rattle.std.proofs.Common.{ℕ, List, ◌<◌, length, reverse}
use Rattle.std.specs.List.{All}
use Rattle.dg_path.specs.declared.search.TheConstants.{UNREACHED}
use Rattle.dg_plan.specs.Walks.{Leads, IsBest}
use Rattle.dg_path.specs.Search.{arcs, IsTable, label_at}
use Rattle.dg_path.proofs.plan.plan_to.Given as goal

abbrev pub invariant-loop-node : goal.invariant-loop-node
invariant-loop-node l =
    (l.node < length l.costs)
    × ((label_at l.costs l.node).weight < UNREACHED.weight)
    × Leads (arcs l.links) l.node (reverse l.steps.items) l.target
    × ((starts : List ℕ) → IsTable (arcs l.links) starts l.costs → All (IsBest (arcs l.links) starts) l.steps.items)

abbrev pub decreases-loop-node : goal.decreases-loop-node
decreases-loop-node l = (label_at l.costs l.node).edges
