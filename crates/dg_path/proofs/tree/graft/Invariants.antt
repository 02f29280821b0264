use Rattle.std.proofs.Common.{ℕ, ◌<◌, List, length, take, ◌++◌}
use Rattle.std.specs.List.{All}
use Rattle.dg_plan.specs.Walks.{IsTree, entered, steps_of}
use Rattle.dg_path.specs.Search.{arcs, IsTable, CostsFit, IsTarget, grafts_of}
use Rattle.dg_path.proofs.tree.graft.Given as goal

abbrev pub invariant-loop-i : goal.invariant-loop-i
invariant-loop-i l =
    CostsFit l.costs
    × All (IsTarget l.costs) l.targets
    × ((starts : List ℕ) → IsTable (arcs l.links) starts l.fn.costs
    → IsTree (arcs l.links) starts (take l.i l.targets) (grafts_of l.grafts.items)
    × (l.i < length l.targets → IsTable (arcs l.links) (starts ++ entered (arcs l.links) (steps_of (grafts_of l.grafts.items))) l.costs))
