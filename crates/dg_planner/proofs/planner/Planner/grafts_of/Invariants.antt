use Rattle.std.proofs.Common.{◌<◌, length, take}
use Rattle.dg_planner.specs.Order.{bare_ground}
use Rattle.dg_planner.specs.Trees.{costs_now, node_grafts}
use Rattle.dg_planner.proofs.TreeGrowth.{IsGrown, IsReady}
use Rattle.dg_planner.proofs.planner.Planner.grafts_of.Given as goal

-- the costs are those from the tree where a target follows
abbrev pub invariant-loop-i : goal.invariant-loop-i
invariant-loop-i l =
    IsGrown l.self-inside.edges.items (take l.i l.targets) (node_grafts l.grafts.items) l.weight
    × (l.i < length l.targets
    → IsReady (bare_ground l.self-inside.form.leaves l.self-inside.form.arity l.self-inside.form.memory) l.self-inside.edges.items l.self-inside.links.items (node_grafts l.grafts.items)
    (costs_now l.self-inside.costs.items l.grown.items))
