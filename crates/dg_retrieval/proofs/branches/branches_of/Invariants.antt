use Rattle.std.proofs.Common.{take}
use Rattle.dg_planner.specs.Trees.{node_grafts}
use Rattle.dg_retrieval.specs.Branches.{AreBranches}
use Rattle.dg_retrieval.proofs.branches.branches_of.Given as goal

abbrev pub invariant-loop-index : goal.invariant-loop-index
invariant-loop-index l = AreBranches l.edges (take l.index l.targets) (node_grafts (take l.index l.grafts)) l.branches.items
