use Rattle.std.proofs.Common.{◌≡◌, take}
use Rattle.dg_fold.specs.Trees.{all_edges}
use Rattle.dg_retrieval.proofs.branches.walk_along.Given as goal

abbrev pub invariant-loop-branch : goal.invariant-loop-branch
invariant-loop-branch l = l.walk.items ≡ all_edges (take l.branch-index l.branches)
