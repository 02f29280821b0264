use Rattle.std.proofs.Common.{◌≡◌, map, take}
use Rattle.dg_fold.specs.declared.tree.Branch.{Branch}
use Rattle.dg_fold.proofs.writing.ends_of.Given as goal

abbrev pub invariant-loop-branch : goal.invariant-loop-branch
invariant-loop-branch l = l.nodes.items ≡ map (λ (b : Branch). b.to) (take l.branch-index l.branches)
