use Rattle.std.proofs.Common.{arith, refl}
use Rattle.dg_part_runs.proofs.ZippedLists.{same_by_get}
use Rattle.dg_part_runs.proofs.start.are_same.Goals as goal

pub returns : goal.returns
returns c = (
  λ is. same_by_get c.args.left.now c.args.right.now (omega (arith, c.if-len.false, c.len.ensures.len, c.len-2.ensures.len))
      (λ k lt. c.loop-number.invariant k (omega (arith, lt, c.loop-number-test.false, c.len-number-end.ensures.len))),
  λ is. refl,
)
