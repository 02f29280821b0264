use Rattle.std.proofs.Common.{◌≡◌, ◌++◌, drop, true, false}
use Rattle.dg_net.specs.EventMarks.{lasts}
use Rattle.dg_net.proofs.marks.lasts.Given as goal

abbrev pub invariant-loop-index : goal.invariant-loop-index
invariant-loop-index l = record {
  out : l.minus.items ++ lasts false (drop l.index l.marks) ≡ lasts false l.marks;
  into : l.plus.items ++ lasts true (drop l.index l.marks) ≡ lasts true l.marks;
}
