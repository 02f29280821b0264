use Rattle.std.proofs.Common.{◌-◌, ◌+◌, if◌then◌else◌}
use Rattle.dg_io.proofs.FrameLemmas.{Going}
use Rattle.dg_io.proofs.lines.Lines.next.Given as goal

abbrev pub invariant-loop-line : goal.invariant-loop-line
invariant-loop-line g l =
    Going l.initial.self l.self (g.S.Source.left l.initial.source) (g.S.Source.left l.source) (g.S.Source.faults l.initial.source) (g.S.Source.faults l.source)

abbrev pub decreases-loop-line : goal.decreases-loop-line
decreases-loop-line g l = (l.self.limit - l.self.taken) + (if l.self.ended then 0 else 1)
