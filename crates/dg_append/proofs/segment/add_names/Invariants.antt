use Rattle.std.proofs.Common.{◌≡◌, ◌-◌, ◌++◌, length, drop}
use Rattle.dg_index.specs.FileOfHistory.{Segment}
use Rattle.dg_append.proofs.segment.add_names.Given as goal

abbrev pub invariant-loop-text : goal.invariant-loop-text
invariant-loop-text l =
    (let s : Segment = record l.segment { names = l.segment.names ++ drop l.number l.names } in s)
    ≡ record l.fn.segment { names = l.fn.segment.names ++ drop l.fn.known l.names }

abbrev pub decreases-loop-text : goal.decreases-loop-text
decreases-loop-text l = length l.names - l.number
