-- The run so far, and the counts.
use Rattle.std.proofs.Common.{◌≤◌}
use Rattle.dg_io.specs.Calls.{TakesFrom}
use Rattle.dg_io.specs.LinesState.{to_come}
use Rattle.dg_turns.specs.Grammars.{grammar_of}
use Rattle.dg_turns.proofs.SoFar.{SoFar}
use Rattle.dg_turns.proofs.run.answer_script.Given as goal

abbrev pub invariant-loop-reply : goal.invariant-loop-reply
invariant-loop-reply g l = record {
  so_far : SoFar g.M.Machine (grammar_of l.fn.commands) l.initial.lines (g.S.Source.left l.fn.source) (g.K.Sink.written l.fn.sink) l.fn.machine l.fn.world
      l.lines (g.S.Source.left l.source) (g.K.Sink.written l.sink) l.machine l.world;
  holds : g.M.Machine.holds l.machine l.world;
  lines : TakesFrom g.S.Source l.initial.lines l.fn.source l.lines l.source;
  sink_counted : g.K.Sink.faults l.fn.sink ≤ g.K.Sink.faults l.sink;
}

abbrev pub decreases-loop-reply : goal.decreases-loop-reply
decreases-loop-reply g l = to_come l.lines
