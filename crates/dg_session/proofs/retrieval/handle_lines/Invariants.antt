use Rattle.dg_session.proofs.AnswerHandles.{LinesSoFar}
use Rattle.dg_session.proofs.retrieval.handle_lines.Given as goal

abbrev pub invariant-loop-i : goal.invariant-loop-i
invariant-loop-i l = LinesSoFar l.next l.times l.singles l.lines.items l.i
