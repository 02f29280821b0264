use Rattle.std.proofs.Common.{◌≡◌, Bool, true, false, length, arith, refl}
use Rattle.std.specs.Prelude.{nat_le}
use Rattle.std.proofs.lemmas.Bool.{leb-true, leb-false}
use Rattle.dg_machine.specs.Answer.{handle_lines}
use Rattle.dg_session.proofs.AnswerHandles.{singles_done, times_done}
use Rattle.dg_session.proofs.retrieval.handle_lines.Goals as goal

pub returns : goal.returns
returns c = by (nat_le (length c.args.times.now) c.loop-i.i) refl
  where
    by : (b : Bool) → nat_le (length c.args.times.now) c.loop-i.i ≡ b → c.loop-i.lines.items ≡ handle_lines c.args.next c.args.times.now c.args.singles.now
    by true e = times_done c.args.next c.args.times.now c.args.singles.now c.loop-i.lines.items c.loop-i.i (leb-true _ _ e) c.loop-i.invariant
    by false e = singles_done c.args.next c.args.times.now c.args.singles.now c.loop-i.lines.items c.loop-i.i (grind (arith, c.min-count.ensures, c.loop-i-test.false, leb-false _ _ e)) c.loop-i.invariant
