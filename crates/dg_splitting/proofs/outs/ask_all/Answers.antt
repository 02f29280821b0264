use Rattle.std.proofs.Common.{arith}
use Rattle.dg_splitting.proofs.OutsAsked.{all_asked, all_blank, asked_at, asked_more, taken_at}
use Rattle.dg_splitting.proofs.outs.ask_all.Goals as goal

pub returns-in_err-is_blank-clause-asked : goal.returns-in_err-is_blank-clause-asked
returns-in_err-is_blank-clause-asked g c =
    asked_at g.D.Disk c.args.outs.now c.loop-number.outs c.loop-number.number c.index-outs-number.result c.is_blank.new.out c.loop-number.invariant (omega arith) c.is_blank.ensures.asked

pub returns-then-not-branch-clause-stops : goal.returns-then-not-branch-clause-stops
returns-then-not-branch-clause-stops g c =
    taken_at g.D.Disk c.args.outs.now c.loop-number.outs c.loop-number.number c.index-outs-number.result c.is_blank.new.out c.loop-number.invariant (omega arith)
    (omega arith) _ c.if-not-branch.true c.in_ok-is_blank.ensures.blank

pub returns-then-not-branch-clause-asked : goal.returns-then-not-branch-clause-asked
returns-then-not-branch-clause-asked g c =
    asked_at g.D.Disk c.args.outs.now c.loop-number.outs c.loop-number.number c.index-outs-number.result c.is_blank.new.out c.loop-number.invariant (omega arith) c.is_blank.ensures.asked

pub loop-number-preserved : goal.loop-number-preserved
loop-number-preserved g c =
    asked_more g.D.Disk c.args.outs.now c.loop-number.outs c.loop-number.number c.index-outs-number.result c.is_blank.new.out c.loop-number.invariant (omega arith)
    c.is_blank.ensures.asked _ c.if-not-branch.false c.in_ok-is_blank.ensures.blank

pub returns-clause-blank : goal.returns-clause-blank
returns-clause-blank g c = all_blank g.D.Disk c.args.outs.now c.loop-number.outs c.loop-number.number c.loop-number.invariant (omega arith) (omega arith)

pub returns-clause-asked : goal.returns-clause-asked
returns-clause-asked g c = all_asked g.D.Disk c.args.outs.now c.loop-number.outs c.loop-number.number c.loop-number.invariant (omega arith) (omega arith)
