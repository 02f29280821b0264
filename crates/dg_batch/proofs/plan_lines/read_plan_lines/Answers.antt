use Rattle.std.proofs.Common.{Ok, ap, sym, ◌∙◌, subst, arith}
use Rattle.dg_batch.specs.PlanLines.{ReadsPlanLines}
use Rattle.dg_io.specs.declared.lines.Line.{Line}
use Rattle.dg_io.specs.LinesState.{LineComes, told}
use Rattle.std.proofs.lemmas.Bool.{false≢true}
use Rattle.dg_io.proofs.FrameLemmas.{advances_both, on_err}
use Rattle.dg_batch.proofs.LinesTaken.{Taken, taken_all, taken_in_part, taken_more, taken_to_end}
use Rattle.dg_batch.proofs.LinesDue.{due_given_on, due_here, never_given}
use Rattle.dg_batch.proofs.PlanLineCollection.{gathering_kept, gathering_passed}
use Rattle.dg_batch.proofs.plan_lines.read_plan_lines.Goals as goal
use Rattle.dg_batch.proofs.plan_lines.read_plan_lines.Goals.{else-loop-read-test, then-loop-read-test+in_ok-line+then-is_end}

pub returns-in_err-line-clause-advances : goal.returns-in_err-line-clause-advances
returns-in_err-line-clause-advances g c =
    advances_both c.args.lines.now c.loop-read.lines c.next_line.new.lines
    (g.S.Source.left c.args.source.now) (g.S.Source.left c.loop-read.source) (g.S.Source.left c.next_line.new.source)
    (g.S.Source.faults c.args.source.now) (g.S.Source.faults c.loop-read.source) (g.S.Source.faults c.next_line.new.source)
    c.loop-read.invariant.advances c.next_line.ensures.advances

pub loop-read-preserved-then-is_whole : goal.loop-read-preserved-then-is_whole
loop-read-preserved-then-is_whole g c = record {
  gathering =
      gathering_kept (Taken c.args.lines.now (g.S.Source.left c.args.source.now) c.loop-read.lines (g.S.Source.left c.loop-read.source)) (Taken c.args.lines.now (g.S.Source.left c.args.source.now) c.next_line.new.lines (g.S.Source.left c.next_line.new.source))
      c.loop-read.read c.loop-read.is_whole c.keep_line-is_whole.result c.loop-read.said.items c.keep_line-is_whole.new.said.items
      c.in_ok-line.line c.text.result.now c.next_line.new.lines.text c.loop-read.invariant.gathering c.if-is_whole.true
      (taken_more c.args.lines.now c.loop-read.lines c.next_line.new.lines (g.S.Source.left c.args.source.now) (g.S.Source.left c.loop-read.source) (g.S.Source.left c.next_line.new.source) c.in_ok-line.line (c.is_end.ensures.more c.if-is_end.false) c.next_line.ensures.advances.ended c.in_ok-line.ensures.comes c.in_ok-line.ensures.whole) c.text.ensures c.keep_line-is_whole.ensures;
  advances =
      advances_both c.args.lines.now c.loop-read.lines c.next_line.new.lines
      (g.S.Source.left c.args.source.now) (g.S.Source.left c.loop-read.source) (g.S.Source.left c.next_line.new.source)
      (g.S.Source.faults c.args.source.now) (g.S.Source.faults c.loop-read.source) (g.S.Source.faults c.next_line.new.source)
      c.loop-read.invariant.advances c.next_line.ensures.advances;
  begins = λ h. absurd (omega (arith, h));
  undue = λ at needs.
      absurd (never_given c.args.lines.now c.loop-read.lines c.loop-read.read c.next_line.result c.in_ok-line.line c.loop-read.invariant.undue c.loop-read.invariant.begins c.next_line.ensures.due c.in_ok-line.was at needs);
  most = omega arith;
}

pub loop-read-preserved : goal.loop-read-preserved
loop-read-preserved g c = record {
  gathering =
      gathering_passed (Taken c.args.lines.now (g.S.Source.left c.args.source.now) c.loop-read.lines (g.S.Source.left c.loop-read.source)) (Taken c.args.lines.now (g.S.Source.left c.args.source.now) c.next_line.new.lines (g.S.Source.left c.next_line.new.source))
      c.loop-read.read c.loop-read.is_whole c.loop-read.said.items c.in_ok-line.line c.next_line.new.lines.text c.loop-read.invariant.gathering
      (λ h. false≢true (sym c.if-is_whole.false ∙ h))
      (taken_more c.args.lines.now c.loop-read.lines c.next_line.new.lines (g.S.Source.left c.args.source.now) (g.S.Source.left c.loop-read.source) (g.S.Source.left c.next_line.new.source) c.in_ok-line.line (c.is_end.ensures.more c.if-is_end.false) c.next_line.ensures.advances.ended c.in_ok-line.ensures.comes c.in_ok-line.ensures.whole);
  advances =
      advances_both c.args.lines.now c.loop-read.lines c.next_line.new.lines
      (g.S.Source.left c.args.source.now) (g.S.Source.left c.loop-read.source) (g.S.Source.left c.next_line.new.source)
      (g.S.Source.faults c.args.source.now) (g.S.Source.faults c.loop-read.source) (g.S.Source.faults c.next_line.new.source)
      c.loop-read.invariant.advances c.next_line.ensures.advances;
  begins = λ h. absurd (omega (arith, h));
  undue = λ at needs.
      absurd (never_given c.args.lines.now c.loop-read.lines c.loop-read.read c.next_line.result c.in_ok-line.line c.loop-read.invariant.undue c.loop-read.invariant.begins c.next_line.ensures.due c.in_ok-line.was at needs);
  most = omega arith;
}

pub returns-clause-advances : goal.returns-clause-advances
returns-clause-advances g c =
    elim c.loop-read-test.branch [
      | else-loop-read-test w ↦ rw (w.lines-is, w.source-is) c.loop-read.invariant.advances
      | then-loop-read-test+in_ok-line+then-is_end w ↦ rw (w.lines-is, w.source-is)
          (advances_both c.args.lines.now c.loop-read.lines w.next_line.new.lines
          (g.S.Source.left c.args.source.now) (g.S.Source.left c.loop-read.source) (g.S.Source.left w.next_line.new.source)
          (g.S.Source.faults c.args.source.now) (g.S.Source.faults c.loop-read.source) (g.S.Source.faults w.next_line.new.source)
          c.loop-read.invariant.advances w.next_line.ensures.advances)
    ]

pub returns-in_err-line-clause-due : goal.returns-in_err-line-clause-due
returns-in_err-line-clause-due g c some at needs =
    due_given_on c.from_residual.result c.in_err-line.field-0.0 c.next_line.result c.from_residual.ensures c.in_err-line.was
    (due_here c.args.lines.now c.loop-read.lines c.loop-read.read c.next_line.result c.loop-read.invariant.undue c.loop-read.invariant.begins c.next_line.ensures.due at needs)

pub returns-clause-due : goal.returns-clause-due
returns-clause-due g c some at needs =
    elim c.loop-read-test.branch [
      | else-loop-read-test w ↦ absurd (omega (arith, some, c.loop-read.invariant.undue at needs, w.loop-read-test.false))
      | then-loop-read-test+in_ok-line+then-is_end w ↦
          absurd (never_given c.args.lines.now c.loop-read.lines c.loop-read.read w.next_line.result w.in_ok-line.line c.loop-read.invariant.undue c.loop-read.invariant.begins w.next_line.ensures.due w.in_ok-line.was at needs)
    ]

pub returns-in_err-line-clause-cut : goal.returns-in_err-line-clause-cut
returns-in_err-line-clause-cut g c =
    let so_far = c.loop-read.invariant.gathering in
    on_err c.from_residual.result _
    (taken_in_part c.args.count c.args.lines.now c.loop-read.lines c.next_line.new.lines (g.S.Source.left c.args.source.now) (g.S.Source.left c.loop-read.source) (g.S.Source.left c.next_line.new.source) so_far.got (omega (arith, so_far.read_is, c.loop-read-test.true))
    c.next_line.ensures.advances.ended c.in_err-line.ensures.kept c.in_err-line.ensures.needs so_far.taken)

pub returns-clause-reads : goal.returns-clause-reads
returns-clause-reads g c =
    let so_far = c.loop-read.invariant.gathering in
    let had = g.S.Source.left c.args.source.now in
    let mid = g.S.Source.left c.loop-read.source in
    let count = c.args.count in
    let first = c.args.lines.now in
    let now = c.loop-read.lines in
    let reads : ReadsPlanLines so_far.got (record { read = c.loop-read.read; is_whole = c.loop-read.is_whole; said = c.loop-read.said }) = record { read_is = so_far.read_is; said_is = so_far.kept } in
    elim c.loop-read-test.branch [
      | else-loop-read-test w ↦ rw (w.lines-is, w.source-is)
          (so_far.got, taken_all count first now had mid so_far.got (omega (arith, so_far.read_is, c.loop-read.invariant.most, w.loop-read-test.false)) so_far.taken, reads)
      | then-loop-read-test+in_ok-line+then-is_end w ↦ rw (w.lines-is, w.source-is) (
        so_far.got,
        taken_to_end count first now w.next_line.new.lines had mid (g.S.Source.left w.next_line.new.source) so_far.got (omega (arith, so_far.read_is, c.loop-read.invariant.most))
            (w.in_ok-line.ensures.end (ap (λ x. Ok x) (w.is_end.ensures.end w.if-is_end.true)))
            (subst (λ (one : Line). LineComes one (told now mid) (told w.next_line.new.lines (g.S.Source.left w.next_line.new.source)) w.next_line.new.lines.text) (w.is_end.ensures.end w.if-is_end.true) w.in_ok-line.ensures.comes) so_far.taken,
        reads,
      )
    ]
