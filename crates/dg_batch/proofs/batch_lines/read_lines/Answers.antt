use Rattle.std.proofs.Common.{[], arith, length, refl, rules}
use Rattle.std.proofs.lemmas.List.{take_all}
use Rattle.dg_io.proofs.FrameLemmas.{advances_none, advances_both, on_err}
use Rattle.dg_batch.proofs.LinesTaken.{Taken, taken_none, taken_in_part, taken_more}
use Rattle.dg_batch.proofs.LinesDue.{due_given_on, due_here, never_given}
use Rattle.dg_batch.proofs.BatchLineCollection.{none_kept, gathering_kept, gathering_passed, kept_twice}
use Rattle.dg_batch.proofs.batch_lines.read_lines.Goals as goal
use Rattle.dg_batch.proofs.batch_lines.read_lines.Goals.{else-loop-read-test, then-loop-read-test+in_ok-line+then-is_end}

pub returns-in_err-line-clause-advances : goal.returns-in_err-line-clause-advances
returns-in_err-line-clause-advances g c =
    advances_both c.args.lines.now c.loop-read.lines c.next_line.new.lines
    (g.S.Source.left c.args.source.now) (g.S.Source.left c.loop-read.source) (g.S.Source.left c.next_line.new.source)
    (g.S.Source.faults c.args.source.now) (g.S.Source.faults c.loop-read.source) (g.S.Source.faults c.next_line.new.source)
    c.loop-read.invariant.advances c.next_line.ensures.advances

pub loop-read-init : goal.loop-read-init
loop-read-init g c = record {
  gathering = record {
    got = [];
    taken = taken_none c.args.lines.now (g.S.Source.left c.args.source.now);
    read_is = refl;
    kept = none_kept c.if-is_wanted.front c.args.names.now c.if-is_wanted.changes.items (search rules) (search rules);
  };
  advances = advances_none c.args.lines.now (g.S.Source.left c.args.source.now) (g.S.Source.faults c.args.source.now);
  begins = λ e. refl;
  undue = λ at needs. refl;
  bound = search rules;
  most = omega arith;
  kept = take_all (length c.args.names.now) c.args.names.now (omega arith);
  room = search rules;
}

pub loop-read-preserved-then-is_whole : goal.loop-read-preserved-then-is_whole
loop-read-preserved-then-is_whole g c = record {
  gathering =
      gathering_kept (Taken c.args.lines.now (g.S.Source.left c.args.source.now) c.loop-read.lines (g.S.Source.left c.loop-read.source)) (Taken c.args.lines.now (g.S.Source.left c.args.source.now) c.next_line.new.lines (g.S.Source.left c.next_line.new.source))
      c.loop-read.read c.loop-read.front c.keep_change-front.result c.args.names.now c.loop-read.names c.keep_change-front.new.names c.loop-read.changes.items c.keep_change-front.new.changes.items
      c.in_ok-line.line c.text.result.now c.next_line.new.lines.text c.loop-read.invariant.gathering (c.is_whole.ensures.whole c.if-is_whole.true)
      (taken_more c.args.lines.now c.loop-read.lines c.next_line.new.lines (g.S.Source.left c.args.source.now) (g.S.Source.left c.loop-read.source) (g.S.Source.left c.next_line.new.source) c.in_ok-line.line (c.is_end.ensures.more c.if-is_end.false) c.next_line.ensures.advances.ended c.in_ok-line.ensures.comes c.in_ok-line.ensures.whole) c.text.ensures c.keep_change-front.ensures.keeps;
  advances =
      advances_both c.args.lines.now c.loop-read.lines c.next_line.new.lines
      (g.S.Source.left c.args.source.now) (g.S.Source.left c.loop-read.source) (g.S.Source.left c.next_line.new.source)
      (g.S.Source.faults c.args.source.now) (g.S.Source.faults c.loop-read.source) (g.S.Source.faults c.next_line.new.source)
      c.loop-read.invariant.advances c.next_line.ensures.advances;
  begins = λ h. absurd (omega (arith, h));
  undue = λ at needs.
      absurd (never_given c.args.lines.now c.loop-read.lines c.loop-read.read c.next_line.result c.in_ok-line.line c.loop-read.invariant.undue c.loop-read.invariant.begins c.next_line.ensures.due c.in_ok-line.was at needs);
  bound = omega arith;
  most = omega arith;
  kept = kept_twice c.args.names.now c.loop-read.names c.keep_change-front.new.names c.loop-read.invariant.kept c.keep_change-front.ensures.kept;
  room = λ h. omega (arith, c.loop-read.invariant.room (c.is_whole.ensures.whole c.if-is_whole.true), c.keep_change-front.ensures.few);
}

pub loop-read-preserved : goal.loop-read-preserved
loop-read-preserved g c = record {
  gathering =
      gathering_passed (Taken c.args.lines.now (g.S.Source.left c.args.source.now) c.loop-read.lines (g.S.Source.left c.loop-read.source)) (Taken c.args.lines.now (g.S.Source.left c.args.source.now) c.next_line.new.lines (g.S.Source.left c.next_line.new.source))
      c.loop-read.read c.loop-read.front c.args.names.now c.loop-read.names c.loop-read.changes.items c.in_ok-line.line c.next_line.new.lines.text c.loop-read.invariant.gathering
      (c.is_whole.ensures.other c.if-is_whole.false)
      (taken_more c.args.lines.now c.loop-read.lines c.next_line.new.lines (g.S.Source.left c.args.source.now) (g.S.Source.left c.loop-read.source) (g.S.Source.left c.next_line.new.source) c.in_ok-line.line (c.is_end.ensures.more c.if-is_end.false) c.next_line.ensures.advances.ended c.in_ok-line.ensures.comes c.in_ok-line.ensures.whole);
  advances =
      advances_both c.args.lines.now c.loop-read.lines c.next_line.new.lines
      (g.S.Source.left c.args.source.now) (g.S.Source.left c.loop-read.source) (g.S.Source.left c.next_line.new.source)
      (g.S.Source.faults c.args.source.now) (g.S.Source.faults c.loop-read.source) (g.S.Source.faults c.next_line.new.source)
      c.loop-read.invariant.advances c.next_line.ensures.advances;
  begins = λ h. absurd (omega (arith, h));
  undue = λ at needs.
      absurd (never_given c.args.lines.now c.loop-read.lines c.loop-read.read c.next_line.result c.in_ok-line.line c.loop-read.invariant.undue c.loop-read.invariant.begins c.next_line.ensures.due c.in_ok-line.was at needs);
  bound = omega arith;
  most = omega arith;
  kept = c.loop-read.invariant.kept;
  room = λ h. absurd (c.is_whole.ensures.other c.if-is_whole.false h);
}

pub returns-clause-advances : goal.returns-clause-advances
returns-clause-advances g c =
    elim c.loop-read-test.branch [
      | else-loop-read-test w ↦ rw (w.lines-is, w.source-is) c.loop-read.invariant.advances
      | then-loop-read-test+in_ok-line+then-is_end w ↦ rw (w.lines-is, w.source-is)
          (advances_both c.args.lines.now c.loop-read.lines w.next_line.new.lines
          (g.S.Source.left c.args.source.now) (g.S.Source.left c.loop-read.source) (g.S.Source.left w.next_line.new.source)
          (g.S.Source.faults c.args.source.now) (g.S.Source.faults c.loop-read.source) (g.S.Source.faults w.next_line.new.source)
          c.loop-read.invariant.advances w.next_line.ensures.advances)
    ]

pub returns-in_err-line-clause-due : goal.returns-in_err-line-clause-due
returns-in_err-line-clause-due g c some at needs =
    due_given_on c.from_residual.result c.in_err-line.field-0.0 c.next_line.result c.from_residual.ensures c.in_err-line.was
    (due_here c.args.lines.now c.loop-read.lines c.loop-read.read c.next_line.result c.loop-read.invariant.undue c.loop-read.invariant.begins c.next_line.ensures.due at needs)

pub returns-clause-due : goal.returns-clause-due
returns-clause-due g c some at needs =
    elim c.loop-read-test.branch [
      | else-loop-read-test w ↦ absurd (omega (arith, some, c.loop-read.invariant.undue at needs, w.loop-read-test.false))
      | then-loop-read-test+in_ok-line+then-is_end w ↦
          absurd (never_given c.args.lines.now c.loop-read.lines c.loop-read.read w.next_line.result w.in_ok-line.line c.loop-read.invariant.undue c.loop-read.invariant.begins w.next_line.ensures.due w.in_ok-line.was at needs)
    ]

pub returns-in_err-line-clause-cut : goal.returns-in_err-line-clause-cut
returns-in_err-line-clause-cut g c =
    let so_far = c.loop-read.invariant.gathering in
    on_err c.from_residual.result _
    (taken_in_part c.args.count c.args.lines.now c.loop-read.lines c.next_line.new.lines (g.S.Source.left c.args.source.now) (g.S.Source.left c.loop-read.source) (g.S.Source.left c.next_line.new.source) so_far.got (omega (arith, so_far.read_is, c.loop-read-test.true))
    c.next_line.ensures.advances.ended c.in_err-line.ensures.kept c.in_err-line.ensures.needs so_far.taken)
