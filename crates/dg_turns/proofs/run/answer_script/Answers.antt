use Rattle.std.proofs.Common.{◌≡◌, ℕ, List, Err, refl, sym, ◌∙◌, ap, subst, arith}
use Rattle.dg_cuts.proofs.TakenEntries.{took_none}
use Rattle.dg_io.proofs.FrameLemmas.{advances_both, advances_none}
use Rattle.dg_io.specs.Told.{CountRose, GrowsByPart, grown}
use Rattle.dg_machine.specs.ReplyText.{text}
use Rattle.dg_turns.specs.Ends.{streams}
use Rattle.dg_turns.specs.Grammars.{grammar_of}
use Rattle.dg_turns.proofs.RunEnds.{at_err, at_ok, ends_at_fault, ends_at_limit, ends_broken, ends_done, ends_in_part}
use Rattle.dg_turns.proofs.SoFar.{asked_first, so_far_first, so_far_on, so_far_skip}
use Rattle.dg_turns.proofs.run.answer_script.Goals as goal

pub loop-reply-init : goal.loop-reply-init
loop-reply-init g c = record {
  so_far = so_far_first g.M.Machine (grammar_of c.args.commands) c.new-lines.result (g.S.Source.left c.args.source.now) (g.K.Sink.written c.args.sink.now) c.args.machine.now c.args.world.now
      (asked_first (grammar_of c.args.commands) c.new-lines.result c.args.limit (g.S.Source.left c.args.source.now) c.new-lines.ensures)
      (took_none (grammar_of c.args.commands) c.new-lines.result (g.S.Source.left c.args.source.now));
  holds = c.requires.holds;
  lines = advances_none c.new-lines.result _ _;
  sink_counted = omega arith;
}

pub loop-reply-preserved-in-Ok-Skipped : goal.loop-reply-preserved-in-Ok-Skipped
loop-reply-preserved-in-Ok-Skipped g c =
    let l = c.loop-reply in
    let turn = rw c.in-Ok-Skipped.field-0-is at c.in-Ok-Skipped.ensures.turn in record {
      so_far = so_far_skip g.M.Machine (grammar_of c.args.commands) c.new-lines.result (g.S.Source.left c.args.source.now) (g.K.Sink.written c.args.sink.now) c.args.machine.now c.args.world.now
          l.lines (g.S.Source.left l.source) (g.K.Sink.written l.sink) l.machine l.world c.next_turn.new.lines (g.S.Source.left c.next_turn.new.source) c.next_turn.new.machine c.next_turn.new.world
          l.invariant.so_far turn.0 turn.1 c.next_turn.ensures.lines.ended turn.2 turn.3;
      holds = c.in-Ok-Skipped.ensures.holds;
      lines = advances_both c.new-lines.result l.lines c.next_turn.new.lines _ _ _ _ _ _ l.invariant.lines c.next_turn.ensures.lines;
      sink_counted = l.invariant.sink_counted;
    }

pub loop-reply-preserved : goal.loop-reply-preserved
loop-reply-preserved g c =
    let l = c.loop-reply in
    let turn = rw c.in-Ok-Replied.field-0-is at c.in-Ok-Replied.ensures.turn in
    let written = at_ok c.write_reply-written.result (g.K.Sink.written c.write_reply-written.new.sink ≡ grown (g.K.Sink.written l.sink) (text c.names.result.now c.in-Ok-Replied.reply))
    (sym c.is_err.ensures.value ∙ c.if-is_err.false) c.write_reply-written.ensures.ok
    ∙ ap (λ (names : List (List ℕ)). grown (g.K.Sink.written l.sink) (text names c.in-Ok-Replied.reply)) c.names.ensures in record {
      so_far = so_far_on g.M.Machine (grammar_of c.args.commands) c.new-lines.result (g.S.Source.left c.args.source.now) (g.K.Sink.written c.args.sink.now) c.args.machine.now c.args.world.now
          l.lines (g.S.Source.left l.source) (g.K.Sink.written l.sink) l.machine l.world c.next_turn.new.lines (g.S.Source.left c.next_turn.new.source) (g.K.Sink.written c.write_reply-written.new.sink) turn.0
          (record { reply = c.in-Ok-Replied.reply; machine = c.next_turn.new.machine; world = c.next_turn.new.world })
          l.invariant.so_far turn.1 turn.2 c.next_turn.ensures.lines.ended turn.3 written;
      holds = c.in-Ok-Replied.ensures.holds;
      lines = advances_both c.new-lines.result l.lines c.next_turn.new.lines _ _ _ _ _ _ l.invariant.lines c.next_turn.ensures.lines;
      sink_counted = omega (arith, l.invariant.sink_counted, c.write_reply-written.ensures.counted);
    }

pub returns-then-is_err : goal.returns-then-is_err
returns-then-is_err g c =
    let l = c.loop-reply in
    let turn = rw c.in-Ok-Replied.field-0-is at c.in-Ok-Replied.ensures.turn in
    let part = subst (λ (names : List (List ℕ)). GrowsByPart (g.K.Sink.written l.sink) (text names c.in-Ok-Replied.reply) (g.K.Sink.written c.write_reply-written.new.sink)) c.names.ensures
    (at_err c.write_reply-written.result (GrowsByPart (g.K.Sink.written l.sink) (text c.names.result.now c.in-Ok-Replied.reply) (g.K.Sink.written c.write_reply-written.new.sink))
    (sym c.is_err.ensures.value ∙ c.if-is_err.true) c.write_reply-written.ensures.err) in
    let rose = at_err c.write_reply-written.result (CountRose (g.K.Sink.faults l.sink) (g.K.Sink.faults c.write_reply-written.new.sink)) (sym c.is_err.ensures.value ∙ c.if-is_err.true) c.write_reply-written.ensures.cause in record {
      ran = ends_in_part c.args.limit (streams g.S.Source g.K.Sink c.args.source.now c.args.sink.now) (streams g.S.Source g.K.Sink l.source l.sink) (streams g.S.Source g.K.Sink c.next_turn.new.source c.write_reply-written.new.sink)
          c.next_turn.new.lines c.next_turn.new.machine c.next_turn.new.world c.new-lines.ensures l.invariant.so_far
          c.next_turn.ensures.lines.ended (advances_both c.new-lines.result l.lines c.next_turn.new.lines _ _ _ _ _ _ l.invariant.lines c.next_turn.ensures.lines)
          turn.0 (record { reply = c.in-Ok-Replied.reply; machine = c.next_turn.new.machine; world = c.next_turn.new.world }) refl refl turn.1 turn.2 turn.3 part
          (omega (arith, l.invariant.sink_counted, rose));
      done = λ e. cc;
      part = λ e. c.in-Ok-Replied.ensures.holds;
    }

pub returns-in-Ok-End : goal.returns-in-Ok-End
returns-in-Ok-End g c =
    let l = c.loop-reply in
    let turn = rw c.in-Ok-End.field-0-is at c.in-Ok-End.ensures.turn in record {
      ran = ends_done c.args.limit (streams g.S.Source g.K.Sink c.args.source.now c.args.sink.now) (streams g.S.Source g.K.Sink l.source l.sink) (streams g.S.Source g.K.Sink c.next_turn.new.source l.sink)
          c.next_turn.new.lines c.next_turn.new.machine c.next_turn.new.world c.new-lines.ensures l.invariant.so_far refl
          (advances_both c.new-lines.result l.lines c.next_turn.new.lines _ _ _ _ _ _ l.invariant.lines c.next_turn.ensures.lines) turn.2 turn.0 turn.3 turn.4;
      done = λ e. c.in-Ok-End.ensures.holds;
      part = λ e. cc;
    }

pub returns-in-Err-Read : goal.returns-in-Err-Read
returns-in-Err-Read g c =
    let l = c.loop-reply in
    let cut = rw c.in-Err-Read.field-0-is at c.in-Err-Read.ensures.cut in
    let cuts = cut (λ e. cc) in
    let read = c.next_turn.ensures.read (c.in-Err-Read.is ∙ ap (λ x. Err x) c.in-Err-Read.field-0-is) in record {
      ran = ends_at_fault c.args.limit (streams g.S.Source g.K.Sink c.args.source.now c.args.sink.now) (streams g.S.Source g.K.Sink l.source l.sink) (streams g.S.Source g.K.Sink c.next_turn.new.source l.sink)
          c.next_turn.new.lines c.next_turn.new.machine c.next_turn.new.world c.new-lines.ensures l.invariant.so_far refl
          c.next_turn.ensures.lines.ended cuts.0 cuts.1 (omega (arith, l.invariant.lines.counted, read));
      done = λ e. cc;
      part = λ e. cc;
    }

pub returns-in-Err-Limit : goal.returns-in-Err-Limit
returns-in-Err-Limit g c =
    let l = c.loop-reply in
    let cut = rw c.in-Err-Limit.field-0-is at c.in-Err-Limit.ensures.cut in
    let cuts = cut (λ e. cc) in
    let full = c.next_turn.ensures.limit (c.in-Err-Limit.is ∙ ap (λ x. Err x) c.in-Err-Limit.field-0-is) in record {
      ran = ends_at_limit c.args.limit (streams g.S.Source g.K.Sink c.args.source.now c.args.sink.now) (streams g.S.Source g.K.Sink l.source l.sink) (streams g.S.Source g.K.Sink c.next_turn.new.source l.sink)
          c.next_turn.new.lines c.next_turn.new.machine c.next_turn.new.world c.new-lines.ensures l.invariant.so_far refl
          c.next_turn.ensures.lines.ended cuts.0 cuts.1 (advances_both c.new-lines.result l.lines c.next_turn.new.lines _ _ _ _ _ _ l.invariant.lines c.next_turn.ensures.lines) full;
      done = λ e. cc;
      part = λ e. cc;
    }

pub returns-in-Err-World : goal.returns-in-Err-World
returns-in-Err-World g c =
    let l = c.loop-reply in
    let broken = c.next_turn.ensures.broken (c.in-Err-World.is ∙ ap (λ x. Err x) c.in-Err-World.field-0-is) in record {
      ran = ends_broken c.args.limit (streams g.S.Source g.K.Sink c.args.source.now c.args.sink.now) (streams g.S.Source g.K.Sink l.source l.sink) (streams g.S.Source g.K.Sink c.next_turn.new.source l.sink)
          c.next_turn.new.lines c.next_turn.new.machine c.next_turn.new.world c.new-lines.ensures l.invariant.so_far refl
          c.next_turn.ensures.lines.ended (advances_both c.new-lines.result l.lines c.next_turn.new.lines _ _ _ _ _ _ l.invariant.lines c.next_turn.ensures.lines) broken.0 broken.1 broken.2 broken.3;
      done = λ e. cc;
      part = λ e. cc;
    }
