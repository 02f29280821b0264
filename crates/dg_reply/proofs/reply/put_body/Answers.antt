use Rattle.std.proofs.Common.{◌++◌, arith}
use Rattle.dg_machine.specs.ReplyText.{body_text}
use Rattle.dg_reply.proofs.Buffered.{put_first, put_moved, put_move_fails, put_body_line, put_lines_past, on_err}
use Rattle.dg_reply.proofs.reply.put_body.Goals as goal

pub loop-number-init : goal.loop-number-init
loop-number-init g c = record {
  put = put_first (g.K.Sink.written c.args.sink.now) c.args.buffer.now (body_text c.args.names.now c.args.lines.now);
  counted = omega arith;
}

pub returns-in_err-make_room-clause-err : goal.returns-in_err-make_room-clause-err
returns-in_err-make_room-clause-err g c =
    on_err c.from_residual.result (put_move_fails _ _ _ _ _ _ c.loop-number.invariant.put c.in_err-make_room.ensures.err)

pub loop-number-preserved : goal.loop-number-preserved
loop-number-preserved g c =
    let room = put_moved _ _ _ _ _ _ _ c.loop-number.invariant.put c.in_ok-make_room.ensures.ok in
    let all = c.args.buffer.now ++ body_text c.args.names.now c.args.lines.now in
    record {
      put =
          put_body_line c.args.names.now _ _ all _ _ c.args.lines.now c.loop-number.number _ c.line.ensures c.hold_body_line.ensures room;
      counted = omega (arith, c.in_ok-make_room.ensures.counted);
    }

pub returns-clause-ok : goal.returns-clause-ok
returns-clause-ok g c =
    put_lines_past c.args.names.now _ _ _ _ c.args.lines.now c.loop-number.number (omega arith) c.loop-number.invariant.put
