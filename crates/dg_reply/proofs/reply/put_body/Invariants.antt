use Rattle.std.proofs.Common.{◌≤◌, ◌++◌, drop}
use Rattle.dg_machine.specs.ReplyText.{body_text}
use Rattle.dg_reply.proofs.Buffered.{IsPartlyPut}
use Rattle.dg_reply.proofs.reply.put_body.Given as goal

abbrev pub invariant-loop-number : goal.invariant-loop-number
invariant-loop-number g l = record {
  put : IsPartlyPut (g.K.Sink.written l.initial.sink) (l.initial.buffer ++ body_text l.names l.lines) (g.K.Sink.written l.sink) l.buffer
      (body_text l.names (drop l.number l.lines));
  counted : g.K.Sink.faults l.initial.sink ≤ g.K.Sink.faults l.sink;
}
