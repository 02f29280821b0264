use Rattle.std.proofs.Common.{◌≤◌, ◌++◌, map, drop}
use Rattle.dg_machine.specs.ReplyText.{text_line}
use Rattle.dg_reply.specs.Buffered.{word_bytes}
use Rattle.dg_reply.proofs.Buffered.{IsPartlyPut, rest_of_line}
use Rattle.dg_reply.proofs.reply_buffer.ReplyBuffer.put_line.Given as goal

abbrev pub invariant-loop-word : goal.invariant-loop-word
invariant-loop-word g l = record {
  put : IsPartlyPut (g.K.Sink.written l.initial.sink) (l.initial.self ++ text_line (map word_bytes l.words)) (g.K.Sink.written l.sink) l.self
      (rest_of_line l.between (map word_bytes (drop l.word-index l.words)));
  counted : g.K.Sink.faults l.initial.sink ≤ g.K.Sink.faults l.sink;
}
