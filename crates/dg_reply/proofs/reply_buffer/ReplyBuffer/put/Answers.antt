use Rattle.std.proofs.lemmas.Result.{on_ok_weaker, on_err_weaker}
use Rattle.dg_io.proofs.ToldLemmas.{part_second}
use Rattle.dg_reply.proofs.Buffered.{buffered_both}
use Rattle.dg_reply.proofs.reply_buffer.ReplyBuffer.put.Goals as goal

pub returns-clause-ok : goal.returns-clause-ok
returns-clause-ok g c =
    on_ok_weaker c.write_whole.result (λ whole. buffered_both _ _ _ c.args.self.now c.args.piece.now c.flush.new.self
    c.in_ok-flush.ensures.ok whole c.in_ok-flush.ensures.empty) c.write_whole.ensures.ok

pub returns-clause-err : goal.returns-clause-err
returns-clause-err g c =
    on_err_weaker c.write_whole.result (part_second _ _ _ c.args.self.now c.args.piece.now c.in_ok-flush.ensures.ok) c.write_whole.ensures.err
