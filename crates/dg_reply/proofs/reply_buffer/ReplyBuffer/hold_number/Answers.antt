use Rattle.std.proofs.Common.{◌++◌, decimal, ap, ◌∙◌, arith, rules}
use Rattle.std.proofs.lemmas.Fmt.{length-decimal-le}
use Rattle.dg_reply.proofs.Buffered.{number_held}
use Rattle.dg_reply.proofs.reply_buffer.ReplyBuffer.hold_number.Goals as goal

pub write_digits-start-requires : goal.write_digits-start-requires
write_digits-start-requires c = search (rules, length-decimal-le 20)

pub returns-clause-put : goal.returns-clause-put
returns-clause-put c =
    number_held c.self.inside.bytes _ (decimal c.args.n) _ _ c.self.inside.held c.write_digits-start.result _ (omega arith)
    c.write_digits-start.ensures.start c.write_digits-start.ensures.written c.copy_from_slice.ensures.after
    ∙ ap (λ bytes. bytes ++ decimal c.args.n) c.self.view_is
