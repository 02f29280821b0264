use Rattle.std.proofs.Common.{◌∙◌}
use Rattle.std.proofs.lemmas.Result.{on_ok_weaker, on_err_weaker}
use Rattle.dg_reply.proofs.Buffered.{answer_fails, answer_put}
use Rattle.dg_reply.proofs.reply.put_reply.Goals as goal

pub returns-in_ok-put_line-in-Answered-clause-ok : goal.returns-in_ok-put_line-in-Answered-clause-ok
returns-in_ok-put_line-in-Answered-clause-ok g c =
    let words_are = c.words-in-Answered.ensures ∙ c.head_line.ensures.words in
    on_ok_weaker c.put_body.result
    (answer_put c.args.names.now _ _ _ _ _ _ c.args.reply.now _ _ c.in-Answered.is words_are c.in_ok-put_line-in-Answered.ensures.ok _) c.put_body.ensures.ok

pub returns-in_ok-put_line-in-Answered-clause-err : goal.returns-in_ok-put_line-in-Answered-clause-err
returns-in_ok-put_line-in-Answered-clause-err g c =
    let words_are = c.words-in-Answered.ensures ∙ c.head_line.ensures.words in
    on_err_weaker c.put_body.result
    (answer_fails c.args.names.now _ _ _ _ _ _ c.args.reply.now _ _ c.in-Answered.is words_are c.in_ok-put_line-in-Answered.ensures.ok) c.put_body.ensures.err
