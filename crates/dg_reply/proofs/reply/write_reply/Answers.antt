use Rattle.std.proofs.Common.{[], ◌∷◌, ◌++◌, codes}
use Rattle.std.proofs.lemmas.Result.{on_ok_weaker, on_err_weaker}
use Rattle.dg_machine.specs.ReplyText.{text_line}
use Rattle.dg_reply.specs.Buffered.{text_before_end}
use Rattle.dg_reply.proofs.Buffered.{put_first_of, put_next, put_fails, put_ends, buffered_written, buffered_fails, on_err}
use Rattle.dg_reply.proofs.reply.write_reply.Goals as goal

pub returns-in_err-put_reply-clause-err : goal.returns-in_err-put_reply-clause-err
returns-in_err-put_reply-clause-err g c =
    let front = text_before_end c.args.names.now c.args.reply.now in
    let last = text_line (codes "end" ∷ []) in
    let start = put_first_of c.args.names.now _ c.args.reply.now _ c.new-buffer.ensures in
    on_err c.from_residual.result (put_fails _ _ _ _ _ front (last ++ []) start c.in_err-put_reply.ensures.err)

pub returns-in_err-put_line-clause-err : goal.returns-in_err-put_line-clause-err
returns-in_err-put_line-clause-err g c =
    let front = text_before_end c.args.names.now c.args.reply.now in
    let last = text_line (codes "end" ∷ []) in
    let start = put_first_of c.args.names.now _ c.args.reply.now _ c.new-buffer.ensures in
    let lines = put_next _ _ _ _ _ front (last ++ []) _ start c.in_ok-put_reply.ensures.ok in
    on_err c.from_residual-in_err-put_line.result (put_fails _ _ _ _ _ last [] lines c.in_err-put_line.ensures.err)

pub returns-clause-ok : goal.returns-clause-ok
returns-clause-ok g c =
    let front = text_before_end c.args.names.now c.args.reply.now in
    let last = text_line (codes "end" ∷ []) in
    let start = put_first_of c.args.names.now _ c.args.reply.now _ c.new-buffer.ensures in
    let lines = put_next _ _ _ _ _ front (last ++ []) _ start c.in_ok-put_reply.ensures.ok in
    let all = put_ends _ _ _ _ (put_next _ _ _ _ _ last [] _ lines c.in_ok-put_line.ensures.ok) in
    on_ok_weaker c.flush.result (λ written. buffered_written _ _ _ _ _ all written) c.flush.ensures.ok

pub returns-clause-err : goal.returns-clause-err
returns-clause-err g c =
    let front = text_before_end c.args.names.now c.args.reply.now in
    let last = text_line (codes "end" ∷ []) in
    let start = put_first_of c.args.names.now _ c.args.reply.now _ c.new-buffer.ensures in
    let lines = put_next _ _ _ _ _ front (last ++ []) _ start c.in_ok-put_reply.ensures.ok in
    let all = put_ends _ _ _ _ (put_next _ _ _ _ _ last [] _ lines c.in_ok-put_line.ensures.ok) in
    on_err_weaker c.flush.result (λ part. buffered_fails _ _ _ _ _ all part) c.flush.ensures.err
