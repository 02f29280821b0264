use Rattle.std.proofs.Common.{[], ◌∷◌, ◌++◌, ap, ◌∙◌}
use Rattle.dg_machine.specs.ReplyText.{key_words, length_words}
use Rattle.dg_reply.specs.Buffered.{spaced}
use Rattle.dg_reply.proofs.Buffered.{record_held}
use Rattle.dg_reply.proofs.body_line.hold_sizes.Goals as goal

pub returns : goal.returns
returns c =
    let key = key_words c.args.key in
    let lengths = length_words c.args.lengths.now in
    c.hold-2.ensures.put
    ∙ ap (λ bytes. bytes ++ 10 ∷ []) (c.hold_lengths.ensures.put
    ∙ ap (λ bytes. bytes ++ spaced lengths) (c.hold_key.ensures.put ∙ ap (λ bytes. bytes ++ spaced key) c.hold.ensures.put))
    ∙ record_held c.args.buffer.now key lengths
