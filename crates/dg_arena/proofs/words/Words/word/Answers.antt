use Rattle.std.proofs.Common.{length, get_or, ap, sym, ◌∙◌, ◌<◌, subst}
use Rattle.std.specs.Prelude.{None}
use Rattle.dg_arena.specs.Words.{word_of}
use Rattle.dg_arena.proofs.Filling.{word_at}
use Rattle.dg_arena.proofs.words.Words.word.Goals as goal

pub returns-else-self : goal.returns-else-self
returns-else-self c =
    let places = c.self.inside.places in
    let n = c.args.n in
    sym (ap (λ l. get_or l n 0) (sym c.self.view_is) ∙ word_at c.self.inside.used places n (subst (λ l. n < length l) (sym c.self.view_is) c.requires) ∙ ap (λ b. word_of b (get_or places n None)) c.if-self.false)
