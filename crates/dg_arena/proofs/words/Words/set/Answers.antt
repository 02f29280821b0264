use Rattle.std.proofs.Common.{arith, true, set, map, ap, sym, ◌∙◌}
use Rattle.std.proofs.lemmas.List.{map-set}
use Rattle.std.specs.Prelude.{Some}
use Rattle.dg_arena.specs.Words.{word_of}
use Rattle.dg_arena.proofs.Filling.{begun, zero_set}
use Rattle.dg_arena.proofs.words.Words.set.Goals as goal

pub returns-then-self : goal.returns-then-self
returns-then-self c =
    let used = c.self.inside.used in
    let places = c.self.inside.places in
    let n = c.args.n in
    ap (map (word_of used)) c.write.ensures ∙ map-set (word_of used) places n (Some c.args.word)
    ∙ ap (λ b. set (map (word_of used) places) n (word_of b (Some c.args.word))) c.if-self.true
    ∙ ap (λ l. set l n c.args.word) c.self.view_is

pub returns-then-word-eq0 : goal.returns-then-word-eq0
returns-then-word-eq0 c =
    let places = c.self.inside.places in
    let n = c.args.n in
    sym c.self.view_is ∙ ap (λ b. map (word_of b) places) c.if-self.false ∙ sym (zero_set places n)
    ∙ ap (λ b. set (map (word_of b) places) n 0) (sym c.if-self.false) ∙ ap (λ l. set l n 0) c.self.view_is
    ∙ ap (λ w. set c.args.self.now n w) (sym c.if-word-eq0.true)

pub returns : goal.returns
returns c =
    let places = c.self.inside.places in
    let n = c.args.n in
    ap (map (word_of true)) c.write-2.ensures ∙ map-set (word_of true) c.fill.new.places n (Some c.args.word)
    ∙ ap (λ l. set l n c.args.word)
    (begun places c.fill.new.places c.fill.ensures.len (λ m l. c.fill.ensures.zeros m (omega arith) l)
    ∙ ap (λ b. map (word_of b) places) (sym c.if-self.false) ∙ c.self.view_is)
