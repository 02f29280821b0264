use Rattle.std.proofs.Common.{true, ◌*◌, ◌<◌, ◌≤◌, ◌++◌, get_or, replicate, map, ap, sym, ◌∙◌, subst, length}
use Rattle.std.specs.Prelude.{None}
use Rattle.dg_arena.specs.Words.{word_of}
use Rattle.dg_arena.proofs.Filling.{grown, filled, none_behind}
use Rattle.dg_arena.proofs.words.Words.grow.Goals as goal

pub returns-then-self-clause-ok : goal.returns-then-self-clause-ok
returns-then-self-clause-ok c =
    let old = c.self.inside.places in
    let more = c.args.count * 1024 in
    let is = c.in_ok-grow.ensures.ok in
    let same = filled (old ++ replicate more None) c.fill.new.places (length old) (c.fill.ensures.len ∙ ap length is) (λ m h. none_behind old more m h)
    (λ m h l. c.fill.ensures.zeros m (subst (λ k. k ≤ m) (sym c.len-from.ensures) h) (subst (λ p. m < length p) (sym is) l))
    (λ m h. c.fill.ensures.kept m (subst (λ k. m < k) (sym c.len-from.ensures) h) ∙ ap (λ p. get_or p m None) is) in
    ap (λ b. map (word_of b) c.fill.new.places) c.if-self.true ∙ same ∙ grown true old more ∙ ap (λ b. map (word_of b) old ++ replicate more 0) (sym c.if-self.true)
    ∙ ap (λ l. l ++ replicate more 0) c.self.view_is

pub returns-else-self-clause-ok : goal.returns-else-self-clause-ok
returns-else-self-clause-ok c =
    let more = c.args.count * 1024 in
    ap (map (word_of c.self.inside.used)) c.in_ok-grow.ensures.ok ∙ grown c.self.inside.used c.self.inside.places more ∙ ap (λ l. l ++ replicate more 0) c.self.view_is
