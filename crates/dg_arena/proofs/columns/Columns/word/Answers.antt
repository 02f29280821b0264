use Rattle.std.proofs.Common.{get_or, ap, sym, ◌∙◌, ◌≡◌, subst, arith}
use Rattle.std.specs.Prelude.{None, IsSome, IfSome}
use Rattle.dg_arena.specs.declared.cell.Cell.{Cell}
use Rattle.dg_arena.specs.Columns.{words}
use Rattle.dg_arena.proofs.ColumnCells.{has_spot, word_in}
use Rattle.dg_arena.proofs.columns.Columns.word.Goals as goal

pub word-requires : goal.word-requires
word-requires g c =
    let i = c.self.inside in
    omega (arith, has_spot i.spots i.first i.second i.third i.fourth c.args.n (subst (λ l. IsSome (get_or l c.args.n None)) (sym c.self.view_is) c.requires.there), c.self.invariant.0)

pub word-requires-in-1 : goal.word-requires-in-1
word-requires-in-1 g c =
    let i = c.self.inside in
    omega (arith, has_spot i.spots i.first i.second i.third i.fourth c.args.n (subst (λ l. IsSome (get_or l c.args.n None)) (sym c.self.view_is) c.requires.there), c.self.invariant.1)

pub word-requires-in-2 : goal.word-requires-in-2
word-requires-in-2 g c =
    let i = c.self.inside in
    omega (arith, has_spot i.spots i.first i.second i.third i.fourth c.args.n (subst (λ l. IsSome (get_or l c.args.n None)) (sym c.self.view_is) c.requires.there), c.self.invariant.2)

pub word-requires-in_default : goal.word-requires-in_default
word-requires-in_default g c =
    let i = c.self.inside in
    omega (arith, has_spot i.spots i.first i.second i.third i.fourth c.args.n (subst (λ l. IsSome (get_or l c.args.n None)) (sym c.self.view_is) c.requires.there), c.self.invariant.3)

pub returns-in-0 : goal.returns-in-0
returns-in-0 g c =
    let i = c.self.inside in
    let n = c.args.n in
    subst (λ l. IfSome (get_or l n None) (λ (k : Cell g.row.T.Denot). c.word.result ≡ get_or k.row.bits c.args.index 0)) c.self.view_is
    (word_in i.spots i.first i.second i.third i.fourth n c.args.index c.word.result (c.word.ensures ∙ sym (ap (λ k. get_or (words i.first i.second i.third i.fourth n) k 0) c.in-0.is)))

pub returns-in-1 : goal.returns-in-1
returns-in-1 g c =
    let i = c.self.inside in
    let n = c.args.n in
    subst (λ l. IfSome (get_or l n None) (λ (k : Cell g.row.T.Denot). c.word-in-1.result ≡ get_or k.row.bits c.args.index 0)) c.self.view_is
    (word_in i.spots i.first i.second i.third i.fourth n c.args.index c.word-in-1.result (c.word-in-1.ensures ∙ sym (ap (λ k. get_or (words i.first i.second i.third i.fourth n) k 0) c.in-1.is)))

pub returns-in-2 : goal.returns-in-2
returns-in-2 g c =
    let i = c.self.inside in
    let n = c.args.n in
    subst (λ l. IfSome (get_or l n None) (λ (k : Cell g.row.T.Denot). c.word-in-2.result ≡ get_or k.row.bits c.args.index 0)) c.self.view_is
    (word_in i.spots i.first i.second i.third i.fourth n c.args.index c.word-in-2.result (c.word-in-2.ensures ∙ sym (ap (λ k. get_or (words i.first i.second i.third i.fourth n) k 0) c.in-2.is)))

pub returns-in_default : goal.returns-in_default
returns-in_default g c =
    let i = c.self.inside in
    let n = c.args.n in
    let e : c.args.index ≡ 3 = omega (arith, c.requires.index) in
    subst (λ l. IfSome (get_or l n None) (λ (k : Cell g.row.T.Denot). c.word-in_default.result ≡ get_or k.row.bits c.args.index 0)) c.self.view_is
    (word_in i.spots i.first i.second i.third i.fourth n c.args.index c.word-in_default.result (c.word-in_default.ensures ∙ sym (ap (λ k. get_or (words i.first i.second i.third i.fourth n) k 0) e)))
