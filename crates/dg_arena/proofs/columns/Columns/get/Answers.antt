use Rattle.std.proofs.Common.{get_or, ◌∷◌, [], ap, sym, ◌∙◌, ◌≡◌, subst}
use Rattle.std.specs.Prelude.{Some, None, IsSome}
use Rattle.dg_arena.specs.Columns.{words, cell_with}
use Rattle.dg_arena.proofs.ColumnCells.{cell_at, some_spot}
use Rattle.dg_arena.proofs.columns.Columns.get.Goals as goal

pub get-requires : goal.get-requires
get-requires g c =
    let i = c.self.inside in
    let n = c.args.n in
    some_spot (get_or i.spots n None) (words i.first i.second i.third i.fourth n)
    (subst IsSome (ap (λ l. get_or l n None) (sym c.self.view_is) ∙ cell_at i.spots i.first i.second i.third i.fourth n) c.requires)

pub returns : goal.returns
returns g c =
    let i = c.self.inside in
    let n = c.args.n in
    let p = c.word.ensures in
    let q = c.word-2.ensures in
    let r = c.word-3.ensures in
    let s = c.word-4.ensures in
    let bits : words i.first i.second i.third i.fourth n ≡ c.word.result ∷ c.word-2.result ∷ c.word-3.result ∷ c.word-4.result ∷ [] = cc in
    ap (λ l. get_or l n None) (sym c.self.view_is) ∙ cell_at i.spots i.first i.second i.third i.fourth n
    ∙ ap (λ o. cell_with o (words i.first i.second i.third i.fourth n)) c.get.ensures ∙ ap (cell_with (Some c.get.result.now)) bits
