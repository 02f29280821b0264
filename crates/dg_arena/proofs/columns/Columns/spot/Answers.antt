use Rattle.std.proofs.Common.{get_or, ap, sym, ◌∙◌, subst}
use Rattle.std.specs.Prelude.{None, IsSome}
use Rattle.dg_arena.specs.Columns.{words, cell_with}
use Rattle.dg_arena.proofs.ColumnCells.{cell_at, some_spot}
use Rattle.dg_arena.proofs.columns.Columns.spot.Goals as goal

pub get-requires : goal.get-requires
get-requires g c =
    let i = c.self.inside in
    let n = c.args.n in
    some_spot (get_or i.spots n None) (words i.first i.second i.third i.fourth n)
    (subst IsSome (ap (λ l. get_or l n None) (sym c.self.view_is) ∙ cell_at i.spots i.first i.second i.third i.fourth n) c.requires)

pub returns : goal.returns
returns g c =
    let i = c.self.inside in
    let n = c.args.n in
    let bits = words i.first i.second i.third i.fourth n in (
      bits,
      ap (λ l. get_or l n None) (sym c.self.view_is) ∙ cell_at i.spots i.first i.second i.third i.fourth n ∙ ap (λ o. cell_with o bits) c.get.ensures,
    )
