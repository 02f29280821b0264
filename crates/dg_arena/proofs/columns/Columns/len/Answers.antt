use Rattle.std.proofs.Common.{length, ap, sym, ◌∙◌}
use Rattle.dg_arena.proofs.ColumnCells.{length-cells}
use Rattle.dg_arena.proofs.columns.Columns.len.Goals as goal

pub returns : goal.returns
returns g c =
    let i = c.self.inside in
    c.len.ensures ∙ sym (length-cells i.spots i.first i.second i.third i.fourth) ∙ ap length c.self.view_is
