use Rattle.std.proofs.Common.{arith, ◌<◌, get_or, set, length, ap, sym, ◌∙◌, subst}
use Rattle.std.specs.Prelude.{Some}
use Rattle.dg_arena.specs.declared.columns.Spot.{Spot}
use Rattle.dg_arena.specs.Columns.{cell_with, cells_of}
use Rattle.dg_arena.proofs.ColumnCells.{length-cells, cell_set, four}
use Rattle.dg_arena.proofs.columns.Columns.write.Goals as goal

pub write-requires : goal.write-requires
write-requires g c =
    let i = c.self.inside in
    subst (λ k. c.args.n < k) (sym (ap length c.self.view_is) ∙ length-cells i.spots i.first i.second i.third i.fourth) c.requires

pub set-requires : goal.set-requires
set-requires g c =
    let i = c.self.inside in
    let within : c.args.n < length i.spots = subst (λ k. c.args.n < k) (sym (ap length c.self.view_is) ∙ length-cells i.spots i.first i.second i.third i.fourth) c.requires in
    omega (arith, within, c.self.invariant.0)

pub set-requires-2 : goal.set-requires-2
set-requires-2 g c =
    let i = c.self.inside in
    let within : c.args.n < length i.spots = subst (λ k. c.args.n < k) (sym (ap length c.self.view_is) ∙ length-cells i.spots i.first i.second i.third i.fourth) c.requires in
    omega (arith, within, c.self.invariant.1)

pub set-requires-3 : goal.set-requires-3
set-requires-3 g c =
    let i = c.self.inside in
    let within : c.args.n < length i.spots = subst (λ k. c.args.n < k) (sym (ap length c.self.view_is) ∙ length-cells i.spots i.first i.second i.third i.fourth) c.requires in
    omega (arith, within, c.self.invariant.2)

pub set-requires-4 : goal.set-requires-4
set-requires-4 g c =
    let i = c.self.inside in
    let within : c.args.n < length i.spots = subst (λ k. c.args.n < k) (sym (ap length c.self.view_is) ∙ length-cells i.spots i.first i.second i.third i.fourth) c.requires in
    omega (arith, within, c.self.invariant.3)

pub returns : goal.returns
returns g c =
    let i = c.self.inside in
    let n = c.args.n in
    let bits = c.args.cell.row.bits in
    let s : Spot g.row.T.Denot = record { value = c.args.cell.row.element; link = c.args.cell.link } in
    let w = get_or bits 0 0 in
    let x = get_or bits 1 0 in
    let y = get_or bits 2 0 in
    let z = get_or bits 3 0 in
    let within : n < length i.spots = subst (λ k. n < k) (sym (ap length c.self.view_is) ∙ length-cells i.spots i.first i.second i.third i.fourth) c.requires in
    let same = four bits (omega arith) in
    ap (λ l. cells_of l c.set.new.self c.set-2.new.self c.set-3.new.self c.set-4.new.self) c.write.ensures
    ∙ ap (λ l. cells_of (set i.spots n (Some s)) l c.set-2.new.self c.set-3.new.self c.set-4.new.self) c.set.ensures
    ∙ ap (λ l. cells_of (set i.spots n (Some s)) (set i.first n w) l c.set-3.new.self c.set-4.new.self) c.set-2.ensures
    ∙ ap (λ l. cells_of (set i.spots n (Some s)) (set i.first n w) (set i.second n x) l c.set-4.new.self) c.set-3.ensures
    ∙ ap (λ l. cells_of (set i.spots n (Some s)) (set i.first n w) (set i.second n x) (set i.third n y) l) c.set-4.ensures
    ∙ cell_set i.spots i.first i.second i.third i.fourth n s w x y z (omega (arith, within, c.self.invariant.0)) (omega (arith, within, c.self.invariant.1)) (omega (arith, within, c.self.invariant.2)) (omega (arith, within, c.self.invariant.3))
    ∙ ap (λ l. set (cells_of i.spots i.first i.second i.third i.fourth) n (cell_with (Some s) l)) same
    ∙ ap (λ l. set l n (Some c.args.cell)) c.self.view_is
