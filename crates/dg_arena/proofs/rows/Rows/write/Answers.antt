use Rattle.std.proofs.Common.{set, sym, ap, ◌∙◌, subst}
use Rattle.std.specs.Prelude.{Some}
use Rattle.dg_arena.specs.Cells.{rows_of, IsArena}
use Rattle.dg_arena.proofs.Options.{stands_within}
use Rattle.dg_arena.proofs.Vacancies.{shown_set}
use Rattle.dg_arena.proofs.Arena.{live, rewritten, live_cell, low_if}
use Rattle.dg_arena.proofs.rows.Rows.write.Goals as goal

pub write-requires : goal.write-requires
write-requires g c =
    let i = c.self.inside in
    let cell = live_cell i.cells i.len c.args.n c.args.self.now.items c.self.invariant.unfilled (ap (λ m. m.items) c.self.view_is) c.requires in
    stands_within i.cells c.args.n cell.0 cell.2

pub invariant_of-self : goal.invariant_of-self
invariant_of-self g c =
    let i = c.self.inside in
    let n = c.args.n in
    let cell = live_cell i.cells i.len n c.args.self.now.items c.self.invariant.unfilled (ap (λ m. m.items) c.self.view_is) c.requires in
    subst (λ l. IsArena l i.len i.free i.spare) (sym c.write.ensures) (rewritten i.cells i.len n i.spare i.free cell.0 cell.1 c.args.row c.self.invariant cell.2 cell.3)

pub returns-clause-items : goal.returns-clause-items
returns-clause-items g c =
    let i = c.self.inside in
    let n = c.args.n in
    let items = ap (λ m. m.items) c.self.view_is in
    let cell = live_cell i.cells i.len n c.args.self.now.items c.self.invariant.unfilled items c.requires in
    ap (λ l. rows_of l i.len) c.write.ensures ∙ shown_set i.cells i.len n (Some (live c.args.row)) (low_if i.cells i.len n cell.0 c.self.invariant.unfilled cell.2) ∙ ap (λ l. set l n (Some c.args.row)) items
