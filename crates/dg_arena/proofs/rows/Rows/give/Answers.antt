use Rattle.std.proofs.Common.{◌+◌, set, refl, sym, ap, ◌∙◌, subst, arith}
use Rattle.std.specs.Prelude.{Some, None, IsSome}
use Rattle.std.proofs.Common.{map}
use Rattle.std.proofs.lemmas.List.{length-map}
use Rattle.dg_arena.specs.declared.cell.Cell.{Cell}
use Rattle.dg_arena.specs.Cells.{shown, rows_of, IsArena}
use Rattle.dg_arena.proofs.Options.{stands_within}
use Rattle.dg_arena.proofs.Vacancies.{not_live, shown_set, vacant_at_most}
use Rattle.dg_arena.proofs.Arena.{given, live_cell, low_if}
use Rattle.dg_arena.proofs.rows.Rows.give.Goals as goal

pub get-row-requires : goal.get-row-requires
get-row-requires g c =
    let i = c.self.inside in
    let cell = live_cell i.cells i.len c.args.n c.args.self.now.items c.self.invariant.unfilled (ap (λ m. m.items) c.self.view_is) c.requires in
    subst IsSome (sym cell.2) refl

pub write-requires : goal.write-requires
write-requires g c =
    let i = c.self.inside in
    let cell = live_cell i.cells i.len c.args.n c.args.self.now.items c.self.invariant.unfilled (ap (λ m. m.items) c.self.view_is) c.requires in
    stands_within i.cells c.args.n cell.0 cell.2

pub invariant_of-self : goal.invariant_of-self
invariant_of-self g c =
    let i = c.self.inside in
    let n = c.args.n in
    let cell = live_cell i.cells i.len n c.args.self.now.items c.self.invariant.unfilled (ap (λ m. m.items) c.self.view_is) c.requires in
    let left : Cell g.row.T.Denot = record { row = c.get-row.result.row; link = c.link_to-link.result } in
    subst (λ l. IsArena l i.len (Some n) (i.spare + 1)) (sym c.write.ensures)
    (given i.cells i.len n i.spare i.free cell.0 left cell.1 c.self.invariant cell.2 cell.3 (not_live c.link_to-link.result c.get-row.result.row c.link_to-link.ensures.vacant) c.link_to-link.ensures.behind)

pub returns-clause-items : goal.returns-clause-items
returns-clause-items g c =
    let i = c.self.inside in
    let n = c.args.n in
    let items = ap (λ m. m.items) c.self.view_is in
    let cell = live_cell i.cells i.len n c.args.self.now.items c.self.invariant.unfilled items c.requires in
    let left : Cell g.row.T.Denot = record { row = c.get-row.result.row; link = c.link_to-link.result } in
    ap (λ l. rows_of l i.len) c.write.ensures ∙ shown_set i.cells i.len n (Some left) (low_if i.cells i.len n cell.0 c.self.invariant.unfilled cell.2)
    ∙ ap (set (rows_of i.cells i.len) n) (not_live c.link_to-link.result c.get-row.result.row c.link_to-link.ensures.vacant) ∙ ap (λ l. set l n None) items

pub overflow_add-self : goal.overflow_add-self
overflow_add-self g c =
    let i = c.self.inside in
    record { fits = omega (arith, c.self.invariant.count, vacant_at_most (map shown i.cells), length-map i.cells shown, c.self.invariant.few) }
