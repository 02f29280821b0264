use Rattle.std.proofs.Common.{set, refl, sym, ap, ◌∙◌, subst}
use Rattle.std.specs.Prelude.{Some, IsSome}
use Rattle.dg_arena.specs.Cells.{rows_of, cell_at, IsArena, shown}
use Rattle.dg_arena.proofs.Vacancies.{shown_set, shown_at}
use Rattle.dg_arena.proofs.Arena.{live, live_by, rewritten, live_cell, low_if}
use Rattle.dg_arena.proofs.rows.Rows.write_word.Goals as goal

pub write_word-requires-clause-there : goal.write_word-requires-clause-there
write_word-requires-clause-there g c =
    let i = c.self.inside in
    let cell = live_cell i.cells i.len c.args.n c.args.self.now.items c.self.invariant.unfilled (ap (λ m. m.items) c.self.view_is) c.requires.there in
    subst IsSome (sym cell.2) refl

pub invariant_of-self : goal.invariant_of-self
invariant_of-self g c =
    let i = c.self.inside in
    let n = c.args.n in
    let w = c.write_word.ensures in
    let cell = live_cell i.cells i.len n c.args.self.now.items c.self.invariant.unfilled (ap (λ m. m.items) c.self.view_is) c.requires.there in
    let all = live_by w.before w.after cell.1 w.link (ap shown (sym w.was ∙ cell.2) ∙ cell.3) in
    subst (λ l. IsArena l i.len i.free i.spare) (sym (w.is ∙ ap (λ k. set i.cells n (Some k)) all.0))
    (rewritten i.cells i.len n i.spare i.free cell.0 cell.1 w.after.row c.self.invariant cell.2 cell.3)

pub returns : goal.returns
returns g c =
    let i = c.self.inside in
    let n = c.args.n in
    let w = c.write_word.ensures in
    let items = ap (λ m. m.items) c.self.view_is in
    let cell = live_cell i.cells i.len n c.args.self.now.items c.self.invariant.unfilled items c.requires.there in
    let all = live_by w.before w.after cell.1 w.link (ap shown (sym w.was ∙ cell.2) ∙ cell.3) in
    record {
      before = w.before.row;
      after = w.after.row;
      was = ap (λ l. cell_at l n) (sym items) ∙ shown_at i.cells i.len n c.self.invariant.unfilled ∙ ap shown w.was ∙ all.1;
      is =
          ap (λ l. rows_of l i.len) (w.is ∙ ap (λ k. set i.cells n (Some k)) all.0)
          ∙ shown_set i.cells i.len n (Some (live w.after.row)) (low_if i.cells i.len n cell.0 c.self.invariant.unfilled cell.2) ∙ ap (λ l. set l n (Some w.after.row)) items;
      how = w.how;
      spare = ap (λ m. m.spare) c.self.view_is;
      vacancy = ap (λ m. m.vacancy) c.self.view_is;
    }
