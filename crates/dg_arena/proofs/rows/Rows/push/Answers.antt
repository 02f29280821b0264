use Rattle.std.proofs.Common.{◌+◌, ◌-◌, ◌∷◌, ◌++◌, [], length, set, Some, sym, ap, ◌∙◌, subst, arith}
use Rattle.std.proofs.lemmas.List.{length-set}
use Rattle.dg_arena.specs.Cells.{rows_of, taken_next, IsArena}
use Rattle.dg_arena.proofs.Vacancies.{shown_next, shown_length}
use Rattle.dg_arena.proofs.Arena.{live, extended, has_room, none_is_vacant}
use Rattle.dg_arena.proofs.rows.Rows.push.Goals as goal

pub write-requires : goal.write-requires
write-requires g c =
    let i = c.self.inside in
    let at = none_is_vacant i.cells i.len i.spare i.free c.args.self.now c.self.invariant c.self.view_is c.requires.room c.requires.behind in
    has_room i.cells i.len i.spare i.free c.self.invariant at.0 at.1

pub invariant_of-self : goal.invariant_of-self
invariant_of-self g c =
    let i = c.self.inside in
    let at = none_is_vacant i.cells i.len i.spare i.free c.args.self.now c.self.invariant c.self.view_is c.requires.room c.requires.behind in
    subst (λ l. IsArena l (i.len + 1) i.free (i.spare - 1)) (sym c.write.ensures) (extended i.cells i.len i.spare i.free c.args.row c.self.invariant at.0 at.1)

pub returns-clause-items : goal.returns-clause-items
returns-clause-items g c =
    let i = c.self.inside in
    let at = none_is_vacant i.cells i.len i.spare i.free c.args.self.now c.self.invariant c.self.view_is c.requires.room c.requires.behind in
    ap (λ l. rows_of l (i.len + 1)) c.write.ensures
    ∙ shown_next i.cells i.len (Some (live c.args.row)) (has_room i.cells i.len i.spare i.free c.self.invariant at.0 at.1)
    ∙ ap (λ m. m.items ++ Some c.args.row ∷ []) c.self.view_is

pub returns-clause-vacancy : goal.returns-clause-vacancy
returns-clause-vacancy g c =
    let i = c.self.inside in
    let at = none_is_vacant i.cells i.len i.spare i.free c.args.self.now c.self.invariant c.self.view_is c.requires.room c.requires.behind in
    let filled = Some (live c.args.row) in
    let size = length-set i.cells i.len filled in
    let in_cells = has_room i.cells i.len i.spare i.free c.self.invariant at.0 at.1 in
    ap (λ f. taken_next f (i.len + 1)) at.0
    ∙ sym (ap (λ l. length (rows_of l (i.len + 1))) c.write.ensures ∙ shown_length (set i.cells i.len filled) (i.len + 1) (omega (arith, size, in_cells)))
