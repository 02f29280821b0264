use Rattle.std.proofs.Common.{◌≡◌, ◌+◌, ◌-◌, ◌≤◌, [], ◌∷◌, ◌++◌, length, set, refl, sym, ap, ◌∙◌, subst, arith}
use Rattle.std.specs.Prelude.{Some, IsSome}
use Rattle.dg_arena.specs.Cells.{shown, rows_of, taken_next, Puts, Reuses, IsArena}
use Rattle.std.proofs.lemmas.List.{length-set}
use Rattle.dg_arena.proofs.Vacancies.{shown_next, shown_length}
use Rattle.dg_arena.proofs.Options.{stands_within}
use Rattle.dg_arena.proofs.Arena.{live, reused, extended, has_room, first_there, first_is_low, puts, reuses_first, reuses_next}
use Rattle.dg_arena.proofs.rows.Rows.insert.Goals as goal

pub get-requires : goal.get-requires
get-requires g c =
    let i = c.self.inside in
    let first = first_there i.cells i.len c.in-Some.first i.spare i.free c.self.invariant c.in-Some.is in
    subst IsSome (sym first.1) refl

pub write-requires : goal.write-requires
write-requires g c =
    let i = c.self.inside in
    let first = first_there i.cells i.len c.in-Some.first i.spare i.free c.self.invariant c.in-Some.is in
    stands_within i.cells c.in-Some.first first.0 first.1

pub invariant_of-self : goal.invariant_of-self
invariant_of-self g c =
    let i = c.self.inside in
    let n = c.in-Some.first in
    let some : 1 ≤ i.spare = subst (λ k. 1 ≤ k) (sym (ap (λ m. m.spare) c.self.view_is)) c.requires in
    let kept = reused i.cells i.len n i.spare i.free c.get.result c.args.row c.self.invariant c.in-Some.is c.get.ensures some in
    subst (λ l. IsArena l i.len c.behind-self-inside.result (i.spare - 1)) (sym c.write.ensures)
    (subst (λ h. IsArena (set i.cells n (Some (live c.args.row))) i.len h (i.spare - 1)) (sym c.behind-self-inside.ensures) kept)

pub write-requires-in-None : goal.write-requires-in-None
write-requires-in-None g c =
    let i = c.self.inside in
    has_room i.cells i.len i.spare i.free c.self.invariant c.in-None.is (subst (λ k. 1 ≤ k) (sym (ap (λ m. m.spare) c.self.view_is)) c.requires)

pub overflow_add-self : goal.overflow_add-self
overflow_add-self g c = record { fits = omega (arith, c.self.invariant.within, c.self.invariant.few) }

pub invariant_of-self-in-None : goal.invariant_of-self-in-None
invariant_of-self-in-None g c =
    let i = c.self.inside in
    let some : 1 ≤ i.spare = subst (λ k. 1 ≤ k) (sym (ap (λ m. m.spare) c.self.view_is)) c.requires in
    subst (λ l. IsArena l (i.len + 1) i.free (i.spare - 1)) (sym c.write-in-None.ensures) (extended i.cells i.len i.spare i.free c.args.row c.self.invariant c.in-None.is some)

pub returns-in-Some-clause-puts : goal.returns-in-Some-clause-puts
returns-in-Some-clause-puts g c =
    let i = c.self.inside in
    let n = c.in-Some.first in
    let some : 1 ≤ i.spare = subst (λ k. 1 ≤ k) (sym (ap (λ m. m.spare) c.self.view_is)) c.requires in
    let kept = reused i.cells i.len n i.spare i.free c.get.result c.args.row c.self.invariant c.in-Some.is c.get.ensures some in
    let first = first_there i.cells i.len n i.spare i.free c.self.invariant c.in-Some.is in
    let all = puts i.cells i.len i.len n c.args.row c.self.invariant.unfilled kept.unfilled (stands_within i.cells n first.0 first.1) (ap shown first.1 ∙ first.2) in
    subst (λ l. Puts l (rows_of c.write.new.self i.len) n c.args.row) (ap (λ m. m.items) c.self.view_is)
    (subst (λ k. Puts (rows_of i.cells i.len) (rows_of k i.len) n c.args.row) (sym c.write.ensures) all)

pub returns-in-None-clause-puts : goal.returns-in-None-clause-puts
returns-in-None-clause-puts g c =
    let i = c.self.inside in
    let some : 1 ≤ i.spare = subst (λ k. 1 ≤ k) (sym (ap (λ m. m.spare) c.self.view_is)) c.requires in
    let kept = extended i.cells i.len i.spare i.free c.args.row c.self.invariant c.in-None.is some in
    let in_cells = has_room i.cells i.len i.spare i.free c.self.invariant c.in-None.is some in
    let all = puts i.cells i.len (i.len + 1) i.len c.args.row c.self.invariant.unfilled kept.unfilled in_cells (ap shown (c.self.invariant.unfilled i.len (omega arith))) in
    subst (λ l. Puts l (rows_of c.write-in-None.new.self (i.len + 1)) i.len c.args.row) (ap (λ m. m.items) c.self.view_is)
    (subst (λ k. Puts (rows_of i.cells i.len) (rows_of k (i.len + 1)) i.len c.args.row) (sym c.write-in-None.ensures) all)

pub returns-in-Some-clause-reuses : goal.returns-in-Some-clause-reuses
returns-in-Some-clause-reuses g c =
    let i = c.self.inside in
    let n = c.in-Some.first in
    let some : 1 ≤ i.spare = subst (λ k. 1 ≤ k) (sym (ap (λ m. m.spare) c.self.view_is)) c.requires in
    let kept = reused i.cells i.len n i.spare i.free c.get.result c.args.row c.self.invariant c.in-Some.is c.get.ensures some in
    let was : length c.args.self.now.items ≡ i.len = sym (ap (λ m. length m.items) c.self.view_is) ∙ shown_length i.cells i.len c.self.invariant.within in
    reuses_first c.args.self.now.items c.write.new.self i.len was (subst (λ l. i.len ≤ length l) (sym c.write.ensures) kept.within)

pub returns-in-None-clause-reuses : goal.returns-in-None-clause-reuses
returns-in-None-clause-reuses g c =
    let i = c.self.inside in
    let some : 1 ≤ i.spare = subst (λ k. 1 ≤ k) (sym (ap (λ m. m.spare) c.self.view_is)) c.requires in
    let kept = extended i.cells i.len i.spare i.free c.args.row c.self.invariant c.in-None.is some in
    let was : length c.args.self.now.items ≡ i.len = sym (ap (λ m. length m.items) c.self.view_is) ∙ shown_length i.cells i.len c.self.invariant.within in
    subst (λ l. Reuses c.args.self.now.items (rows_of l (i.len + 1))) (sym c.write-in-None.ensures)
    (reuses_next c.args.self.now.items (set i.cells i.len (Some (live c.args.row))) i.len (i.spare - 1) i.free kept c.in-None.is was)

pub returns-in-Some-clause-number : goal.returns-in-Some-clause-number
returns-in-Some-clause-number g c =
    let i = c.self.inside in
    sym (ap (λ f. taken_next f i.len) c.in-Some.is) ∙ ap (λ m. m.vacancy) c.self.view_is

pub returns-in-None-clause-number : goal.returns-in-None-clause-number
returns-in-None-clause-number g c =
    let i = c.self.inside in
    sym (ap (λ f. taken_next f i.len) c.in-None.is) ∙ ap (λ m. m.vacancy) c.self.view_is

pub returns-in-Some-clause-behind : goal.returns-in-Some-clause-behind
returns-in-Some-clause-behind g c h =
    let i = c.self.inside in
    let low = first_is_low i.cells i.len c.in-Some.first i.spare i.free c.self.invariant c.in-Some.is in
    let is : c.in-Some.first ≡ length (rows_of i.cells i.len) =
    sym (ap (λ f. taken_next f i.len) c.in-Some.is) ∙ ap (λ m. m.vacancy) c.self.view_is ∙ h ∙ sym (ap (λ m. length m.items) c.self.view_is)
    in
    absurd (omega (arith, low, is))

pub returns-in-None-clause-behind : goal.returns-in-None-clause-behind
returns-in-None-clause-behind g c h =
    let i = c.self.inside in
    let some : 1 ≤ i.spare = subst (λ k. 1 ≤ k) (sym (ap (λ m. m.spare) c.self.view_is)) c.requires in
    let in_cells = has_room i.cells i.len i.spare i.free c.self.invariant c.in-None.is some in
    let filled = Some (live c.args.row) in
    let now = set i.cells i.len filled in
    let size = length-set i.cells i.len filled in
    let long = shown_length now (i.len + 1) (omega (arith, size, in_cells)) in (
      ap (λ l. rows_of l (i.len + 1)) c.write-in-None.ensures ∙ shown_next i.cells i.len filled in_cells ∙ ap (λ m. m.items ++ Some c.args.row ∷ []) c.self.view_is,
      ap (λ f. taken_next f (i.len + 1)) c.in-None.is ∙ sym (ap (λ l. length (rows_of l (i.len + 1))) c.write-in-None.ensures ∙ long),
    )
