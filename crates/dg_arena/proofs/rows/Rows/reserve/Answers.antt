use Rattle.std.proofs.Common.{arith, ℕ, ◌+◌, ◌-◌, ◌*◌, ◌/◌, map, sym, subst}
use Rattle.std.proofs.lemmas.List.{length-map}
use Rattle.dg_arena.specs.Cells.{shown, IsArena}
use Rattle.dg_arena.proofs.Vacancies.{vacant_at_most}
use Rattle.dg_arena.proofs.Arena.{grown, spare_few}
use Rattle.dg_arena.proofs.rows.Rows.reserve.Goals as goal

pub overflow_add-self : goal.overflow_add-self
overflow_add-self g c =
    let i = c.self.inside in
    record { fits = omega (arith, c.self.invariant.count, vacant_at_most (map shown i.cells), length-map i.cells shown, c.self.invariant.few, c.len.ensures, c.if-chunks-len.false) }

pub invariant_of-self-2 : goal.invariant_of-self-2
invariant_of-self-2 g c =
    let i = c.self.inside in
    let k : ℕ = ((c.args.cells - i.spare - 1) / 1024 + 1) * 1024 in
    subst (λ l. IsArena l i.len i.free (i.spare + k)) (sym c.in_ok-grow.ensures.ok)
    (grown i.cells i.len i.spare k i.free c.self.invariant (omega (arith, c.self.invariant.few, c.len.ensures, c.if-chunks-len.false)))

pub returns-then-cells-self-clause-most : goal.returns-then-cells-self-clause-most
returns-then-cells-self-clause-most g c =
    let i = c.self.inside in
    omega (arith, spare_few i.cells i.len i.spare i.free c.self.invariant, c.self.invariant.few, c.if-cells-self.true)

pub returns-clause-most : goal.returns-clause-most
returns-clause-most g c =
    let i = c.self.inside in
    omega (arith, spare_few i.cells i.len i.spare i.free c.self.invariant, c.self.invariant.few, c.len.ensures, c.if-chunks-len.false)
