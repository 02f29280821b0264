use Rattle.std.proofs.Common.{arith, ◌≤◌, ap, sym, subst}
use Rattle.dg_arena.proofs.Arena.{has_room}
use Rattle.dg_arena.proofs.rows.Rows.vacancy.Goals as goal

pub returns-in-None-clause-below : goal.returns-in-None-clause-below
returns-in-None-clause-below g c =
    let i = c.self.inside in
    let some : 1 ≤ i.spare = subst (λ k. 1 ≤ k) (sym (ap (λ m. m.spare) c.self.view_is)) c.requires in
    omega (arith, has_room i.cells i.len i.spare i.free c.self.invariant c.in-None.is some, c.self.invariant.few)
