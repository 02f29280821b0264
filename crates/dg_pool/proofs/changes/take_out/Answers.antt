use Rattle.std.proofs.Common.{Option, ℕ, IfNone, subst}
use Rattle.dg_cells.specs.Rows.{Lacks}
use Rattle.dg_pool.specs.Changes.{numbers_of}
use Rattle.dg_pool.proofs.ChangeCells.{writes_lacking}
use Rattle.dg_pool.proofs.changes.take_out.Goals as goal

pub returns-in_default-clause-writes : goal.returns-in_default-clause-writes
returns-in_default-clause-writes c =
    writes_lacking c.args.targets.now.states.now (numbers_of c.args.targets.now.slots.now) c.args.element.now c.args.cells.now c.facts.ensures
    (subst (λ (o : Option ℕ). IfNone o (Lacks c.args.cells.now c.args.element.now)) c.in_default.is c.find_near-found.ensures.lacks)
