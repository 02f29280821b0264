use Rattle.dg_cells.specs.Rows.{is_current}
use Rattle.dg_pool.specs.Graphs.{slot_at}
use Rattle.dg_pool.proofs.GraphSets.{picked_set}
use Rattle.dg_pool.proofs.SweepUnions.{IsSet-members}
use Rattle.dg_pool.proofs.pool.Pool.facts.Goals as goal

pub returns-clause-sets : goal.returns-clause-sets
returns-clause-sets c = λ s. IsSet-members c.args.self.now.rows s (slot_at c.args.self.now.slots s)

pub returns-clause-now : goal.returns-clause-now
returns-clause-now c = picked_set is_current c.args.self.now.rows
