use Rattle.std.proofs.Common.{take}
use Rattle.dg_cells.specs.Rows.{Writes}
use Rattle.dg_pool.proofs.CurrentGraph.{PinsListed}
use Rattle.dg_pool.proofs.current.pin.Given as goal

abbrev pub invariant-loop-slot : goal.invariant-loop-slot
invariant-loop-slot l = Writes l.initial.cells l.cells l.n (PinsListed l.slots (take l.slot-index l.on_now))
