use Rattle.std.proofs.Common.{take}
use Rattle.dg_cells.specs.Rows.{is_current}
use Rattle.dg_pool.specs.Graphs.{picked, all_changed}
use Rattle.dg_pool.specs.Current.{TakesTo}
use Rattle.dg_pool.proofs.current.change_all.Given as goal

abbrev pub invariant-loop-element : goal.invariant-loop-element
invariant-loop-element l = TakesTo (all_changed l.on (take l.element-index l.items) (picked is_current l.initial.cells)) l.slots l.initial.cells l.cells l.passed
