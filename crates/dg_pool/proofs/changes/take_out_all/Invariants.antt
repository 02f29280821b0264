use Rattle.std.proofs.Common.{take, false}
use Rattle.dg_pool.specs.Changes.{WritesDelta, AreGraphCounts, one_sided, numbers_of}
use Rattle.dg_pool.proofs.changes.take_out_all.Given as goal

abbrev pub invariant-loop-element : goal.invariant-loop-element
invariant-loop-element l = record {
  writes : WritesDelta l.targets.states.now (numbers_of l.targets.slots.now) (one_sided false (take l.element-index l.items)) l.initial.cells l.cells;
  counted : AreGraphCounts l.targets.states.now l.cells l.counts;
}
