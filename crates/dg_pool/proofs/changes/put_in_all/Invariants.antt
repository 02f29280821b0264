use Rattle.std.proofs.Common.{take, true}
use Rattle.dg_pool.specs.Changes.{WritesDelta, AreGraphCounts, one_sided, numbers_of}
use Rattle.dg_pool.proofs.changes.put_in_all.Given as goal

abbrev pub invariant-loop-index : goal.invariant-loop-index
invariant-loop-index l = record {
  writes : WritesDelta l.targets.states.now (numbers_of l.targets.slots.now) (one_sided true (take l.index l.items)) l.initial.cells l.cells;
  counted : AreGraphCounts l.targets.states.now l.cells l.counts;
}
