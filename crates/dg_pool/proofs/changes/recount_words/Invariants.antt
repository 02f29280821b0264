use Rattle.std.proofs.Common.{◌≡◌, Some, length}
use Rattle.dg_cells.specs.Rows.{Row, cell_at}
use Rattle.dg_pool.specs.Changes.{numbers_of}
use Rattle.dg_pool.proofs.WordCounts.{RecountsBelow}
use Rattle.dg_pool.proofs.changes.recount_words.Given as goal

abbrev pub invariant-loop-word : goal.invariant-loop-word
invariant-loop-word l = record {
  len : length l.counts ≡ 128;
  counts : (r : Row) → cell_at l.cells l.n ≡ Some r → RecountsBelow l.targets.states.now (numbers_of l.targets.slots.now) l.own r l.initial.counts l.word l.counts;
}
