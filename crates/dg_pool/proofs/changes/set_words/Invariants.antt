use Rattle.std.proofs.Common.{true}
use Rattle.dg_cells.specs.Rows.{Writes}
use Rattle.dg_pool.specs.Changes.{numbers_of}
use Rattle.dg_pool.proofs.WordPairs.{SetsPairsBelow}
use Rattle.dg_pool.proofs.changes.set_words.Given as goal

abbrev pub invariant-loop-word : goal.invariant-loop-word
invariant-loop-word l = Writes l.initial.cells l.cells l.n (SetsPairsBelow l.word (numbers_of l.targets.slots.now) (true, l.own))
