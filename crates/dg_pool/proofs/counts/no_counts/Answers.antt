use Rattle.dg_pool.specs.Counts.{no_elements}
use Rattle.dg_pool.proofs.Repetition.{all_same}
use Rattle.dg_pool.proofs.counts.no_counts.Goals as goal

pub returns-clause-none : goal.returns-clause-none
returns-clause-none c = λ s. all_same 128 s no_elements
