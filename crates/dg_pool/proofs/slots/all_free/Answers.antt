use Rattle.dg_pool.specs.declared.slots.SlotState.TheVariants as states
use Rattle.dg_pool.proofs.Repetition.{all_same}
use Rattle.dg_pool.proofs.slots.all_free.Goals as goal

pub returns-clause-free : goal.returns-clause-free
returns-clause-free c = λ s. all_same 128 s states.Free
