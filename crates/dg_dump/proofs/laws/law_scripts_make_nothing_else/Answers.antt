use Rattle.dg_dump.proofs.OneRun.{nothing_else}
use Rattle.dg_dump.proofs.laws.law_scripts_make_nothing_else.Goals as goal

pub returns : goal.returns
returns c = nothing_else c.law_machine_is_determined.ensures
