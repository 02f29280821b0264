use Rattle.dg_dump_law.proofs.LoadedScripts.{scripts_load}
use Rattle.dg_dump_law.proofs.laws.law_scripts_load.Goals as goal

pub returns : goal.returns
returns g c = scripts_load g.D.Disk c.law_scripts_make_nothing_else.ensures c.law_scripts_are_short.ensures
