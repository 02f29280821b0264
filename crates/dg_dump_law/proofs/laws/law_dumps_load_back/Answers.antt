use Rattle.dg_dump_law.proofs.LoadedScripts.{dumps_load_back}
use Rattle.dg_dump_law.proofs.laws.law_dumps_load_back.Goals as goal

pub returns : goal.returns
returns g c = dumps_load_back g.C.Disk g.K.Sink g.D.Disk c.law_scripts_load.ensures
