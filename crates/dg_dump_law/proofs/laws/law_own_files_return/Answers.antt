use Rattle.dg_dump_law.proofs.KeptRuns.{own_files_return}
use Rattle.dg_dump_law.proofs.laws.law_own_files_return.Goals as goal

pub returns : goal.returns
returns g c = own_files_return g.C.Disk g.K.Sink g.D.Disk c.law_dumps_load_back.ensures
