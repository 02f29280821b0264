use Rattle.dg_dump_law.proofs.KeptRuns.{runs_keep}
use Rattle.dg_dump_law.proofs.laws.law_runs_keep_own_files.Goals as goal

pub returns : goal.returns
returns g c = runs_keep g.D.Disk c.law_answers_keep_histories_remade.ensures
