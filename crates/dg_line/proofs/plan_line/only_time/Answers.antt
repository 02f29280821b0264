use Rattle.dg_changes.specs.ChangeGrammar.{time_of}
use Rattle.dg_line.proofs.VerbReaders.{one_made}
use Rattle.dg_line.proofs.plan_line.only_time.Goals as goal

pub returns : goal.returns
returns c = λ make. one_made time_of make c.args.words c.only_number.result c.only_number.ensures.number
