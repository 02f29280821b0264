use Rattle.dg_changes.specs.ChangeGrammar.{Plain, id_of}
use Rattle.dg_line.proofs.VerbReaders.{one_made}
use Rattle.dg_line.proofs.change.only_id.Goals as goal

pub returns : goal.returns
returns c = λ make. one_made id_of (λ n. Plain (make n)) c.args.words c.only_number.result c.only_number.ensures.number
