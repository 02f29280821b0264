use Rattle.dg_session.proofs.SessionStartChecks.{begins_determined}
use Rattle.dg_session.proofs.laws.law_begins_are_determined.Goals as goal

pub returns : goal.returns
returns c = begins_determined c.law_starts_are_determined.ensures
