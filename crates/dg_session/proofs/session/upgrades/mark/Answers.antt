use Rattle.std.proofs.Common.{ap}
use Rattle.dg_session.proofs.HeldIndexes.{held_upgraded}
use Rattle.dg_session.proofs.session.upgrades.mark.Goals as goal
use Rattle.dg_stored.specs.StoredHistory.{index_opening}

pub returns-in-Ok-clause-held : goal.returns-in-Ok-clause-held
returns-in-Ok-clause-held g c =
    held_upgraded c.args.held.now c.upgrade.new.self c.in-Some.index.opening (ap index_opening c.in-Some.is) c.in-Ok.ensures.done.index c.requires.held
