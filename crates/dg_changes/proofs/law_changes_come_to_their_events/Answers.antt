use Rattle.dg_changes.proofs.ChangeEvents.{changes_come}
use Rattle.dg_changes.proofs.law_changes_come_to_their_events.Goals as goal

pub returns : goal.returns
returns c = changes_come
