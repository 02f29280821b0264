use Rattle.dg_build.proofs.SpelledRecordLists.{last_is}
use Rattle.dg_build.proofs.records.last_time.Goals as goal

pub returns-else-is_empty : goal.returns-else-is_empty
returns-else-is_empty c = last_is 0 c.args.events.now
