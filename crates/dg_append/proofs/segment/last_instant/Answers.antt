use Rattle.dg_history.proofs.EventTimes.{last_time_is}
use Rattle.dg_append.proofs.segment.last_instant.Goals as goal

pub returns-in-Some : goal.returns-in-Some
returns-in-Some c = last_time_is c.args.events.now c.in-Some.last.now c.in-Some.ensures.value
