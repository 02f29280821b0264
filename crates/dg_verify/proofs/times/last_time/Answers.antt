use Rattle.dg_history.proofs.EventTimes.{last_time_is}
use Rattle.dg_verify.proofs.times.last_time.Goals as goal

pub returns-in-Some : goal.returns-in-Some
returns-in-Some c = last_time_is c.args.events.now c.in-Some.event.now c.in-Some.ensures.value
