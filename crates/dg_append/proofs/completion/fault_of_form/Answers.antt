use Rattle.std.proofs.Common.{length, refl}
use Rattle.dg_current.specs.Now.{earliest_time_after}
use Rattle.dg_append.proofs.FrontRefusals.{front_fault, other_refused}
use Rattle.dg_append.proofs.completion.fault_of_form.Goals as goal

pub returns-in-Some-clause-fault : goal.returns-in-Some-clause-fault
returns-in-Some-clause-fault c rest = front_fault (earliest_time_after c.args.last) c.args.now.now.graph c.args.changes.now rest c.in-Some.fault c.in-Some.ensures.refused

pub returns-clause-fault : goal.returns-clause-fault
returns-clause-fault c rest =
    other_refused (earliest_time_after c.args.last) c.args.now.now.graph c.args.changes.now rest c.in_default.ensures.done.0 (length c.args.changes.now) c.in_default.ensures.done.1 refl
