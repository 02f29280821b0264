use Rattle.std.proofs.Common.{Err, ◌∙◌, ap}
use Rattle.dg_batch.specs.declared.halt.Halt.TheVariants as halt
use Rattle.dg_batch.specs.declared.stop.Stop.TheVariants as stop
use Rattle.dg_session.proofs.CarriedSteps.{accepted_answers, carried_as, refused_answers, stopped_after, stopped_so}
use Rattle.dg_session.proofs.LimitStops.{not_ok, not_refused, refused_not_store, stop_is, stops_as}
use Rattle.dg_session.proofs.session.Session.step.Goals as goal

-- ---- it is answered

pub returns-in-Ok-clause-answers : goal.returns-in-Ok-clause-answers
returns-in-Ok-clause-answers g c =
    let r = c.carry_out-outcome.result in
    accepted_answers r c.in-Ok.reply c.in-Ok.is c.requires.image
    (carried_as c.forget_after.new.self r (c.forget_after.ensures.kept (λ e. not_ok r c.in-Ok.reply (halt.Stop stop.Store) e c.in-Ok.is)) c.carry_out-outcome.ensures.carries)

pub returns-in-Ok-clause-quiet : goal.returns-in-Ok-clause-quiet
returns-in-Ok-clause-quiet g c = c.carry_out-outcome.ensures.carries.reads_only

pub returns-in-Ok-clause-due : goal.returns-in-Ok-clause-due
returns-in-Ok-clause-due g c some at needs = absurd (not_ok c.carry_out-outcome.result c.in-Ok.reply (halt.Stop stop.Limit) (c.carry_out-outcome.ensures.due some at needs) c.in-Ok.is)

-- ---- it is refused

pub returns-in-Err-Refusal-clause-answers : goal.returns-in-Err-Refusal-clause-answers
returns-in-Err-Refusal-clause-answers g c =
    let r = c.carry_out-outcome.result in
    let why = c.in-Err-Refusal.refusal in
    let is = c.in-Err-Refusal.is ∙ ap (λ h. Err h) (rw c.in-Err-Refusal.is at c.in-Err-Refusal.field-0-is) in
    refused_answers r why is c.requires.image
    (carried_as c.forget_after.new.self r (c.forget_after.ensures.kept (refused_not_store r why is)) c.carry_out-outcome.ensures.carries)

pub returns-in-Err-Refusal-clause-quiet : goal.returns-in-Err-Refusal-clause-quiet
returns-in-Err-Refusal-clause-quiet g c = c.carry_out-outcome.ensures.carries.reads_only

pub returns-in-Err-Refusal-clause-due : goal.returns-in-Err-Refusal-clause-due
returns-in-Err-Refusal-clause-due g c some at needs =
    absurd (not_refused c.carry_out-outcome.result c.in-Err-Refusal.refusal (c.carry_out-outcome.ensures.due some at needs)
    (c.in-Err-Refusal.is ∙ ap (λ h. Err h) (rw c.in-Err-Refusal.is at c.in-Err-Refusal.field-0-is)))

-- ---- it is stopped

pub returns-in-Err-Stop-clause-stops : goal.returns-in-Err-Stop-clause-stops
returns-in-Err-Stop-clause-stops g c =
    let r = c.carry_out-outcome.result in
    let why = c.in-Err-Stop.stop in
    let is = c.in-Err-Stop.is ∙ ap (λ h. Err h) (rw c.in-Err-Stop.is at c.in-Err-Stop.field-0-is) in
    stopped_after c.forget_after.new.self why (λ other. c.forget_after.ensures.kept (λ e. other (stops_as r why stop.Store is e)))
    (stopped_so r why is c.carry_out-outcome.ensures.carries)

pub returns-in-Err-Stop-clause-quiet : goal.returns-in-Err-Stop-clause-quiet
returns-in-Err-Stop-clause-quiet g c = c.carry_out-outcome.ensures.carries.reads_only

pub returns-in-Err-Stop-clause-due : goal.returns-in-Err-Stop-clause-due
returns-in-Err-Stop-clause-due g c some at needs =
    ap (λ s. Err s) (stop_is c.carry_out-outcome.result c.in-Err-Stop.stop (c.carry_out-outcome.ensures.due some at needs)
    (c.in-Err-Stop.is ∙ ap (λ h. Err h) (rw c.in-Err-Stop.is at c.in-Err-Stop.field-0-is)))
