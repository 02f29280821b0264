use Rattle.std.proofs.Common.{sym, subst}
use Rattle.dg_append.proofs.FrontRefusals.{form_refused}
use Rattle.dg_append.proofs.completion.prepare.Goals as goal
use Rattle.dg_append.specs.Fronts.{IsFront}
use Rattle.dg_current.specs.Now.{earliest_time_after}

pub returns-in-Form-clause-refused : goal.returns-in-Form-clause-refused
returns-in-Form-clause-refused c all front =
    form_refused c.args.front (earliest_time_after c.args.last) c.args.now.now.graph c.deref-in-Form.result.now c.fault_of_form.result c.in-Form.is c.fault_of_form.ensures.fault all
    (subst (λ cs. IsFront c.args.front cs all) (sym c.deref-in-Form.ensures.value) front)
