use Rattle.std.proofs.Common.{◌∙◌, subst, sym}
use Rattle.std.proofs.lemmas.Option.{IfSome_then}
use Rattle.dg_retrieval.specs.NamesThere.{NamesAreThere}
use Rattle.dg_retrieval.proofs.CallRecords.{plan_told, set_failed, set_given}
use Rattle.dg_retrieval.proofs.NodeSetPlans.{from_nothing, set_led}
use Rattle.dg_retrieval.proofs.record_sets.plan_set.Goals as goal

pub returns-in_err-lead-clause-over : goal.returns-in_err-lead-clause-over
returns-in_err-lead-clause-over g c =
    IfSome_then (g.D.Disk.image c.args.disk.now) c.in_err-lead.ensures.over (λ im at z over. set_failed c.from_residual.result c.in_err-lead.field-0.0 c.from_residual.ensures (at z over))

pub returns-in_err-lead-clause-led : goal.returns-in_err-lead-clause-led
returns-in_err-lead-clause-led g c =
    plan_told c.args.from.now.name_count (g.D.Disk.image c.args.disk.now) c.args.from.now.index.now.opening c.args.from.now.planner.now.edges c.requires.over.edges c.args.node
    c.from_residual.result c.in_err-lead.field-0.0 c.from_residual.ensures c.in_err-lead.ensures.damage

pub returns-clause-led : goal.returns-clause-led
returns-clause-led g c =
    set_led c.args.from.now.name_count (g.D.Disk.image c.args.disk.now) c.args.from.now.index.now.opening c.args.from.now.planner.now.edges c.requires.over.edges c.args.node c.in_ok-lead.lead.delta c.in_ok-lead.ensures.done.led _
    (c.into_sets-set.ensures.plus ∙ from_nothing c.in_ok-lead.lead.delta c.into_sets-set.ensures.delta)

pub returns-clause-over : goal.returns-clause-over
returns-clause-over g c =
    set_given c.args.from.now.name_count (g.D.Disk.image c.args.disk.now) c.args.from.now.index.now.opening c.args.from.now.planner.now.edges c.requires.over.edges c.args.node _ _ c.in_ok-lead.lead c.in_ok-lead.ensures.done.plan c.in_ok-lead.ensures.over _
    (c.into_sets-set.ensures.plus ∙ from_nothing c.in_ok-lead.lead.delta c.into_sets-set.ensures.delta)

pub returns-clause-named : goal.returns-clause-named
returns-clause-named g c = subst (NamesAreThere c.args.from.now.name_count) (sym c.into_sets-set.ensures.plus) c.in_ok-lead.ensures.done.named
