use Rattle.std.proofs.Common.{[], ◌∷◌, subst, ◌∙◌}
use Rattle.std.proofs.lemmas.Option.{IfSome_then}
use Rattle.dg_fold.specs.Parts.{Folds, parts_in}
use Rattle.dg_plan.specs.TreePaths.{edges_at}
use Rattle.dg_fold.specs.Faults.{of_fold}
use Rattle.dg_records.specs.Faults.{of_fetch}
use Rattle.dg_retrieval.proofs.CallRecords.{damage_told, fetch_is_none, node_failed, of_both, of_three}
use Rattle.dg_retrieval.proofs.NamesThere.{folded_there}
use Rattle.dg_retrieval.proofs.NodeSetPlans.{plan_damaged, plan_entered, plan_kept, plan_led, plan_most, plan_never, plan_set_is, plan_takes, plan_whole}
use Rattle.dg_retrieval.proofs.node_lead.retrieve_node.Goals as goal

pub fold-requires-clause-kept : goal.fold-requires-clause-kept
fold-requires-clause-kept g c = λ lifetimes within.
    let along = c.deref-2.ensures.value ∙ c.in_ok-walk.ensures ∙ (λ i. edges_at (c.edges.ensures i) (c.deref.ensures.value i)) in
    plan_kept c.args.from.now.index.now.opening c.args.from.now.cols c.args.from.now.planner.now.edges c.requires.over.edges c.args.node c.in_ok-route.route.steps.items c.in_ok-route.ensures.plan _ along c.facts.ensures.parameters c.facts.ensures.kept

pub fold-requires-clause-entered : goal.fold-requires-clause-entered
fold-requires-clause-entered g c = λ lifetimes within.
    let along = c.deref-2.ensures.value ∙ c.in_ok-walk.ensures ∙ (λ i. edges_at (c.edges.ensures i) (c.deref.ensures.value i)) in
    plan_entered c.args.from.now.index.now.opening c.args.from.now.cols c.args.from.now.planner.now.edges c.requires.over.edges c.args.node c.in_ok-route.route.steps.items c.in_ok-route.ensures.plan _ along

pub returns-in_err-folded-clause-over : goal.returns-in_err-folded-clause-over
returns-in_err-folded-clause-over g c =
    let along = c.deref-2.ensures.value ∙ c.in_ok-walk.ensures ∙ (λ i. edges_at (c.edges.ensures i) (c.deref.ensures.value i)) in
    let image = g.D.Disk.image c.args.disk.now in
    IfSome_then image
    (plan_most c.args.from.now.index.now.opening c.args.from.now.cols c.args.from.now.planner.now.edges c.requires.over.edges c.args.node c.in_ok-route.route.steps.items c.in_ok-route.ensures.plan _ along c.args.from.now.name_count _ _ _ c.fold.ensures.most)
    (λ im most z over. node_failed c.from_residual-in_err-folded.result (of_fetch c.in_err-folded.field-0.0) c.from_residual-in_err-folded.ensures (most z over) (fetch_is_none c.in_err-folded.field-0.0))

pub returns-in_err-delta-clause-over : goal.returns-in_err-delta-clause-over
returns-in_err-delta-clause-over g c =
    let along = c.deref-2.ensures.value ∙ c.in_ok-walk.ensures ∙ (λ i. edges_at (c.edges.ensures i) (c.deref.ensures.value i)) in
    let image = g.D.Disk.image c.args.disk.now in
    let read = c.in_ok-folded.ensures.folded in
    of_both image
    (plan_most c.args.from.now.index.now.opening c.args.from.now.cols c.args.from.now.planner.now.edges c.requires.over.edges c.args.node c.in_ok-route.route.steps.items c.in_ok-route.ensures.plan _ along c.args.from.now.name_count _ _ _ c.fold.ensures.most)
    (plan_never c.args.from.now.index.now.opening c.args.from.now.cols c.args.from.now.planner.now.edges c.requires.over.edges c.args.node c.in_ok-route.route.steps.items c.in_ok-route.ensures.plan _ along c.args.from.now.name_count image read.0 read.2 c.in_err-delta.field-0.0 (subst (λ r. Folds r (parts_in c.args.from.now.name_count read.0)) c.in_err-delta.was read.1))
    (λ im most none z over. node_failed c.from_residual-in_err-delta.result (of_fold c.in_err-delta.field-0.0) c.from_residual-in_err-delta.ensures (most z over) (none z over))

pub returns-in_err-delta-clause-damage : goal.returns-in_err-delta-clause-damage
returns-in_err-delta-clause-damage g c =
    let along = c.deref-2.ensures.value ∙ c.in_ok-walk.ensures ∙ (λ i. edges_at (c.edges.ensures i) (c.deref.ensures.value i)) in
    let image = g.D.Disk.image c.args.disk.now in
    let read = c.in_ok-folded.ensures.folded in
    damage_told c.args.from.now.name_count c.args.from.now.planner.now.edges c.args.from.now.index.now.opening c.args.from.now.cols (c.args.node ∷ []) image c.from_residual-in_err-delta.result (of_fold c.in_err-delta.field-0.0) c.from_residual-in_err-delta.ensures
    (plan_damaged c.args.from.now.index.now.opening c.args.from.now.cols c.args.from.now.planner.now.edges c.requires.over.edges c.args.node c.in_ok-route.route.steps.items c.in_ok-route.ensures.plan _ along c.args.from.now.name_count image read.0 read.2 c.in_err-delta.field-0.0 (subst (λ r. Folds r (parts_in c.args.from.now.name_count read.0)) c.in_err-delta.was read.1))

pub returns-clause-done : goal.returns-clause-done
returns-clause-done g c =
    let along = c.deref-2.ensures.value ∙ c.in_ok-walk.ensures ∙ (λ i. edges_at (c.edges.ensures i) (c.deref.ensures.value i)) in
    let image = g.D.Disk.image c.args.disk.now in
    let read = c.in_ok-folded.ensures.folded in
    record {
      plan = (c.in_ok-route.route.steps.items, c.in_ok-route.ensures.plan, c.in_ok-route.ensures.weight);
      led = plan_led c.args.from.now.index.now.opening c.args.from.now.cols c.args.from.now.planner.now.edges c.requires.over.edges c.args.node c.in_ok-route.route.steps.items c.in_ok-route.ensures.plan _ along c.args.from.now.name_count image read.0 read.2 c.in_ok-delta.delta (subst (λ r. Folds r (parts_in c.args.from.now.name_count read.0)) c.in_ok-delta.was read.1);
      named = folded_there c.args.from.now.name_count read.0 c.in_ok-delta.delta (subst (λ r. Folds r (parts_in c.args.from.now.name_count read.0)) c.in_ok-delta.was read.1);
    }

pub returns-clause-over : goal.returns-clause-over
returns-clause-over g c =
    let along = c.deref-2.ensures.value ∙ c.in_ok-walk.ensures ∙ (λ i. edges_at (c.edges.ensures i) (c.deref.ensures.value i)) in
    let image = g.D.Disk.image c.args.disk.now in
    let read = c.in_ok-folded.ensures.folded in
    of_three image
    (plan_set_is c.args.from.now.index.now.opening c.args.from.now.cols c.args.from.now.planner.now.edges c.requires.over.edges c.args.node c.in_ok-route.route.steps.items c.in_ok-route.ensures.plan _ along c.args.from.now.name_count image read.0 read.2 c.in_ok-delta.delta (subst (λ r. Folds r (parts_in c.args.from.now.name_count read.0)) c.in_ok-delta.was read.1))
    (plan_takes c.args.from.now.index.now.opening c.args.from.now.cols c.args.from.now.planner.now.edges c.requires.over.edges c.args.node c.in_ok-route.route.steps.items c.in_ok-route.ensures.plan _ along c.args.from.now.name_count _ c.in_ok-route.route.weight _ _ c.in_ok-route.ensures.weight c.in_ok-folded.ensures.takes)
    (plan_most c.args.from.now.index.now.opening c.args.from.now.cols c.args.from.now.planner.now.edges c.requires.over.edges c.args.node c.in_ok-route.route.steps.items c.in_ok-route.ensures.plan _ along c.args.from.now.name_count _ _ _ c.fold.ensures.most)
    (λ im s t m z over. record { set = s z over; takes = t z over; most = m z over; never = tt })

pub returns-clause-damage : goal.returns-clause-damage
returns-clause-damage g c =
    let along = c.deref-2.ensures.value ∙ c.in_ok-walk.ensures ∙ (λ i. edges_at (c.edges.ensures i) (c.deref.ensures.value i)) in
    let image = g.D.Disk.image c.args.disk.now in
    let read = c.in_ok-folded.ensures.folded in
    plan_whole c.args.from.now.index.now.opening c.args.from.now.cols c.args.from.now.planner.now.edges c.requires.over.edges c.args.node c.in_ok-route.route.steps.items c.in_ok-route.ensures.plan _ along c.args.from.now.name_count image read.0 read.2 c.in_ok-delta.delta (subst (λ r. Folds r (parts_in c.args.from.now.name_count read.0)) c.in_ok-delta.was read.1)
