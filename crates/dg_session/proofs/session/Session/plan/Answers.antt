use Rattle.std.proofs.Common.{[], refl, sym, ◌∙◌, ap, subst}
use Rattle.dg_index.specs.OpenedIndex.{event_total}
use Rattle.dg_machine.specs.declared.command.Command.TheVariants as command
use Rattle.dg_machine.specs.declared.reply.Refusal.TheVariants as refusal
use Rattle.dg_machine.specs.Needs.{needs}
use Rattle.dg_machine.specs.Planning.{bases_in}
use Rattle.dg_retrieval.specs.KeptGraph.{kept_edges}
use Rattle.dg_session.specs.SessionState.{SessionState}
use Rattle.dg_batch.specs.declared.halt.Halt.TheVariants as halt
use Rattle.dg_session.specs.Parts.{Parts}
use Rattle.dg_ask.specs.Plans.{IsPlanReply}
use Rattle.dg_session.specs.Session.{Accepts, ComesTo}
use Rattle.dg_session.proofs.KeptPlannerGraphs.{graph_for}
use Rattle.dg_session.proofs.Needed.{has_needed}
use Rattle.dg_session.proofs.PlanStep.{inside_of, plan_answers}
use Rattle.dg_session.proofs.SessionSteps.{handed_out, lacking_denies, refused_denies}
use Rattle.dg_stored.specs.StoredHistory.{index_opening}
use Rattle.dg_session.proofs.session.Session.plan.Goals as goal

pub returns-in-Some-clause-comes : goal.returns-in-Some-clause-comes
returns-in-Some-clause-comes c image =
    let p : Parts = c.args.self.now.parts in
    refused_denies (command.Plan c.args.t c.args.cols) [] p p image image c.in-Some.refusal refl refl (sym c.refused.ensures ∙ c.in-Some.is)

pub plan_reply-requires-clause-nodes : goal.plan_reply-requires-clause-nodes
plan_reply-requires-clause-nodes c =
    (graph_for c.in-Some-index.index.opening c.self.inside.held.handles.table c.args.cols c.keep.new.self c.planner-planner.result.now c.keep.ensures.kept c.planner-planner.ensures.planner).nodes

pub plan_reply-requires-clause-there : goal.plan_reply-requires-clause-there
plan_reply-requires-clause-there c =
    let p : Parts = c.args.self.now.parts in
    inside_of p c.args.t c.in-Some-index.index.opening (ap (λ (x : SessionState). x.parts.index) (sym c.self.view_is) ∙ ap index_opening c.in-Some-index.is)
    (has_needed p 0 (needs (command.Plan c.args.t c.args.cols)) (sym c.refused.ensures ∙ c.in_default.is)).instants

pub returns-in_err-keep-clause-comes : goal.returns-in_err-keep-clause-comes
returns-in_err-keep-clause-comes c image =
    let p : Parts = c.args.self.now.parts in
    handed_out c.from_residual.result (halt.Refusal refusal.OutOfMemory) (ComesTo (command.Plan c.args.t c.args.cols) [] p image _ image) c.from_residual.ensures
    (lacking_denies (command.Plan c.args.t c.args.cols) [] p _ image image (ap (λ (x : SessionState). x.parts) c.self.view_is) refl refl (sym c.refused.ensures ∙ c.in_default.is))

pub returns-in_err-plan_reply-clause-comes : goal.returns-in_err-plan_reply-clause-comes
returns-in_err-plan_reply-clause-comes c image =
    let p : Parts = c.args.self.now.parts in
    handed_out c.from_residual-in_err-plan_reply.result (halt.Refusal refusal.OutOfMemory) (ComesTo (command.Plan c.args.t c.args.cols) [] p image _ image) c.from_residual-in_err-plan_reply.ensures
    (lacking_denies (command.Plan c.args.t c.args.cols) [] p _ image image (ap (λ (x : SessionState). x.parts) c.self.view_is) refl refl (sym c.refused.ensures ∙ c.in_default.is))

pub returns-clause-comes : goal.returns-clause-comes
returns-clause-comes c image =
    let p : Parts = c.args.self.now.parts in
    let o = c.in-Some-index.index.opening in
    let cols = c.args.cols in
    let reply = c.in_ok-plan_reply.field-0 in
    let same = ap (λ (x : SessionState). x.parts) c.self.view_is in
    let there = ap (λ (x : Parts). x.index) (sym same) ∙ ap index_opening c.in-Some-index.is in
    let graph = graph_for o c.self.inside.held.handles.table cols c.keep.new.self c.planner-planner.result.now c.keep.ensures.kept c.planner-planner.ensures.planner in
    let edges = graph.edges ∙ ap (λ (x : Parts). kept_edges o (event_total o.batches) cols (bases_in cols x.table)) same in
    let recent = c.deref.ensures.value ∙ ap (λ (x : Parts). x.recent) same in
    subst (λ (x : Parts). Accepts (command.Plan c.args.t cols) [] p image x image reply) (sym same)
    (plan_answers p c.args.t cols image o reply there (sym c.refused.ensures ∙ c.in_default.is)
    (subst (λ es. IsPlanReply o es (bases_in cols p.table) c.args.t cols reply) recent (c.in_ok-plan_reply.ensures (bases_in cols p.table) edges)))
