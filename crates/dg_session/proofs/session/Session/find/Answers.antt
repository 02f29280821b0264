use Rattle.std.proofs.Common.{◌≡◌, ℕ, [], Option, length, map, refl, rules, sym, ◌∙◌, ap, subst}
use Rattle.dg_batch.specs.declared.halt.Halt.TheVariants as halt
use Rattle.dg_graph.specs.declared.element.Element.TheVariants as element
use Rattle.dg_machine.specs.declared.command.Command.{Command}
use Rattle.dg_machine.specs.declared.command.Command.TheVariants as command
use Rattle.dg_machine.specs.declared.reply.Refusal.TheVariants as refusal
use Rattle.dg_session.proofs.SessionFindStep.{find_answers, reply_found}
use Rattle.dg_session.proofs.SessionSteps.{handed_out, lacking_denies, refused_denies}
use Rattle.dg_session.specs.Parts.{Parts}
use Rattle.dg_session.specs.Session.{ComesTo, find_needs, refused_by}
use Rattle.dg_session.specs.SessionState.{SessionState}
use Rattle.dg_session.specs.ValuesSaid.{AreFound, kept_of}
use Rattle.dg_text.specs.Names.{number_of}
use Rattle.dg_session.proofs.session.Session.find.Goals as goal

pub returns-in-Some-clause-comes : goal.returns-in-Some-clause-comes
returns-in-Some-clause-comes c image =
    let p : Parts = c.args.self.now.parts in
    refused_denies (command.Find c.args.t c.args.key c.args.value) [] p p image image c.in-Some.refusal refl refl
    (ap (λ text. refused_by p 0 (find_needs c.args.t text)) (sym c.key_text-text.ensures) ∙ sym c.refused.ensures ∙ c.in-Some.is)

pub returns-in_err-ids-clause-comes : goal.returns-in_err-ids-clause-comes
returns-in_err-ids-clause-comes c image =
    let p : Parts = c.args.self.now.parts in
    let done : Command = command.Find c.args.t c.args.key c.args.value in
    handed_out c.from_residual.result (halt.Refusal refusal.OutOfMemory) (ComesTo done [] p image p image) c.from_residual.ensures
    (lacking_denies done [] p p image image refl refl refl (ap (λ text. refused_by p 0 (find_needs c.args.t text)) (sym c.key_text-text.ensures) ∙ sym c.refused.ensures ∙ c.in_default.is))

pub returns-in_err-nodes-clause-comes : goal.returns-in_err-nodes-clause-comes
returns-in_err-nodes-clause-comes c image =
    let p : Parts = c.args.self.now.parts in
    let done : Command = command.Find c.args.t c.args.key c.args.value in
    handed_out c.from_residual-in_err-nodes.result (halt.Refusal refusal.OutOfMemory) (ComesTo done [] p image p image) c.from_residual-in_err-nodes.ensures
    (lacking_denies done [] p p image image refl refl refl (ap (λ text. refused_by p 0 (find_needs c.args.t text)) (sym c.key_text-text.ensures) ∙ sym c.refused.ensures ∙ c.in_default.is))

pub returns-clause-comes : goal.returns-clause-comes
returns-clause-comes c image =
    let p : Parts = c.args.self.now.parts in
    let ids = c.in_ok-ids.ids.items in
    let nodes = c.in_ok-nodes.nodes.items in
    let names : c.self.inside.held.live.history.names ≡ p.names = ap (λ (x : SessionState). x.parts.names) c.self.view_is in
    let count : c.len.result ≡ length nodes = search rules in
    find_answers c.law_turns_stand_for_events.ensures c.law_found_nodes_are_there.ensures p c.args.t c.args.key c.args.value (kept_of c.in-Some-index_of.values.now)
    (ap (number_of p.names) (sym c.key_text-text.ensures) ∙ c.in-Some-index_of.ensures.key) c.in-Some-index_of.ensures.kept
    (ap (λ text. refused_by p 0 (find_needs c.args.t text)) (sym c.key_text-text.ensures) ∙ sym c.refused.ensures ∙ c.in_default.is) image ids _
    (subst (λ (o : Option ℕ). AreFound c.in-Some-index_of.values.now.turns c.args.t o ids) (c.number-value.ensures.number ∙ (λ i. number_of (names i) (c.value_text.ensures i))) c.in_ok-ids.ensures)
    (reply_found ids nodes c.len.result c.from_elements.result (c.in_ok-nodes.ensures ∙ (λ i. map (λ (id : ℕ). element.Node id) (c.deref.ensures.value i))) count c.from_elements.ensures)
