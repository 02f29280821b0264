use Rattle.std.proofs.Common.{◌≡◌, ℕ, [], length, refl, sym, ◌∙◌, ap, subst}
use Rattle.std.specs.List.{All}
use Rattle.std.specs.Prelude.{is_some}
use Rattle.dg_append.specs.Overlays.{pool_of}
use Rattle.dg_ask.proofs.KeptAdjacencies.{serves}
use Rattle.dg_ask.specs.KeptAdjacency.{BothServe}
use Rattle.dg_batch.specs.declared.halt.Halt.TheVariants as halt
use Rattle.dg_handles.specs.Handles.{graph_among, slot_graphs}
use Rattle.dg_machine.specs.declared.command.Command.TheVariants as command
use Rattle.dg_machine.specs.declared.reply.Refusal.TheVariants as refusal
use Rattle.dg_machine.specs.Answer.{columns_if, query_reply}
use Rattle.dg_machine.specs.MachineState.{stands_at}
use Rattle.dg_retrieval.specs.NamesThere.{NamesAreThere}
use Rattle.dg_machine.specs.Needs.{needs}
use Rattle.dg_session.proofs.Needed.{has_needed}
use Rattle.dg_session.proofs.SessionQueryStep.{ask_answers, ask_refused, held_asked}
use Rattle.dg_session.proofs.SessionSteps.{handed_out, lacking_denies, refused_denies}
use Rattle.dg_session.specs.Parts.{Parts}
use Rattle.dg_session.specs.Session.{Accepts, ComesTo}
use Rattle.dg_session.specs.SessionState.{SessionState}
use Rattle.dg_session.proofs.session.Session.ask.Goals as goal

pub returns-in-Some-clause-comes : goal.returns-in-Some-clause-comes
returns-in-Some-clause-comes c image =
    let p : Parts = c.args.self.now.parts in
    refused_denies (command.Ask c.args.handle c.args.query) [] p p image image c.in-Some.refusal refl refl
    (ask_refused p c.args.handle c.args.query c.is_of_nodes.result c.is_of_nodes.ensures ∙ sym c.refused.ensures ∙ c.in-Some.is)

pub asked_graph-asked-requires-clause-live : goal.asked_graph-asked-requires-clause-live
asked_graph-asked-requires-clause-live c =
    let h = c.args.handle in
    let p : Parts = c.args.self.now.parts in
    let free = ask_refused p h c.args.query c.is_of_nodes.result c.is_of_nodes.ensures ∙ sym c.refused.ensures ∙ c.in_default.is in
    ap (λ (x : SessionState). is_some (stands_at h x.parts.table)) c.self.view_is ∙ (has_needed p 0 (needs (command.Ask h c.args.query)) free).handle h refl

pub answer-requires : goal.answer-requires
answer-requires c =
    let s = c.self.inside in
    let a = c.asked_graph-asked in
    record {
      kept = subst (λ (n : ℕ). BothServe n a.result.graph s.held.adjacency) (sym a.ensures.handle)
          (serves c.args.handle s.held.handles.table (slot_graphs (pool_of s.held.live.pool) s.held.handles.slots) a.result.graph s.held.adjacency a.ensures.graph c.self.invariant.1.handles.adjacency);
    }

pub returns-in_err-answer-clause-comes : goal.returns-in_err-answer-clause-comes
returns-in_err-answer-clause-comes c image =
    let h = c.args.handle in
    let q = c.args.query in
    let p : Parts = c.args.self.now.parts in
    let r = c.from_residual in
    let free = ask_refused p h q c.is_of_nodes.result c.is_of_nodes.ensures ∙ sym c.refused.ensures ∙ c.in_default.is in
    subst (λ (x : Parts). ComesTo (command.Ask h q) [] p image x image r.result) (sym (ap (λ (x : SessionState). x.parts) c.self.view_is))
    (handed_out r.result (halt.Refusal refusal.OutOfMemory) (ComesTo (command.Ask h q) [] p image p image) r.ensures
    (lacking_denies (command.Ask h q) [] p p image image refl refl c.in_err-answer.ensures.memory free))

pub returns-clause-comes : goal.returns-clause-comes
returns-clause-comes c image =
    let h = c.args.handle in
    let q = c.args.query in
    let p : Parts = c.args.self.now.parts in
    let a = c.asked_graph-asked in
    let reply = c.in_ok-answer.field-0 in
    let free = ask_refused p h q c.is_of_nodes.result c.is_of_nodes.ensures ∙ sym c.refused.ensures ∙ c.in_default.is in
    let found = ap (λ (x : SessionState). graph_among h x.parts.table x.parts.graphs) (sym c.self.view_is) ∙ a.ensures.graph in
    let is : reply ≡ query_reply q h (columns_if (stands_at h p.table)) a.result.graph =
    c.in_ok-answer.ensures.reply ∙ (λ i. query_reply q (a.ensures.handle i) (a.ensures.columns i) a.result.graph)
    ∙ ap (λ (x : SessionState). query_reply q h (columns_if (stands_at h x.parts.table)) a.result.graph) c.self.view_is in
    subst (λ (x : Parts). Accepts (command.Ask h q) [] p image x image reply) (sym (ap (λ (x : SessionState). x.parts) c.self.view_is))
    (ask_answers h q p a.result.graph image reply free found is
    (subst (λ (x : SessionState). All (NamesAreThere (length x.parts.names)) x.parts.graphs) c.self.view_is c.self.invariant.1.handles.named))

pub invariant_of-self : goal.invariant_of-self
invariant_of-self c =
    let a = c.asked_graph-asked in (
      c.self.invariant.0,
      held_asked c.self.inside.held c.args.handle a.result.handle a.result.graph c.answer.new.kept c.self.invariant.1 a.ensures.graph a.ensures.handle c.answer.ensures.kept,
      c.self.invariant.2,
    )

pub invariant_of-self-2 : goal.invariant_of-self-2
invariant_of-self-2 c =
    let a = c.asked_graph-asked in (
      c.self.invariant.0,
      held_asked c.self.inside.held c.args.handle a.result.handle a.result.graph c.answer.new.kept c.self.invariant.1 a.ensures.graph a.ensures.handle c.answer.ensures.kept,
      c.self.invariant.2,
    )
