use Rattle.std.proofs.Common.{[], length, refl, sym, ◌∙◌, ap, subst}
use Rattle.std.specs.List.{All}
use Rattle.dg_append.specs.Overlays.{pool_of}
use Rattle.dg_retrieval.specs.NamesThere.{NamesAreThere}
use Rattle.dg_session.proofs.GraphNames.{there_without}
use Rattle.dg_handles.specs.Handles.{slot_graphs}
use Rattle.dg_machine.specs.declared.command.Command.TheVariants as command
use Rattle.dg_machine.specs.MachineState.{dependent_on, without_handle}
use Rattle.dg_machine.specs.Needs.{needs}
use Rattle.dg_session.specs.contracts.session.Session.{the_view}
use Rattle.dg_ask.specs.HeldIndex.{HasNodeOf, HasNodes}
use Rattle.dg_ask.specs.KeptAdjacency.{KeepsAdjacency}
use Rattle.dg_ask.specs.KeptPlanner.{IsKeptFor}
use Rattle.dg_session.specs.Parts.{Parts}
use Rattle.dg_session.specs.SessionState.{SessionState}
use Rattle.dg_ask.proofs.KeptAdjacencies.{kept_without as adjacency_without}
use Rattle.dg_session.proofs.KeptPlanners.{kept_without}
use Rattle.dg_session.proofs.Needed.{has_needed}
use Rattle.dg_session.proofs.SessionReleaseStep.{all_without, parts_without, release_answers}
use Rattle.dg_session.proofs.SessionSteps.{refused_denies}
use Rattle.dg_stored.specs.StoredHistory.{index_opening}
use Rattle.dg_session.proofs.session.Session.release.Goals as goal

pub returns-in-Some-clause-comes : goal.returns-in-Some-clause-comes
returns-in-Some-clause-comes c image =
    let p : Parts = c.args.self.now.parts in
    refused_denies (command.Release c.args.handle) [] p p image image c.in-Some.refusal refl refl (sym c.refused.ensures ∙ c.in-Some.is)

pub give_up-requires-clause-unused : goal.give_up-requires-clause-unused
give_up-requires-clause-unused c =
    let h = c.args.handle in
    ap (λ (x : SessionState). dependent_on h x.parts.table) c.self.view_is
    ∙ (has_needed c.args.self.now.parts 0 (needs (command.Release h)) (sym c.refused.ensures ∙ c.in_default.is)).unused h refl

pub returns-clause-comes : goal.returns-clause-comes
returns-clause-comes c image =
    let h = c.args.handle in
    let p : Parts = c.args.self.now.parts in
    let view : Parts = (the_view c.self.inside).parts in
    let q_is = (λ i. let x : Parts = record view { table = c.give_up.ensures.table i; graphs = c.give_up.ensures.graphs i; next = c.give_up.ensures.next i } in x) ∙ ap (λ (x : SessionState). parts_without h x.parts) c.self.view_is in
    release_answers p _ h image c.headed.result (sym c.refused.ensures ∙ c.in_default.is) q_is c.headed.ensures

pub invariant_of-self : goal.invariant_of-self
invariant_of-self c =
    let s = c.self.inside in
    let h = c.args.handle in
    let index = index_opening s.held.live.history.index in (
      c.self.invariant.0,
      record {
        live = record { sound = c.self.invariant.1.live.sound; pool = c.give_up.ensures.now s.held.live.history.now.graph c.self.invariant.1.live.pool };
        handles = record {
          tied = c.give_up.ensures.tied;
          nodes = subst (HasNodes index) (sym c.give_up.ensures.table) (all_without (λ e. HasNodeOf index e.1) h s.held.handles.table c.self.invariant.1.handles.nodes);
          adjacency = subst (λ t. KeepsAdjacency t (slot_graphs (pool_of c.give_up.new.pool) c.give_up.new.handles.slots) c.forget_handle.new.self) (sym c.give_up.ensures.table)
              (subst (λ gs. KeepsAdjacency (without_handle h s.held.handles.table) gs c.forget_handle.new.self)
              (sym c.give_up.ensures.graphs)
              (adjacency_without h s.held.handles.table (slot_graphs (pool_of s.held.live.pool) s.held.handles.slots) s.held.adjacency c.forget_handle.new.self c.forget_handle.ensures c.self.invariant.1.handles.adjacency));
          named = subst (All (NamesAreThere (length s.held.live.history.names))) (sym c.give_up.ensures.graphs)
              (there_without (length s.held.live.history.names) h s.held.handles.table (slot_graphs (pool_of s.held.live.pool) s.held.handles.slots) c.self.invariant.1.handles.named);
        };
      },
      subst (λ t. IsKeptFor index t c.forget_base.new.planner) (sym c.give_up.ensures.table)
          (kept_without index c.in-Some-stands.stands s.planner c.forget_base.new.planner c.forget_base.ensures.base c.forget_base.ensures.other h s.held.handles.table (sym c.stands.ensures ∙ c.in-Some-stands.is) c.self.invariant.2),
    )
