use Rattle.std.proofs.Common.{◌≡◌, ℕ, List, [], ◌∷◌, length, sym, ◌∙◌, ap, subst}
use Rattle.std.proofs.lemmas.List.Elements.{All-cons, All-nil}
use Rattle.std.specs.List.{All}
use Rattle.dg_append.specs.Overlays.{pool_of}
use Rattle.dg_ask.proofs.HeldIndexHandles.{set_after}
use Rattle.dg_ask.proofs.KeptAdjacencies.{kept_after as adjacency_after}
use Rattle.dg_ask.specs.HeldIndex.{HasNodeOf}
use Rattle.dg_ask.specs.KeptAdjacency.{KeepsAdjacency}
use Rattle.dg_graph.specs.Composition.{applied}
use Rattle.dg_graph.specs.declared.element.Element.{Element}
use Rattle.dg_graph.specs.Elements.{shown}
use Rattle.dg_handles.specs.Handles.{slot_graphs, with_messages}
use Rattle.dg_pool.specs.Graphs.{graph_now}
use Rattle.dg_retrieval.specs.NamesThere.{NamesAreThere}
use Rattle.dg_session.proofs.GraphNames.{there_after, there_base}
use Rattle.dg_session.proofs.KeptPlanners.{kept_with}
use Rattle.dg_session.proofs.PoolOverlays.{now_of}
use Rattle.dg_session.specs.contracts.session.Session.{the_view}
use Rattle.dg_session.specs.Parts.{Parts}
use Rattle.dg_session.specs.SessionState.{SessionState}
use Rattle.dg_session.proofs.session.Session.add_set.Goals as goal

pub invariant_of-self : goal.invariant_of-self
invariant_of-self c =
    let s = c.self.inside in
    let pool = c.deref_mut.result.now in
    let here : pool ≡ pool_of s.held.live.pool = c.deref_mut.ensures.value ∙ ap pool_of (sym c.in-Some.is) in
    let r = c.add_set in
    let stands = c.args.stands in
    let delta = c.args.delta.now in
    let graph : List Element = shown (applied delta []) (with_messages stands.cols) in
    let n : ℕ = length s.held.live.history.names in
    let view : Parts = (the_view s).parts in
    let same : view ≡ c.args.self.now.parts = ap (λ (x : SessionState). x.parts) c.self.view_is ∙ c.overlay.ensures.parts in
    let there : NamesAreThere n delta.plus = subst (λ (x : Parts). NamesAreThere (length x.names) delta.plus) (sym same) c.requires.named in (
      c.self.invariant.0,
      record {
        live = record { sound = c.self.invariant.1.live.sound; pool = r.ensures.now ∙ ap graph_now here ∙ now_of view.graph s.held.live.pool c.in-Some.pool c.in-Some.is c.self.invariant.1.live.pool };
        handles = record {
          tied = r.ensures.tied;
          nodes = set_after r.result view.index s.held.handles r.new.self stands r.ensures.table r.ensures.err (subst (λ (x : Parts). HasNodeOf x.index stands) (sym same) c.requires.node) c.self.invariant.1.handles.nodes;
          adjacency = adjacency_after r.result s.held.handles r.new.self pool r.new.pool ((s.held.handles.next, stands) ∷ []) (graph ∷ []) s.held.adjacency
              r.ensures.table r.ensures.graphs r.ensures.err r.ensures.graphs_err (subst (λ p. KeepsAdjacency s.held.handles.table (slot_graphs p s.held.handles.slots) s.held.adjacency) (sym here) c.self.invariant.1.handles.adjacency);
          named = there_after n r.result s.held.handles r.new.self pool r.new.pool (graph ∷ []) r.ensures.graphs r.ensures.err r.ensures.graphs_err
              (subst (λ p. All (NamesAreThere n) (slot_graphs p s.held.handles.slots)) (sym here) c.self.invariant.1.handles.named)
              (All-cons (NamesAreThere n) graph [] (there_base n delta (with_messages stands.cols) there) (All-nil (NamesAreThere n)));
        };
      },
      kept_with view.index stands s.planner c.forget_base.new.planner c.forget_base.ensures.base c.forget_base.ensures.other r.result s.held.handles r.new.self r.ensures.table r.ensures.err c.self.invariant.2,
    )
