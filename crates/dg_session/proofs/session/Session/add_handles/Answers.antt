use Rattle.std.proofs.Common.{◌≡◌, ℕ, ◌+◌, ◌++◌, List, Option, length, map, sym, ◌∙◌, ap, subst}
use Rattle.std.specs.List.{All}
use Rattle.std.proofs.lemmas.List.{length-map}
use Rattle.dg_append.specs.Overlays.{pool_of}
use Rattle.dg_retrieval.specs.NamesThere.{NamesAreThere}
use Rattle.dg_session.proofs.PoolOverlays.{now_of}
use Rattle.dg_session.proofs.GraphNames.{there_after, there_held, there_led}
use Rattle.dg_graph.specs.declared.element.Element.{Element}
use Rattle.dg_handles.specs.Handles.{slot_graphs, held_by, numbered, overlays_on}
use Rattle.dg_machine.specs.declared.stands.Stands.{Stands}
use Rattle.dg_pool.specs.Graphs.{graph_now}
use Rattle.dg_retrieval.specs.Beginnings.{GraphLead}
use Rattle.dg_retrieval.specs.Beginnings.{base_handle, leads_in, led_to}
use Rattle.dg_session.specs.contracts.session.Session.{the_view}
use Rattle.dg_ask.specs.KeptAdjacency.{KeepsAdjacency}
use Rattle.dg_session.specs.Parts.{Parts}
use Rattle.dg_session.specs.Reads.{bases_of, listed_by, with_new_handles}
use Rattle.dg_session.specs.SessionState.{SessionState}
use Rattle.dg_ask.proofs.KeptAdjacencies.{kept_after as adjacency_after}
use Rattle.dg_ask.proofs.HeldIndexHandles.{kept_after, nodes_after, on_three, overlays_length}
use Rattle.dg_session.proofs.session.Session.add_handles.Goals as goal

pub returns-clause-added : goal.returns-clause-added
returns-clause-added c =
    let leads : List GraphLead = leads_in c.args.leads.now in
    let cols = c.args.cols in
    let times = c.args.times.now in
    let bases : List (Option ℕ) = bases_of leads in
    let new : List Stands = overlays_on cols times bases in
    let view : Parts = (the_view c.self.inside).parts in
    let many : length new ≡ length times = overlays_length cols times bases (length-map leads (λ (l : GraphLead). base_handle l.begins) ∙ c.requires.leads) in
    let here : view ≡ c.args.self.now.parts = ap (λ (x : SessionState). x.parts) c.self.view_is ∙ c.overlay.ensures.parts in
    let is : c.deref_mut.result.now ≡ pool_of c.self.inside.held.live.pool = c.deref_mut.ensures.value ∙ ap pool_of (sym c.in-Some.is) in
    on_three c.add.result
    (λ table next graphs.
    let q : Parts = record view { table = c.add.new.self.table; graphs = slot_graphs c.add.new.pool c.add.new.self.slots; next = c.add.new.self.next } in
    let number : c.add.new.self.next ≡ view.next + length new = next ∙ ap (λ n. view.next + n) (sym many) in
    let lists : slot_graphs c.add.new.pool c.add.new.self.slots ≡ view.graphs ++ map (led_to view.graph (listed_by view) cols) leads =
    graphs
    ∙ ap (λ p. slot_graphs p c.self.inside.held.handles.slots ++ map (led_to (graph_now p) (held_by c.self.inside.held.handles.table (slot_graphs p c.self.inside.held.handles.slots)) cols) leads) is
    ∙ ap (λ (g : List Element). view.graphs ++ map (led_to g (listed_by view) cols) leads) (now_of view.graph c.self.inside.held.live.pool c.in-Some.pool c.in-Some.is c.self.invariant.1.live.pool) in
    let first : q ≡ with_new_handles view new (map (led_to view.graph (listed_by view) cols) leads) = (λ i. record view { table = table i; graphs = lists i; next = number i }) in
    first ∙ ap (λ (x : Parts). with_new_handles x new (map (led_to x.graph (listed_by x) cols) leads)) here)
    c.add.ensures.table c.add.ensures.next c.add.ensures.graphs

pub invariant_of-self : goal.invariant_of-self
invariant_of-self c =
    let index = (the_view c.self.inside).parts.index in
    let old = c.self.inside.held.handles in
    let pool = c.deref_mut.result.now in
    let here : pool ≡ pool_of c.self.inside.held.live.pool = c.deref_mut.ensures.value ∙ ap pool_of (sym c.in-Some.is) in
    let view : Parts = (the_view c.self.inside).parts in
    let on : graph_now pool ≡ view.graph = ap graph_now here ∙ now_of view.graph c.self.inside.held.live.pool c.in-Some.pool c.in-Some.is c.self.invariant.1.live.pool in
    let n : ℕ = length c.self.inside.held.live.history.names in
    let before : All (NamesAreThere n) (slot_graphs pool old.slots) = subst (λ p. All (NamesAreThere n) (slot_graphs p old.slots)) (sym here) c.self.invariant.1.handles.named in
    let bases : List (Option ℕ) = bases_of (leads_in c.args.leads.now) in (
      c.self.invariant.0,
      record {
        live = record { sound = c.self.invariant.1.live.sound; pool = c.add.ensures.now ∙ on };
        handles = record {
          tied = c.add.ensures.tied;
          nodes = nodes_after c.add.result index old c.add.new.self c.args.cols c.args.times.now bases c.add.ensures.table c.add.ensures.err c.self.invariant.1.handles.nodes;
          adjacency = adjacency_after c.add.result old c.add.new.self pool c.add.new.pool (numbered old.next (overlays_on c.args.cols c.args.times.now bases))
              (map (led_to (graph_now pool) (held_by old.table (slot_graphs pool old.slots)) c.args.cols) (leads_in c.args.leads.now)) c.self.inside.held.adjacency
              c.add.ensures.table c.add.ensures.graphs c.add.ensures.err c.add.ensures.graphs_err
              (subst (λ p. KeepsAdjacency old.table (slot_graphs p old.slots) c.self.inside.held.adjacency) (sym here) c.self.invariant.1.handles.adjacency);
          named = there_after n c.add.result old c.add.new.self pool c.add.new.pool
              (map (led_to (graph_now pool) (held_by old.table (slot_graphs pool old.slots)) c.args.cols) (leads_in c.args.leads.now)) c.add.ensures.graphs c.add.ensures.err c.add.ensures.graphs_err before
              (there_led n (graph_now pool) (held_by old.table (slot_graphs pool old.slots)) c.args.cols
              (subst (NamesAreThere n) (sym on) c.self.invariant.1.live.sound.named) (there_held n old.table (slot_graphs pool old.slots) before) (leads_in c.args.leads.now)
              (subst (λ (x : Parts). All (λ (l : GraphLead). NamesAreThere (length x.names) l.delta.plus) (leads_in c.args.leads.now)) (sym (ap (λ (x : SessionState). x.parts) c.self.view_is ∙ c.overlay.ensures.parts)) c.requires.named));
        };
      },
      kept_after c.add.result index old c.add.new.self c.self.inside.planner c.args.cols c.args.times.now bases c.add.ensures.table c.add.ensures.err c.self.invariant.2,
    )
