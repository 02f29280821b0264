use Rattle.std.proofs.Common.{◌≡◌, ℕ, List, [], None, Some, sym, ◌∙◌, ap, subst}
use Rattle.std.specs.Prelude.{Option, unwrap_or}
use Rattle.dg_append.specs.Overlays.{pool_of}
use Rattle.dg_graph.specs.declared.element.Element.{Element}
use Rattle.dg_graph.specs.Elements.{IsSet}
use Rattle.dg_handles.specs.Handles.{graph_among, members_at, slot_graphs}
use Rattle.dg_session.proofs.GraphSets.{among_set}
use Rattle.dg_session.proofs.PoolOverlays.{none_found}
use Rattle.dg_session.proofs.graph_sets.set_of_handle.Goals as goal

pub returns-in_default : goal.returns-in_default
returns-in_default c =
    c.new.ensures ∙ sym (ap (λ (o : Option (List Element)). unwrap_or o []) (none_found c.args.handles.now c.args.pool.now c.in_default.is c.requires.tied c.args.handle))

pub returns-in-None : goal.returns-in-None
returns-in-None c =
    let h = c.args.handles.now in
    let found : graph_among c.args.handle h.table (slot_graphs (pool_of c.args.pool.now) h.slots) ≡ None =
    ap (λ p. graph_among c.args.handle h.table (slot_graphs p h.slots)) (ap pool_of c.in-Some.is ∙ sym c.deref-2.ensures) ∙ sym c.view.ensures.graph ∙ c.in-None.is in
    c.new-in-None.ensures ∙ sym (ap (λ (o : Option (List Element)). unwrap_or o []) found)

pub from_rising-requires : goal.from_rising-requires
from_rising-requires c =
    let h = c.args.handles.now in
    subst IsSet (sym c.in_ok-elements-in-Some-view.ensures)
    (among_set c.deref-2.result.now (subst (λ p. (s : ℕ) → IsSet (members_at p s)) (c.deref.ensures ∙ sym c.deref-2.ensures) c.facts.ensures.sets) c.args.handle h.table h.slots c.in-Some-view.graph
    (sym c.view.ensures.graph ∙ c.in-Some-view.is))

pub returns-in_ok-elements-in-Some-view : goal.returns-in_ok-elements-in-Some-view
returns-in_ok-elements-in-Some-view c =
    let h = c.args.handles.now in
    let found : graph_among c.args.handle h.table (slot_graphs (pool_of c.args.pool.now) h.slots) ≡ Some c.in-Some-view.graph =
    ap (λ p. graph_among c.args.handle h.table (slot_graphs p h.slots)) (ap pool_of c.in-Some.is ∙ sym c.deref-2.ensures) ∙ sym c.view.ensures.graph ∙ c.in-Some-view.is in
    c.from_rising.ensures ∙ c.in_ok-elements-in-Some-view.ensures ∙ sym (ap (λ (o : Option (List Element)). unwrap_or o []) found)
