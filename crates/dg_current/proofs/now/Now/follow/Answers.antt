use Rattle.std.proofs.Common.{◌≡◌, List, [], refl, sym, ap, subst, ◌∙◌}
use Rattle.dg_graph.specs.declared.event.Event.{Event}
use Rattle.dg_graph.specs.Graph.{IsGraph}
use Rattle.dg_current.specs.EventEffect.{CanHappen, Led, rewound}
use Rattle.dg_current.specs.HeldGraph.{HeldGraphState}
use Rattle.dg_current.specs.Now.{NowState}
use Rattle.dg_current.proofs.EventEffectCompletions.{followed_still}
use Rattle.dg_current.proofs.EventEffect.{led_is_graph, graph_forwards}
use Rattle.dg_current.proofs.NowState.{led_none}
use Rattle.dg_current.proofs.now.Now.follow.Goals as goal

pub apply-requires-clause-happens : goal.apply-requires-clause-happens
apply-requires-clause-happens c =
    let held = c.self.inside.held in
    let events = c.self.inside.pending.items in
    let set = c.ready_for_event.new.graph.set in
    let before : IsGraph set =
    subst (λ (h : HeldGraphState). IsGraph h.set) (sym c.in_ok-ready_for_event.ensures) (led_is_graph (rewound held.set events) events held c.self.invariant) in
    followed_still set set c.args.event.now.body c.is_change_of.result before refl c.is_change_of.ensures c.if-not-is_change_of.false

pub invariant_of-self-2 : goal.invariant_of-self-2
invariant_of-self-2 c =
    let held = c.self.inside.held in
    let events = c.self.inside.pending.items in
    let set = c.ready_for_event.new.graph.set in
    let b = c.args.event.now.body in
    let none : events ≡ [] = ap (λ (s : NowState). s.pending) c.self.view_is ∙ c.requires.none_pending in
    let before : IsGraph set =
    subst (λ (h : HeldGraphState). IsGraph h.set) (sym c.in_ok-ready_for_event.ensures) (led_is_graph (rewound held.set events) events held c.self.invariant) in
    let happens : CanHappen set b = followed_still set set b c.is_change_of.result before refl c.is_change_of.ensures c.if-not-is_change_of.false in
    let after : IsGraph c.apply.new.graph.set = subst IsGraph (sym c.in_ok-apply.ensures.set) (graph_forwards set b before happens) in
    subst (λ (es : List Event). Led (rewound c.apply.new.graph.set es) es c.apply.new.graph) (sym none) (led_none c.apply.new.graph after)
