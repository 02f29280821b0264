use Rattle.std.proofs.Common.{◌≡◌, ◌<◌, ◌≤◌, true, List, length, slice_index_or, sym, ap, subst, ◌∙◌}
use Rattle.dg_graph.specs.declared.event.Event.{Event}
use Rattle.dg_graph.specs.declared.event.Body.TheVariants as body
use Rattle.dg_current.specs.EventEffect.{changed_id, element_before, rewound}
use Rattle.dg_current.specs.Now.{NowState}
use Rattle.dg_current.specs.ElementIds.{at, same_id}
use Rattle.dg_current.specs.contracts.element_id.ElementIdPartialEq.TheImpl as of_ids
use Rattle.dg_current.proofs.HeldGraph.{derived_is}
use Rattle.dg_current.proofs.EventEffectChanges.{first_here, first_none}
use Rattle.dg_current.proofs.NowState.{start_at}
use Rattle.dg_current.proofs.now.Now.element_at.Goals as goal

-- what an index past the list reads as
abbrev past : Event
past = record { time = 0; body = body.NodeAdded 0 }

pub returns-then-eq : goal.returns-then-eq
returns-then-eq c =
    let held = c.self.inside.held in
    let events = c.self.inside.pending.items in
    let i = c.loop-event.event-index in
    let read : c.deref-event-items.result.now ≡ events = c.deref-event-items.ensures.value in
    let less : i < length events = subst (λ (es : List Event). i < length es) read c.loop-event-test.true in
    let equal : c.eq.result ≡ (of_ids.ghosts).eq c.changed_by.result c.args.id = c.eq.ensures in
    let here : same_id (changed_id (slice_index_or events i past).body) c.args.id ≡ true =
    ap (λ (es : List Event). same_id (changed_id (slice_index_or es i past).body) c.args.id) (sym read)
    ∙ ap (λ q. same_id q c.args.id) (sym c.changed_by.ensures) ∙ sym (derived_is c.changed_by.result c.args.id) ∙ sym equal ∙ c.if-eq.true in
    c.element_before.ensures ∙ ap (λ (es : List Event). element_before (slice_index_or es i past).body) read
    ∙ sym (first_here events c.args.id (at held.set c.args.id) i past less here) ∙ sym c.loop-event.invariant
    ∙ sym (start_at (rewound held.set events) events held c.self.invariant c.args.id)
    ∙ ap (λ (s : NowState). at s.graph c.args.id) c.self.view_is

pub returns : goal.returns
returns c =
    let held = c.self.inside.held in
    let events = c.self.inside.pending.items in
    let i = c.loop-event.event-index in
    let all : length events ≤ i = subst (λ (es : List Event). length es ≤ i) c.deref-event-items.ensures.value c.loop-event-test.false in
    c.element_at.ensures
    ∙ sym (first_none events c.args.id (at held.set c.args.id) i all) ∙ sym c.loop-event.invariant
    ∙ sym (start_at (rewound held.set events) events held c.self.invariant c.args.id)
    ∙ ap (λ (s : NowState). at s.graph c.args.id) c.self.view_is
