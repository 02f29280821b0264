-- What the state of the current graph says of what is held.
use Rattle.std.proofs.Common.{◌≡◌, Bool, true, false, List, [], ◌∷◌, Some, None, refl, sym, ap, subst, ◌∙◌, ◌⊎◌, inl, inr}
use Rattle.dg_graph.specs.declared.element.Element.{Element}
use Rattle.dg_graph.specs.declared.event.Event.{Event}
use Rattle.dg_graph.specs.Effect.{removed_by, added_by, forwards}
use Rattle.dg_graph.specs.Elements.{has}
use Rattle.dg_graph.specs.ExactEvents.{IsExact, AreChangesOf}
use Rattle.dg_graph.specs.Graph.{IsGraph}
use Rattle.dg_current.specs.declared.element_id.ElementId.{ElementId}
use Rattle.dg_current.specs.HeldGraph.{HeldGraphState}
use Rattle.dg_current.specs.EventEffect.{AllHappen, CanHappen, Led, rewound, element_after, element_before_all}
use Rattle.dg_current.specs.Now.{NowState}
use Rattle.dg_current.specs.ElementIds.{at}
use Rattle.dg_current.proofs.ElementIds.{at_from, one_of_each_id}
use Rattle.dg_current.proofs.EventEffect.{Swaps, Stays, shape, if_some, after_has_id, loose_forwards, graph_forwards, rewound_back}
use Rattle.dg_current.proofs.EventEffectChanges.{first_is}

some_none : {X : Type 0} {x : X} → Some x ≡ None → ⊥
some_none e = cc

-- no events led anywhere
pub led_none : (h : HeldGraphState) → IsGraph h.set → Led h.set [] h
led_none h g = record { graph = g; happen = tt; comes = refl; known = tt }

-- the start is what is held with the events undone
pub led_back : (start : List Element) (events : List Event) (h : HeldGraphState) → Led start events h → rewound h.set events ≡ start
led_back start events h led = ap (λ s. rewound s events) led.comes ∙ rewound_back start events led.graph led.happen

pub led_again : (start : List Element) (events : List Event) (h : HeldGraphState) → Led start events h → Led (rewound h.set events) events h
led_again start events h led = subst (λ s. Led s events h) (sym (led_back start events h led)) led

-- with no events pending, the graph is what is held
pub held_alone : (set graph : List Element) (events pending : List Event) → rewound set events ≡ graph → events ≡ pending → pending ≡ [] → set ≡ graph
held_alone set graph events pending is same none = subst (λ es. rewound set es ≡ graph) (same ∙ none) is

pub same_state : (a b : NowState) → a.graph ≡ b.graph → a.pending ≡ b.pending → a ≡ b
same_state a b e f = λ i. record { graph = e i; pending = f i }

-- the element of the graph with an id, by the events and the one that is held
pub start_at : (start : List Element) (events : List Event) (h : HeldGraphState) → Led start events h → (p : ElementId)
    → at start p ≡ element_before_all events p (at h.set p)
start_at start events h led p =
    first_is start events p led.graph led.happen ∙ ap (λ s. element_before_all events p (at s p)) (sym led.comes)

-- events that can happen in a graph are changes of it
module _ (set : List Element) (e : Event) (g : IsGraph set) (h : CanHappen set e.body) where
  lacks_added : (x : Element) → added_by e.body ≡ Some x → has set x ≡ false
  lacks_added x is = by (has set x) refl (shape e.body)
    where
      by : (b : Bool) → has set x ≡ b → Swaps e.body ⊎ Stays e.body → b ≡ false
      by false there s = refl
      by true there (inr s) = absurd (some_none (sym is ∙ s.added))
      by true there (inl s) =
          let after : element_after e.body ≡ Some x = sym s.added ∙ is in
          absurd (s.apart x (sym h.before ∙ ap (at set) (sym (after_has_id e.body x after)) ∙ at_from set (one_of_each_id set g) x there) after)

  happens_exactly : IsExact set e
  happens_exactly = record {
    removed = if_some (removed_by e.body) (λ x. has set x ≡ true) (λ x is. (loose_forwards set e.body g h x is).0);
    added = if_some (added_by e.body) (λ x. has set x ≡ false) lacks_added;
  }

pub happen_changes : (set : List Element) (events : List Event) → IsGraph set → AllHappen set events → AreChangesOf set events
happen_changes set [] g h = tt
happen_changes set (e ∷ events) g h =
    (happens_exactly set e g h.0, happen_changes (forwards set e) events (graph_forwards set e.body g h.0) h.1)
