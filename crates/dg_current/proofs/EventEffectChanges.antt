-- How the events of a batch follow, one change at a time, and the elements before them.
use Rattle.std.proofs.Common.{◌≡◌, ℕ, ◌+◌, ◌<◌, ◌≤◌, Bool, true, false, cond, List, [], ◌∷◌, ◌++◌, Option, Some, None, Result, Ok, Err, length, drop, get_or, map, refl, sym, ap, subst, ◌∙◌, append_assoc, add-one, drop-cons, ◌⊎◌, inl, inr}
use Rattle.std.proofs.lemmas.List.{append-nil, drop_all}
use Rattle.std.proofs.lemmas.Bool.{true≢false}
use Rattle.dg_graph.specs.declared.element.Element.{Element}
use Rattle.dg_graph.specs.declared.event.Change.{Change}
use Rattle.dg_graph.specs.declared.event.Event.{Event}
use Rattle.dg_graph.specs.CompletedChanges.{completed, event_of, go_on, on_value}
use Rattle.dg_graph.specs.Effect.{removed_by, added_by, forwards, backwards}
use Rattle.dg_graph.specs.Elements.{has, same, without, with_one}
use Rattle.dg_graph.specs.Graph.{IsGraph}
use Rattle.dg_graph.specs.Replay.{replay_from}
use Rattle.dg_graph.proofs.Sets.{element_exact}
use Rattle.dg_current.specs.declared.element_id.ElementId.{ElementId}
use Rattle.dg_current.specs.HeldGraph.{HeldGraphState, KeepsIds}
use Rattle.dg_current.specs.EventEffect.{changed_id, element_before, CanHappen, CameBy, AllHappen, KnowsEvent, KnowsAllEvents, Led, element_before_all}
use Rattle.dg_current.specs.ElementIds.{element_id_of, at, same_id}
use Rattle.dg_current.proofs.EventEffect.{graph_forwards, led_graph, undone, came, removed_has_id, added_has_id, known_still}
use Rattle.dg_current.proofs.HeldGraph.{same_id_exact, same_id_from}
use Rattle.dg_current.proofs.ElementIds.{at_has, at_is, at_from, one_of_each_id, out_from, out_keeps, put_from, put_keeps}

-- ---- a batch

-- the events in front of those that come
abbrev pub onto : List Event → Result (List Event) (ℕ × ℕ) → Result (List Event) (ℕ × ℕ)
onto events r = on_value (λ (more : List Event). events ++ more) r

abbrev pub all_changes : List Change → List (Option Change)
all_changes changes = map (λ (c : Change). Some c) changes

pub onto-none : (r : Result (List Event) (ℕ × ℕ)) → r ≡ onto [] r
onto-none (Ok more) = refl
onto-none (Err fault) = refl

onto-one : (events : List Event) (e : Event) (r : Result (List Event) (ℕ × ℕ))
    → onto events (on_value (λ (more : List Event). e ∷ more) r) ≡ onto (events ++ e ∷ []) r
onto-one events e (Ok more) = ap (λ (es : List Event). Ok es) (sym (append_assoc events (e ∷ []) more))
onto-one events e (Err fault) = refl

module _ (due : Result (List Event) (ℕ × ℕ)) (events : List Event) (n earliest : ℕ) (set : List Element) where
  -- a change that has an event
  pub goes_on : (change : Change) (changes : List Change) (e : Event)
      → due ≡ onto events (completed n earliest set (all_changes (change ∷ changes))) → event_of earliest set change ≡ Ok e
      → due ≡ onto (events ++ e ∷ []) (completed (n + 1) e.time (forwards set e) (all_changes changes))
  goes_on change changes e is ok =
      is ∙ ap (λ r. onto events (go_on n (λ e. completed (n + 1) e.time (forwards set e) (all_changes changes)) r)) ok
      ∙ onto-one events e (completed (n + 1) e.time (forwards set e) (all_changes changes))

  -- a change that is refused
  pub refused_at : (change : Change) (changes : List Change) (reason : ℕ)
      → due ≡ onto events (completed n earliest set (all_changes (change ∷ changes))) → event_of earliest set change ≡ Err reason
      → due ≡ Err (n, reason)
  refused_at change changes reason is bad =
      is ∙ ap (λ r. onto events (go_on n (λ e. completed (n + 1) e.time (forwards set e) (all_changes changes)) r)) bad

  -- the same where the changes are those from an index of a list on
  module _ (changes : List Change) (i : ℕ) (d : Change) (less : i < length changes)
      (is : due ≡ onto events (completed n earliest set (all_changes (drop i changes)))) where
    split : drop i changes ≡ get_or changes i d ∷ drop (i + 1) changes
    split = rw (add-one, drop-cons changes i d) refl

    from_split : due ≡ onto events (completed n earliest set (all_changes (get_or changes i d ∷ drop (i + 1) changes)))
    from_split = is ∙ ap (λ cs. onto events (completed n earliest set (all_changes cs))) split

    pub goes_on_at : (e : Event) → event_of earliest set (get_or changes i d) ≡ Ok e
        → due ≡ onto (events ++ e ∷ []) (completed (n + 1) e.time (forwards set e) (all_changes (drop (i + 1) changes)))
    goes_on_at e ok = goes_on (get_or changes i d) (drop (i + 1) changes) e from_split ok

    pub refused_here : (reason : ℕ) → event_of earliest set (get_or changes i d) ≡ Err reason → due ≡ Err (n, reason)
    refused_here reason bad = refused_at (get_or changes i d) (drop (i + 1) changes) reason from_split bad

  pub at_last : due ≡ onto events (completed n earliest set []) → due ≡ Ok events
  at_last is = is ∙ ap (λ (es : List Event). Ok es) (append-nil events)

-- ---- one event more

happen_more : (set : List Element) (events : List Event) (e : Event) → AllHappen set events → CanHappen (replay_from set events) e.body
    → AllHappen set (events ++ e ∷ [])
happen_more set [] e h k = (k, tt)
happen_more set (x ∷ events) e h k = (h.0, happen_more (forwards set x) events e h.1 k)

replay_more : (set : List Element) (events : List Event) (e : Event)
    → replay_from set (events ++ e ∷ []) ≡ forwards (replay_from set events) e
replay_more set [] e = refl
replay_more set (x ∷ events) e = replay_more (forwards set x) events e

known_more : (h : HeldGraphState) (events : List Event) (e : Event) → KnowsAllEvents h events → KnowsEvent h e → KnowsAllEvents h (events ++ e ∷ [])
known_more h [] e k here = (here, tt)
known_more h (x ∷ events) e k here = (k.0, known_more h events e k.1 here)

pub led_more : (start : List Element) (events : List Event) (old new : HeldGraphState) (e : Event) → Led start events old → CanHappen old.set e.body
    → new.set ≡ forwards old.set e → KeepsIds old new → KnowsEvent new e
    → Led start (events ++ e ∷ []) new
led_more start events old new e led happens is keeps known = record {
  graph = led.graph;
  happen = happen_more start events e led.happen (subst (λ s. CanHappen s e.body) led.comes happens);
  comes = is ∙ ap (λ s. forwards s e) led.comes ∙ sym (replay_more start events e);
  known = known_more new events e (known_still old new events keeps led.known) known;
}

-- the same graph, with more entries
pub led_still : (start : List Element) (events : List Event) (old new : HeldGraphState) → Led start events old → new.set ≡ old.set → KeepsIds old new → Led start events new
led_still start events old new led is keeps = record {
  graph = led.graph;
  happen = led.happen;
  comes = is ∙ led.comes;
  known = known_still old new events keeps led.known;
}

-- ---- one event less

happen_less : (set : List Element) (events : List Event) (e : Event) → AllHappen set (events ++ e ∷ [])
    → AllHappen set events × CanHappen (replay_from set events) e.body
happen_less set [] e h = (tt, h.0)
happen_less set (x ∷ events) e h = let rest = happen_less (forwards set x) events e h.1 in ((h.0, rest.0), rest.1)

known_less : (h : HeldGraphState) (events : List Event) (e : Event) → KnowsAllEvents h (events ++ e ∷ []) → KnowsAllEvents h events × KnowsEvent h e
known_less h [] e k = (tt, k.0)
known_less h (x ∷ events) e k = let rest = known_less h events e k.1 in ((k.0, rest.0), rest.1)

module _ (start : List Element) (events : List Event) (old : HeldGraphState) (e : Event) (led : Led start (events ++ e ∷ []) old) where
  set_is : old.set ≡ forwards (replay_from start events) e
  set_is = led.comes ∙ replay_more start events e

  happened : CanHappen (replay_from start events) e.body
  happened = (happen_less start events e led.happen).1

  before_graph : IsGraph (replay_from start events)
  before_graph = led_graph start events led.graph (happen_less start events e led.happen).0

  pub last_came : CameBy old.set e
  last_came = subst (λ s. CameBy s e) (sym set_is) (came (replay_from start events) e before_graph happened)

  pub last_known : KnowsEvent old e
  last_known = (known_less old events e led.known).1

  pub led_less : (new : HeldGraphState) → new.set ≡ backwards old.set e → KeepsIds old new → Led start events new
  led_less new is keeps = record {
    graph = led.graph;
    happen = (happen_less start events e led.happen).0;
    comes = is ∙ ap (λ s. backwards s e) set_is ∙ undone (replay_from start events) e.body before_graph happened;
    known = known_still old new events keeps (known_less old events e led.known).0;
  }

-- ---- the element with an id before the events

-- an event changes no element with an id that what it takes away and what it adds do not have
module _ (set : List Element) (e : Event) (g : IsGraph set) (p : ElementId) (not_out : (x : Element) → removed_by e.body ≡ Some x → element_id_of x ≡ p → ⊥)
    (not_in : (x : Element) → added_by e.body ≡ Some x → element_id_of x ≡ p → ⊥) where
  still : (x : Element) → element_id_of x ≡ p → has set x ≡ true → has (forwards set e) x ≡ true
  still x is there = more (added_by e.body) (less (removed_by e.body) refl)
    where
      less : (o : Option Element) → removed_by e.body ≡ o → has (without set o) x ≡ true
      less None f = there
      less (Some y) f = out_keeps y set x (differs (same x y) refl) there
        where
          differs : (b : Bool) → same x y ≡ b → same x y ≡ false
          differs false k = k
          differs true k = absurd (not_out y f (ap element_id_of (sym (element_exact x y k)) ∙ is))

      more : (o : Option Element) → has (without set (removed_by e.body)) x ≡ true → has (with_one (without set (removed_by e.body)) o) x ≡ true
      more None k = k
      more (Some y) k = put_keeps y (without set (removed_by e.body)) x k

  before : (x : Element) → element_id_of x ≡ p → has (forwards set e) x ≡ true → has set x ≡ true
  before x is there = out (removed_by e.body) (less (added_by e.body) refl there)
    where
      less : (o : Option Element) → added_by e.body ≡ o → has (with_one (without set (removed_by e.body)) o) x ≡ true → has (without set (removed_by e.body)) x ≡ true
      less None f k = k
      less (Some y) f k = which (put_from y (without set (removed_by e.body)) x k)
        where
          which : (x ≡ y) ⊎ (has (without set (removed_by e.body)) x ≡ true) → has (without set (removed_by e.body)) x ≡ true
          which (inl q) = absurd (not_in y f (ap element_id_of (sym q) ∙ is))
          which (inr q) = q

      out : (o : Option Element) → has (without set o) x ≡ true → has set x ≡ true
      out None k = k
      out (Some y) k = (out_from y set x k).1

  pub elsewhere : at (forwards set e) p ≡ at set p
  elsewhere =
      at_is (forwards set e) p (at set p)
      (λ x f. let got = at_has set p x f in (still x got.1 got.0, got.1))
      (λ x there is. ap (at set) (sym is) ∙ at_from set (one_of_each_id set g) x (before x is there))

pub first_is : (set : List Element) (events : List Event) (p : ElementId) → IsGraph set → AllHappen set events
    → at set p ≡ element_before_all events p (at (replay_from set events) p)
first_is set [] p g h = refl
first_is set (e ∷ events) p g h =
    by (same_id (changed_id e.body) p) refl (first_is (forwards set e) events p (graph_forwards set e.body g h.0) h.1)
  where
    by : (b : Bool) → same_id (changed_id e.body) p ≡ b → at (forwards set e) p ≡ element_before_all events p (at (replay_from (forwards set e) events) p)
        → at set p ≡ cond b (element_before e.body) (element_before_all events p (at (replay_from (forwards set e) events) p))
    by true s later = ap (at set) (sym (same_id_exact (changed_id e.body) p s)) ∙ h.0.before
    by false s later =
        sym (elsewhere set e g p (λ x f is. apart x is (removed_has_id e.body x f) s) (λ x f is. apart x is (added_has_id e.body x f) s)) ∙ later
      where
        apart : (x : Element) → element_id_of x ≡ p → element_id_of x ≡ changed_id e.body → same_id (changed_id e.body) p ≡ false → ⊥
        apart x is changed s = true≢false (sym (same_id_from (changed_id e.body) p (sym changed ∙ is)) ∙ s)

-- the first event of a list that changes the element with the id
pub first_here : (events : List Event) (p : ElementId) (last : Option Element) (i : ℕ) (d : Event) → i < length events
    → same_id (changed_id (get_or events i d).body) p ≡ true → element_before_all (drop i events) p last ≡ element_before (get_or events i d).body
first_here events p last i d less s =
    let split : drop i events ≡ get_or events i d ∷ drop (i + 1) events = rw (add-one, drop-cons events i d) refl in
    ap (λ es. element_before_all es p last) split
    ∙ ap (λ b. cond b (element_before (get_or events i d).body) (element_before_all (drop (i + 1) events) p last)) s

pub first_none : (events : List Event) (p : ElementId) (last : Option Element) (i : ℕ) → length events ≤ i → element_before_all (drop i events) p last ≡ last
first_none events p last i all = ap (λ es. element_before_all es p last) (drop_all i events all)
