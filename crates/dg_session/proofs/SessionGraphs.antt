-- A batch leaves what the live handles list as it is, since its events are later than every instant of the history.
use Rattle.std.proofs.Common.{◌≡◌, inl, inr, ℕ, ◌+◌, ◌*◌, ◌^◌, ◌<◌, ◌≤◌, ◌==◌, Bool, true, false, not, Option, Some, None, if◌then◌else◌, cond, List, [], ◌∷◌, ◌++◌, length, map, refl, sym, subst, ap, ◌∙◌, arith, length-append}
use native.Mathlib.Nat.{pow-zero}
use Rattle.std.specs.Prelude.{◌&&◌, ◌||◌, nat_le, nat_lt}
use Rattle.std.specs.List.{All, list_any}
use Rattle.std.proofs.lemmas.Bool.{leb-true, lt-leb, le-leb, le-ltb, eqb-true, ne_eqb, false≢true, and_parts, and_right, not-true, not-false, or_cases, or_parts}
use Rattle.std.proofs.lemmas.List.{append-nil}
use Rattle.dg_added.specs.Additions.{added_between, lies_within, put_by}
use Rattle.std.proofs.lemmas.List.Elements.{All-head, All-tail, All-nil, All-cons}
use Rattle.dg_graph.specs.declared.element.Element.{Element}
use Rattle.dg_graph.specs.declared.event.Event.{Event}
use Rattle.dg_graph.specs.declared.element.Columns.{Columns}
use Rattle.dg_graph.specs.Elements.{shown, with_one}
use Rattle.dg_graph.specs.Replay.{events_until, message_of, replay_at, shown_at, told_at}
use Rattle.dg_history.specs.declared.node.NodeId.{NodeId}
use Rattle.dg_history.specs.declared.node.NodeId.TheVariants.{Root, Now, Recent, Leaf, List as EventList, Inner}
use Rattle.dg_history.specs.declared.params.Params.{Params}
use Rattle.dg_history.specs.EventTimes.{RisesFrom}
use Rattle.dg_history.specs.History.{History, Batch, earliest_next, events_of, in_range, last_time_from, span_of, with_batch}
use Rattle.dg_history.proofs.EventTimes.{last_two, rises_last, rises_later}
use Rattle.dg_index.proofs.RecentEvents.{replay_at_more}
use Rattle.dg_index.proofs.HierarchyStability.{stable}
use Rattle.dg_index.specs.Hierarchy.{leaves, set_of}
use Rattle.dg_machine.specs.declared.stands.Stands.{Stands}
use Rattle.dg_machine.specs.declared.stands.Shown.{Shown}
use Rattle.dg_machine.specs.declared.stands.Shown.TheVariants.{Overlay, Base, Selected}
use Rattle.dg_machine.specs.declared.selection.Selection.TheVariants.{Chosen, Added}
use Rattle.dg_machine.specs.MachineState.{elements, elements_of}
use Rattle.dg_machine.specs.Needs.{can_be_held, in_range_or_next, is_out_of_range}
use Rattle.dg_batch.proofs.HeldIndexNodes.{held_more}
use Rattle.dg_batch.proofs.LegalHistory.{events_with}
use Rattle.dg_expr.specs.Expressions.{instants_of, words_of}
use Rattle.dg_session.proofs.ChosenGraphs.{all_pass, chosen_same, none_fails, same_at_each}
use Rattle.dg_session.specs.Session.{is_reached, is_within}

-- ---- instants

-- the next batch begins behind every instant of the history
before_next : (events : List Event) (t : ℕ) → in_range (span_of events) t ≡ true → t < earliest_next (span_of events)
before_next [] t r = absurd (false≢true r)
before_next (e ∷ events) t r =
    let parts = and_parts (nat_le e.time t) (nat_le t (last_time_from e.time events)) r in
    omega (arith, leb-true t (last_time_from e.time events) parts.1)

-- no event is up to an instant before the first of them
none_until : (s t : ℕ) (events : List Event) → RisesFrom s events → t < s → events_until events t ≡ []
none_until s t [] rises late = refl
none_until s t (e ∷ events) rises late =
    let later : t < e.time = omega (arith, rises.0, late) in
    ap (λ b. cond b (e ∷ events_until events t) (events_until events t)) (lt-leb e.time t later) ∙ none_until e.time t events rises.1 later

-- nor is an event of exactly such an instant among them
none_told : (s t : ℕ) (events : List Event) → RisesFrom s events → t < s → told_at events t ≡ []
none_told s t [] rises late = refl
none_told s t (e ∷ events) rises late =
    let other : (e.time == t) ≡ false = ne_eqb e.time t (λ is. absurd (omega (arith, rises.0, late, is))) in
    ap (λ b. with_one (told_at events t) (if b then message_of e.body else None)) other ∙ none_told e.time t events rises.1 (omega (arith, rises.0, late))

told_more : (s t : ℕ) (events more : List Event) → RisesFrom s more → t < s → told_at (events ++ more) t ≡ told_at events t
told_more s t [] more rises late = none_told s t more rises late
told_more s t (e ∷ events) more rises late =
    ap (λ told. with_one told (if e.time == t then message_of e.body else None)) (told_more s t events more rises late)

-- so the graph as of the instant and its messages stay
shown_more : (s t : ℕ) (cols : Columns) (events more : List Event) → RisesFrom s more → t < s → shown_at (events ++ more) t cols ≡ shown_at events t cols
shown_more s t cols events more rises late =
    ap (λ (graph : List Element). shown graph cols ++ (if cols.transient then told_at (events ++ more) t else [])) (replay_at_more events more t (none_until s t more rises late))
    ∙ ap (λ (told : List Element). shown (replay_at events t) cols ++ (if cols.transient then told else [])) (told_more s t events more rises late)

-- an instant of the history is one of the history with the batch
range_more : (events more : List Event) (t : ℕ) → RisesFrom (earliest_next (span_of events)) more → in_range (span_of events) t ≡ true → in_range (span_of (events ++ more)) t ≡ true
range_more [] more t rises r = absurd (false≢true r)
range_more (e ∷ events) more t rises r =
    let parts = and_parts (nat_le e.time t) (nat_le t (last_time_from e.time events)) r in
    let last : ℕ = last_time_from e.time events in
    let up : last ≤ last_time_from last more = rises_last last more (rises_later last (last + 1) more (omega arith) rises) in
    let within : t ≤ last_time_from e.time (events ++ more) = omega (arith, leb-true t last parts.1, up, last_two e.time events more) in
    ap (λ (b : Bool). b && nat_le t (last_time_from e.time (events ++ more))) parts.0 ∙ le-leb t (last_time_from e.time (events ++ more)) within

-- ---- intervals

-- the beginning of an interval is an instant of the history, and its end is one or the next
ends_inside : (span : Option (ℕ × ℕ)) (from until : ℕ) → not (is_out_of_range span (from ∷ []) (Some until)) ≡ true → (in_range span from ≡ true) × (in_range_or_next span until ≡ true)
ends_inside span from until r =
    let both = or_parts (not (in_range span from) || false) (not (in_range_or_next span until)) (not-true (is_out_of_range span (from ∷ []) (Some until)) r) in
    let first = or_parts (not (in_range span from)) false both.0 in
    (not-false (in_range span from) first.0, not-false (in_range_or_next span until) both.1)

-- the next batch does not begin before the end of an interval
up_to_next : (events : List Event) (t : ℕ) → in_range_or_next (span_of events) t ≡ true → t ≤ earliest_next (span_of events)
up_to_next [] t r = absurd (false≢true r)
up_to_next (e ∷ events) t r = elim (or_cases (in_range (span_of (e ∷ events)) t) (t == last_time_from e.time events + 1) r) [
  | inl within ↦ omega (arith, before_next (e ∷ events) t within)
  | inr next ↦ omega (arith, eqb-true t (last_time_from e.time events + 1) next)
]

-- nothing is put in before an instant from which events rise
none_added : (from until s : ℕ) (events : List Event) → RisesFrom s events → until ≤ s → added_between from until events ≡ []
none_added from until s [] rises late = refl
none_added from until s (e ∷ events) rises late =
    let out : lies_within from until e ≡ false = and_right (nat_le from e.time) (nat_lt e.time until) (le-ltb e.time until (omega (arith, late, rises.0))) in
    ap (λ b. with_one (added_between from until events) (if b then put_by e.body else None)) out ∙ none_added from until e.time events rises.1 (omega (arith, late, rises.0))

-- so what is put in stays
added_more : (from until s : ℕ) (events more : List Event) → RisesFrom s more → until ≤ s → added_between from until (events ++ more) ≡ added_between from until events
added_more from until s [] more rises late = none_added from until s more rises late
added_more from until s (e ∷ events) more rises late =
    ap (λ set. with_one set (if lies_within from until e then put_by e.body else None)) (added_more from until s events more rises late)

-- the end of an interval of the history is one with the batch
next_more : (events more : List Event) (from until : ℕ) → RisesFrom (earliest_next (span_of events)) more → in_range (span_of events) from ≡ true → in_range_or_next (span_of events) until ≡ true
    → in_range_or_next (span_of (events ++ more)) until ≡ true
next_more [] more from until rises begins ends = absurd (false≢true begins)
next_more (e ∷ events) [] from until rises begins ends = ap (λ (es : List Event). in_range_or_next (span_of (e ∷ es)) until) (append-nil events) ∙ ends
next_more (e ∷ events) (x ∷ more) from until rises begins ends =
    ap (λ (b : Bool). b || (until == last_time_from e.time (events ++ x ∷ more) + 1))
    (elim (or_cases (in_range (span_of (e ∷ events)) until) (until == last_time_from e.time events + 1) ends) [
      | inl within ↦ range_more (e ∷ events) (x ∷ more) until rises within
      | inr next ↦
          let parts = and_parts (nat_le e.time from) (nat_le from (last_time_from e.time events)) begins in
          let last : ℕ = last_time_from e.time events in
          let here : until ≡ last + 1 = eqb-true until (last + 1) next in
          let low : e.time ≤ until = omega (arith, here, leb-true e.time from parts.0, leb-true from last parts.1) in
          let high : until ≤ last_time_from e.time (events ++ x ∷ more) = omega (arith, here, rises.0, rises_last x.time more rises.1, last_two e.time events (x ∷ more)) in
          λ i. le-leb e.time until low i && le-leb until (last_time_from e.time (events ++ x ∷ more)) high i
    ])

-- ---- nodes

-- a node that can be held is there with more events and has the same set
module _ (p : Params) (pos : 0 < p.l) (events more : List Event) where
  pub set_more : (v : NodeId) → can_be_held p (length events) v ≡ true → set_of p (events ++ more) v ≡ set_of p events v
  set_more Root r = absurd (false≢true r)
  set_more Now r = absurd (false≢true r)
  set_more Recent r = absurd (false≢true r)
  set_more (EventList i) r = absurd (false≢true r)
  set_more (Leaf j) r =
      let parts = and_parts (nat_le 1 j) (nat_le j (leaves p (length events))) r in
      let one : p.k ^ 0 ≡ 1 = pow-zero p.k in
      stable p events more pos 0 j (leb-true 1 j parts.0) (subst (λ n. j * n ≤ leaves p (length events)) (sym one) (omega (arith, leb-true j (leaves p (length events)) parts.1)))
  set_more (Inner h j) r =
      let parts = and_parts (nat_le 1 h) (nat_le 1 j && nat_le (j * p.k ^ h) (leaves p (length events))) r in
      let rest = and_parts (nat_le 1 j) (nat_le (j * p.k ^ h) (leaves p (length events))) parts.1 in
      stable p events more pos h j (leb-true 1 j rest.0) (leb-true (j * p.k ^ h) (leaves p (length events)) rest.1)

-- ---- handles

module _ (z : History) (pos : 0 < z.params.l) (b : Batch) (rises : RisesFrom (earliest_next (span_of (events_of z))) b.events) where
  elements_more : (cols : Columns) (what : Shown) → is_within z.params (events_of z) what ≡ true → elements_of z.params (events_of (with_batch z b)) cols what ≡ elements_of z.params (events_of z) cols what
  elements_more cols (Overlay t on) r =
      ap (λ (es : List Event). shown_at es t cols) (events_with z b)
      ∙ shown_more (earliest_next (span_of (events_of z))) t cols (events_of z) b.events rises (before_next (events_of z) t r)
  elements_more cols (Base node) r =
      ap (λ (es : List Event). shown (set_of z.params es node) cols) (events_with z b)
      ∙ ap (λ (es : List Element). shown es cols) (set_more z.params pos (events_of z) b.events node r)
  elements_more cols (Selected (Added from until)) r =
      ap (λ (es : List Event). shown (added_between from until es) cols) (events_with z b)
      ∙ ap (λ (set : List Element). shown set cols)
      (added_more from until (earliest_next (span_of (events_of z))) (events_of z) b.events rises
      (up_to_next (events_of z) until (ends_inside (span_of (events_of z)) from until r).1))
  elements_more cols (Selected (Chosen e)) r =
      chosen_same (words_of e) (λ t. shown (replay_at (events_of (with_batch z b)) t) cols) (λ t. shown (replay_at (events_of z) t) cols)
      (same_at_each (in_range (span_of (events_of z))) (λ t. shown (replay_at (events_of (with_batch z b)) t) cols) (λ t. shown (replay_at (events_of z) t) cols) (instants_of (words_of e))
      (λ t within.
      ap (λ (es : List Event). shown (replay_at es t) cols) (events_with z b)
      ∙ ap (λ (graph : List Element). shown graph cols)
      (replay_at_more (events_of z) b.events t (none_until (earliest_next (span_of (events_of z))) t b.events rises (before_next (events_of z) t within))))
      (all_pass (in_range (span_of (events_of z))) (instants_of (words_of e)) (not-true (list_any (λ t. not (in_range (span_of (events_of z)) t)) (instants_of (words_of e))) r)))

  reached_more : (what : Shown) → is_within z.params (events_of z) what ≡ true → is_within z.params (events_of (with_batch z b)) what ≡ true
  reached_more (Overlay t on) r = ap (λ (es : List Event). in_range (span_of es) t) (events_with z b) ∙ range_more (events_of z) b.events t rises r
  reached_more (Base node) r =
      ap (λ (es : List Event). can_be_held z.params (length es) node) (events_with z b)
      ∙ ap (λ n. can_be_held z.params n node) (length-append (events_of z) b.events)
      ∙ held_more z.params pos (length (events_of z)) (length b.events) node r
  reached_more (Selected (Chosen e)) r =
      ap not
      (none_fails (in_range (span_of (events_of z))) (in_range (span_of (events_of (with_batch z b)))) (instants_of (words_of e))
      (λ t within. ap (λ (es : List Event). in_range (span_of es) t) (events_with z b) ∙ range_more (events_of z) b.events t rises within)
      (not-true (list_any (λ t. not (in_range (span_of (events_of z)) t)) (instants_of (words_of e))) r))
  reached_more (Selected (Added from until)) r =
      let inside = ends_inside (span_of (events_of z)) from until r in
      let begins : in_range (span_of (events_of (with_batch z b))) from ≡ true =
      ap (λ (es : List Event). in_range (span_of es) from) (events_with z b) ∙ range_more (events_of z) b.events from rises inside.0 in
      let ends : in_range_or_next (span_of (events_of (with_batch z b))) until ≡ true =
      ap (λ (es : List Event). in_range_or_next (span_of es) until) (events_with z b) ∙ next_more (events_of z) b.events from until rises inside.0 inside.1 in
      λ i. not ((not (begins i) || false) || not (ends i))

  -- of every live handle
  pub graphs_more : (table : List (ℕ × Stands)) → All (λ (e : ℕ × Stands). is_reached z e.1 ≡ true) table
      → map (λ (e : ℕ × Stands). elements z e.1) table ≡ map (λ (e : ℕ × Stands). elements (with_batch z b) e.1) table
  graphs_more [] r = refl
  graphs_more (e ∷ table) r =
      λ i. sym (elements_more e.1.cols e.1.what (All-head (λ (e : ℕ × Stands). is_reached z e.1 ≡ true) e table r)) i
      ∷ graphs_more table (All-tail (λ (e : ℕ × Stands). is_reached z e.1 ≡ true) e table r) i

  pub all_reached_more : (table : List (ℕ × Stands)) → All (λ (e : ℕ × Stands). is_reached z e.1 ≡ true) table → All (λ (e : ℕ × Stands). is_reached (with_batch z b) e.1 ≡ true) table
  all_reached_more [] r = All-nil (λ (e : ℕ × Stands). is_reached (with_batch z b) e.1 ≡ true)
  all_reached_more (e ∷ table) r =
      All-cons (λ (e : ℕ × Stands). is_reached (with_batch z b) e.1 ≡ true) e table (reached_more e.1.what (All-head (λ (e : ℕ × Stands). is_reached z e.1 ≡ true) e table r))
      (all_reached_more table (All-tail (λ (e : ℕ × Stands). is_reached z e.1 ≡ true) e table r))
