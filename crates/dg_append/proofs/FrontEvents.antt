-- What holds of the events that the changes of a next batch come to.
use Rattle.std.proofs.Common.{◌≡◌, ℕ, ◌+◌, ◌<◌, ◌≤◌, ◌^◌, true, List, [], ◌∷◌, Option, Some, None, Ok, length, take, drop, refl, sym, ◌∙◌, ap, subst, nat_le, arith, get_or, length-append}
use Rattle.std.specs.Prelude.{IfSome}
use Rattle.std.specs.List.{All}
use Rattle.std.proofs.lemmas.List.{length-map, take-append-drop}
use Rattle.std.proofs.lemmas.List.Elements.{All-nil, All-cons, All-head, All-tail}
use Rattle.std.proofs.lemmas.Bool.{and_parts, leb-true}
use Rattle.dg_append.proofs.CompletedChanges.{events_there}
use Rattle.dg_append.specs.AddedBatches.{ComesToSegment, IsReady, IsSegmentOver, TakesForm, WhatHasNamesThere}
use Rattle.dg_append.specs.BatchSegments.{MayFollow}
use Rattle.dg_append.specs.declared.batch.Batch.{Batch}
use Rattle.dg_append.specs.declared.front.Front.{Front}
use Rattle.dg_append.specs.declared.front.Front.TheVariants.{Whole}
use Rattle.dg_append.specs.Fronts.{ComeTo, IsFront, lines}
use Rattle.dg_graph.specs.declared.element.Element.{Element}
use Rattle.dg_graph.specs.declared.element.Element.TheVariants as element
use Rattle.dg_graph.specs.declared.event.Body.{Body}
use Rattle.dg_graph.specs.declared.event.Body.TheVariants as body
use Rattle.dg_graph.specs.declared.event.Change.{Change}
use Rattle.dg_graph.specs.declared.event.Event.{Event}
use Rattle.dg_graph.specs.declared.limits.TheConstants.{TIME_MAX}
use Rattle.dg_text.specs.declared.limits.TheConstants.{NAMES_MAX}
use Rattle.dg_graph.specs.CompletedChanges.{completed}
use Rattle.dg_graph.specs.ExactEvents.{AreChangesOf}
use Rattle.dg_graph.specs.Graph.{IsGraph}
use Rattle.dg_text.specs.Names.{are_new}
use Rattle.dg_graph.proofs.Completions.{AllCome, all_come, as_many, made_come, times_fit}
use Rattle.dg_history.specs.History.{are_parameters}
use Rattle.dg_history.proofs.EventTimes.{first_and_last, last_in_time, rises_come}
use Rattle.dg_history.proofs.ParameterRanges.{InRange, in_range}
use Rattle.dg_index.specs.declared.entry.BatchEntry.{BatchEntry}
use Rattle.dg_index.specs.FileOfHistory.{Segment}
use Rattle.dg_index.specs.IndexGrowth.{last_time_in}
use Rattle.dg_index.specs.OpenedIndex.{Opening, earliest_in, may_be_named}
use Rattle.dg_net.proofs.NetLaws.{changes_are_exact}
use Rattle.dg_current.specs.Now.{earliest_time_after as earliest_now}
use Rattle.dg_retrieval.specs.NamesThere.{BodyHasNamesThere, EventNamesAreThere, HasNamesThere, NamesAreThere}
use Rattle.dg_stored.specs.declared.stored_history.StoredHistory.{StoredHistory}

-- ---- the last time of the batches

told_from : (t : ℕ) (b : BatchEntry) (batches : List BatchEntry) → earliest_now (last_time_in (b ∷ batches)) ≡ earliest_in t (b ∷ batches)
told_from t b [] = refl
told_from t b (c ∷ batches) = told_from (b.ends.last + 1) c batches

earliest_told : (batches : List BatchEntry) → earliest_now (last_time_in batches) ≡ earliest_in 0 batches
earliest_told [] = refl
earliest_told (b ∷ batches) = told_from 0 b batches

pub last_told : (batches : List BatchEntry) (last : Option ℕ) → last ≡ last_time_in batches → earliest_now last ≡ earliest_in 0 batches
last_told batches last is = ap earliest_now is ∙ earliest_told batches

pub last_small : (batches : List BatchEntry) (last : Option ℕ) → last ≡ last_time_in batches → earliest_in 0 batches ≤ TIME_MAX + 1 → IfSome last (λ t. t < 2 ^ 63)
last_small batches last is le = by last (last_told batches last is)
  where
    by : (o : Option ℕ) → earliest_now o ≡ earliest_in 0 batches → IfSome o (λ t. t < 2 ^ 63)
    by None e = tt
    by (Some t) e = omega (arith, e, le)

-- ---- events that changes come to

-- what holds of every change holds of every line
on_lines : (P : Change → Type 0) (changes : List Change) → All P changes → All (λ c. IfSome c P) (lines changes)
on_lines P [] f = All-nil (λ c. IfSome c P)
on_lines P (c ∷ changes) f = All-cons (λ c. IfSome c P) (Some c) (lines changes) (All-head P c changes f) (on_lines P changes (All-tail P c changes f))

pub may_name_parts : (names new : List (List ℕ)) → may_be_named names new ≡ true → length names + length new ≤ NAMES_MAX
may_name_parts names new h =
    leb-true (length names + length new) NAMES_MAX (and_parts (are_new names new) (nat_le (length names + length new) NAMES_MAX) h).1

-- The events are those of the changes as a batch behind the index, and the form of the file takes them.
pub record IsPrepared (o : Opening) (batch : Batch) (h : StoredHistory) (events : List Event) : Type 0 where
  pub whole : batch.front ≡ Whole
  pub comes : completed 1 (earliest_in 0 o.batches) h.now.graph (lines batch.changes.items) ≡ Ok events
  pub many : length events ≡ length batch.changes.items
  pub follows : MayFollow o h.recent.items events
  pub changes_are : AreChangesOf h.now.graph events
  pub there : EventNamesAreThere (length h.names) events
  pub few_names : length h.names ≤ 2 ^ 30
  pub form : TakesForm o events

-- there are no more names than a history may have
pub few_names : (known : ℕ) (names : List (List ℕ)) → may_be_named (take known names) (drop known names) ≡ true → length names ≤ 2 ^ 30
few_names known names h =
    omega (arith, may_name_parts (take known names) (drop known names) h, sym (length-append (take known names) (drop known names)), ap length (take-append-drop known names))

pub known_few : (known : ℕ) (names : List (List ℕ)) → length (take known names) ≤ length names
known_few known names = omega (arith, length-append (take known names) (drop known names), ap length (take-append-drop known names))

-- names that are there are so where there are more
more_there : (n m : ℕ) (x : Element) → n ≤ m → HasNamesThere n x → HasNamesThere m x
more_there n m (element.Node id) le f = tt
more_there n m (element.Edge directed id src dst) le f = tt
more_there n m (element.NodeAttr id key value) le f = (omega (arith, le, f.0), omega (arith, le, f.1))
more_there n m (element.EdgeAttr id key value) le f = (omega (arith, le, f.0), omega (arith, le, f.1))
more_there n m (element.Message src dst value) le f = omega (arith, le, f)

pub more_names : (n m : ℕ) (set : List Element) → n ≤ m → NamesAreThere n set → NamesAreThere m set
more_names n m set le f x h = more_there n m x le (f x h)

value_there : (n m : ℕ) (o : Option ℕ) → n ≤ m → IfSome o (λ v. v < n) → IfSome o (λ v. v < m)
value_there n m None le f = tt
value_there n m (Some v) le f = omega (arith, le, f)

body_there : (n m : ℕ) (b : Body) → n ≤ m → BodyHasNamesThere n b → BodyHasNamesThere m b
body_there n m (body.NodeAdded id) le f = tt
body_there n m (body.NodeRemoved id) le f = tt
body_there n m (body.EdgeAdded directed id src dst) le f = tt
body_there n m (body.EdgeRemoved directed id src dst) le f = tt
body_there n m (body.NodeAttr key id old new) le f = (omega (arith, le, f.0), value_there n m old le f.1, value_there n m new le f.2)
body_there n m (body.EdgeAttr key id old new) le f = (omega (arith, le, f.0), value_there n m old le f.1, value_there n m new le f.2)
body_there n m (body.Message src dst value) le f = omega (arith, le, f)

pub more_event_names : (n m : ℕ) (events : List Event) → n ≤ m → EventNamesAreThere n events → EventNamesAreThere m events
more_event_names n m events le f k d lt = body_there n m (get_or events k d).body le (f k d lt)

pub prepared : (o : Opening) (batch : Batch) (h : StoredHistory) (events : List Event) → are_parameters o.params.l o.params.k ≡ true → IsReady o batch h → IsGraph h.now.graph → batch.front ≡ Whole
    → completed 1 (earliest_in 0 o.batches) h.now.graph (lines batch.changes.items) ≡ Ok events → TakesForm o events → IsPrepared o batch h events
prepared o batch h events parameters r graph whole comes form =
    let p : InRange o.params.l o.params.k = in_range o.params.l o.params.k parameters in
    let changes : List Change = batch.changes.items in
    let earliest : ℕ = earliest_in 0 o.batches in
    let come : AllCome earliest h.now.graph (lines changes) events = all_come 1 earliest h.now.graph (lines changes) events comes in
    let rises = rises_come earliest h.now.graph (lines changes) events come in
    let many : length events ≡ length changes = as_many earliest h.now.graph (lines changes) events come ∙ length-map changes (λ (x : Change). Some x) in
    let some : 1 ≤ length events = omega (arith, many, r.some whole) in
    let times : All (λ (e : Event). e.time ≤ TIME_MAX) events =
    times_fit earliest h.now.graph (lines changes) events come (on_lines (λ (c : Change). c.time ≤ TIME_MAX) changes (r.timed whole)) in
    let early = first_and_last earliest events some rises in
    record {
      whole = whole;
      comes = comes;
      many = many;
      follows = record {
        pos = p.list_some;
        some = some;
        few = omega (arith, many, r.few);
        room = omega (arith, many, r.room);
        early = early.0;
        later = early.1;
        last = last_in_time 0 events (omega arith) times;
        rises = rises;
        counted = r.sound.counted.1;
        goes_on = r.sound.goes_on;
      };
      changes_are = changes_are_exact h.now.graph events graph (made_come earliest h.now.graph (lines changes) events come);
      there = events_there (length h.names) earliest h.now.graph (lines changes) events come (more_names (length (take batch.known h.names)) (length h.names) h.now.graph (known_few batch.known h.names) r.sound.named)
          (on_lines (λ (c : Change). WhatHasNamesThere (length h.names) c.what) changes (r.fit whole));
      few_names = few_names batch.known h.names (r.named whole);
      form = form;
    }

pub here : (told : Option Opening) (o : Opening) (P : Opening → Type 0) → told ≡ Some o → P o → IfSome told P
here told o P is p = subst (λ (i : Option Opening). IfSome i P) (sym is) p

pub of_here : (told : Option Opening) (o : Opening) (P : Opening → Type 0) → told ≡ Some o → IfSome told P → P o
of_here told o P is p = subst (λ (i : Option Opening). IfSome i P) is p

-- the lines come to these events
pub come_whole : (o : Opening) (batch : Batch) (h : StoredHistory) (events : List Event) → IsPrepared o batch h events → ComeTo o h.now.graph batch (Ok events)
come_whole o batch h events p all f =
    let is : all ≡ lines batch.changes.items = subst (λ (x : Front). IsFront x batch.changes.items all) p.whole f in
    ap (completed 1 (earliest_in 0 o.batches) h.now.graph) is ∙ p.comes

pub comes_to_segment : (o : Opening) (batch : Batch) (h : StoredHistory) (before : Option (List ℕ)) (events : List Event) (s : Segment)
    → IsPrepared o batch h events → IsSegmentOver before o batch.known h events s → ComesToSegment o batch h before events s
comes_to_segment o batch h before events s p built = record { whole = p.whole; come = come_whole o batch h events p; form = p.form; built = built }
