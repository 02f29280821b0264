-- How a part goes on, one batch after another.
--     lines_come      the changes of the next events come to them
--     may_add      the next batch may be added
--     goes_on      what is kept behind it
--     stops      why it is not added, and what is left
use Rattle.std.proofs.Common.{◌≡◌, ◌⊎◌, inl, inr, ℕ, zero, suc, ◌+◌, ◌-◌, ◌*◌, ◌<◌, ◌≤◌, true, List, [], ◌∷◌, ◌++◌, Option, Some, None, Result, Ok, Err, length, map, take, drop, refl, sym, ap, subst, ◌∙◌, arith, length-append, length-drop, take-add, drop-drop, mul-le-mul_right}
use Rattle.std.specs.Prelude.{IfSome, is_some, nat_le}
use Rattle.std.specs.List.{All}
use Rattle.std.proofs.lemmas.Bool.{and_parts, false≢true}
use Rattle.std.proofs.lemmas.List.{drop_all, length-map, length-take-le, take-append-drop, take_all}
use Rattle.std.proofs.lemmas.List.Elements.{All-cons, All-drop, All-head, All-nil, All-tail, All-take}
use Rattle.std.proofs.lemmas.List.Sums.{sum_by_push}
use Rattle.dg_append.specs.AddedBatches.{AddsBatch, ComesToSegment, FailsBatch, IsOverHistory, MayAdd, WhatHasNamesThere, batch_with, recent_behind}
use Rattle.dg_append.specs.declared.batch.AddedBatch.{AddedBatch}
use Rattle.dg_append.specs.declared.batch.Batch.{Batch}
use Rattle.dg_append.specs.declared.fault.BatchFault.{BatchFault}
use Rattle.dg_append.specs.declared.fault.BatchFault.TheVariants as batch_fault
use Rattle.dg_append.specs.declared.front.Front.TheVariants.{Whole}
use Rattle.dg_append.specs.declared.live.Live.{Live}
use Rattle.dg_append.specs.Faults.{HasCause}
use Rattle.dg_append.specs.Fronts.{ComeTo, IsFront, lines}
use Rattle.dg_append.specs.LiveHistories.{IsLiveHistory}
use Rattle.dg_changes.specs.EventChanges.{change_of, what_of}
use Rattle.dg_changes.proofs.ChangeEvents.{changes_come}
use Rattle.dg_disk.specs.Calls.{Fails}
use Rattle.dg_disk.specs.declared.disk.Disk.{Ghosts}
use Rattle.dg_file.specs.Images.{BothTold}
use Rattle.dg_graph.specs.declared.element.Element.{Element}
use Rattle.dg_graph.specs.declared.event.Body.{Body}
use Rattle.dg_graph.specs.declared.event.Body.TheVariants as body
use Rattle.dg_graph.specs.declared.event.Change.{Change}
use Rattle.dg_graph.specs.declared.event.Event.{Event}
use Rattle.dg_graph.specs.declared.limits.TheConstants.{TIME_MAX}
use Rattle.dg_graph.specs.CompletedChanges.{completed}
use Rattle.dg_graph.specs.MadeByChanges.{AreMadeByChanges}
use Rattle.dg_graph.specs.Replay.{replay, replay_from}
use Rattle.dg_graph.proofs.Completions.{made_before, made_behind}
use Rattle.dg_graph.proofs.ExactEvents.{replay_append}
use Rattle.dg_history.specs.declared.form.Form.TheVariants as form
use Rattle.dg_history.specs.declared.limits.TheConstants.{BATCH_LINES_MAX}
use Rattle.dg_history.specs.declared.params.Params.{Params}
use Rattle.dg_history.specs.EventTimes.{RisesFrom}
use Rattle.dg_history.specs.History.{Batch as HistoryBatch, History, earliest_next, events_of, is_wide, last_time_from, span_of, with_batch}
use Rattle.dg_history.specs.LegalHistory.{IsLegal}
use Rattle.dg_history.proofs.EventTimes.{earliest_behind, rises_parts}
use Rattle.dg_index.specs.FileOfHistory.{Segment, segment_of, size}
use Rattle.dg_index.specs.Hierarchy.{leaves}
use Rattle.dg_index.specs.ImageOfHistory.{IsImageOf}
use Rattle.dg_index.specs.IndexGrowth.{index_with, needed_for}
use Rattle.dg_index.specs.IndexRecords.{recent_of}
use Rattle.dg_index.specs.OpenedIndex.{Opened, Opening, earliest_in, may_be_named, opened_of, opening}
use Rattle.dg_index.specs.declared.entry.BatchEntry.{BatchEntry}
use Rattle.dg_index.proofs.HierarchyStability.{leaves_more, recent_more}
use Rattle.dg_index.proofs.OpenedIndexGrowth.{measured}
use Rattle.dg_index.proofs.OpenedIndexHistories.{earliest_more, images_are_opened, large_parameters}
use Rattle.dg_index.proofs.OpenedLegalHistories.{behind}
use Rattle.dg_part_files.specs.declared.fault.PartFault.TheVariants as fault
use Rattle.dg_part_files.specs.Faults.{IsNoRefusal, of_batch}
use Rattle.dg_part_files.specs.PartFaults.{IsFullAt, StopsPart, WhyStopped}
use Rattle.dg_part_files.specs.WrittenParts.{HasRoom, IsAt, IsFrontOf, IsGoodPart, front_of, known_behind, written}
use Rattle.dg_part_files.proofs.CutSteps.{NextCut, follow_parts, known_all, next_cut_at}
use Rattle.dg_part_files.proofs.FrontBatches.{HasNext, front_legal, next_of, some_events}
use Rattle.dg_part_files.proofs.PartCrowds.{crowded}
use Rattle.dg_partition.specs.Cuts.{cut_of}
use Rattle.dg_partition.specs.HistoryParts.{cut_batches}
use Rattle.dg_retrieval.specs.NamesThere.{BodyHasNamesThere}
use Rattle.dg_stored.specs.StoredHistory.{IsHeldBy, IsSoundHistory, index_opening}
use Rattle.dg_text.specs.declared.limits.TheConstants.{NAMES_MAX}
use Rattle.dg_text.specs.Names.{are_new}

-- ---- the recent events behind so many others

recent_with : (p : Params) → 0 < p.l → (before events : List Event) → recent_behind p (length before) (recent_of p before) events ≡ recent_of p (before ++ events)
recent_with p pos before events =
    let m : ℕ = leaves p (length before) in
    let after : ℕ = leaves p (length before + length events) in
    let up : m * p.l ≤ after * p.l = mul-le-mul_right p.l (leaves_more p.l (length before) (length events) pos) in
    let whole : m * p.l + (after * p.l - m * p.l) ≡ after * p.l = omega (arith, up) in
    ap (drop (after * p.l - m * p.l)) (sym (recent_more p before events pos))
    ∙ drop-drop (after * p.l - m * p.l) (m * p.l) (before ++ events)
    ∙ ap (λ n. drop n (before ++ events)) (whole ∙ ap (λ n. leaves p n * p.l) (sym (length-append before events)))

-- ---- images that are told

ok_same : {A E : Type 0} (x y : A) → ◌≡◌ {A = Result A E} (Ok x) (Ok y) → x ≡ y
ok_same {A} {E} x y is = ap (λ (r : Result A E). value_or x r) is
  where
    value_or : {A E : Type 0} → A → Result A E → A
    value_or d (Ok v) = v
    value_or d (Err f) = d

pub if_told : {P : List ℕ → Type 0} (o : Option (List ℕ)) → ((x : List ℕ) → o ≡ Some x → P x) → IfSome o P
if_told None f = tt
if_told (Some x) f = f x refl

both_told : {P : List ℕ → List ℕ → Type 0} {Q : List ℕ → Type 0} (image after : Option (List ℕ)) → is_some after ≡ is_some image → BothTold image after P
    → ((x y : List ℕ) → image ≡ Some x → P x y → Q y) → IfSome after Q
both_told None None same h f = tt
both_told None (Some y) same h f = absurd (false≢true (sym same))
both_told (Some x) None same h f = tt
both_told (Some x) (Some y) same h f = f x y refl h

if_after : {P : Type 0} (image after : Option (List ℕ)) → is_some after ≡ is_some image → ((x : List ℕ) → image ≡ Some x → P) → IfSome after (λ _. P)
if_after image None same f = tt
if_after None (Some y) same f = absurd (false≢true (sym same))
if_after (Some x) (Some y) same f = f x refl

-- ---- names and times of changes

what_there : (count : ℕ) (b : Body) → BodyHasNamesThere count b → WhatHasNamesThere count (what_of b)
what_there count (body.NodeAdded id) h = tt
what_there count (body.NodeRemoved id) h = tt
what_there count (body.EdgeAdded directed id src dst) h = tt
what_there count (body.EdgeRemoved directed id src dst) h = tt
what_there count (body.NodeAttr key id old (Some value)) h = (h.0, h.2)
what_there count (body.NodeAttr key id old None) h = h.0
what_there count (body.EdgeAttr key id old (Some value)) h = (h.0, h.2)
what_there count (body.EdgeAttr key id old None) h = h.0
what_there count (body.Message src dst value) h = h

All_map : {X Y : Type 0} (P : Y → Type 0) (Q : X → Type 0) (f : X → Y) → ((x : X) → Q x → P (f x)) → (xs : List X) → All Q xs → All P (map f xs)
All_map P Q f each [] all = All-nil P
All_map P Q f each (x ∷ xs) all = All-cons P (f x) (map f xs) (each x (All-head Q x xs all)) (All_map P Q f each xs (All-tail Q x xs all))

-- ---- names

names_part : (names : List (List ℕ)) (done : ℕ) → may_be_named [] names ≡ true → may_be_named (take (known_behind names done) names) (drop (known_behind names done) names) ≡ true
names_part names zero named = named
names_part names (suc done) named =
    let few = (and_parts (are_new [] names) (nat_le (0 + length names) NAMES_MAX) named).1 in
    let none : drop (length names) names ≡ [] = drop_all (length names) names (omega arith) in
    let all : take (length names) names ≡ names = take_all (length names) names (omega arith) in
    subst (λ (x : List (List ℕ) × List (List ℕ)). may_be_named x.0 x.1 ≡ true) (let e : (names, []) ≡ (take (length names) names, drop (length names) names) = λ i. (sym all i, sym none i) in e)
    (ap (λ (n : ℕ). nat_le n NAMES_MAX) (let e : length names + 0 ≡ 0 + length names = omega arith in e) ∙ few)

known_within : (names : List (List ℕ)) (done : ℕ) → known_behind names done ≤ length names
known_within names zero = omega arith
known_within names (suc done) = omega arith

module _ (limit : ℕ) (params : Params) (names : List (List ℕ)) (events : List Event) (good : IsGoodPart params names events) (done n : ℕ) (l : Live) (image : Option (List ℕ))
    (a : IsAt limit params names events done l image) (some : 1 ≤ n) (within : n ≤ length (drop done events)) (left : done < length events) (n_is : n ≡ cut_of (drop done events)) where
  abbrev rest : List Event
  rest = drop done events

  abbrev now : List Event
  now = take n rest

  abbrev known : ℕ
  known = known_behind names done

  abbrev z : History
  z = front_of (written params names events) a.count

  abbrev New : HistoryBatch
  New = record { names = drop known names; events = now }

  long : length now ≡ n
  long = length-take-le n rest within

  done_long : length (take done events) ≡ done
  done_long = length-take-le done events (omega (arith, left))

  -- ---- the changes come to the events

  come : (o : Opening) → earliest_in 0 o.batches ≡ earliest_next (span_of (take done events)) → (graph : List Element) → graph ≡ replay (take done events)
      → completed 1 (earliest_in 0 o.batches) graph (map (λ (c : Change). Some c) (map change_of now)) ≡ Ok now
  come o early graph is =
      let parts = follow_parts names [] 0 events good.follow in
      let made = made_behind [] (take done events) rest (subst (AreMadeByChanges []) (sym (take-append-drop done events)) parts.0) in
      let first = made_before (replay (take done events)) now (drop n rest) (subst (AreMadeByChanges (replay (take done events))) (sym (take-append-drop n rest)) made) in
      let rises = rises_parts (earliest_next (span_of (take done events))) now (drop n rest) (subst (RisesFrom (earliest_next (span_of (take done events)))) (sym (take-append-drop n rest)) a.cuts.rises) in
      (λ i. completed 1 (early i) (is i) (map (λ (c : Change). Some c) (map change_of now)))
      ∙ changes_come (replay (take done events)) (earliest_next (span_of (take done events))) now first rises.0

  -- ---- the batch may be added

  module _ (b : Batch) (known_is : b.known ≡ known) (whole : b.front ≡ Whole) (changes_are : b.changes.items ≡ map change_of now) where
    many : length b.changes.items ≡ n
    many = ap length changes_are ∙ length-map now change_of ∙ long

    names_there : l.history.names ≡ names
    names_there = a.names_are

    taken_names : take b.known l.history.names ≡ take known names
    taken_names = λ i. take (known_is i) (a.names_are i)

    dropped_names : drop b.known l.history.names ≡ drop known names
    dropped_names = λ i. drop (known_is i) (a.names_are i)

    pub may_add : n ≤ BATCH_LINES_MAX → MayAdd b l
    may_add few = record {
      index = a.index;
      there = a.there;
      ready = record {
        sound = subst (λ (ns : List (List ℕ)). IsSoundHistory (Some a.index) ns l.history.now l.history.recent.items) (sym taken_names) a.sound;
        within = omega (arith, known_is, ap length a.names_are, known_within names done);
        some = λ w. omega (arith, many, some);
        few = omega (arith, many, few);
        room = omega (arith, many, a.counted, within, length-drop done events, left, good.few);
        named = λ w. (λ i. may_be_named (taken_names i) (dropped_names i)) ∙ names_part names done good.named;
        fit = λ w.
            subst (λ (x : List (List ℕ) × List Change). All (λ (c : Change). WhatHasNamesThere (length x.0) c.what) x.1)
            (let e : (names, map change_of now) ≡ (l.history.names, b.changes.items) = λ i. (sym a.names_are i, sym changes_are i) in e)
            (All_map (λ (c : Change). WhatHasNamesThere (length names) c.what) (λ (e : Event). BodyHasNamesThere (length names) e.body) change_of (λ e h. what_there (length names) e.body h) now
            (All-take (λ (e : Event). BodyHasNamesThere (length names) e.body) n rest (All-drop (λ (e : Event). BodyHasNamesThere (length names) e.body) done events good.there)));
        timed = λ w.
            subst (λ (cs : List Change). All (λ (c : Change). c.time ≤ TIME_MAX) cs) (sym changes_are)
            (All_map (λ (c : Change). c.time ≤ TIME_MAX) (λ (e : Event). e.time ≤ TIME_MAX) change_of (λ e h. h) now
            (All-take (λ (e : Event). e.time ≤ TIME_MAX) n rest (All-drop (λ (e : Event). e.time ≤ TIME_MAX) done events good.timed)));
      };
      pool = a.pool;
    }

    pub held_before : IfSome image (IsHeldBy (index_opening l.history.index) (take b.known l.history.names))
    held_before = subst (λ (x : Option Opening × List (List ℕ)). IfSome image (IsHeldBy x.0 x.1)) (let e : (Some a.index, take known names) ≡ (index_opening l.history.index, take b.known l.history.names) = λ i. (sym a.there i, sym taken_names i) in e) a.held

    -- ---- what the lines come to

    pub comes_to_these : (due : Result (List Event) (ℕ × ℕ)) → ComeTo a.index l.history.now.graph b due → due ≡ Ok now
    comes_to_these due c =
        let front = subst (λ f. IsFront f b.changes.items (lines b.changes.items)) (sym whole) refl in
        sym (c (lines b.changes.items) front) ∙ ap (λ (cs : List Change). completed 1 (earliest_in 0 a.index.batches) l.history.now.graph (lines cs)) changes_are
        ∙ come a.index a.earliest l.history.now.graph a.graph_is

    pub not_refused : (before after : Option (List ℕ)) (f : BatchFault) → FailsBatch a.index limit b l.history before after f → IsNoRefusal f
    not_refused before after (batch_fault.BadChange line reason) f = absurd (let no : Err (line, reason) ≡ Ok now = comes_to_these (Err (line, reason)) f.1 in cc)
    not_refused before after batch_fault.OldFormat f = absurd (false≢true (sym f.1.narrow ∙ ap is_wide a.form_is))
    not_refused before after (batch_fault.FileFull needed most) f = tt
    not_refused before after (batch_fault.Damaged key col) f = tt
    not_refused before after batch_fault.Read f = tt
    not_refused before after batch_fault.Memory f = tt
    not_refused before after batch_fault.Store f = tt

    -- ---- over an image of the first batches

    cut : NextCut names events done a.count n
    cut = next_cut_at names events done a.count n a.cuts left n_is within

    after_cut : HasNext (cut_batches names events) a.count New cut.more
    after_cut = next_of a.count (cut_batches names events) New cut.more cut.batch_is

    with_next : with_batch z New ≡ front_of (written params names events) (suc a.count)
    with_next = λ i. record { params = params; form = form.Two; batches = sym after_cut.front i }

    batch_is : (events' : List Event) → events' ≡ now → batch_with b.known l.history.names events' ≡ New
    batch_is events' is = λ i. record { names = dropped_names i; events = is i }

    module _ (legal : IsLegal (written params names events)) where
      legal_next : IsLegal (with_batch z New)
      legal_next = subst IsLegal (sym with_next) (front_legal params names events legal (suc a.count))

      stands_here : (x : List ℕ) → image ≡ Some x → IsImageOf z x
      stands_here x at = subst (λ (o : Option (List ℕ)). IfSome o (IsImageOf z)) at (a.stands legal)

      fits_here : (x : List ℕ) → image ≡ Some x → HasRoom limit z
      fits_here x at = subst (λ (o : Option (List ℕ)). IfSome o (λ _. HasRoom limit z)) at (a.fits legal)

      abbrev opened_here : Opened
      opened_here = record { index = a.index; names = take known names }

      opened_is : (x : List ℕ) → image ≡ Some x → opened_here ≡ opened_of z
      opened_is x at =
          let held : opening x ≡ Ok opened_here = subst (λ (o : Option (List ℕ)). IfSome o (IsHeldBy (Some a.index) (take known names))) at a.held in
          ok_same opened_here (opened_of z) (sym held ∙ images_are_opened z x (stands_here x at))

      over : (x : List ℕ) → image ≡ Some x → IsOverHistory z x a.index b.known l.history
      over x at =
          let stands : IsImageOf z x = stands_here x at in
          let same : opened_here ≡ opened_of z = opened_is x at in
          let known_z = behind z stands.legal in
          record {
            stands = stands;
            kept = record {
              index_is = ap (λ (y : Opened). Some y.index) same;
              names_are = taken_names ∙ ap (λ (y : Opened). y.names) same ∙ known_z.names_are;
              graph_is = a.graph_is ∙ ap replay (sym a.cuts.done_are);
              recent_are = a.recent_are ∙ ap (recent_of params) (sym a.cuts.done_are);
            };
          }

      segment_is : (x : List ℕ) → image ≡ Some x → (events' : List Event) (s : Segment) → ComesToSegment a.index b l.history image events' s → events' ≡ now → s ≡ segment_of params (events_of z) New
      segment_is x at events' s c is =
          let built = subst (λ (o : Option (List ℕ)). IfSome o (λ image. (z : History) → IsOverHistory z image a.index b.known l.history → s ≡ segment_of z.params (events_of z) (batch_with b.known l.history.names events'))) at c.built in
          built z (over x at) ∙ ap (segment_of params (events_of z)) (batch_is events' is)

      needed_is : (x : List ℕ) → image ≡ Some x → (events' : List Event) (s : Segment) → ComesToSegment a.index b l.history image events' s → events' ≡ now
          → needed_for a.index s ≡ size (front_of (written params names events) (suc a.count))
      needed_is x at events' s c is =
          (λ i. needed_for ((opened_is x at i).index) (segment_is x at events' s c is i)) ∙ measured z New refl ∙ ap size with_next

    these : (events' : List Event) (s : Segment) → ComesToSegment a.index b l.history image events' s → events' ≡ now
    these events' s c = ok_same events' now (comes_to_these (Ok events') c.come)

    -- ---- behind the batch

    module _ (new : Live) (after : Option (List ℕ)) (added : AddedBatch) (told : is_some after ≡ is_some image) (d : AddsBatch a.index limit b l new image after added) (live : IsLiveHistory new) where
      events_are : d.events ≡ now
      events_are = these d.events d.segment d.comes

      abbrev opened : Opening
      opened = index_with a.index d.segment

      taken : take (done + n) events ≡ take done events ++ now
      taken = take-add done n events

      all_known : take (known_behind names (done + n)) names ≡ names
      all_known = ap (λ (k : ℕ). take k names) (known_all names (done + n) (omega (arith, some))) ∙ take_all (length names) names (omega arith)

      recent_is : new.history.recent.items ≡ recent_of params (take (done + n) events)
      recent_is =
          let large = large_parameters params.l params.k good.parameters in
          d.recent ∙ (λ i. recent_behind (a.params_are i) ((a.counted ∙ sym done_long) i) (a.recent_are i) (events_are i))
          ∙ recent_with params (omega (arith, large.0)) (take done events) now ∙ ap (recent_of params) (sym taken)

      pub goes_on : IsAt limit params names events (done + n) new after
      goes_on = record {
        index = opened;
        count = suc a.count;
        there = d.index;
        names_are = d.names ∙ a.names_are;
        graph_is = d.graph ∙ (λ i. replay_from (a.graph_is i) (events_are i)) ∙ sym (replay_append [] (take done events) now) ∙ ap replay (sym taken);
        sound = subst (λ (x : Option Opening × List (List ℕ)). IsSoundHistory x.0 x.1 new.history.now new.history.recent.items)
            (let e : (index_opening new.history.index, new.history.names) ≡ (Some opened, take (known_behind names (done + n)) names) = λ i. (d.index i, (d.names ∙ a.names_are ∙ sym all_known) i) in e)
            live.sound;
        pool = live.pool;
        params_are = a.params_are;
        form_is = a.form_is;
        counted = sum_by_push (λ (e : BatchEntry). e.events) a.index.batches _ ∙ (λ i. a.counted i + (d.counts ∙ ap length events_are ∙ long) i);
        earliest = earliest_more 0 a.index.batches _ ∙ ap (λ (t : ℕ). t + 1) (d.ends ∙ ap (last_time_from 0) events_are)
            ∙ sym (ap (λ (es : List Event). earliest_next (span_of es)) taken ∙ earliest_behind (take done events) now (omega (arith, long, some)));
        recent_are = recent_is;
        cuts = cut.next some;
        held = subst (λ (x : Option Opening × List (List ℕ)). IfSome after (IsHeldBy x.0 x.1))
            (let e : (index_opening new.history.index, new.history.names) ≡ (Some opened, take (known_behind names (done + n)) names) = λ i. (d.index i, (d.names ∙ a.names_are ∙ sym all_known) i) in e)
            d.held;
        stands = λ legal. both_told image after told d.gains
            (λ x y at gains. subst (λ (h : History). IsImageOf h y) with_next
            (gains z New (stands_here legal x at) (legal_next legal) (segment_is legal x at d.events d.segment d.comes events_are)));
        fits = λ legal. if_after image after told
            (λ x at some. let needed = needed_is legal x at d.events d.segment d.comes events_are in
            omega (arith, needed, d.fits));
      }

    -- ---- why it is not added

    module _ (after : Option (List ℕ)) (told : is_some after ≡ is_some image) where
      as_before : (legal : IsLegal (written params names events)) → after ≡ image → IfSome after (IsFrontOf (written params names events))
      as_before legal same = subst (λ (o : Option (List ℕ)). IfSome o (IsFrontOf (written params names events))) (sym same) (if_told image (λ x at. (a.count, stands_here legal x at)))

      pub reason : (f : BatchFault) → FailsBatch a.index limit b l.history image after f → WhyStopped limit (written params names events) events after (of_batch f)
      reason (batch_fault.BadChange line why) f = tt
      reason batch_fault.OldFormat f = tt
      reason (batch_fault.FileFull needed most) f = (
        f.2.over,
        λ legal. subst (λ (o : Option (List ℕ)). IfSome o (IsFullAt limit (written params names events) needed)) (sym f.0)
            (if_told image (λ x at. record {
              count = a.count;
              more = after_cut.within;
              stands = stands_here legal x at;
              fits = fits_here legal x at;
              needed_is = f.2.needed_is ∙ needed_is legal x at f.2.events f.2.segment f.2.comes (these f.2.events f.2.segment f.2.comes);
            })),
      )
      reason (batch_fault.Damaged key col) f =
          λ legal. subst (λ (o : Option (List ℕ)). IfSome o (λ _. ⊥)) (sym f.0)
          (if_told image (λ x at. subst (λ (o : Option (List ℕ)). IfSome o (λ image. (z : History) → IsOverHistory z image a.index b.known l.history → ⊥)) at f.1.never z (over legal x at)))
      reason batch_fault.Read f = tt
      reason batch_fault.Memory f = tt
      reason batch_fault.Store f = tt

      pub front_left : (f : BatchFault) → FailsBatch a.index limit b l.history image after f → IsLegal (written params names events) → IfSome after (IsFrontOf (written params names events))
      front_left (batch_fault.BadChange line why) f legal = as_before legal f.0
      front_left batch_fault.OldFormat f legal = as_before legal f.0
      front_left (batch_fault.FileFull needed most) f legal = as_before legal f.0
      front_left (batch_fault.Damaged key col) f legal = as_before legal f.0
      front_left batch_fault.Read f legal = as_before legal f.0
      front_left batch_fault.Memory f legal = as_before legal f
      front_left batch_fault.Store f legal =
          both_told image after told f.gains
          (λ x y at gains. either y (gains z New (stands_here legal x at) (legal_next legal) (segment_is legal x at f.events f.segment f.comes (these f.events f.segment f.comes))))
        where
          either : (y : List ℕ) → IsImageOf z y ⊎ IsImageOf (with_batch z New) y → IsFrontOf (written params names events) y
          either y (inl i) = (a.count, i)
          either y (inr i) = (suc a.count, subst (λ (h : History). IsImageOf h y) with_next i)

pub cause_of : {D : Type 0} (g : Ghosts D) (old new : D) (f : BatchFault) → HasCause g f old new → of_batch f ≡ fault.Disk → Fails g old new
cause_of g old new (batch_fault.BadChange line why) h is = absurd cc
cause_of g old new batch_fault.OldFormat h is = absurd cc
cause_of g old new (batch_fault.FileFull needed most) h is = absurd cc
cause_of g old new (batch_fault.Damaged key col) h is = absurd cc
cause_of g old new batch_fault.Read h is = h.0
cause_of g old new batch_fault.Memory h is = absurd cc
cause_of g old new batch_fault.Store h is = h.call

-- no batch may be cut
pub uncut : {D : Type 0} (g : Ghosts D) (disk : D) (limit : ℕ) (params : Params) (names : List (List ℕ)) (events : List Event) (done n : ℕ) (l : Live) → IsAt limit params names events done l (g.image disk)
    → done < length events → n ≡ cut_of (drop done events) → n ≤ length (drop done events) → n ≡ 0
    → StopsPart g limit (written params names events) events disk disk (fault.Crowded (done + BATCH_LINES_MAX + 1))
uncut g disk limit params names events done n l a left n_is within none = record {
  reason = (
    crowded events done (earliest_next (span_of (take done events))) a.cuts.rises left (sym n_is ∙ none),
    λ legal.
        let cut = next_cut_at names events done a.count n a.cuts left n_is within in
        let some = some_events params names events legal a.count _ cut.more cut.batch_is in
        absurd (omega (arith, some, none, length-take-le n (drop done events) within)),
  );
  cause = λ e. absurd cc;
  front = λ legal. if_told (g.image disk) (λ x at. (a.count, subst (λ (o : Option (List ℕ)). IfSome o (IsImageOf (front_of (written params names events) a.count))) at (a.stands legal)));
}
