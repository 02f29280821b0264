-- What becomes of a batch that is prepared behind an index.
use Rattle.std.proofs.Common.{◌≡◌, ◌⊎◌, inr, ℕ, ◌+◌, ◌≤◌, List, [], ◌∷◌, ◌++◌, Option, Some, None, Ok, Err, length, take, drop, sym, ◌∙◌, ap, subst, arith, length-append}
use Rattle.std.specs.Prelude.{IfSome, is_some}
use Rattle.std.specs.List.{All}
use Rattle.std.proofs.lemmas.List.{take-append-drop}
use Rattle.std.proofs.lemmas.Option.{same_Some}
use Rattle.dg_append.proofs.BatchCrashes.{done_leaves, failed_leaves}
use Rattle.dg_append.proofs.BatchSegmentIndex.{all_behind, new_counted, new_goes_on, new_names, new_total}
use Rattle.dg_append.proofs.CompletedChanges.{events_fit}
use Rattle.dg_append.proofs.FrontEvents.{IsPrepared, come_whole, comes_to_segment, here, known_few, more_event_names, more_names}
use Rattle.dg_append.proofs.Overlays.{overlay_past, overlay_stays, pool_past, slots_past}
use Rattle.dg_append.specs.AddedBatches.{AddsBatch, AddsBatchOrNot, AddsBehindOrNot, ComesToSegment, FailsBatch, IsOverHistory, IsReady, IsSegmentOver, MayAdd, MeetsNoDamage, ReadsNothing, TakesForm, TakesOlder, batch_with, recent_behind}
use Rattle.dg_append.specs.BatchSegments.{IsBuiltOver, IsNext, IsSegmentBehind, MayFollow, StandsForKept, TakesSinglesOver}
use Rattle.dg_append.specs.KeptBatches.{GainsNextOrNot, GivesBack, IndexStays, IsCut, KeepsBatch, OverfillsFile, PassesBatch, StopsBatch}
use Rattle.dg_append.specs.DiskLeft.{LeavesDisk}
use Rattle.dg_append.specs.LiveHistories.{IsLiveHistory}
use Rattle.dg_append.specs.Overlays.{IsOverlayOf, SameOverlay, pool_in}
use Rattle.dg_append.specs.declared.batch.AddedBatch.{AddedBatch}
use Rattle.dg_append.specs.declared.batch.Batch.{Batch}
use Rattle.dg_append.specs.declared.fault.BatchFault.{BatchFault}
use Rattle.dg_append.specs.declared.fault.BatchFault.TheVariants as fault
use Rattle.dg_append.specs.declared.live.Live.{Live}
use Rattle.dg_append.specs.declared.next_batch.NextBatch.{NextBatch}
use Rattle.dg_append.specs.OlderChildSteps.{IsNamedDamage}
use Rattle.dg_append.specs.OlderGroups.{leaves_after, leaves_before, older_children}
use Rattle.dg_build.specs.OlderSteps.{IsTopDue}
use Rattle.dg_columns.specs.NamesInRange.{NamesFit}
use Rattle.dg_current.specs.Now.{NowState}
use Rattle.dg_disk.specs.declared.disk.Disk.{Ghosts}
use Rattle.dg_file.specs.Images.{BothTold, GainsSegment}
use Rattle.dg_graph.specs.declared.element.Element.{Element}
use Rattle.dg_graph.specs.declared.event.Event.{Event}
use Rattle.dg_graph.specs.Elements.{IsSet}
use Rattle.dg_graph.specs.ExactEvents.{AreChangesOf}
use Rattle.dg_graph.specs.Replay.{replay_from}
use Rattle.dg_history.specs.declared.node.NodeId.TheVariants.{Root}
use Rattle.dg_history.specs.History.{Batch as BatchOf, History, events_of, last_time_from, with_batch}
use Rattle.dg_history.specs.LegalHistory.{IsLegal}
use Rattle.dg_index.specs.FileOfHistory.{Segment, segment_of}
use Rattle.dg_index.specs.ImageOfHistory.{IsImageOf}
use Rattle.dg_index.specs.IndexGrowth.{index_with}
use Rattle.dg_index.specs.OpenedIndex.{Opening, event_total, may_be_named}
use Rattle.dg_plan.specs.IndexGraph.{arcs_of}
use Rattle.dg_plan.specs.Walks.{AreSingles}
use Rattle.dg_pool.specs.Graphs.{PoolState}
use Rattle.dg_retrieval.specs.KeptGraph.{record_edges}
use Rattle.dg_retrieval.specs.ValueRange.{ValuesFit}
use Rattle.dg_retrieval.specs.NamesThere.{BodyHasNamesThere, EventNamesAreThere, NamesAreThere}
use Rattle.dg_retrieval.proofs.NamesThere.{replay_there}
use Rattle.dg_retrieval.proofs.ValueRanges.{replay_fits}
use Rattle.dg_stored.specs.declared.stored_history.StoredHistory.{StoredHistory}
use Rattle.dg_stored.specs.StoredHistory.{AreCounted, IsHeldBy, IsKeptOf, IsSoundHistory, MayGoOn, index_opening}

-- ---- what is made over what is kept

-- The batch is the next one of the history, whose events are these and whose recent events are those that are kept.
pub record IsNextOf (batch : Batch) (h : StoredHistory) (events : List Event) (next : NextBatch) : Type 0 where
  pub known_is : next.known ≡ batch.known
  pub names_are : next.names.now ≡ h.names
  pub recent_is : next.recent.now ≡ h.recent.items
  pub events_are : next.events.now ≡ events

module _ (o : Opening) (batch : Batch) (h : StoredHistory) (graph : List Element) (events : List Event) (next : NextBatch) (graph_is : graph ≡ h.now.graph) (n : IsNextOf batch h events next) where
  known_names : take next.known next.names.now ≡ take batch.known h.names
  known_names i = take (n.known_is i) (n.names_are i)

  new_names_are : drop next.known next.names.now ≡ drop batch.known h.names
  new_names_are i = drop (n.known_is i) (n.names_are i)

  stands_for : (z : History) (image : List ℕ) → IsOverHistory z image o batch.known h → StandsForKept z image o next graph
  stands_for z image over = (
    over.stands,
    subst (λ (x : List (List ℕ) × List Element × List Event). IsKeptOf z (Some o) x.0 x.1 x.2)
        (let e : (take batch.known h.names, h.now.graph, h.recent.items) ≡ (take next.known next.names.now, graph, next.recent.now) = λ i. (sym known_names i, sym graph_is i, sym n.recent_is i) in e)
        over.kept,
  )

  built_over : (before : Option (List ℕ)) (s : Segment) → IsBuiltOver before o next graph s → IsSegmentOver before o batch.known h events s
  built_over None s made = tt
  built_over (Some image) s made = λ z over.
      made z (stands_for z image over)
      ∙ (λ i. segment_of z.params (events_of z) (record { names = new_names_are i; events = n.events_are i }))

  pub takes_over : (before : Option (List ℕ)) (taken then_taken : ℕ) → length events ≡ length batch.changes.items → TakesSinglesOver before o next graph taken then_taken → TakesOlder before o batch h taken then_taken
  takes_over None taken then_taken many most = tt
  takes_over (Some image) taken then_taken many most = λ z over singles are.
      most z (stands_for z image over) singles
      (subst (λ m. AreSingles (arcs_of (record_edges o)) (Root ∷ []) (older_children o m) singles) (sym (ap length n.events_are ∙ many)) are)

  -- what was read for a batch that is kept, and for one that is not
  pub takes_kept : {D : Type 0} (g : Ghosts D) (limit : ℕ) (opened : Opening) (before after : D) (taken then_taken : ℕ) → KeepsBatch g limit o opened next graph before after → length events ≡ length batch.changes.items
      → TakesSinglesOver (g.image before) o next graph taken then_taken → TakesOlder (g.image before) o batch h taken then_taken
  takes_kept g limit opened before after taken then_taken k = takes_over (g.image before) taken then_taken

  pub takes_stopped : (limit : ℕ) (before after : Option (List ℕ)) (f : BatchFault) (taken then_taken : ℕ) → StopsBatch limit o next graph before after f → length events ≡ length batch.changes.items
      → TakesSinglesOver before o next graph taken then_taken → TakesOlder before o batch h taken then_taken
  takes_stopped limit before after f taken then_taken s = takes_over before taken then_taken

  -- a batch of so many changes meets no damage where that of its events meets none
  pub whole_over : (before : Option (List ℕ)) → length events ≡ length batch.changes.items → MeetsNoDamage before o next.known (length next.events.now) → MeetsNoDamage before o batch.known (length batch.changes.items)
  whole_over before many whole =
      subst (λ (x : ℕ × ℕ). MeetsNoDamage before o x.0 x.1) (let e : (next.known, length next.events.now) ≡ (batch.known, length batch.changes.items) = λ i. (n.known_is i, (ap length n.events_are ∙ many) i) in e) whole

  comes : (before : Option (List ℕ)) (s : Segment) → IsPrepared o batch h events → IsBuiltOver before o next graph s → ComesToSegment o batch h before events s
  comes before s p built = comes_to_segment o batch h before events s p (built_over before s built)

  -- the batch was not put into the file
  pub not_added : (limit : ℕ) (before after : Option (List ℕ)) (f : BatchFault) → IsPrepared o batch h events → StopsBatch limit o next graph before after f → FailsBatch o limit batch h before after f
  not_added limit before after (fault.BadChange line reason) p stops = absurd stops
  not_added limit before after fault.OldFormat p stops = absurd stops
  not_added limit before after (fault.FileFull needed most) p stops =
      let f : OverfillsFile limit o next graph before needed = stops.2 in (
        stops.0,
        stops.1,
        record { events = events; segment = f.segment; comes = comes before f.segment p f.built; needed_is = f.needed_is; over = f.over },
      )
  not_added limit before after (fault.Damaged key col) p stops = (
    stops.0,
    record {
      events = events;
      whole = p.whole;
      come = come_whole o batch h events p;
      form = p.form;
      damage = subst (λ (x : ℕ × List Event × List Event × List Element). IfSome before (λ image. IsNamedDamage x.0 image o x.1 x.2 x.3 key col))
          (let e : (next.known, next.recent.now, next.events.now, graph) ≡ (batch.known, h.recent.items, events, h.now.graph) = λ i. (n.known_is i, n.recent_is i, n.events_are i, graph_is i) in e) stops.1.0;
      never = by before stops.1.1;
    },
  )
    where
      by : (told : Option (List ℕ)) → IfSome told (λ image. (z : History) → StandsForKept z image o next graph → ⊥) → IfSome told (λ image. (z : History) → IsOverHistory z image o batch.known h → ⊥)
      by None never = tt
      by (Some image) never = λ z over. never z (stands_for z image over)
  not_added limit before after fault.Read p stops = (stops, record { events = events; whole = p.whole; come = come_whole o batch h events p; form = p.form })
  not_added limit before after fault.Memory p stops = stops
  not_added limit before after fault.Store p stops = record { events = events; segment = stops.segment; comes = comes before stops.segment p stops.built; gains = stops.gains; fits = stops.fits }

  -- what a crash may leave of it
  adds_or_not : IsPrepared o batch h events → (a c : List ℕ) → GainsNextOrNot o next graph a c → AddsBehindOrNot o batch h a c
  adds_or_not p a c gain = λ z over.
      inr (
        events,
        p.whole,
        come_whole o batch h events p,
        p.form,
        λ legal. subst (λ (b : BatchOf). IsImageOf z c ⊎ IsImageOf (with_batch z b) c) batch_is
            (gain z (stands_for z a over) (subst (λ (b : BatchOf). IsLegal (with_batch z b)) (sym batch_is) legal)),
      )
    where
      batch_is : batch_with next.known next.names.now next.events.now ≡ batch_with batch.known h.names events
      batch_is i = record { names = new_names_are i; events = n.events_are i }

  module _ {D : Type 0} (g : Ghosts D) (limit : ℕ) (old new : D) (is : index_opening h.index ≡ Some o) (p : IsPrepared o batch h events) (image : IfSome (g.image old) (IsHeldBy (index_opening h.index) (take batch.known h.names))) where
    widened : (a c : List ℕ) → IsHeldBy (index_opening h.index) (take batch.known h.names) a → GainsNextOrNot o next graph a c → AddsBatchOrNot batch h a c
    widened a c held gain = here (index_opening h.index) o (λ (o : Opening). AddsBehindOrNot o batch h a c) is (adds_or_not p a c gain)

    -- what is left of the disk by a batch that is kept, and by one that is not
    pub added_leaves : {A B : Type 0} (opened : Opening) (x : A) (y : B) → KeepsBatch g limit o opened next graph old new → LeavesDisk g (GainsNextOrNot o next graph) old new (Ok x) → LeavesDisk g (AddsBatchOrNot batch h) old new (Ok y)
    added_leaves opened x y k = done_leaves g old new (IsHeldBy (index_opening h.index) (take batch.known h.names)) (GainsNextOrNot o next graph) (AddsBatchOrNot batch h) widened image x y

    pub not_added_leaves : {A B : Type 0} (f : BatchFault) → StopsBatch limit o next graph (g.image old) (g.image new) f → LeavesDisk {A = A} g (GainsNextOrNot o next graph) old new (Err f) → LeavesDisk {A = B} g (AddsBatchOrNot batch h) old new (Err f)
    not_added_leaves f stops = failed_leaves g old new (IsHeldBy (index_opening h.index) (take batch.known h.names)) (GainsNextOrNot o next graph) (AddsBatchOrNot batch h) widened image f

  -- it may be put behind the index
  pub next_is : IsSet h.now.graph → IsReady o batch h → IsPrepared o batch h events
      → (IsTopDue o.params.k (leaves_before o) (leaves_after o (length batch.changes.items)) → next.top.now ≡ h.now.graph) → IsNext o next graph
  next_is set r p top = record {
    follows = subst (λ (x : List Event × List Event). MayFollow o x.0 x.1) (let e : (h.recent.items, events) ≡ (next.recent.now, next.events.now) = λ i. (sym n.recent_is i, sym n.events_are i) in e) p.follows;
    within = subst (λ (x : ℕ × List (List ℕ)). x.0 ≤ length x.1) (let e : (batch.known, h.names) ≡ (next.known, next.names.now) = λ i. (sym n.known_is i, sym n.names_are i) in e) r.within;
    counted = ap (λ (ns : List (List ℕ)). length ns) known_names ∙ r.sound.counted.0;
    named = (λ i. may_be_named (known_names i) (new_names_are i)) ∙ r.named p.whole;
    recent_fit = subst (λ (es : List Event). All (λ (e : Event). NamesFit e.body) es) (sym n.recent_is)
        (events_fit (length h.names) h.recent.items p.few_names (more_event_names (length (take batch.known h.names)) (length h.names) h.recent.items (known_few batch.known h.names) r.sound.recent_named));
    fit = subst (λ (es : List Event). All (λ (e : Event). NamesFit e.body) es) (sym n.events_are) (events_fit (length h.names) events p.few_names p.there);
    set = subst IsSet (sym graph_is) set;
    changes = subst (λ (x : List Element × List Event). AreChangesOf x.0 x.1) (let e : (h.now.graph, events) ≡ (graph, next.events.now) = λ i. (sym graph_is i, sym n.events_are i) in e) p.changes_are;
    form = subst (TakesForm o) (sym n.events_are) p.form;
    top = λ due. top (subst (λ many. IsTopDue o.params.k (leaves_before o) (leaves_after o many)) (ap length n.events_are ∙ p.many) due) ∙ sym graph_is;
  }

-- the index that is told of is this one
pub ready_here : (batch : Batch) (l : Live) (o : Opening) → MayAdd batch l → index_opening l.history.index ≡ Some o → IsReady o batch l.history
ready_here batch l o may is = subst (λ (x : Opening). IsReady x batch l.history) (same_Some may.index o (sym may.there ∙ is)) may.ready

-- a batch whose changes are right is not refused for one
pub nothing_read : (limit : ℕ) (o : Opening) (next : NextBatch) (graph : List Element) (before after : Option (List ℕ)) (f : BatchFault) (taken then_taken : ℕ) → StopsBatch limit o next graph before after f → ReadsNothing f taken then_taken
nothing_read limit o next graph before after (fault.BadChange line reason) taken then_taken stops = absurd stops
nothing_read limit o next graph before after fault.OldFormat taken then_taken stops = absurd stops
nothing_read limit o next graph before after (fault.FileFull needed most) taken then_taken stops = tt
nothing_read limit o next graph before after (fault.Damaged key col) taken then_taken stops = tt
nothing_read limit o next graph before after fault.Read taken then_taken stops = tt
nothing_read limit o next graph before after fault.Memory taken then_taken stops = tt
nothing_read limit o next graph before after fault.Store taken then_taken stops = tt

-- ---- the batch is added

-- so is the image afterwards
gains_held : (before after : Option (List ℕ)) (o new : Opening) (s : Segment) (names : List (List ℕ)) → is_some after ≡ is_some before
    → IfSome before (λ image. IsHeldBy (Some o) names image) → BothTold before after (GainsSegment o s new) → IfSome after (λ image. IsHeldBy (Some new) (names ++ s.names) image)
gains_held None None o new s names same h g = tt
gains_held None (Some y) o new s names same h g = cc
gains_held (Some x) None o new s names same h g = tt
gains_held (Some x) (Some y) o new s names same h g = g names h

-- What is in memory went on with these events to an index that is opened so.
pub record WentOn (old new : Live) (opened : Opening) (events left : List Event) : Type 0 where
  pub index : index_opening new.history.index ≡ Some opened
  pub names_are : new.history.names ≡ old.history.names
  pub graph_is : new.history.now.graph ≡ replay_from old.history.now.graph events
  pub pending : new.history.now.pending ≡ []
  pub recent_are : new.history.recent.items ≡ left

module _ {D : Type 0} (g : Ghosts D) (o opened : Opening) (limit : ℕ) (batch : Batch) (old new : Live) (before after : D) (events left : List Event) (next : NextBatch)
    (overlay : IsOverlayOf old.history.now.graph (pool_in old.pool)) (graph_is : next.current.now.graph ≡ old.history.now.graph) (n : IsNextOf batch old.history events next) (p : IsPrepared o batch old.history events) (k : KeepsBatch g limit o opened next next.current.now.graph before after)
    (passes : PassesBatch o next left (pool_in old.pool) (pool_in new.pool)) (w : WentOn old new opened events left) where
  abbrev h : StoredHistory
  h = old.history

  abbrev segment : Segment
  segment = k.segment

  behind : IsSegmentBehind o (drop batch.known h.names) h.recent.items events segment
  behind =
      subst (λ (x : List (List ℕ) × List Event × List Event). IsSegmentBehind o x.0 x.1 x.2 segment)
      (let e : (drop next.known next.names.now, next.recent.now, next.events.now) ≡ (drop batch.known h.names, h.recent.items, events) =
      λ i. (new_names_are o batch h next.current.now.graph events next graph_is n i, n.recent_is i, n.events_are i) in e)
      k.made.behind

  index_is : index_opening new.history.index ≡ Some (index_with o segment)
  index_is = w.index ∙ ap (λ (x : Opening). Some x) k.kept.index

  recent_is : new.history.recent.items ≡ recent_behind o.params (event_total o.batches) h.recent.items events
  recent_is = w.recent_are ∙ passes.left_is ∙ (λ i. recent_behind o.params (event_total o.batches) (n.recent_is i) (n.events_are i))

  -- the events of the index with the batch
  pub total_kept : event_total opened.batches ≡ event_total o.batches + length events
  total_kept = ap (λ (x : Opening). event_total x.batches) k.kept.index ∙ new_total o h.recent.items events p.follows (drop batch.known h.names) segment behind

  all_names : take batch.known h.names ++ segment.names ≡ new.history.names
  all_names = ap (λ (l : List (List ℕ)). take batch.known h.names ++ l) behind.names_are ∙ take-append-drop batch.known h.names ∙ sym w.names_are

  -- the history with the batch is sound, and its graph is that of the pool
  pub live_after : IsReady o batch h → IsLiveHistory new
  live_after r = record {
    sound = record {
      pending = w.pending;
      counted = subst (λ (i : Option Opening). AreCounted i new.history.names new.history.now.graph new.history.recent.items) (sym index_is) counted;
      values = subst ValuesFit (sym w.graph_is) (replay_fits h.now.graph events r.sound.values fit);
      named = subst (λ (x : List (List ℕ) × List Element). NamesAreThere (length x.0) x.1) (let e : (h.names, replay_from h.now.graph events) ≡ (new.history.names, new.history.now.graph) = λ i. (sym w.names_are i, sym w.graph_is i) in e)
          (replay_there (length h.names) h.now.graph events (more_names known (length h.names) h.now.graph (known_few batch.known h.names) r.sound.named) p.there);
      recent_named = subst (λ (x : List (List ℕ) × List Event). EventNamesAreThere (length x.0) x.1)
          (let e : (h.names, recent_behind o.params (event_total o.batches) h.recent.items events) ≡ (new.history.names, new.history.recent.items) = λ i. (sym w.names_are i, sym recent_is i) in e)
          (all_behind (λ (e : Event). BodyHasNamesThere (length h.names) e.body) o h.recent.items events (more_event_names known (length h.names) h.recent.items (known_few batch.known h.names) r.sound.recent_named) p.there);
      fit = subst (λ (es : List Event). All (λ (e : Event). NamesFit e.body) es) (sym recent_is) (all_behind (λ (e : Event). NamesFit e.body) o h.recent.items events r.sound.fit fit);
      goes_on = subst (λ (x : Option Opening × List Event). MayGoOn x.0 x.1)
          (let e : (Some (index_with o segment), recent_behind o.params (event_total o.batches) h.recent.items events) ≡ (index_opening new.history.index, new.history.recent.items) = λ i. (sym index_is i, sym recent_is i) in e)
          (new_goes_on o h.recent.items events p.follows (drop batch.known h.names) segment behind);
    };
    pool = subst (λ (x : List Element). IsOverlayOf x (pool_in new.pool)) ((λ i. replay_from old.history.now.graph (n.events_are i)) ∙ sym w.graph_is)
        (overlay_past next.events.now old.history.now.graph (pool_in old.pool) (pool_in new.pool) overlay passes.past);
  }
    where
      known : ℕ
      known = length (take batch.known h.names)

      fit : All (λ (e : Event). NamesFit e.body) events
      fit = events_fit (length h.names) events p.few_names p.there

      many_names : length (take batch.known h.names) + length (drop batch.known h.names) ≡ length h.names
      many_names = sym (length-append (take batch.known h.names) (drop batch.known h.names)) ∙ ap length (take-append-drop batch.known h.names)

      counted : AreCounted (Some (index_with o segment)) new.history.names new.history.now.graph new.history.recent.items
      counted = (
        omega (arith, ap length w.names_are, many_names, new_names o h.recent.items events p.follows (drop batch.known h.names) segment behind, r.sound.counted.0),
        ap length recent_is ∙ new_counted o h.recent.items events p.follows (drop batch.known h.names) segment behind,
      )

  -- the batch is in the file and in memory
  pub adds : (added : AddedBatch) → IfSome (g.image before) (λ image. IsHeldBy (Some o) (take batch.known h.names) image) → is_some (g.image after) ≡ is_some (g.image before)
      → (added.events.items ≡ events) × (added.total ≡ event_total o.batches + length events) × (added.last ≡ last_time_from 0 events)
      → AddsBatch o limit batch old new (g.image before) (g.image after) added
  adds added image same told = record {
    events = events;
    segment = segment;
    comes = comes o batch h next.current.now.graph events next graph_is n (g.image before) segment p k.made.built;
    many = p.many;
    counts = behind.events_are;
    ends = behind.last_is;
    whole = whole_over o batch h next.current.now.graph events next graph_is n (g.image before) p.many k.made.whole;
    index = index_is;
    names = w.names_are;
    graph = w.graph_is;
    recent = recent_is;
    slots = slots_past next.events.now (pool_in old.pool) (pool_in new.pool) passes.past;
    pool = pool_past next.events.now (pool_in old.pool) (pool_in new.pool) passes.past;
    gains = k.kept.gained;
    held = subst (λ (x : Option Opening × List (List ℕ)). IfSome (g.image after) (λ image. IsHeldBy x.0 x.1 image))
        (let e : (Some opened, take batch.known h.names ++ segment.names) ≡ (index_opening new.history.index, new.history.names) = λ i. (sym w.index i, all_names i) in e)
        (gains_held (g.image before) (g.image after) o opened segment (take batch.known h.names) same image k.kept.opened);
    fits = k.kept.fits;
    told = told;
  }

-- ---- the batch is taken back

-- what was kept before may be gone on with once a batch is taken back that has changed no graph
module _ (known : ℕ) (o : Opening) (old middle new : Live) (sound : IsSoundHistory (Some o) (take known old.history.names) old.history.now old.history.recent.items)
    (overlay : IsOverlayOf old.history.now.graph (pool_in old.pool)) (names_are : middle.history.names ≡ old.history.names) (graph_is : middle.history.now.graph ≡ old.history.now.graph)
    (recent_are : middle.history.recent.items ≡ old.history.recent.items) (same : SameOverlay (pool_in old.pool) (pool_in middle.pool)) where
  cut_live : index_opening middle.history.index ≡ Some o → IsCut known middle new → IsLiveHistory new
  cut_live index_is cut = record {
    sound = subst (λ (x : Option Opening × List (List ℕ) × NowState × List Event). IsSoundHistory x.0 x.1 x.2 x.3)
        (let e : (Some o, take known old.history.names, old.history.now, old.history.recent.items) ≡ (index_opening new.history.index, new.history.names, new.history.now, new.history.recent.items) =
        λ i. (sym (ap index_opening cut.index ∙ index_is) i, sym (cut.names ∙ ap (take known) names_are) i, sym now_is i, sym (cut.recent ∙ recent_are) i) in e)
        sound;
    pool = subst (λ (x : List Element × Option PoolState). IsOverlayOf x.0 x.1)
        (let e : (old.history.now.graph, pool_in middle.pool) ≡ (new.history.now.graph, pool_in new.pool) = λ i. (sym (cut.graph ∙ graph_is) i, sym cut.pool i) in e)
        (overlay_stays old.history.now.graph (pool_in old.pool) (pool_in middle.pool) overlay same);
  }
    where
      now_is : new.history.now ≡ old.history.now
      now_is = λ i. record { graph = (cut.graph ∙ graph_is) i; pending = (cut.pending ∙ sym sound.pending) i }

  pub back_live : (f : BatchFault) (opened : Opening) → index_opening middle.history.index ≡ Some opened → IndexStays f o opened → GivesBack f known middle new → IsLiveHistory new
  back_live (fault.BadChange line reason) opened is stays back = cut_live (is ∙ ap (λ (x : Opening). Some x) stays) back
  back_live fault.OldFormat opened is stays back = cut_live (is ∙ ap (λ (x : Opening). Some x) stays) back
  back_live (fault.FileFull needed most) opened is stays back = cut_live (is ∙ ap (λ (x : Opening). Some x) stays) back
  back_live (fault.Damaged key col) opened is stays back = cut_live (is ∙ ap (λ (x : Opening). Some x) stays) back
  back_live fault.Read opened is stays back = cut_live (is ∙ ap (λ (x : Opening). Some x) stays) back
  back_live fault.Memory opened is stays back = cut_live (is ∙ ap (λ (x : Opening). Some x) stays) back
  back_live fault.Store opened is stays back = back.0
