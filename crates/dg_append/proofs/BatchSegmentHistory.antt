-- What is kept of a history, over an image that stands for it.
use Rattle.std.proofs.Common.{◌≡◌, ℕ, slice_get, ◌≤◌, true, false, List as ListOf, [], ◌∷◌, ◌++◌, Option, Some, None, Result, Ok, Err, length, take, drop, map, min, inl, inr, refl, sym, ◌∙◌, ap, subst, arith, length-take}
use Rattle.std.specs.Prelude.{IfErr, IfOk, IfSome}
use Rattle.std.specs.Global.{Vec}
use Rattle.std.specs.List.{Contains, flat_map, sum}
use Rattle.std.proofs.lemmas.Bool.{false≢true}
use Rattle.std.proofs.lemmas.List.Elements.{Contains-get_or}
use Rattle.std.proofs.lemmas.Option.{get_or_from_slice_get, same_Some, slice_get_within}
use Rattle.dg_append.proofs.OlderChildSteps.{leaf_led}
use Rattle.dg_append.proofs.OlderGroupSets.{some_map}
use Rattle.dg_append.specs.AddedBatches.{TakesForm, batch_with}
use Rattle.dg_append.specs.BatchSegments.{IsBuiltOver, IsNext, IsPast, IsSegmentBehind, IsUnmade, MakesSegment, StandsForKept, StopsSegment, TakesSinglesOver}
use Rattle.dg_append.specs.declared.fault.BatchFault.{BatchFault}
use Rattle.dg_append.specs.declared.fault.BatchFault.TheVariants as fault
use Rattle.dg_append.specs.declared.next_batch.NextBatch.{NextBatch}
use Rattle.dg_append.specs.Faults.{of_retrieval}
use Rattle.dg_append.specs.OlderChildSteps.{AreLedOlder, GivesOlderSteps, IsFirstWideDelta, IsNamedDamage}
use Rattle.dg_append.specs.OlderGroups.{AreUndamaged, IsBatchDamage, IsFirstOfGroups, in_groups, leaves_after, leaves_before, older_children}
use Rattle.dg_build.specs.InteriorDeltas.{steps_to}
use Rattle.dg_build.specs.OlderSteps.{last_leaf, older_in_time}
use Rattle.dg_fold.specs.BytesRead.{TakesAtMost}
use Rattle.dg_fold.proofs.LegalHistories.{legal_is_indexed}
use Rattle.dg_graph.specs.Composition.{Delta}
use Rattle.dg_graph.specs.declared.element.Column.{Column}
use Rattle.dg_graph.specs.declared.element.Element.{Element}
use Rattle.dg_graph.specs.declared.event.Event.{Event}
use Rattle.dg_graph.specs.Effect.{forwards}
use Rattle.dg_graph.specs.Elements.{IsSet}
use Rattle.dg_graph.specs.ExactEvents.{AreChangesOf}
use Rattle.dg_graph.specs.Replay.{replay_from}
use Rattle.dg_history.specs.declared.node.Key.{Key}
use Rattle.dg_history.specs.declared.node.NodeId.{NodeId}
use Rattle.dg_history.specs.declared.node.NodeId.TheVariants.{Root}
use Rattle.dg_history.specs.declared.params.Params.{Params}
use Rattle.dg_history.specs.declared.form.Form.{Form}
use Rattle.dg_history.specs.declared.form.Form.TheVariants as form
use Rattle.dg_history.specs.History.{Batch, History, events_of, is_wide, narrow_batches}
use Rattle.dg_history.specs.LegalHistory.{are_silent}
use Rattle.dg_index.specs.FileOfHistory.{Segment, segment_of}
use Rattle.dg_index.specs.Hierarchy.{leaves, set_of}
use Rattle.dg_index.specs.IndexRecords.{recent_of}
use Rattle.dg_index.specs.OpenedIndex.{Opened, Opening, bare, event_total, opened_in, opened_of, opened_onto, with_marker, with_segment}
use Rattle.dg_index.proofs.UnheardRecords.{silent_append}
use Rattle.dg_plan.specs.IndexGraph.{arcs_of}
use Rattle.dg_plan.specs.Walks.{AreSingles}
use Rattle.dg_retrieval.specs.KeptGraph.{record_edges}
use Rattle.dg_records.specs.declared.fault.RecordFault.{RecordFault}
use Rattle.dg_records.specs.declared.fault.RecordFault.TheVariants as retrieval
use Rattle.dg_retrieval.specs.Retrieval.{IsNoDamage}
use Rattle.dg_retrieval.specs.NodeSets.{IsIndexOver}
use Rattle.dg_retrieval.proofs.KeptGraphWeights.{opened_events, opened_params}

-- ---- the form

-- segments do not change it
form_onto : (p : Params) (x : Opened) (before : ListOf Event) (batches : ListOf Batch) → (opened_onto p x before batches).index.form ≡ x.index.form
form_onto p x before [] = refl
form_onto p x before (b ∷ batches) = form_onto p (with_segment x (segment_of p before b)) (before ++ b.events) batches

wide_in : (f : Form) (p : Params) (batches : ListOf Batch) → is_wide (opened_in f p batches).index.form ≡ is_wide f
wide_in form.One p batches = ap is_wide (form_onto p (bare form.One p) [] batches)
wide_in (form.Upgraded b) p batches =
    ap is_wide (form_onto p (with_marker (opened_onto p (bare form.One p) [] (take b batches))) (flat_map (λ (b : Batch). b.events) (take b batches)) (drop b batches))
wide_in form.Two p batches = ap is_wide (form_onto p (bare form.Two p) [] batches)

-- in the first form no event of a history is a message
all_silent : (f : Form) (batches : ListOf Batch) → are_silent (flat_map (λ (b : Batch). b.events) (narrow_batches f batches)) ≡ true → is_wide f ≡ false
    → are_silent (flat_map (λ (b : Batch). b.events) batches) ≡ true
all_silent form.One batches silent narrow = silent
all_silent (form.Upgraded b) batches silent narrow = absurd (false≢true (sym narrow))
all_silent form.Two batches silent narrow = absurd (false≢true (sym narrow))

changes_joined : (set : ListOf Element) (xs ys : ListOf Event) → AreChangesOf set xs → AreChangesOf (replay_from set xs) ys → AreChangesOf set (xs ++ ys)
changes_joined set [] ys first more = more
changes_joined set (e ∷ xs) ys first more = (first.0, changes_joined (forwards set e) xs ys first.1 more)

-- the steps are those of the older children of the batch, over the history
abbrev pub AreRead : Opening → NextBatch → History → ListOf Delta → Type 0
AreRead o next z steps =
    steps ≡ steps_to (map (set_of z.params (events_of z)) (older_in_time o.params.k (leaves_before o) (leaves_after o (length next.events.now)))) (last_leaf z.params (events_of z))

-- what a call that reads the steps of the older children tells, over an image of which the history is kept
abbrev pub GivesKept : Opening → NextBatch → ListOf Element → ℕ → ℕ → Result (Vec Delta) RecordFault → ListOf ℕ → Type 0
GivesKept o next graph taken then_taken r image =
    (z : History) → StandsForKept z image o next graph
    → GivesOlderSteps z (record_edges o) (older_children o (length next.events.now)) (older_in_time o.params.k (leaves_before o) (leaves_after o (length next.events.now))) taken then_taken r

module _ (z : History) (image : ListOf ℕ) (o : Opening) (next : NextBatch) (graph : ListOf Element) (is : StandsForKept z image o next graph) where
  opened : o ≡ (opened_of z).index
  opened = same_Some o (opened_of z).index is.1.index_is

  params : o.params ≡ z.params
  params = ap (λ (x : Opening). x.params) opened ∙ opened_params z

  pub index_over : next.known ≤ length next.names.now → IsIndexOver z image o next.known
  index_over within = record {
    stands = is.0;
    opened = opened;
    names = sym (length-take next.known next.names.now ∙ (let e : min next.known (length next.names.now) ≡ next.known = omega (arith, within) in e)) ∙ ap length is.1.names_are;
  }

  long : event_total o.batches ≡ length (events_of z)
  long = ap (λ (x : Opening). event_total x.batches) opened ∙ opened_events z

  narrow_silent : is_wide o.form ≡ false → are_silent (events_of z) ≡ true
  narrow_silent narrow =
      all_silent z.form z.batches is.0.legal.silent (sym (ap (λ (x : Opening). is_wide x.form) opened ∙ wide_in z.form z.params z.batches) ∙ narrow)

  pub past_is : (steps : ListOf Delta) → AreChangesOf graph next.events.now → TakesForm o next.events.now → AreRead o next z steps
      → IsPast o (events_of z) next.recent.now graph next.events.now steps
  past_is steps changes takes are = record {
    long = sym long;
    recent_is = is.1.recent_are ∙ ap (λ (p : Params). recent_of p (events_of z)) (sym params);
    graph_is = is.1.graph_is;
    changes = changes_joined [] (events_of z) next.events.now (legal_is_indexed z is.0.legal).0.changes (subst (λ (set : ListOf Element). AreChangesOf set next.events.now) is.1.graph_is changes);
    steps_are = are
        ∙ (λ i. steps_to (map (set_of (sym params i) (events_of z)) (older_in_time o.params.k (leaves o.params (long i)) (leaves_after o (length next.events.now)))) (last_leaf (sym params i) (events_of z)));
    form = λ narrow. silent_append (events_of z) next.events.now (narrow_silent narrow) (takes narrow);
  }

  -- the current graph, led back over the recent events, is the last leaf
  pub leaf_over : (leaf : ListOf Element) → ((set : ListOf Element) → IsSet set → AreChangesOf set next.recent.now → graph ≡ replay_from set next.recent.now → leaf ≡ set) → leaf ≡ last_leaf z.params (events_of z)
  leaf_over leaf leads = leaf_led z.params (events_of z) next.recent.now graph leaf is.1.recent_are is.1.graph_is (legal_is_indexed z is.0.legal).0.changes leads

  pub segment_over : (b : Batch) (s : Segment) → s ≡ segment_of o.params (events_of z) b → s ≡ segment_of z.params (events_of z) b
  segment_over b s made = made ∙ ap (λ (p : Params). segment_of p (events_of z) b) params

-- ---- what is made from the older children

-- a key that has a place among these is one of them
key_among : (keys : ListOf Key) (place : ℕ) (key : Key) → slice_get keys place ≡ Some key → Contains keys key
key_among keys place key is = subst (Contains keys) (get_or_from_slice_get keys place key key is) (Contains-get_or keys place key (slice_get_within keys place key is))

-- what is named is damage of the batch
pub batch_damage : (told : Option (ListOf ℕ)) (names : ℕ) (o : Opening) (recent events : ListOf Event) (graph : ListOf Element) (key : Key) (col : Column) → IfSome told (λ image. IsNamedDamage names image o recent events graph key col)
    → IfSome told (λ image. IsBatchDamage names o image (length events) key col)
batch_damage told names o recent events graph key col named =
    some_map told (λ image. IsNamedDamage names image o recent events graph key col) (λ image. IsBatchDamage names o image (length events) key col) (λ image. by image) named
  where
    by : (image : ListOf ℕ) → IsNamedDamage names image o recent events graph key col → IsBatchDamage names o image (length events) key col
    by image (inl first) = inl first
    by image (inr wide) = inr (wide.0, wide.1, key_among _ wide.2.first.place key wide.2.first.there)

-- The steps are those of the older children of the batch.
module _ (told : Option (ListOf ℕ)) (o : Opening) (next : NextBatch) (graph : ListOf Element) (steps given : ListOf Delta) (taken : given ≡ steps)
    (n : IsNext o next graph) (are : IfSome told (λ image. (z : History) → StandsForKept z image o next graph → AreRead o next z steps))
    (whole : IfSome told (λ image. AreUndamaged next.known o image (in_groups (older_children o (length next.events.now)))))
    (led : IfSome told (λ image. AreLedOlder next.known image o (older_children o (length next.events.now)) (older_in_time o.params.k (leaves_before o) (leaves_after o (length next.events.now))) next.recent.now graph steps)) where
  abbrev events : ListOf Event
  events = next.events.now

  abbrev children : ListOf NodeId
  children = older_children o (length events)

  past_given : (z : History) (image : ListOf ℕ) → StandsForKept z image o next graph → AreRead o next z steps → IsPast o (events_of z) next.recent.now graph events given
  past_given z image is steps_are = past_is z image o next graph is given n.changes n.form (taken ∙ steps_are)

  abbrev Made : Segment → Type 0
  Made s = (past : ListOf Event) → IsPast o past next.recent.now graph events given → s ≡ segment_of o.params past (batch_with next.known next.names.now events)

  pub made_over : (r : Result Segment BatchFault) → IfOk r (λ s. IsSegmentBehind o (drop next.known next.names.now) next.recent.now events s) → IfOk r Made
      → IfOk r (MakesSegment told o next graph)
  made_over (Err f) behind made = tt
  made_over (Ok s) behind made = record {
    behind = behind;
    built = by told are;
    whole = whole;
  }
    where
      by : (told : Option (ListOf ℕ)) → IfSome told (λ image. (z : History) → StandsForKept z image o next graph → AreRead o next z steps) → IsBuiltOver told o next graph s
      by None are = tt
      by (Some image) are = λ z is.
          segment_over z image o next graph is (batch_with next.known next.names.now events) s
          (made (events_of z) (past_given z image is (are z is)))

  -- a segment that is not made over the image of a history lacked memory
  pub unmade_over : (r : Result Segment BatchFault) → IfErr r (IsUnmade o next graph given)
      → IfErr r (λ f. (past : ListOf Event) → IsPast o past next.recent.now graph events given → f ≡ fault.Memory)
      → IfErr r (StopsSegment told o next graph)
  unmade_over (Ok s) unmade never = tt
  unmade_over (Err (fault.BadChange line reason)) unmade never = unmade
  unmade_over (Err fault.OldFormat) unmade never = unmade
  unmade_over (Err (fault.FileFull needed most)) unmade never = unmade
  unmade_over (Err (fault.Damaged key col)) unmade never = (damage told whole led, none told are)
    where
      first : IsFirstWideDelta o next.recent.now events graph steps key
      first =
          subst (λ (ds : ListOf Delta). IsFirstWideDelta o next.recent.now events graph ds key) taken unmade.1

      damage : (told : Option (ListOf ℕ)) → IfSome told (λ image. AreUndamaged next.known o image (in_groups children))
          → IfSome told (λ image. AreLedOlder next.known image o children (older_in_time o.params.k (leaves_before o) (leaves_after o (length events))) next.recent.now graph steps)
          → IfSome told (λ image. IsNamedDamage next.known image o next.recent.now events graph key col)
      damage None whole led = tt
      damage (Some image) whole led = inr (whole, unmade.0, record { steps = steps; led = led; first = first })

      none : (told : Option (ListOf ℕ)) → IfSome told (λ image. (z : History) → StandsForKept z image o next graph → AreRead o next z steps)
          → IfSome told (λ image. (z : History) → StandsForKept z image o next graph → ⊥)
      none None are = tt
      none (Some image) are = λ z is.
          let memory : fault.Damaged key col ≡ fault.Memory = never (events_of z) (past_given z image is (are z is)) in cc
  unmade_over (Err fault.Read) unmade never = tt
  unmade_over (Err fault.Memory) unmade never = tt
  unmade_over (Err fault.Store) unmade never = unmade

-- at most what the single plans weigh is read
pub kept_takes : (o : Opening) (next : NextBatch) (graph : ListOf Element) (told : Option (ListOf ℕ)) (taken then_taken : ℕ) (r : Result (Vec Delta) RecordFault)
    → IfSome told (GivesKept o next graph taken then_taken r) → TakesSinglesOver told o next graph taken then_taken
kept_takes o next graph told taken then_taken r gives =
    some_map told (GivesKept o next graph taken then_taken r)
    (λ image. (z : History) → StandsForKept z image o next graph → (singles : ListOf ℕ) → AreSingles (arcs_of (record_edges o)) (Root ∷ []) (older_children o (length next.events.now)) singles → TakesAtMost (sum singles) taken then_taken)
    (λ image g z is. (g z is).most) gives

-- the steps are given
pub steps_given : (o : Opening) (next : NextBatch) (graph : ListOf Element) (told : Option (ListOf ℕ)) (taken then_taken : ℕ) (steps : Vec Delta) → IfSome told (GivesKept o next graph taken then_taken (Ok steps))
    → IfSome told (λ image. (z : History) → StandsForKept z image o next graph → AreRead o next z steps.items)
steps_given o next graph told taken then_taken steps gives =
    some_map told (GivesKept o next graph taken then_taken (Ok steps)) (λ image. (z : History) → StandsForKept z image o next graph → AreRead o next z steps.items) (λ image g z is. (g z is).steps) gives

named_damage : (key : Key) (col : Column) → IsNoDamage (retrieval.Damaged key col) → ⊥
named_damage key col (inl disk) = cc
named_damage key col (inr memory) = cc

-- the steps of the older children were not read
pub unread_over : (o : Opening) (next : NextBatch) (graph : ListOf Element) (told : Option (ListOf ℕ)) (taken then_taken : ℕ) (f : RecordFault)
    → IfSome told (GivesKept o next graph taken then_taken (Err f)) → IfSome told (λ image. IsFirstOfGroups next.known o image (in_groups (older_children o (length next.events.now))) f)
    → StopsSegment told o next graph (of_retrieval f)
unread_over o next graph told taken then_taken retrieval.Disk gives first = tt
unread_over o next graph told taken then_taken retrieval.Memory gives first = tt
unread_over o next graph None taken then_taken (retrieval.Damaged key col) gives first = (tt, tt)
unread_over o next graph (Some image) taken then_taken (retrieval.Damaged key col) gives first = (inl first, λ z is. named_damage key col (gives z is).never)
