-- How the next batch is added to a history.
use Rattle.std.specs.Global.{Vec}
use Rattle.std.specs.Prelude.{◌≡◌, ◌⊎◌, ◌+◌, ◌-◌, ◌*◌, ◌<◌, ◌≤◌, ℕ, true, false, List, [], ◌∷◌, ◌++◌, Option, None, Some, Result, Ok, Err, IfErr, IfSome, is_some, length, take, drop}
use Rattle.std.specs.List.{All, sum}
use Rattle.dg_append.specs.declared.batch.AddedBatch.{AddedBatch}
use Rattle.dg_append.specs.declared.batch.Batch.{Batch}
use Rattle.dg_append.specs.declared.fault.BatchFault.{BatchFault}
use Rattle.dg_append.specs.declared.fault.BatchFault.TheVariants as fault
use Rattle.dg_append.specs.declared.front.Front.TheVariants.{Whole}
use Rattle.dg_append.specs.declared.live.Live.{Live}
use Rattle.dg_append.specs.Fronts.{ComeTo}
use Rattle.dg_append.specs.LiveHistories.{IsForgotten}
use Rattle.dg_append.specs.Overlays.{IsOverlayOf, SameOverlay, SameSlots, pool_in}
use Rattle.dg_append.specs.OlderChildSteps.{IsNamedDamage}
use Rattle.dg_append.specs.OlderGroups.{AreUndamaged, in_groups, older_children}
use Rattle.dg_file.specs.Images.{BothTold, GainsBatch, GainsBatchOrNot}
use Rattle.dg_fold.specs.BytesRead.{TakesAtMost}
use Rattle.dg_graph.specs.declared.element.Column.{Column}
use Rattle.dg_graph.specs.declared.element.Element.{Element}
use Rattle.dg_graph.specs.declared.event.Change.{Change}
use Rattle.dg_graph.specs.declared.event.Event.{Event}
use Rattle.dg_graph.specs.declared.event.What.{What}
use Rattle.dg_graph.specs.declared.event.What.TheVariants as what
use Rattle.dg_graph.specs.declared.limits.TheConstants.{TIME_MAX}
use Rattle.dg_graph.specs.Replay.{replay_from}
use Rattle.dg_history.specs.declared.limits.TheConstants.{BATCH_LINES_MAX, EVENTS_MAX}
use Rattle.dg_history.specs.declared.node.Key.{Key}
use Rattle.dg_history.specs.declared.node.NodeId.TheVariants.{Root}
use Rattle.dg_history.specs.declared.params.Params.{Params}
use Rattle.dg_history.specs.History.{Batch as BatchOf, History, events_of, is_wide, last_time_from, with_batch}
use Rattle.dg_history.specs.LegalHistory.{IsLegal, are_silent}
use Rattle.dg_index.specs.FileOfHistory.{Segment, segment_of}
use Rattle.dg_index.specs.Hierarchy.{leaves}
use Rattle.dg_index.specs.ImageOfHistory.{IsImageOf}
use Rattle.dg_index.specs.IndexGrowth.{index_with, needed_for}
use Rattle.dg_index.specs.OpenedIndex.{Opening, event_total, may_be_named}
use Rattle.dg_plan.specs.IndexGraph.{arcs_of}
use Rattle.dg_plan.specs.Walks.{AreSingles}
use Rattle.dg_retrieval.specs.KeptGraph.{record_edges}
use Rattle.dg_stored.specs.declared.stored_history.StoredHistory.{StoredHistory}
use Rattle.dg_stored.specs.StoredHistory.{IsHeldBy, IsKeptOf, IsSoundHistory, index_opening}

-- ---- what may be added

-- the key and the value of a change are below this number of names
abbrev pub WhatHasNamesThere : ℕ → What → Type 0
WhatHasNamesThere name_count (what.SetNode id key value) = (key < name_count) × (value < name_count)
WhatHasNamesThere name_count (what.UnsetNode id key) = key < name_count
WhatHasNamesThere name_count (what.SetEdge id key value) = (key < name_count) × (value < name_count)
WhatHasNamesThere name_count (what.UnsetEdge id key) = key < name_count
WhatHasNamesThere name_count (what.Message src dst value) = value < name_count
WhatHasNamesThere name_count _ = Unit {0}

-- The batch may be a next one of this history, which has its names already: there is room for its events, the names
-- behind those that were known may follow them, and its changes name none but these.
pub record IsReady (o : Opening) (batch : Batch) (h : StoredHistory) : Type 0 where
  pub sound : IsSoundHistory (Some o) (take batch.known h.names) h.now h.recent.items
  pub within : batch.known ≤ length h.names
  pub some : batch.front ≡ Whole → 1 ≤ length batch.changes.items
  pub few : length batch.changes.items ≤ BATCH_LINES_MAX
  pub room : event_total o.batches + length batch.changes.items ≤ EVENTS_MAX
  pub named : batch.front ≡ Whole → may_be_named (take batch.known h.names) (drop batch.known h.names) ≡ true
  pub fit : batch.front ≡ Whole → All (λ (change : Change). WhatHasNamesThere (length h.names) change.what) batch.changes.items
  pub timed : batch.front ≡ Whole → All (λ (change : Change). change.time ≤ TIME_MAX) batch.changes.items

-- The history has an index, the batch may be a next one behind it, and where there is a pool its current graph is that of
-- the history.
pub record MayAdd (batch : Batch) (l : Live) : Type 0 where
  pub index : Opening
  pub there : index_opening l.history.index ≡ Some index
  pub ready : IsReady index batch l.history
  pub pool : IsOverlayOf l.history.now.graph (pool_in l.pool)

-- the form of the file takes these events: in the first form none of them is a message
abbrev pub TakesForm : Opening → List Event → Type 0
TakesForm o events = is_wide o.form ≡ false → are_silent events ≡ true

-- ---- the batch and its segment

-- the batch of these events, which brings the names from this number on
abbrev pub batch_with : ℕ → List (List ℕ) → List Event → BatchOf
batch_with known names events = record { names = drop known names; events = events }

-- the image stands for the history, and this is kept of it beside the index, with the first `known` of the names
pub record IsOverHistory (z : History) (image : List ℕ) (o : Opening) (known : ℕ) (h : StoredHistory) : Type 0 where
  pub stands : IsImageOf z image
  pub kept : IsKeptOf z (Some o) (take known h.names) h.now.graph h.recent.items

-- Over the image of a history the segment is that of the batch of these events.
abbrev pub IsSegmentOver : Option (List ℕ) → Opening → ℕ → StoredHistory → List Event → Segment → Type 0
IsSegmentOver before o known h events s =
    IfSome before (λ image. (z : History) → IsOverHistory z image o known h
    → s ≡ segment_of z.params (events_of z) (batch_with known h.names events))

-- the events behind the last closed list, once these are behind so many others, of which these were recent
abbrev pub recent_behind : Params → ℕ → List Event → List Event → List Event
recent_behind p before recent events =
    drop (leaves p (before + length events) * p.l - leaves p before * p.l) (recent ++ events)

-- the recent events once these stand behind them: those that are left, or all where they close no list
abbrev pub left_behind : Option (Vec Event) → List Event → List Event → List Event
left_behind None recent events = recent ++ events
left_behind (Some left) recent events = left.items

-- The lines come to a batch of these events, which the form of the file takes, and whose segment is this.
pub record ComesToSegment (o : Opening) (batch : Batch) (old : StoredHistory) (before : Option (List ℕ)) (events : List Event) (segment : Segment) : Type 0 where
  pub whole : batch.front ≡ Whole
  pub come : ComeTo o old.now.graph batch (Ok events)
  pub form : TakesForm o events
  pub built : IsSegmentOver before o batch.known old events segment

-- Where the image is told, the trees of the older children of the interior nodes that a batch of so many events completes
-- enter no damaged column.
abbrev pub MeetsNoDamage : Option (List ℕ) → Opening → ℕ → ℕ → Type 0
MeetsNoDamage before o known count = IfSome before (λ image. AreUndamaged known o image (in_groups (older_children o count)))

-- ---- what is added

-- The batch was added: in the file, behind the segments of the index, and in memory. It has an event for each change, and its
-- segment tells as many, with the time of the last. It met no damage, no graph of a slot has changed, and there is a pool
-- where there was one.
pub record AddsBatch (o : Opening) (limit : ℕ) (batch : Batch) (old new : Live) (before after : Option (List ℕ)) (added : AddedBatch) : Type 0 where
  pub events : List Event
  pub segment : Segment
  pub comes : ComesToSegment o batch old.history before events segment
  pub many : length events ≡ length batch.changes.items
  pub counts : segment.events ≡ length events
  pub ends : segment.last ≡ last_time_from 0 events
  pub whole : MeetsNoDamage before o batch.known (length batch.changes.items)
  pub index : index_opening new.history.index ≡ Some (index_with o segment)
  pub names : new.history.names ≡ old.history.names
  pub graph : new.history.now.graph ≡ replay_from old.history.now.graph events
  pub recent : new.history.recent.items ≡ recent_behind o.params (event_total o.batches) old.history.recent.items events
  pub slots : SameSlots (pool_in old.pool) (pool_in new.pool)
  pub pool : is_some (pool_in new.pool) ≡ is_some (pool_in old.pool)
  pub gains : BothTold before after (GainsBatch segment)
  pub held : IfSome after (λ image. IsHeldBy (index_opening new.history.index) new.history.names image)
  pub fits : needed_for o segment ≤ limit
  pub told : (added.events.items ≡ events) × (added.total ≡ event_total o.batches + length events) × (added.last ≡ last_time_from 0 events)

-- What a crash may leave while the lines are added behind this index as a batch: over the image of a history of which
-- this is kept, an image of it; or the lines come to a batch that the form of the file takes, and where that may follow
-- the history, an image without it or with it.
abbrev pub AddsBehindOrNot : Opening → Batch → StoredHistory → List ℕ → List ℕ → Type 0
AddsBehindOrNot o batch h before after =
    (z : History) → IsOverHistory z before o batch.known h
    → IsImageOf z after
    ⊎ ((events : List Event) × (batch.front ≡ Whole) × ComeTo o h.now.graph batch (Ok events) × TakesForm o events
    × (IsLegal (with_batch z (batch_with batch.known h.names events)) → IsImageOf z after ⊎ IsImageOf (with_batch z (batch_with batch.known h.names events)) after))

-- the same behind the index of the history
abbrev pub AddsBatchOrNot : Batch → StoredHistory → List ℕ → List ℕ → Type 0
AddsBatchOrNot batch h before after = IfSome (index_opening h.index) (λ o. AddsBehindOrNot o batch h before after)

-- ---- why nothing is added

-- The lines come to a batch for which the file has too little room.
pub record FillsFile (o : Opening) (limit : ℕ) (batch : Batch) (old : StoredHistory) (before : Option (List ℕ)) (needed : ℕ) : Type 0 where
  pub events : List Event
  pub segment : Segment
  pub comes : ComesToSegment o batch old before events segment
  pub needed_is : needed ≡ needed_for o segment
  pub over : limit < needed

-- The lines come to a batch, and the disk failed while it was added.
pub record BreaksBatch (o : Opening) (limit : ℕ) (batch : Batch) (old : StoredHistory) (before after : Option (List ℕ)) : Type 0 where
  pub events : List Event
  pub segment : Segment
  pub comes : ComesToSegment o batch old before events segment
  pub gains : BothTold before after (GainsBatchOrNot segment)
  pub fits : needed_for o segment ≤ limit

-- The lines come to a batch of these events, one of which is a message, and the file has its first form.
pub record IsOldFormat (o : Opening) (batch : Batch) (old : StoredHistory) : Type 0 where
  pub events : List Event
  pub whole : batch.front ≡ Whole
  pub come : ComeTo o old.now.graph batch (Ok events)
  pub narrow : is_wide o.form ≡ false
  pub sends : are_silent events ≡ false

-- The lines come to a batch of these events, which the form of the file takes, and whose older children or deltas are
-- damaged so.
pub record MeetsDamage (o : Opening) (batch : Batch) (old : StoredHistory) (before : Option (List ℕ)) (key : Key) (col : Column) : Type 0 where
  pub events : List Event
  pub whole : batch.front ≡ Whole
  pub come : ComeTo o old.now.graph batch (Ok events)
  pub form : TakesForm o events
  pub damage : IfSome before (λ image. IsNamedDamage batch.known image o old.recent.items events old.now.graph key col)
  pub never : IfSome before (λ image. (z : History) → IsOverHistory z image o batch.known old → ⊥)

-- The lines come to a batch that the form of the file takes, and a read failed while its older children were read: so it
-- comes only behind lines that are refused for nothing.
pub record FailsToRead (o : Opening) (batch : Batch) (old : StoredHistory) : Type 0 where
  pub events : List Event  -- those of the batch
  pub whole : batch.front ≡ Whole  -- each line is a change
  pub come : ComeTo o old.now.graph batch (Ok events)  -- and no change is refused
  pub form : TakesForm o events  -- nor a message

-- Why the lines come to no batch over this graph that the form of the file takes: a line is refused, or one is a message;
-- of want of memory nothing is said.
abbrev pub IsRefused : Opening → List Element → Batch → BatchFault → Type 0
IsRefused o graph batch (fault.BadChange line reason) = ComeTo o graph batch (Err (line, reason))
IsRefused o graph batch fault.OldFormat =
    (events : List Event) × (batch.front ≡ Whole) × ComeTo o graph batch (Ok events) × (is_wide o.form ≡ false) × (are_silent events ≡ false)
IsRefused o graph batch (fault.FileFull needed most) = ⊥
IsRefused o graph batch (fault.Damaged key col) = ⊥
IsRefused o graph batch fault.Read = ⊥
IsRefused o graph batch fault.Memory = Unit {0}
IsRefused o graph batch fault.Store = ⊥

-- what a fault says of the batch and of the image
abbrev pub FailsBatch : Opening → ℕ → Batch → StoredHistory → Option (List ℕ) → Option (List ℕ) → BatchFault → Type 0
FailsBatch o limit batch old before after (fault.BadChange line reason) =
    (after ≡ before) × ComeTo o old.now.graph batch (Err (line, reason))
FailsBatch o limit batch old before after fault.OldFormat = (after ≡ before) × IsOldFormat o batch old
FailsBatch o limit batch old before after (fault.FileFull needed most) =
    (after ≡ before) × (most ≡ limit) × FillsFile o limit batch old before needed
FailsBatch o limit batch old before after (fault.Damaged key col) =
    (after ≡ before) × MeetsDamage o batch old before key col
FailsBatch o limit batch old before after fault.Read = (after ≡ before) × FailsToRead o batch old
FailsBatch o limit batch old before after fault.Memory = after ≡ before
FailsBatch o limit batch old before after fault.Store = BreaksBatch o limit batch old before after

-- The history is as it was, with the names that were known, and so is each graph of the pool.
pub record IsAsKnown (known : ℕ) (old new : Live) : Type 0 where
  pub index : index_opening new.history.index ≡ index_opening old.history.index
  pub names : new.history.names ≡ take known old.history.names
  pub graph : new.history.now.graph ≡ old.history.now.graph
  pub recent : new.history.recent.items ≡ old.history.recent.items
  pub graphs : SameOverlay (pool_in old.pool) (pool_in new.pool)

-- after a fault all is as it was; after a failure of a write or sync nothing is kept
abbrev pub IsBack : BatchFault → ℕ → Live → Live → Type 0
IsBack (fault.BadChange line reason) known old new = IsAsKnown known old new
IsBack fault.OldFormat known old new = IsAsKnown known old new
IsBack (fault.FileFull needed most) known old new = IsAsKnown known old new
IsBack (fault.Damaged key col) known old new = IsAsKnown known old new
IsBack fault.Read known old new = IsAsKnown known old new
IsBack fault.Memory known old new = IsAsKnown known old new
IsBack fault.Store known old new = IsForgotten new

-- ---- the bytes read

-- Over the image of a history a batch of these changes reads at most what the single plans of the older children
-- of the interior nodes that it completes weigh together, over the records alone.
abbrev pub TakesOlder : Option (List ℕ) → Opening → Batch → StoredHistory → ℕ → ℕ → Type 0
TakesOlder before o batch h taken then_taken =
    IfSome before (λ image. (z : History) → IsOverHistory z image o batch.known h
    → (singles : List ℕ) → AreSingles (arcs_of (record_edges o)) (Root ∷ []) (older_children o (length batch.changes.items)) singles
    → TakesAtMost (sum singles) taken then_taken)

-- a batch that is refused for a change, or for a message, has read nothing
abbrev pub ReadsNothing : BatchFault → ℕ → ℕ → Type 0
ReadsNothing (fault.BadChange line reason) taken then_taken = then_taken ≡ taken
ReadsNothing fault.OldFormat taken then_taken = then_taken ≡ taken
ReadsNothing (fault.FileFull needed most) taken then_taken = Unit {0}
ReadsNothing (fault.Damaged key col) taken then_taken = Unit {0}
ReadsNothing fault.Read taken then_taken = Unit {0}
ReadsNothing fault.Memory taken then_taken = Unit {0}
ReadsNothing fault.Store taken then_taken = Unit {0}

-- The bytes that a batch reads: those of the older children at most, and none where a change or a message is refused or
-- where not all lines are kept.
pub record TakesBatch (o : Opening) (batch : Batch) (h : StoredHistory) (before : Option (List ℕ)) (r : Result AddedBatch BatchFault) (taken then_taken : ℕ) : Type 0 where
  pub older : TakesOlder before o batch h taken then_taken
  pub refused : IfErr r (λ f. ReadsNothing f taken then_taken)
  pub unkept : (batch.front ≡ Whole → ⊥) → then_taken ≡ taken
