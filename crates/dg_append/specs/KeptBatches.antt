-- What a batch needs before the first write, and how it is put into the file and into the pool, or why not.
use Rattle.std.specs.Prelude.{◌≡◌, ◌⊎◌, ◌≤◌, ◌<◌, ℕ, List, [], Option, Some, None, IfSome, take}
use Rattle.dg_append.specs.declared.batch_commit.MadeBatch.{MadeBatch}
use Rattle.dg_append.specs.declared.fault.BatchFault.{BatchFault}
use Rattle.dg_append.specs.declared.fault.BatchFault.TheVariants as fault
use Rattle.dg_append.specs.declared.live.Live.{Live}
use Rattle.dg_append.specs.declared.nets.Nets.{Nets}
use Rattle.dg_append.specs.declared.next_batch.NextBatch.{NextBatch}
use Rattle.dg_append.specs.AddedBatches.{batch_with, left_behind, recent_behind}
use Rattle.dg_append.specs.BatchNets.{led_by}
use Rattle.dg_append.specs.BatchSegments.{IsBuiltOver, MakesSegment, StandsForKept, StopsSegment}
use Rattle.dg_append.specs.LiveHistories.{IsForgotten, IsLiveHistory}
use Rattle.dg_append.specs.Overlays.{SameOverlay, pool_in}
use Rattle.dg_cells.specs.Rows.{AllHave, Row}
use Rattle.dg_disk.specs.declared.disk.Disk.{Ghosts}
use Rattle.dg_file.specs.Calls.{CommitsPart, CommitsSegment}
use Rattle.dg_file.specs.Images.{BothTold, GainsBatchOrNot}
use Rattle.dg_graph.specs.declared.element.Element.{Element}
use Rattle.dg_graph.specs.declared.event.Event.{Event}
use Rattle.dg_graph.specs.Elements.{IsSet}
use Rattle.dg_graph.specs.Replay.{replay_from}
use Rattle.dg_history.specs.History.{History, with_batch}
use Rattle.dg_history.specs.LegalHistory.{IsLegal}
use Rattle.dg_index.specs.FileOfHistory.{Segment}
use Rattle.dg_index.specs.ImageOfHistory.{IsImageOf}
use Rattle.dg_index.specs.IndexGrowth.{needed_for}
use Rattle.dg_index.specs.OpenedIndex.{Opening, event_total}
use Rattle.dg_pool.specs.Graphs.{PoolState, graph_now, slot_graph}

-- ---- before the first write

-- Each element that one of the nets brings has a cell.
pub record HaveCellsFor (rows : List (Option Row)) (nets : Nets) : Type 0 where
  pub earlier : AllHave rows nets.earlier.plus
  pub later : AllHave rows nets.later.plus

-- the nets lead each graph past the events
abbrev pub LeadPast : Nets → List Event → Type 0
LeadPast nets events = (set : List Element) → IsSet set → led_by nets.earlier nets.later set ≡ replay_from set events

-- there are nets where there is a pool, and their cells are in it
abbrev pub AreNetsFor : Option PoolState → Option Nets → Type 0
AreNetsFor None None = Unit {0}
AreNetsFor None (Some nets) = ⊥
AreNetsFor (Some pool) None = ⊥
AreNetsFor (Some pool) (Some nets) = HaveCellsFor pool.rows nets

-- All that the batch needs is made: its segment, the events behind the last closed list once it is there, and where there
-- is a pool its nets with their cells.
pub record MakesBatch (before : Option (List ℕ)) (o : Opening) (next : NextBatch) (pool : Option PoolState) (made : MadeBatch) : Type 0 where
  pub segment : MakesSegment before o next next.current.now.graph made.segment
  pub left : left_behind made.left next.recent.now next.events.now ≡ recent_behind o.params (event_total o.batches) next.recent.now next.events.now
  pub cells : AreNetsFor pool made.nets
  pub leads : IfSome made.nets (λ nets. LeadPast nets next.events.now)

-- ---- the segment in the file

-- why the segment is not kept in the file, and what becomes of the index and of the disk
abbrev pub StopsKeeping : {D : Type 0} → Ghosts D → ℕ → Opening → Segment → Opening → D → D → BatchFault → Type 0
StopsKeeping g limit o s new before after (fault.BadChange line reason) = ⊥
StopsKeeping g limit o s new before after fault.OldFormat = ⊥
StopsKeeping g limit o s new before after (fault.FileFull needed most) =
    (needed ≡ needed_for o s) × (most ≡ limit) × (limit < needed) × (new ≡ o) × (after ≡ before)
StopsKeeping g limit o s new before after (fault.Damaged key col) = ⊥
StopsKeeping g limit o s new before after fault.Read = ⊥
StopsKeeping g limit o s new before after fault.Memory = (new ≡ o) × (after ≡ before)
StopsKeeping g limit o s new before after fault.Store = CommitsPart g limit o s before after

-- ---- the batch in the file and in memory

-- The batch is in the file, and the index has its segment.
pub record KeepsBatch {D : Type 0} (g : Ghosts D) (limit : ℕ) (o new : Opening) (next : NextBatch) (graph : List Element) (before after : D) : Type 0 where
  pub segment : Segment
  pub made : MakesSegment (g.image before) o next graph segment
  pub kept : CommitsSegment g limit o segment new before after

-- the current graph of the pool, where there is one, has gone on by these nets, and no other graph has changed
abbrev pub GoesOnBy : Option Nets → Option PoolState → Option PoolState → Type 0
GoesOnBy None None None = Unit {0}
GoesOnBy (Some nets) (Some old) (Some new) =
    (graph_now new ≡ led_by nets.earlier nets.later (graph_now old)) × ((s : ℕ) → slot_graph new s ≡ slot_graph old s)
GoesOnBy _ _ _ = ⊥

-- the current graph of the pool, where there is one, is past these events, and no other graph has changed
abbrev pub GoesPast : List Event → Option PoolState → Option PoolState → Type 0
GoesPast events None None = Unit {0}
GoesPast events None (Some new) = ⊥
GoesPast events (Some old) None = ⊥
GoesPast events (Some old) (Some new) =
    (graph_now new ≡ replay_from (graph_now old) events) × ((s : ℕ) → slot_graph new s ≡ slot_graph old s)

-- What is in memory has gone on with the batch: these are the events behind the last closed list, and the pool, where there
-- is one, is past its events.
pub record PassesBatch (o : Opening) (next : NextBatch) (left : List Event) (old new : Option PoolState) : Type 0 where
  pub left_is : left ≡ recent_behind o.params (event_total o.batches) next.recent.now next.events.now
  pub past : GoesPast next.events.now old new

-- What a crash may leave while the batch is put into the file: over the image of a history of which these are kept, and
-- which the batch may follow, an image of it without the batch or with it.
abbrev pub GainsNextOrNot : Opening → NextBatch → List Element → List ℕ → List ℕ → Type 0
GainsNextOrNot o next graph before after =
    (z : History) → StandsForKept z before o next graph → IsLegal (with_batch z (batch_with next.known next.names.now next.events.now))
    → IsImageOf z after ⊎ IsImageOf (with_batch z (batch_with next.known next.names.now next.events.now)) after

-- The file has too little room for the segment of the batch: this many bytes would be in use.
pub record OverfillsFile (limit : ℕ) (o : Opening) (next : NextBatch) (graph : List Element) (before : Option (List ℕ)) (needed : ℕ) : Type 0 where
  pub segment : Segment
  pub built : IsBuiltOver before o next graph segment
  pub needed_is : needed ≡ needed_for o segment
  pub over : limit < needed

-- The disk failed while the segment of the batch was put into the file.
pub record BreaksFile (limit : ℕ) (o : Opening) (next : NextBatch) (graph : List Element) (before after : Option (List ℕ)) : Type 0 where
  pub segment : Segment
  pub built : IsBuiltOver before o next graph segment
  pub gains : BothTold before after (GainsBatchOrNot segment)
  pub fits : needed_for o segment ≤ limit

-- why the batch is not put into the file, and what becomes of the image
abbrev pub StopsBatch : ℕ → Opening → NextBatch → List Element → Option (List ℕ) → Option (List ℕ) → BatchFault → Type 0
StopsBatch limit o next graph before after (fault.BadChange line reason) = ⊥
StopsBatch limit o next graph before after fault.OldFormat = ⊥
StopsBatch limit o next graph before after (fault.FileFull needed most) =
    (after ≡ before) × (most ≡ limit) × OverfillsFile limit o next graph before needed
StopsBatch limit o next graph before after (fault.Damaged key col) =
    (after ≡ before) × StopsSegment before o next graph (fault.Damaged key col)
StopsBatch limit o next graph before after fault.Read = after ≡ before
StopsBatch limit o next graph before after fault.Memory = after ≡ before
StopsBatch limit o next graph before after fault.Store = BreaksFile limit o next graph before after

-- the index is what it was, except after a failure of a write or sync
abbrev pub IndexStays : BatchFault → Opening → Opening → Type 0
IndexStays (fault.BadChange line reason) old new = new ≡ old
IndexStays fault.OldFormat old new = new ≡ old
IndexStays (fault.FileFull needed most) old new = new ≡ old
IndexStays (fault.Damaged key col) old new = new ≡ old
IndexStays fault.Read old new = new ≡ old
IndexStays fault.Memory old new = new ≡ old
IndexStays fault.Store old new = Unit {0}

-- So it is, and no graph of the pool has changed.
pub record StaysBehind (f : BatchFault) (old new : Opening) (before after : Option PoolState) : Type 0 where
  pub index : IndexStays f old new
  pub graphs : SameOverlay before after

-- ---- after a fault

-- The names are those that were known, nothing is pending, and all else is as it was.
pub record IsCut (known : ℕ) (old new : Live) : Type 0 where
  pub index : new.history.index ≡ old.history.index
  pub names : new.history.names ≡ take known old.history.names
  pub graph : new.history.now.graph ≡ old.history.now.graph
  pub pending : new.history.now.pending ≡ []
  pub recent : new.history.recent.items ≡ old.history.recent.items
  pub pool : pool_in new.pool ≡ pool_in old.pool

-- what a batch that is not added leaves behind is taken back; after a failure of a write or sync nothing is kept
abbrev pub GivesBack : BatchFault → ℕ → Live → Live → Type 0
GivesBack (fault.BadChange line reason) known old new = IsCut known old new
GivesBack fault.OldFormat known old new = IsCut known old new
GivesBack (fault.FileFull needed most) known old new = IsCut known old new
GivesBack (fault.Damaged key col) known old new = IsCut known old new
GivesBack fault.Read known old new = IsCut known old new
GivesBack fault.Memory known old new = IsCut known old new
GivesBack fault.Store known old new = IsLiveHistory new × IsForgotten new
