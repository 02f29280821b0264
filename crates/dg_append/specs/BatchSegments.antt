-- The segment of a batch as it is made behind an index, over any image, and why it is not made or not kept.
use Rattle.std.specs.Prelude.{◌≡◌, ◌≤◌, ◌<◌, ◌+◌, ◌++◌, ℕ, true, false, List as ListOf, [], ◌∷◌, Option, Some, IfSome, length, map, take, drop}
use Rattle.std.specs.List.{All, sum}
use Rattle.dg_append.specs.declared.fault.BatchFault.{BatchFault}
use Rattle.dg_append.specs.declared.fault.BatchFault.TheVariants as fault
use Rattle.dg_append.specs.declared.next_batch.NextBatch.{NextBatch}
use Rattle.dg_append.specs.AddedBatches.{MeetsNoDamage, TakesForm, batch_with, recent_behind}
use Rattle.dg_append.specs.OlderChildSteps.{IsFirstWideDelta, IsNamedDamage}
use Rattle.dg_append.specs.OlderGroups.{leaves_after, leaves_before, older_children}
use Rattle.dg_build.specs.OlderSteps.{AreOlderSteps, IsTopDue}
use Rattle.dg_build.specs.SpelledRecords.{last_in_rows}
use Rattle.dg_columns.specs.NamesInRange.{NamesFit}
use Rattle.dg_fold.specs.BytesRead.{TakesAtMost}
use Rattle.dg_graph.specs.Composition.{Delta}
use Rattle.dg_graph.specs.declared.element.Column.TheVariants.{Structure}
use Rattle.dg_graph.specs.declared.element.Element.{Element}
use Rattle.dg_graph.specs.declared.event.Event.{Event}
use Rattle.dg_graph.specs.declared.limits.TheConstants.{TIME_MAX}
use Rattle.dg_graph.specs.Elements.{IsSet}
use Rattle.dg_graph.specs.ExactEvents.{AreChangesOf}
use Rattle.dg_graph.specs.Replay.{replay}
use Rattle.dg_history.specs.declared.limits.TheConstants.{BATCH_LINES_MAX, EVENTS_MAX}
use Rattle.dg_history.specs.declared.node.NodeId.TheVariants.{Root}
use Rattle.dg_history.specs.EventTimes.{RisesFrom}
use Rattle.dg_history.specs.History.{History, events_of, first_time_of, is_wide, last_time_from}
use Rattle.dg_index.specs.FileOfHistory.{Segment, segment_of, stored_in}
use Rattle.dg_index.specs.ImageOfHistory.{IsImageOf}
use Rattle.dg_index.specs.IndexGrowth.{name_total}
use Rattle.dg_index.specs.IndexRecords.{recent_of}
use Rattle.dg_index.specs.OpenedIndex.{AreUnheard, Opening, delta_count, earliest_in, event_total, list_count, list_row, may_be_listed, may_be_named}
use Rattle.dg_plan.specs.IndexGraph.{arcs_of}
use Rattle.dg_plan.specs.Walks.{AreSingles}
use Rattle.dg_retrieval.specs.KeptGraph.{record_edges}
use Rattle.dg_stored.specs.StoredHistory.{IsKeptOf, MayGoOn, floor_of, recent_count}

-- the first of the events is not earlier than this time
abbrev pub BeginsBehind : ℕ → ListOf Event → Type 0
BeginsBehind t [] = Unit {0}
BeginsBehind t (e ∷ events) = t ≤ e.time

-- ---- what may be made

-- These events may be a next batch behind the index, whose recent events may be followed.
pub record MayFollow (o : Opening) (recent events : ListOf Event) : Type 0 where
  pub pos : 0 < o.params.l
  pub some : 1 ≤ length events
  pub few : length events ≤ BATCH_LINES_MAX
  pub room : event_total o.batches + length events ≤ EVENTS_MAX
  pub early : earliest_in 0 o.batches ≤ first_time_of events
  pub later : first_time_of events ≤ last_time_from 0 events
  pub last : last_time_from 0 events ≤ TIME_MAX
  pub rises : RisesFrom (earliest_in 0 o.batches) events
  pub counted : length recent ≡ recent_count o
  pub goes_on : MayGoOn (Some o) recent

-- The batch may be put behind the index, whose events lead to this graph: its events change the graph, its names may
-- follow those that were known, all names of events can be spelled, and the form of the file takes its events. Where it
-- completes an interior node that is the first of its height, it has the graph as a set.
pub record IsNext (o : Opening) (next : NextBatch) (graph : ListOf Element) : Type 0 where
  pub follows : MayFollow o next.recent.now next.events.now
  pub within : next.known ≤ length next.names.now
  pub counted : length (take next.known next.names.now) ≡ name_total o.batches
  pub named : may_be_named (take next.known next.names.now) (drop next.known next.names.now) ≡ true
  pub recent_fit : All (λ (e : Event). NamesFit e.body) next.recent.now
  pub fit : All (λ (e : Event). NamesFit e.body) next.events.now
  pub set : IsSet graph
  pub changes : AreChangesOf graph next.events.now
  pub form : TakesForm o next.events.now
  pub top : IsTopDue o.params.k (leaves_before o) (leaves_after o (length next.events.now)) → next.top.now ≡ graph

-- ---- what is made

-- The segment is one of these events and names, which may stand behind the index, of whose events these were recent. No
-- delta has messages, and in the first form no record.
pub record IsSegmentBehind (o : Opening) (names : ListOf (ListOf ℕ)) (recent events : ListOf Event) (s : Segment) : Type 0 where
  pub events_are : s.events ≡ length events
  pub first_is : s.first ≡ first_time_of events
  pub last_is : s.last ≡ last_time_from 0 events
  pub names_are : s.names ≡ names
  pub lists : length s.lists ≡ list_count o (length events)
  pub deltas : length s.deltas ≡ delta_count o (length events)
  pub listed : may_be_listed (floor_of o (first_time_of events)) (last_time_from 0 events) (map list_row s.lists) ≡ true
  pub behind : BeginsBehind (last_in_rows 0 (map list_row s.lists)) (recent_behind o.params (event_total o.batches) recent events)
  pub deltas_unheard : AreUnheard s.deltas
  pub unheard : is_wide o.form ≡ false → AreUnheard (stored_in s)

-- These are all events of an index, of which these are recent; this graph is theirs, these are the exact steps of their
-- older children, and these events may follow them. The form of the file takes all of them.
pub record IsPast (o : Opening) (past recent : ListOf Event) (graph : ListOf Element) (events : ListOf Event) (steps : ListOf Delta) : Type 0 where
  pub long : length past ≡ event_total o.batches
  pub recent_is : recent ≡ recent_of o.params past
  pub graph_is : graph ≡ replay past
  pub changes : AreChangesOf [] (past ++ events)
  pub steps_are : AreOlderSteps o.params past (leaves_after o (length events)) steps
  pub form : TakesForm o (past ++ events)

-- the image stands for a history of which this graph is kept, and the names and recent events that the batch follows
abbrev pub StandsForKept : History → ListOf ℕ → Opening → NextBatch → ListOf Element → Type 0
StandsForKept z image o next graph = IsImageOf z image × IsKeptOf z (Some o) (take next.known next.names.now) graph next.recent.now

-- Over the image of a history of which these are kept, the segment is that of the batch.
abbrev pub IsBuiltOver : Option (ListOf ℕ) → Opening → NextBatch → ListOf Element → Segment → Type 0
IsBuiltOver before o next graph s =
    IfSome before (λ image. (z : History) → StandsForKept z image o next graph
    → s ≡ segment_of z.params (events_of z) (batch_with next.known next.names.now next.events.now))

-- The segment of the batch may stand behind the index, is that of the batch over the image of a history, and met no damage.
pub record MakesSegment (before : Option (ListOf ℕ)) (o : Opening) (next : NextBatch) (graph : ListOf Element) (s : Segment) : Type 0 where
  pub behind : IsSegmentBehind o (drop next.known next.names.now) next.recent.now next.events.now s
  pub built : IsBuiltOver before o next graph s
  pub whole : MeetsNoDamage before o next.known (length next.events.now)

-- Over the image of a history of which these are kept, at most what the single plans of the older children weigh
-- together is read.
abbrev pub TakesSinglesOver : Option (ListOf ℕ) → Opening → NextBatch → ListOf Element → ℕ → ℕ → Type 0
TakesSinglesOver before o next graph taken then_taken =
    IfSome before (λ image. (z : History) → StandsForKept z image o next graph
    → (singles : ListOf ℕ) → AreSingles (arcs_of (record_edges o)) (Root ∷ []) (older_children o (length next.events.now)) singles
    → TakesAtMost (sum singles) taken then_taken)

-- ---- why it is not made

-- why the segment of the batch is not made from these steps of its older children
abbrev pub IsUnmade : Opening → NextBatch → ListOf Element → ListOf Delta → BatchFault → Type 0
IsUnmade o next graph steps (fault.BadChange line reason) = ⊥
IsUnmade o next graph steps fault.OldFormat = ⊥
IsUnmade o next graph steps (fault.FileFull needed most) = ⊥
IsUnmade o next graph steps (fault.Damaged key col) = (col ≡ Structure) × IsFirstWideDelta o next.recent.now next.events.now graph steps key
IsUnmade o next graph steps fault.Read = ⊥
IsUnmade o next graph steps fault.Memory = Unit {0}
IsUnmade o next graph steps fault.Store = ⊥

-- Why the segment is not made over an image: a column is damaged, which is so over no image of a history that is
-- kept; a read failed; or memory lacked.
abbrev pub StopsSegment : Option (ListOf ℕ) → Opening → NextBatch → ListOf Element → BatchFault → Type 0
StopsSegment before o next graph (fault.BadChange line reason) = ⊥
StopsSegment before o next graph fault.OldFormat = ⊥
StopsSegment before o next graph (fault.FileFull needed most) = ⊥
StopsSegment before o next graph (fault.Damaged key col) =
    IfSome before (λ image. IsNamedDamage next.known image o next.recent.now next.events.now graph key col)
    × IfSome before (λ image. (z : History) → StandsForKept z image o next graph → ⊥)
StopsSegment before o next graph fault.Read = Unit {0}
StopsSegment before o next graph fault.Memory = Unit {0}
StopsSegment before o next graph fault.Store = ⊥
