-- What the calls of a start answer, and how many bytes each reads.
use Rattle.std.specs.Prelude.{◌≡◌, ℕ, ◌+◌, ◌≤◌, true, List, [], Option, Some, Result, Ok, IfSome, length}
use Rattle.std.specs.List.{All}
use Rattle.dg_columns.specs.NamesInRange.{NamesFit}
use Rattle.dg_columns.specs.Ranges.{BodyFits}
use Rattle.dg_file.specs.OpeningBytes.{blank_bytes}
use Rattle.dg_graph.specs.declared.element.Element.{Element}
use Rattle.dg_graph.specs.declared.event.Event.{Event}
use Rattle.dg_graph.specs.declared.limits.TheConstants.{TIME_MAX}
use Rattle.dg_history.specs.EventTimes.{RisesFrom}
use Rattle.dg_history.specs.History.{History}
use Rattle.dg_index.specs.ImageOfHistory.{IsImageOf, StandsAs, is_blank}
use Rattle.dg_index.specs.OpenedIndex.{Opening, opened_of}
use Rattle.dg_current.specs.Now.{NowState}
use Rattle.dg_plan.specs.IndexGraph.{arcs_of}
use Rattle.dg_plan.specs.Walks.{weight_of}
pub use Rattle.dg_records.specs.ColumnReads.{TakesOrFails}
use Rattle.dg_records.specs.EventNames.{EventNamesAreThere}
use Rattle.dg_retrieval.specs.KeptGraph.{record_edges}
use Rattle.dg_retrieval.specs.NamesThere.{NamesAreThere}
use Rattle.dg_retrieval.specs.NodeSets.{IsIndexOver}
use Rattle.dg_retrieval.specs.ValueRange.{ValuesFit}
use Rattle.dg_start.specs.EventSources.{ArePartedBy, WhereTold, bounded}
use Rattle.dg_start.specs.RecentEvents.{Source, events_in_source, events_in_sources}
use Rattle.dg_start.specs.declared.fault.StartFault.{StartFault}
use Rattle.dg_start.specs.SessionStart.{PlansLastLeaf, Started, Starts, recent_bytes, start_bytes, started_with}
use Rattle.dg_stored.specs.StoredHistory.{IsHeldBy, IsSoundHistory, KeepsHistory, MayGoOn, recent_count}

-- ---- the bytes read

-- Over the image of a history, whose index this is, the call reads so many bytes, where these are the steps of the
-- plan of the last leaf.
abbrev pub TakesAlongPlan : {A E : Type 0} → Result A E → (List ℕ → ℕ) → List ℕ → Opening → ℕ → ℕ → ℕ → Type 0
TakesAlongPlan result n image o name_count before after =
    (z : History) → IsIndexOver z image o name_count → (steps : List ℕ) → PlansLastLeaf o steps → TakesOrFails result (n steps) before after

-- the bytes of the records along a plan, and these with those of the recent pieces
abbrev pub plan_bytes : Opening → List ℕ → ℕ
plan_bytes o steps = weight_of (arcs_of (record_edges o)) steps

abbrev pub current_bytes : Opening → List ℕ → ℕ
current_bytes o steps = recent_bytes o + plan_bytes o steps

-- Over the image of a history the call reads the bytes of a start; over a blank image those of the test for one.
pub record TakesStart {A E : Type 0} (result : Result A E) (image : List ℕ) (before after : ℕ) : Type 0 where
  pub history : (z : History) → IsImageOf z image → (steps : List ℕ) → PlansLastLeaf (opened_of z).index steps → TakesOrFails result (start_bytes (opened_of z).index steps) before after
  pub blank : is_blank image ≡ true → TakesOrFails result (blank_bytes image) before after

-- ---- the events

-- what the event changes can be spelled with so many names, and its time is at most the last instant
abbrev pub EventIsInRange : ℕ → Event → Type 0
EventIsInRange name_count e = BodyFits name_count e.body × (e.time ≤ TIME_MAX)

-- These are the events of a record with so many, which rise in time, up to the last instant at most, can be spelled and
-- name what is there.
pub record IsReadRecord (image : Option (List ℕ)) (name_count : ℕ) (o : Opening) (s : Source) (events : List Event) : Type 0 where
  pub read : WhereTold image (λ image. events_in_source image name_count o s ≡ Ok events)
  pub fit : All (λ (e : Event). NamesFit e.body) events
  pub named : EventNamesAreThere name_count events
  pub many : length events ≡ s.count
  pub timed : All (λ (e : Event). e.time ≤ TIME_MAX) events
  pub rises : RisesFrom 0 events

-- These are the events of records, one record after another, which can be spelled and name what is there.
pub record AreReadEvents (image : Option (List ℕ)) (name_count : ℕ) (o : Opening) (all : List Source) (events : List Event) : Type 0 where
  pub read : WhereTold image (λ image. events_in_sources image name_count o all ≡ Ok (bounded all events))
  pub parted : ArePartedBy all events
  pub fit : All (λ (e : Event). NamesFit e.body) events
  pub named : EventNamesAreThere name_count events

-- ---- the history

-- This is the current graph with the recent events with which the image starts, and a sound one.
pub record IsCurrent (image : Option (List ℕ)) (o : Opening) (names : List (List ℕ)) (now : NowState) (recent : List Event) : Type 0 where
  pub started : IfSome image (λ image. Starts image (Ok (started_with (Some o) names now.graph recent)))
  pub none : now.pending ≡ []
  pub values : ValuesFit now.graph
  pub named : NamesAreThere (length names) now.graph
  pub recent_named : EventNamesAreThere (length names) recent
  pub many : length recent ≡ recent_count o
  pub fit : All (λ (e : Event). NamesFit e.body) recent
  pub goes_on : MayGoOn (Some o) recent

-- This is the history with which the image starts, the one for which it stands where it stands for one, and a sound
-- one that the image holds afterwards too.
pub record IsOpenedFile (before after : Option (List ℕ)) (index : Option Opening) (names : List (List ℕ)) (now : NowState) (recent : List Event) : Type 0 where
  pub started : IfSome before (λ image. Starts image (Ok (started_with index names now.graph recent)))
  pub stands : IfSome before (λ image. (z : Option History) → StandsAs z image → KeepsHistory z index names now.graph recent)
  pub sound : IsSoundHistory index names now recent
  pub held : IfSome after (λ image. IsHeldBy index names image)

-- ---- a law

-- an image that stands for a history, or for none, starts as that history
abbrev pub StartsAsItStands : Type 0
StartsAsItStands =
    (z : Option History) (image : List ℕ) → StandsAs z image → (due : Result (Option Started) StartFault) → Starts image due
    → (index : Option Opening) × (names : List (List ℕ)) × (graph : List Element) × (recent : List Event)
    × (due ≡ Ok (started_with index names graph recent)) × KeepsHistory z index names graph recent
