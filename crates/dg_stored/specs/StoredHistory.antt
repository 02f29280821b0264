-- A history that is kept beside its index: the names, the current graph and the recent events.
use Rattle.std.specs.Prelude.{◌≡◌, ℕ, ◌-◌, ◌*◌, ◌≤◌, true, List, [], Option, Some, None, Ok, length}
use Rattle.std.specs.List.{All}
use Rattle.std.specs.Option.{option_map}
use Rattle.dg_columns.specs.NamesInRange.{NamesFit}
use Rattle.dg_file.specs.Index.{IndexState}
use Rattle.dg_graph.specs.declared.element.Element.{Element}
use Rattle.dg_graph.specs.declared.event.Event.{Event}
use Rattle.dg_graph.specs.Replay.{replay}
use Rattle.dg_history.specs.EventTimes.{RisesFrom}
use Rattle.dg_history.specs.History.{History, events_of, last_time_from, names_of}
use Rattle.dg_index.specs.Hierarchy.{leaves}
use Rattle.dg_index.specs.ImageOfHistory.{is_blank}
use Rattle.dg_index.specs.IndexGrowth.{name_total}
use Rattle.dg_index.specs.IndexRecords.{recent_of}
use Rattle.dg_index.specs.OpenedIndex.{Opening, earliest_in, event_total, first_in, last_list, opened_of, opening}
use Rattle.dg_current.specs.Now.{NowState}
use Rattle.dg_retrieval.specs.NamesThere.{EventNamesAreThere, NamesAreThere}
use Rattle.dg_retrieval.specs.ValueRange.{ValuesFit}

-- what the image of an index is opened as, where there is an index
abbrev pub index_opening : Option IndexState → Option Opening
index_opening index = option_map (λ (i : IndexState). i.opening) index

-- ---- what holds over any image

-- how many events stand behind the last closed list
abbrev pub recent_count : Opening → ℕ
recent_count o = event_total o.batches - leaves o.params (event_total o.batches) * o.params.l

-- there are as many names and recent events as the batches have, and without an index there is nothing
abbrev pub AreCounted : Option Opening → List (List ℕ) → List Element → List Event → Type 0
AreCounted None names graph recent = (names ≡ []) × (graph ≡ []) × (recent ≡ [])
AreCounted (Some o) names graph recent = (length names ≡ name_total o.batches) × (length recent ≡ recent_count o)

-- the time that no new list may begin before, where the next batch begins at this time
abbrev pub floor_of : Opening → ℕ → ℕ
floor_of o t = last_list (first_in t o.batches) o.records

-- where the next batch begins at this time, the recent events rise from the last list's last time up to it
pub record RiseUpTo (o : Opening) (t : ℕ) (recent : List Event) : Type 0 where
  pub rises : RisesFrom (floor_of o t) recent
  pub last : last_time_from (floor_of o t) recent ≤ t

-- whenever the next batch may begin, it may close lists behind those of the index
abbrev pub MayGoOn : Option Opening → List Event → Type 0
MayGoOn None recent = Unit {0}
MayGoOn (Some o) recent = (t : ℕ) → earliest_in 0 o.batches ≤ t → RiseUpTo o t recent

-- Nothing is pending in the current graph, whose values can be spelled, and the recent events are as many as are due,
-- can be spelled, and may be followed by a batch. The names of the graph and of these events are there.
pub record IsSoundHistory (index : Option Opening) (names : List (List ℕ)) (now : NowState) (recent : List Event) : Type 0 where
  pub pending : now.pending ≡ []
  pub counted : AreCounted index names now.graph recent
  pub values : ValuesFit now.graph
  pub named : NamesAreThere (length names) now.graph
  pub recent_named : EventNamesAreThere (length names) recent
  pub fit : All (λ (e : Event). NamesFit e.body) recent
  pub goes_on : MayGoOn index recent

-- ---- what holds over the image of a history

-- the index, the names, the current graph and the recent events are those of this history
pub record IsKeptOf (z : History) (index : Option Opening) (names : List (List ℕ)) (graph : List Element) (recent : List Event) : Type 0 where
  pub index_is : index ≡ Some (opened_of z).index
  pub names_are : names ≡ names_of z
  pub graph_is : graph ≡ replay (events_of z)
  pub recent_are : recent ≡ recent_of z.params (events_of z)

-- those of this history, or of none
abbrev pub KeepsHistory : Option History → Option Opening → List (List ℕ) → List Element → List Event → Type 0
KeepsHistory None index names graph recent = (index ≡ None) × (names ≡ []) × (graph ≡ []) × (recent ≡ [])
KeepsHistory (Some z) index names graph recent = IsKeptOf z index names graph recent

-- the image is as the last call left it: no index, or one with these names
abbrev pub IsHeldBy : Option Opening → List (List ℕ) → List ℕ → Type 0
IsHeldBy None names image = is_blank image ≡ true
IsHeldBy (Some o) names image = opening image ≡ Ok (record { index = o; names = names })
