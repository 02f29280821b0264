-- What is written of a part, and how far it is written behind some of its batches.
use Rattle.std.specs.Prelude.{◌≡◌, ℕ, zero, suc, ◌≤◌, true, List, [], Option, Some, IfSome, length, take, drop}
use Rattle.std.specs.List.{All, flat_map}
use Rattle.dg_append.specs.declared.live.Live.{Live}
use Rattle.dg_append.specs.Overlays.{IsOverlayOf, pool_in}
use Rattle.dg_graph.specs.declared.event.Event.{Event}
use Rattle.dg_graph.specs.declared.limits.TheConstants.{TIME_MAX}
use Rattle.dg_graph.specs.Replay.{replay}
use Rattle.dg_history.specs.declared.form.Form.TheVariants as form
use Rattle.dg_history.specs.declared.limits.TheConstants.{EVENTS_MAX}
use Rattle.dg_history.specs.declared.params.Params.{Params}
use Rattle.dg_history.specs.EventTimes.{RisesFrom}
use Rattle.dg_history.specs.History.{Batch, History, are_parameters, earliest_next, span_of}
use Rattle.dg_history.specs.LegalHistory.{IsLegal}
use Rattle.dg_index.specs.FileOfHistory.{size}
use Rattle.dg_index.specs.ImageOfHistory.{IsImageOf}
use Rattle.dg_index.specs.IndexRecords.{recent_of}
use Rattle.dg_index.specs.OpenedIndex.{Opening, earliest_in, event_total, may_be_named}
use Rattle.dg_partition.specs.Cuts.{cut}
use Rattle.dg_partition.specs.HistoryParts.{batches_of, cut_batches}
use Rattle.dg_retrieval.specs.NamesThere.{EventNamesAreThere}
use Rattle.dg_sound.specs.OwnEvents.{are_completions}
use Rattle.dg_stored.specs.StoredHistory.{IsHeldBy, IsSoundHistory, index_opening}

-- ---- what is written

-- the history that is written: these parameters, the second form, and the batches of the events, of which the first brings
-- the names
abbrev pub written : Params → List (List ℕ) → List Event → History
written params names events = record { params = params; form = form.Two; batches = cut_batches names events }

-- the history of its first batches
abbrev pub front_of : History → ℕ → History
front_of z n = record { params = z.params; form = z.form; batches = take n z.batches }

-- the image stands for the first batches of the history, for some number of them
abbrev pub IsFrontOf : History → List ℕ → Type 0
IsFrontOf z image = (n : ℕ) × IsImageOf (front_of z n) image

-- where the history has a batch, its file has at most so many bytes in use
abbrev pub HasRoom : ℕ → History → Type 0
HasRoom limit z = 1 ≤ length z.batches → size z ≤ limit

-- These events may be written with these names and parameters: each is the completion of a change behind those before it and
-- is not earlier; the names may be those of a history, and the events have no others; parameters, times and number are in
-- their ranges.
pub record IsGoodPart (params : Params) (names : List (List ℕ)) (events : List Event) : Type 0 where
  pub parameters : are_parameters params.l params.k ≡ true
  pub follow : are_completions names [] 0 events ≡ true
  pub named : may_be_named [] names ≡ true
  pub there : EventNamesAreThere (length names) events
  pub timed : All (λ (e : Event). e.time ≤ TIME_MAX) events
  pub few : length events ≤ EVENTS_MAX

-- ---- behind some of the batches

-- how many names a history of so many events of the part has: all or, without an event, none
abbrev pub known_behind : List (List ℕ) → ℕ → ℕ
known_behind names zero = 0
known_behind names (suc done) = length names

-- So many of the batches have the first so many of the events, and the others are the cuts of the events that are left,
-- which may follow.
pub record IsCutAt (names : List (List ℕ)) (events : List Event) (done count : ℕ) : Type 0 where
  pub within : done ≤ length events
  pub done_are : flat_map (λ (b : Batch). b.events) (take count (cut_batches names events)) ≡ take done events
  pub most : ℕ
  pub enough : length (drop done events) ≤ most
  pub left_are : drop count (cut_batches names events) ≡ batches_of (drop (known_behind names done) names) (cut most (drop done events))
  pub rises : RisesFrom (earliest_next (span_of (take done events))) (drop done events)

-- What is kept of the index is that of the part's first events: so many of them are written, in so many batches. The image
-- is as the last call left it; where the whole is legal it stands for the first batches, which have room.
pub record IsAt (limit : ℕ) (params : Params) (names : List (List ℕ)) (events : List Event) (done : ℕ) (l : Live) (image : Option (List ℕ)) : Type 0 where
  pub index : Opening
  pub count : ℕ
  pub there : index_opening l.history.index ≡ Some index
  pub names_are : l.history.names ≡ names
  pub graph_is : l.history.now.graph ≡ replay (take done events)
  pub sound : IsSoundHistory (Some index) (take (known_behind names done) names) l.history.now l.history.recent.items
  pub pool : IsOverlayOf l.history.now.graph (pool_in l.pool)
  pub params_are : index.params ≡ params
  pub form_is : index.form ≡ form.Two
  pub counted : event_total index.batches ≡ done
  pub earliest : earliest_in 0 index.batches ≡ earliest_next (span_of (take done events))
  pub recent_are : l.history.recent.items ≡ recent_of params (take done events)
  pub cuts : IsCutAt names events done count
  pub held : IfSome image (IsHeldBy (Some index) (take (known_behind names done) names))
  pub stands : IsLegal (written params names events) → IfSome image (IsImageOf (front_of (written params names events) count))
  pub fits : IsLegal (written params names events) → IfSome image (λ _. HasRoom limit (front_of (written params names events) count))
