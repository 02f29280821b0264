-- Which histories are legal.
use Rattle.std.specs.Prelude.{◌≡◌, ℕ, ◌<◌, ◌≤◌, ◌^◌, Bool, true, false, not, List, [], ◌∷◌, ◌++◌, Some, Ok, All, IfSome, length, map, IsTrue}
use Rattle.std.specs.List.{flat_map, list_all}
use Rattle.dg_graph.specs.declared.event.Body.{Body}
use Rattle.dg_graph.specs.declared.event.Body.TheVariants as body
use Rattle.dg_graph.specs.declared.event.Change.{Change}
use Rattle.dg_graph.specs.declared.event.Event.{Event}
use Rattle.dg_graph.specs.declared.limits.TheConstants.{TIME_MAX}
use Rattle.dg_text.specs.declared.limits.TheConstants.{NAMES_MAX}
use Rattle.dg_history.specs.declared.limits.TheConstants.{BATCH_LINES_MAX, EVENTS_MAX}
use Rattle.dg_graph.specs.CompletedChanges.{completed}
use Rattle.dg_graph.specs.Completion.{has_key}
use Rattle.dg_history.specs.History.{History, Batch, are_parameters, events_of, names_of, span_of, earliest_next, is_function, is_form, narrow_batches}
use Rattle.dg_text.specs.Names.{are_new}
use Rattle.dg_graph.specs.Replay.{replay}

-- every id is of 64 bits, and every name's number is below the number of names
abbrev pub FitsBody : ℕ → Body → Type 0
FitsBody names (body.NodeAdded id) = id < 2 ^ 64
FitsBody names (body.NodeRemoved id) = id < 2 ^ 64
FitsBody names (body.EdgeAdded directed id src dst) = (id < 2 ^ 64) × (src < 2 ^ 64) × (dst < 2 ^ 64)
FitsBody names (body.EdgeRemoved directed id src dst) = (id < 2 ^ 64) × (src < 2 ^ 64) × (dst < 2 ^ 64)
FitsBody names (body.NodeAttr key id old new) =
    (id < 2 ^ 64) × (key < names) × IfSome old (λ n. n < names) × IfSome new (λ n. n < names)
FitsBody names (body.EdgeAttr key id old new) =
    (id < 2 ^ 64) × (key < names) × IfSome old (λ n. n < names) × IfSome new (λ n. n < names)
FitsBody names (body.Message src dst value) = (src < 2 ^ 64) × (dst < 2 ^ 64) × (value < names)

abbrev pub FitsEvent : ℕ → Event → Type 0
FitsEvent names e = (e.time ≤ TIME_MAX) × FitsBody names e.body

-- The events of a batch are the completions of some changes after the events before it, in their
-- time; there are as many as a batch may have. Their names are among those of the history.
pub record IsLegalBatch (names : List (List ℕ)) (before : List Event) (b : Batch) : Type 0 where
  pub some : 1 ≤ length b.events
  pub few : length b.events ≤ BATCH_LINES_MAX
  pub changes : List Change
  pub comes : completed 1 (earliest_next (span_of before)) (replay before) (map (λ (c : Change). Some c) changes) ≡ Ok b.events
  pub fits : All (FitsEvent (length names)) b.events
  pub keys : All (λ (e : Event). IsTrue (has_key names e.body)) b.events

abbrev pub AreLegalAfter : List (List ℕ) → List Event → List Batch → Type 0
AreLegalAfter names before [] = Unit {0}
AreLegalAfter names before (b ∷ more) = IsLegalBatch names before b × AreLegalAfter names (before ++ b.events) more

abbrev pub is_message : Body → Bool
is_message (body.NodeAdded id) = false
is_message (body.NodeRemoved id) = false
is_message (body.EdgeAdded directed id src dst) = false
is_message (body.EdgeRemoved directed id src dst) = false
is_message (body.NodeAttr key id old new) = false
is_message (body.EdgeAttr key id old new) = false
is_message (body.Message src dst value) = true

-- none of the events is a message
abbrev pub are_silent : List Event → Bool
are_silent events = list_all (λ (e : Event). not (is_message e.body)) events

pub record IsLegal (z : History) : Type 0 where
  pub parameters : are_parameters z.params.l z.params.k ≡ true
  pub function : is_function z.params.function ≡ true
  pub form : is_form z.form z.params.function (length z.batches) ≡ true
  pub silent : are_silent (flat_map (λ (b : Batch). b.events) (narrow_batches z.form z.batches)) ≡ true
  pub batches : AreLegalAfter (names_of z) [] z.batches
  pub names : are_new [] (names_of z) ≡ true
  pub few_names : length (names_of z) ≤ NAMES_MAX
  pub few : length (events_of z) ≤ EVENTS_MAX
