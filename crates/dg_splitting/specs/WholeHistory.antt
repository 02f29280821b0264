-- The history that is split, as it was read, and what is written of it.
use Rattle.std.specs.Prelude.{◌≡◌, ℕ, ◌-◌, ◌==◌, ◌≤◌, true, List, [], Option, Some, filter, length, take}
use Rattle.std.specs.List.{All}
use Rattle.dg_graph.specs.declared.event.Event.{Event}
use Rattle.dg_graph.specs.declared.limits.TheConstants.{TIME_MAX}
use Rattle.dg_history.specs.declared.limits.TheConstants.{BATCH_LINES_MAX, EVENTS_MAX}
use Rattle.dg_history.specs.declared.params.Params.{Params}
use Rattle.dg_history.specs.History.{History, are_parameters, is_function}
use Rattle.dg_machine.specs.MachineState.{MachineState}
use Rattle.dg_part_files.specs.PartFaults.{IsCrowded}
use Rattle.dg_part_files.specs.WrittenParts.{written}
use Rattle.dg_partition.specs.Owners.{events_of_part}
use Rattle.dg_records.specs.EventNames.{EventNamesAreThere}
use Rattle.dg_session.specs.Parts.{Parts}
use Rattle.dg_session.specs.Session.{StandsFor}
use Rattle.dg_sound.specs.OwnEvents.{are_completions}

-- no instant has more events than a batch may have
abbrev pub AreApart : List Event → Type 0
AreApart events = (t : ℕ) → length (filter (λ (e : Event). e.time == t) events) ≤ BATCH_LINES_MAX

-- The event of this number, from 1, is the first that has as many events of its time before it as a batch may have.
pub record IsFirstCrowded (events : List Event) (number : ℕ) : Type 0 where
  pub crowded : IsCrowded events number
  pub before : AreApart (take (number - 1) events)

-- Whatever the file is: each event is what some change comes to behind those before it, and none is earlier; the names are
-- there; the times and the number of events are in their ranges; and no instant has too many events.
pub record AreWhole (names : List (List ℕ)) (events : List Event) : Type 0 where
  pub follow : are_completions names [] 0 events ≡ true
  pub named : EventNamesAreThere (length names) events
  pub timed : All (λ (e : Event). e.time ≤ TIME_MAX) events
  pub few : length events ≤ EVENTS_MAX
  pub apart : AreApart events

-- the parameters are in their ranges too
pub record IsWhole (params : Params) (names : List (List ℕ)) (events : List Event) : Type 0 where
  pub parameters : are_parameters params.l params.k ≡ true
  pub function : is_function params.function ≡ true
  pub are_whole : AreWhole names events

-- the session stands for a state of the machine over this image
abbrev pub StandsOver : Parts → List ℕ → Type 0
StandsOver session image = (m : MachineState) × StandsFor session image m

-- so it does over the image that is told
abbrev pub MayStand : Parts → Option (List ℕ) → Type 0
MayStand session told = (image : List ℕ) × (told ≡ Some image) × StandsOver session image

-- what is written of part `number` of so many
abbrev pub written_part : Params → List (List ℕ) → List Event → ℕ → ℕ → History
written_part params names events parts number = written params names (events_of_part parts number events)
