-- Why an image does not start, by what was done when this was found.
use Rattle.std.specs.Prelude.{◌≡◌, ℕ, List, Some, Result, Err}
use Rattle.dg_graph.specs.declared.element.Element.{Element}
use Rattle.dg_graph.specs.declared.event.Event.{Event}
use Rattle.dg_graph.specs.Graph.{IsGraph}
use Rattle.dg_index.specs.declared.entry.Ends.{Ends}
use Rattle.dg_index.specs.OpenedIndex.{Opening}
use Rattle.dg_retrieval.specs.NodeSets.{IsLedByPlan}
use Rattle.dg_start.specs.declared.fault.StartFault.{StartFault}
use Rattle.dg_start.specs.declared.fault.StartFault.TheVariants as fault
use Rattle.dg_start.specs.RecentEvents.{first_wrong_event}
use Rattle.dg_start.specs.SessionStart.{last_leaf}

-- The fault is the reason of what is due of the recent records. Of a failure of the disk and of want of memory
-- nothing is said.
abbrev pub IsReason : {A : Type 0} → StartFault → Result A StartFault → Type 0
IsReason fault.Disk due = Unit {0}
IsReason fault.Foreign due = due ≡ Err fault.Foreign
IsReason (fault.Damaged offset) due = due ≡ Err (fault.Damaged offset)
IsReason (fault.BadRecord key col) due = due ≡ Err (fault.BadRecord key col)
IsReason fault.NotGraph due = due ≡ Err fault.NotGraph
IsReason (fault.BadRecent number) due = due ≡ Err (fault.BadRecent number)
IsReason fault.Memory due = Unit {0}

-- The fault is why the records along the plan of the last leaf come to no set.
abbrev pub RefusesPlan : ℕ → List ℕ → Opening → StartFault → Type 0
RefusesPlan names image o fault.Disk = Unit {0}
RefusesPlan names image o fault.Foreign = ⊥
RefusesPlan names image o (fault.Damaged offset) = ⊥
RefusesPlan names image o (fault.BadRecord key col) = IsLedByPlan names image o (last_leaf o) (Err (key, col))
RefusesPlan names image o fault.NotGraph = ⊥
RefusesPlan names image o (fault.BadRecent number) = ⊥
RefusesPlan names image o fault.Memory = Unit {0}

-- The fault is why the set with these events behind it, the first of which has this number, is no current graph.
abbrev pub RefusesEvents : List (List ℕ) → ℕ → List Element → List (Ends × Event) → StartFault → Type 0
RefusesEvents names first set events fault.Disk = ⊥
RefusesEvents names first set events fault.Foreign = ⊥
RefusesEvents names first set events (fault.Damaged offset) = ⊥
RefusesEvents names first set events (fault.BadRecord key col) = ⊥
RefusesEvents names first set events fault.NotGraph = IsGraph set → ⊥
RefusesEvents names first set events (fault.BadRecent number) = IsGraph set × (first_wrong_event names first set events ≡ Some number)
RefusesEvents names first set events fault.Memory = Unit {0}
