-- The current graph and the events that are pending.
use Rattle.std.specs.Prelude.{◌≡◌, ℕ, ◌+◌, Bool, List, Option, Some, None, Result, Err, map}
use Rattle.dg_graph.specs.declared.element.Element.{Element}
use Rattle.dg_graph.specs.declared.element.Element.TheVariants as element
use Rattle.dg_graph.specs.declared.event.Change.{Change}
use Rattle.dg_graph.specs.declared.event.Event.{Event}
use Rattle.dg_graph.specs.CompletedChanges.{completed}
use Rattle.dg_current.specs.declared.fault.PrepareFault.{PrepareFault}
use Rattle.dg_current.specs.declared.fault.PrepareFault.TheVariants as fault

-- the graph, and the events of a batch that are not in it yet
pub record NowState : Type 0 where
  pub graph : List Element
  pub pending : List Event

-- the earliest time of a batch after this last one
abbrev pub earliest_time_after : Option ℕ → ℕ
earliest_time_after None = 0
earliest_time_after (Some last) = last + 1

-- what the changes come to as a batch in the graph after the last time
abbrev pub completed_batch : List Element → Option ℕ → List Change → Result (List Event) (ℕ × ℕ)
completed_batch graph last changes = completed 1 (earliest_time_after last) graph (map (λ (c : Change). Some c) changes)

-- the fault is that of the changes, or want of memory
abbrev pub FaultOf : Result (List Event) (ℕ × ℕ) → PrepareFault → Type 0
FaultOf due (fault.BadChange line reason) = due ≡ Err (line, reason)
FaultOf due fault.Memory = Unit {0}

-- the ends of the edge that was found, and whether it is directed
abbrev pub ends_in : Option Element → Option (ℕ × ℕ × Bool)
ends_in (Some (element.Edge directed id src dst)) = Some (src, dst, directed)
ends_in found = None
