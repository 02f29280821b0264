-- The machine that keeps only the events and a table of handles.
use Rattle.std.specs.Prelude.{ℕ, ◌≤◌, ◌==◌, Bool, false, List, [], ◌∷◌, Option, Some, None, if◌then◌else◌, map}
use Rattle.dg_graph.specs.declared.element.Columns.{Columns}
use Rattle.dg_graph.specs.declared.element.Element.{Element}
use Rattle.dg_graph.specs.declared.event.Event.{Event}
use Rattle.dg_graph.specs.declared.function.Function.TheVariants.{Intersection}
use Rattle.dg_machine.specs.declared.limits.Limits.{Limits}
use Rattle.dg_history.specs.declared.limits.TheConstants.{EVENTS_MAX, FILE_BYTES_MAX}
use Rattle.dg_machine.specs.declared.limits.TheConstants.{FIRST_HANDLE, SCRIPT_BYTES_MAX}
use Rattle.dg_machine.specs.declared.stands.Stands.{Stands}
use Rattle.dg_machine.specs.declared.stands.Shown.{Shown}
use Rattle.dg_machine.specs.declared.stands.Shown.TheVariants.{Overlay, Base, Selected}
use Rattle.dg_machine.specs.Selections.{selected}
use Rattle.dg_graph.specs.Elements.{shown}
use Rattle.dg_history.specs.declared.form.Form.TheVariants as form
use Rattle.dg_history.specs.declared.node.NodeId.{NodeId}
use Rattle.dg_history.specs.declared.params.Params.{Params}
use Rattle.dg_history.specs.History.{History, empty_history, events_of, names_of}
use Rattle.dg_graph.specs.Replay.{replay, shown_at}
use Rattle.dg_graph.specs.Sets.{unioned}
use Rattle.dg_index.specs.Hierarchy.{set_of}

-- The limits; an index or none, and its history; the live handles with what they stand for, in the
-- order in which they were given; the number of the next handle; and the indexed keys, by their numbers among the names.
pub record MachineState : Type 0 where
  pub limits : Limits
  pub index : Option History
  pub table : List (ℕ × Stands)
  pub next : ℕ
  pub indexes : List ℕ

-- the machine before its first command
abbrev pub machine_at : Limits → Option History → MachineState
machine_at limits index = record { limits = limits; index = index; table = []; next = limits.first_handle; indexes = [] }

-- no limit is above its standard value, and the first handle has the number of one
pub record IsWithin (limits : Limits) : Type 0 where
  pub script : limits.script_bytes ≤ SCRIPT_BYTES_MAX
  pub events : limits.events ≤ EVENTS_MAX
  pub file : limits.file_bytes ≤ FILE_BYTES_MAX
  pub first : FIRST_HANDLE ≤ limits.first_handle

-- The history of the index. Without an index it has no event, and its parameters mean nothing.
abbrev pub history_in : Option History → History
history_in None = empty_history form.Two (record { l = 0; k = 0; function = Intersection })
history_in (Some z) = z

-- the events of the machine's history
abbrev pub events_in_index : Option History → List Event
events_in_index None = []
events_in_index (Some z) = events_of z

-- the names of the machine's history
abbrev pub names_in : Option History → List (List ℕ)
names_in None = []
names_in (Some z) = names_of z

-- what a handle stands for, where it is live
abbrev pub stands_at : ℕ → List (ℕ × Stands) → Option Stands
stands_at handle [] = None
stands_at handle (entry ∷ table) = if entry.0 == handle then Some entry.1 else stands_at handle table

-- the table without the handle
abbrev pub without_handle : ℕ → List (ℕ × Stands) → List (ℕ × Stands)
without_handle handle [] = []
without_handle handle (entry ∷ table) = if entry.0 == handle then table else entry ∷ without_handle handle table

-- ---- what is shown

-- The handle on which an overlay rests, if on any. What is no overlay is a set, which rests on nothing.
abbrev pub overlay_on : Shown → Option (Option ℕ)
overlay_on (Overlay t on) = Some on
overlay_on (Base node) = None
overlay_on (Selected what) = None

-- the node of a base
abbrev pub base_node : Shown → Option NodeId
base_node (Overlay t on) = None
base_node (Base node) = Some node
base_node (Selected what) = None

-- The elements by these parameters and events, in these columns: the graph as of the instant with the messages of the
-- instant, the set of the node, or what is selected.
abbrev pub elements_of : Params → List Event → Columns → Shown → List Element
elements_of p events cols (Overlay t on) = shown_at events t cols
elements_of p events cols (Base node) = shown (set_of p events node) cols
elements_of p events cols (Selected what) = selected events cols what

-- ---- what handles stand for

-- an overlay rests on this handle
abbrev pub is_on : ℕ → Option (Option ℕ) → Bool
is_on handle None = false
is_on handle (Some None) = false
is_on handle (Some (Some base)) = base == handle

-- it stands for an overlay that rests on this handle
abbrev pub is_overlay_on : ℕ → Stands → Bool
is_overlay_on handle stands = is_on handle (overlay_on stands.what)

-- the first live handle that rests on this one, and so the least
abbrev pub dependent_on : ℕ → List (ℕ × Stands) → Option ℕ
dependent_on handle [] = None
dependent_on handle (entry ∷ table) = if is_overlay_on handle entry.1 then Some entry.0 else dependent_on handle table

-- the elements of what a handle stands for
abbrev pub elements : History → Stands → List Element
elements z stands = elements_of z.params (events_of z) stands.cols stands.what

-- the elements of any of these sets
abbrev pub union_of_sets : List (List Element) → List Element
union_of_sets [] = []
union_of_sets (set ∷ sets) = unioned set (union_of_sets sets)

-- the elements that the live handles list, the oldest first
abbrev pub graphs_of : MachineState → List (List Element)
graphs_of m = map (λ (e : ℕ × Stands). elements (history_in m.index) e.1) m.table

-- the elements of the current graph and of the live handles together
abbrev pub elements_held : MachineState → List Element
elements_held m = union_of_sets (replay (events_in_index m.index) ∷ graphs_of m)
