-- What the entries change of the elements at the start.
use Rattle.std.specs.Prelude.{List, Option, Some, None, if◌then◌else◌}
use Rattle.std.specs.List.{flat_map}
use Rattle.std.specs.Option.{option_to_list}
use Rattle.dg_graph.specs.declared.element.Element.{Element}
use Rattle.dg_graph.specs.Elements.{same}
use Rattle.dg_current.specs.declared.element_entry.ElementEntry.{ElementEntry}
use Rattle.dg_current.specs.declared.element_id.ElementId.{ElementId}
use Rattle.dg_current.specs.ElementIds.{at}
use Rattle.dg_current.specs.HeldGraph.{held_at}

-- the first element, where the other one is not the same
abbrev pub only_first : Option Element → Option Element → Option Element
only_first None other = None
only_first (Some x) None = Some x
only_first (Some x) (Some y) = if same y x then None else Some x

-- the element with an id at the start, where it is not there now
abbrev pub lost_at : List Element → List (ElementId × ElementEntry) → ElementId → Option Element
lost_at base entries p = only_first (at base p) (held_at base entries p)

-- the element with an id now, where it was not there at the start
abbrev pub gained_at : List Element → List (ElementId × ElementEntry) → ElementId → Option Element
gained_at base entries p = only_first (held_at base entries p) (at base p)

-- the elements of these ids, one after another
abbrev pub listed : (ElementId → Option Element) → List ElementId → List Element
listed f ids = flat_map (λ p. option_to_list (f p)) ids
