-- What was added to a list, behind what stood there.
use Rattle.std.specs.Prelude.{◌≡◌, List, length, take, drop}
use Rattle.dg_graph.specs.declared.element.Element.{Element}

-- what the list had stands in front
abbrev pub IsKept : List Element → List Element → Type 0
IsKept old new = take (length old) new ≡ old

-- what stands behind it
abbrev pub added : List Element → List Element → List Element
added old new = drop (length old) new
