-- What a walk over the members of a slot looks at.
use Rattle.std.specs.Prelude.{◌≡◌, ℕ, ◌==◌, ◌&&◌, false, if◌then◌else◌, List, [], ◌∷◌, Option, Some, None}
use Rattle.dg_graph.specs.declared.element.Element.{Element}
use Rattle.dg_graph.specs.declared.element.Element.TheVariants.{NodeAttr}
use Rattle.dg_graph.specs.Elements.{before}

-- none of the set stands before the element
abbrev pub NoneBefore : Element → List Element → Type 0
NoneBefore x [] = Unit {0}
NoneBefore x (y ∷ set) = (before y x ≡ false) × NoneBefore x set

-- the value, if the element is a value of the key at the node
abbrev pub value_of_key : ℕ → ℕ → Element → Option ℕ
value_of_key n key (NodeAttr id k value) = if id == n && k == key then Some value else None
value_of_key n key _ = None
