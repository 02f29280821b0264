-- The numbers of the names that elements have as values.
use Rattle.std.specs.Prelude.{◌≡◌, ◌<◌, ◌^◌, true, List}
use Rattle.dg_graph.specs.declared.element.Element.{Element}
use Rattle.dg_graph.specs.declared.element.Element.TheVariants as element
use Rattle.dg_graph.specs.Elements.{has}

-- the number of the value that an element has, if it has one, is below 2 ^ 30
abbrev pub ValueFits : Element → Type 0
ValueFits (element.NodeAttr id key value) = value < 2 ^ 30
ValueFits (element.EdgeAttr id key value) = value < 2 ^ 30
ValueFits (element.Message src dst value) = value < 2 ^ 30
ValueFits _ = Unit {0}

-- so are those of all elements of the set
abbrev pub ValuesFit : List Element → Type 0
ValuesFit set = (x : Element) → has set x ≡ true → ValueFits x
