-- Sets that share no element.
use Rattle.std.specs.Prelude.{◌≡◌, true, false, List}
use Rattle.dg_graph.specs.declared.element.Element.{Element}
use Rattle.dg_graph.specs.Elements.{has}

-- no element is in both
abbrev pub AreApart : List Element → List Element → Type 0
AreApart a b = (x : Element) → has a x ≡ true → has b x ≡ false
