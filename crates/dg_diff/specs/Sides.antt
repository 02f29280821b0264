-- One of the two sets of a delta.
use Rattle.std.specs.Prelude.{List}
use Rattle.dg_graph.specs.declared.element.Element.{Element}
use Rattle.dg_graph.specs.Composition.{Delta}
use Rattle.dg_diff.specs.declared.interior.Side.{Side}
use Rattle.dg_diff.specs.declared.interior.Side.TheVariants.{Minus, Plus}

-- what the delta takes out, or what it puts in
abbrev pub on_side : Side → Delta → List Element
on_side Minus d = d.minus
on_side Plus d = d.plus
