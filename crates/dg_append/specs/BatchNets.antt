-- Where the nets of the two halves of a batch lead.
use Rattle.std.specs.Prelude.{List}
use Rattle.dg_graph.specs.declared.element.Element.{Element}
use Rattle.dg_graph.specs.Composition.{Delta, applied}

-- the set that the earlier net and then the later one lead to
abbrev pub led_by : Delta → Delta → List Element → List Element
led_by earlier later set = applied later (applied earlier set)
