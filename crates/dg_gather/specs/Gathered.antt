-- What is shown of a part by what leads to it.
use Rattle.std.specs.Prelude.{List}
use Rattle.dg_fold.specs.Writings.{composed_all, written_for}
use Rattle.dg_graph.specs.Composition.{applied}
use Rattle.dg_graph.specs.declared.element.Element.{Element}
use Rattle.dg_graph.specs.Elements.{shown}
use Rattle.dg_gather.specs.declared.gathered.Gathered.{Gathered}

-- the set with which it begins, after the deltas in order, cut to the columns
abbrev pub shown_by : Gathered → List Element
shown_by g = shown (applied (composed_all (written_for 0 g.writings.items)) g.base) g.cols
