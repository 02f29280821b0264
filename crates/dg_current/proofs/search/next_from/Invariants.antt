use Rattle.std.proofs.Common.{ℕ, ◌<◌, slice_index_or, IsTrue}
use Rattle.dg_graph.specs.declared.element.Element.{Element}
use Rattle.dg_graph.specs.Elements.{before}
use Rattle.dg_current.specs.Sorted.{least}
use Rattle.dg_current.proofs.search.next_from.Given as goal

abbrev pub invariant-loop-index : goal.invariant-loop-index
invariant-loop-index l = (k : ℕ) (d : Element) → k < l.index → IsTrue (before (slice_index_or l.items k d) (least l.id))
