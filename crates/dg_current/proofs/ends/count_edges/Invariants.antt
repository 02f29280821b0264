use Rattle.std.proofs.Common.{◌≡◌, take}
use Rattle.std.specs.List.{count_by}
use Rattle.dg_current.specs.Sorted.{has_end}
use Rattle.dg_current.proofs.ends.count_edges.Given as goal

abbrev pub invariant-loop-element : goal.invariant-loop-element
invariant-loop-element l = l.count ≡ count_by (has_end l.id) (take l.element-index l.items)
