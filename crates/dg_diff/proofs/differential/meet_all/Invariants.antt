use Rattle.std.proofs.Common.{◌≡◌, ◌+◌, take}
use Rattle.std.specs.List.{list_all}
use Rattle.dg_graph.specs.declared.element.Element.{Element}
use Rattle.dg_graph.specs.Elements.{has}
use Rattle.dg_diff.proofs.differential.meet_all.Given as goal

abbrev pub invariant-loop-set : goal.invariant-loop-set
invariant-loop-set l = (x : Element)
    → has l.all x ≡ list_all (λ set. has set x) (take (l.set-index + 2) l.sets)
