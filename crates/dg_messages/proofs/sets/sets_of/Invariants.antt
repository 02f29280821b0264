use Rattle.std.proofs.Common.{◌≡◌, [], Vec, Global, map}
use Rattle.dg_graph.specs.declared.element.Element.{Element}
use Rattle.dg_graph.specs.Sets.{unioned}
use Rattle.dg_messages.proofs.sets.sets_of.Given as goal

abbrev pub invariant-loop-list : goal.invariant-loop-list
invariant-loop-list l = l.sets.items ≡ map (λ (v : Vec Element Global). unioned [] v.items) l.yielded
