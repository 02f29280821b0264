use Rattle.std.proofs.Common.{◌≡◌, ℕ, ◌++◌, drop, map}
use Rattle.dg_graph.specs.declared.element.Element.TheVariants as element
use Rattle.dg_session.proofs.session.indexes.nodes_of.Given as goal

abbrev pub invariant-loop-id : goal.invariant-loop-id
invariant-loop-id l = l.nodes.items ++ map (λ (id : ℕ). element.Node id) (drop l.id-index l.ids) ≡ map (λ (id : ℕ). element.Node id) l.ids
