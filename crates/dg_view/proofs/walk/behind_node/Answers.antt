use Rattle.std.proofs.Common.{arith, ◌≡◌, ◌+◌, sym, ap, ◌∙◌}
use Rattle.dg_graph.specs.declared.element.Element.TheVariants.{NodeAttr}
use Rattle.dg_graph.specs.Elements.{before}
use Rattle.dg_view.proofs.WalkAttributes.{no_value_behind, no_value_among_edges}
use Rattle.dg_view.proofs.walk.behind_node.Goals as goal

pub returns-in-Some : goal.returns-in-Some
returns-in-Some c = λ x h.
    let next : c.in-Some.id ≡ c.args.node + 1 = omega (arith, c.in-Some.ensures.1) in
    no_value_behind c.args.node x (ap (λ n. before (NodeAttr n 0 0) x) (sym next) ∙ h)

pub returns-in-None : goal.returns-in-None
returns-in-None c = no_value_among_edges c.args.node
