use Rattle.std.proofs.Common.{arith, ◌≡◌, ◌+◌, sym, ap, ◌∙◌}
use Rattle.dg_graph.specs.declared.element.Element.TheVariants.{NodeAttr}
use Rattle.dg_graph.specs.Elements.{before}
use Rattle.dg_view.proofs.WalkAttributes.{no_key_behind, no_key_without_value}
use Rattle.dg_view.proofs.walk.behind_key.Goals as goal

pub returns-in-Some : goal.returns-in-Some
returns-in-Some c = λ x h.
    let next : c.in-Some.key ≡ c.args.key + 1 = omega (arith, c.in-Some.ensures.1) in
    no_key_behind c.args.node c.args.key x (ap (λ k. before (NodeAttr c.args.node k 0) x) (sym next) ∙ h)

pub returns-in-None : goal.returns-in-None
returns-in-None c = λ x e. no_key_without_value c.args.node c.args.key x (c.behind_node.ensures x e)
