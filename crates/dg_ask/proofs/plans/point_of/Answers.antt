use Rattle.std.proofs.Common.{Option, sym, ap, ◌∙◌}
use Rattle.std.specs.Prelude.{unwrap_or}
use Rattle.dg_history.specs.declared.node.NodeId.{NodeId}
use Rattle.dg_history.specs.declared.node.NodeId.TheVariants.{Root}
use Rattle.dg_ask.proofs.PointNodes.{point_is_over}
use Rattle.dg_ask.proofs.plans.point_of.Goals as goal

pub returns-in-Some : goal.returns-in-Some
returns-in-Some c =
    ap (λ (x : Option NodeId). unwrap_or x Root)
    (sym c.in-Some.is ∙ c.point.ensures
    ∙ point_is_over c.args.index.now.opening c.catalogue.result.now c.args.recent.now c.args.t c.first_time.result c.catalogue.ensures.entries c.catalogue.ensures.span c.first_time.ensures)

pub returns-in-None : goal.returns-in-None
returns-in-None c =
    ap (λ (x : Option NodeId). unwrap_or x Root)
    (sym c.in-None.is ∙ c.point.ensures
    ∙ point_is_over c.args.index.now.opening c.catalogue.result.now c.args.recent.now c.args.t c.first_time.result c.catalogue.ensures.entries c.catalogue.ensures.span c.first_time.ensures)
