use Rattle.std.proofs.Common.{◌+◌, ◌-◌, ◌*◌, ◌++◌, refl, ap, ◌∙◌}
use Rattle.dg_plan.specs.IndexGraph.{kept, child_edges}
use Rattle.dg_plan.proofs.IndexGraphNumbers.{added_more}
use Rattle.dg_planner.specs.AskedLengths.{asked_length_of}
use Rattle.dg_planner.proofs.build.add_children.Goals as goal

pub loop-n-preserved : goal.loop-n-preserved
loop-n-preserved c =
    let f = child_edges (asked_length_of c.args.catalogue.now c.args.cols) c.args.below c.args.j in
    let k = (c.args.j - 1) * c.args.arity + 1 + c.loop-n.n in
    c.in_ok-add_child.ensures ∙ (ap (λ t. t ++ kept (f k)) c.loop-n.invariant ∙ added_more f c.args.edges.now.items ((c.args.j - 1) * c.args.arity + 1) c.loop-n.n k refl)
