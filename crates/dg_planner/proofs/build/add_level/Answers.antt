use Rattle.std.proofs.Common.{◌+◌, ◌++◌, ap, ◌∙◌, arith}
use Rattle.dg_plan.specs.IndexGraph.{kept, inner_edges}
use Rattle.dg_plan.proofs.IndexGraphNumbers.{added_more}
use Rattle.dg_planner.specs.AskedLengths.{asked_length_of}
use Rattle.dg_planner.proofs.build.add_level.Goals as goal

pub loop-n-preserved : goal.loop-n-preserved
loop-n-preserved c =
    let f = inner_edges (asked_length_of c.args.catalogue.now c.args.cols) c.args.arity c.args.below in
    c.in_ok-add_children.ensures ∙ (ap (λ t. t ++ kept (f (c.loop-n.n + 1))) c.loop-n.invariant ∙ added_more f c.args.edges.now.items 1 c.loop-n.n (c.loop-n.n + 1) (omega arith))
