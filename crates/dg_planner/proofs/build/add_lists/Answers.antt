use Rattle.std.proofs.Common.{◌++◌, ap, ◌∙◌, arith}
use Rattle.dg_plan.specs.IndexGraph.{kept, list_edges}
use Rattle.dg_plan.proofs.IndexGraphNumbers.{added_more}
use Rattle.dg_planner.specs.AskedLengths.{asked_length_of}
use Rattle.dg_planner.proofs.build.add_lists.Goals as goal

pub loop-i-preserved : goal.loop-i-preserved
loop-i-preserved c =
    let f = list_edges (asked_length_of c.args.catalogue.now c.args.cols) in
    c.in_ok-add_list.ensures ∙ (ap (λ t. t ++ kept (f c.loop-i.i)) c.loop-i.invariant ∙ added_more f c.args.edges.now.items 0 c.loop-i.i c.loop-i.i (omega arith))
