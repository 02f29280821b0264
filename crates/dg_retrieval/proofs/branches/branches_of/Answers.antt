use Rattle.std.proofs.Common.{ap, refl, sym, ◌∙◌}
use Rattle.dg_plan.specs.TreePaths.{edges_at}
use Rattle.dg_retrieval.proofs.BranchSteps.{branches_step}
use Rattle.dg_retrieval.proofs.branches.branches_of.Goals as goal

pub loop-index-preserved : goal.loop-index-preserved
loop-index-preserved c =
    branches_step c.args.edges.now c.args.targets.now c.args.grafts.now c.loop-index.branches.items _ c.loop-index.index c.index-grafts-index.result _ c.requires c.loop-index-test.true
    (sym c.index-grafts-index.is) c.loop-index.invariant c.in_ok-push.ensures.items
    (record { from = refl; steps = c.in_ok-walk.ensures ∙ ap (edges_at c.args.edges.now) c.deref.ensures.value; to = refl })
