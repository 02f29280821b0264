-- The tree is planned, and the walk goes along its branches.
use Rattle.dg_retrieval.proofs.TreeLeadReads.{grafts_many, walk_of}
use Rattle.dg_retrieval.proofs.tree_parts.plan_tree.Goals as goal

pub branches_of-requires : goal.branches_of-requires
branches_of-requires c =
    grafts_many c.args.planner.now.edges c.args.targets.now c.in_ok-tree.tree.grafts.items c.deref.result.now c.deref.ensures.value c.in_ok-tree.ensures.tree

pub returns-clause-walk : goal.returns-clause-walk
returns-clause-walk c =
    walk_of c.args.planner.now.edges _ c.args.targets.now c.in_ok-tree.tree.grafts.items _ c.in_ok-branches.branches.items _ c.in_ok-walk.walk.items c.in_ok-tree.ensures.tree c.edges.ensures
    c.deref.ensures.value c.in_ok-branches.ensures c.deref-2.ensures.value c.in_ok-walk.ensures
