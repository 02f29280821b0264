use Rattle.std.proofs.Common.{◌≡◌, ◌^◌, sym, subst}
use Rattle.std.specs.Prelude.{IfOk}
use Rattle.dg_graph.specs.declared.function.Function.TheVariants.{Union}
use Rattle.dg_plan.specs.IndexGraph.{edges_of, nodes_of}
use Rattle.dg_planner.specs.AskedLengths.{asked_length_of}
use Rattle.dg_planner.specs.Bases.{HasBases, ground_with}
use Rattle.dg_planner.specs.Whole.{PlannerGraph}
use Rattle.dg_planner.proofs.AskedLengthSums.{lists_within, one_within}
use Rattle.dg_planner.proofs.planner.Planner.new.Goals as goal

pub make-requires-clause-bases : goal.make-requires-clause-bases
make-requires-clause-bases c =
    subst (λ m. HasBases (ground_with m c.args.shape.k c.args.memory c.args.bases.now (asked_length_of c.args.catalogue.now c.args.cols))) (sym (c.leaves.ensures.leaves Union)) c.requires.bases

pub make-requires-clause-light : goal.make-requires-clause-light
make-requires-clause-light c = λ k. one_within c.args.catalogue.now c.args.cols k (2 ^ 48) c.facts.ensures.bytes

pub make-requires-clause-lists : goal.make-requires-clause-lists
make-requires-clause-lists c = lists_within c.args.catalogue.now c.args.cols c.leaves.result (2 ^ 48) c.facts.ensures.bytes

pub returns-clause-nodes : goal.returns-clause-nodes
returns-clause-nodes c =
    subst (λ m. IfOk c.make.result (λ (p : PlannerGraph). p.nodes ≡ nodes_of (ground_with m c.args.shape.k c.args.memory c.args.bases.now (asked_length_of c.args.catalogue.now c.args.cols)))) (c.leaves.ensures.leaves Union) c.make.ensures.nodes

pub returns-clause-edges : goal.returns-clause-edges
returns-clause-edges c =
    subst (λ m. IfOk c.make.result (λ (p : PlannerGraph). p.edges ≡ edges_of (ground_with m c.args.shape.k c.args.memory c.args.bases.now (asked_length_of c.args.catalogue.now c.args.cols)))) (c.leaves.ensures.leaves Union) c.make.ensures.edges
