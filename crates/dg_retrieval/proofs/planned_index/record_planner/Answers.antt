use Rattle.std.proofs.Common.{◌≡◌, false, [], List, subst}
use Rattle.std.specs.Prelude.{IfOk}
use Rattle.dg_plan.specs.declared.edge.Edge.{Edge}
use Rattle.dg_plan.specs.IndexGraph.{edges_of}
use Rattle.dg_planner.specs.Bases.{ground_of}
use Rattle.dg_retrieval.specs.KeptGraph.{holding}
use Rattle.dg_retrieval.proofs.planned_index.record_planner.Goals as goal

pub returns-clause-edges : goal.returns-clause-edges
returns-clause-edges c =
    subst (λ (es : List Edge). IfOk c.new.result (λ p. p.edges ≡ es))
    (λ i. edges_of (ground_of (c.shape_of-shape.ensures i) (holding (c.catalogue.ensures.entries i)) c.args.cols [] false))
    c.new.ensures.edges
