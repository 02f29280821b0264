use Rattle.std.proofs.Common.{◌≡◌, ◌/◌, [], List, map, sym, subst, ap, ◌∙◌, nat_lt}
use Rattle.std.specs.Prelude.{IfOk}
use Rattle.dg_history.specs.declared.node.NodeId.{NodeId}
use Rattle.dg_index.specs.OpenedIndex.{Opening, event_total}
use Rattle.dg_index.proofs.OpenedIndexHistories.{large_parameters}
use Rattle.dg_machine.specs.Planning.{bases_in}
use Rattle.dg_plan.specs.declared.edge.Edge.{Edge}
use Rattle.dg_plan.specs.IndexGraph.{Ground, edges_of, nodes_of}
use Rattle.dg_planner.specs.Bases.{AreBasesAmong, base_of, ground_of}
use Rattle.dg_planner.specs.Whole.{PlannerGraph}
use Rattle.dg_retrieval.specs.KeptGraph.{holding, kept_edges, kept_nodes}
use Rattle.dg_ask.specs.KeptPlanner.{IsGraphFor}
use Rattle.dg_ask.proofs.IndexNodes.{bases_listed, both_given}
use Rattle.dg_ask.proofs.plans.planner_of.Goals as goal

pub new-requires-clause-bases : goal.new-requires-clause-bases
new-requires-clause-bases c =
    let o : Opening = c.args.index.now.opening in
    let bases : map base_of c.deref.result.now ≡ bases_in c.args.cols c.args.handles.now.table = ap (map base_of) c.deref.ensures.value ∙ c.in_ok-bases.ensures in
    let shape = c.shape_of-shape.ensures in
    let g : Ground = ground_of c.shape_of-shape.result c.catalogue.result.now c.args.cols c.deref.result.now (nat_lt 0 c.events_len-events.result) in
    subst (AreBasesAmong (nodes_of g)) (sym bases)
    (bases_listed c.law_nodes_are_listed.ensures o (large_parameters o.params.l o.params.k c.facts.ensures.parameters).1 g
    (λ i. (shape i).events / (shape i).l) (λ i. (shape i).k) c.args.cols c.args.handles.now.table c.requires.nodes)

pub returns : goal.returns
returns c =
    let o : Opening = c.args.index.now.opening in
    let many : c.events_len-events.result ≡ event_total o.batches = c.events_len-events.ensures.events in
    let bases : map base_of c.deref.result.now ≡ bases_in c.args.cols c.args.handles.now.table = ap (map base_of) c.deref.ensures.value ∙ c.in_ok-bases.ensures in
    let shape = c.shape_of-shape.ensures in
    record {
      graph =
          both_given c.new.result
          (λ (p : PlannerGraph). p.edges ≡ kept_edges o (event_total o.batches) c.args.cols (bases_in c.args.cols c.args.handles.now.table))
          (λ (p : PlannerGraph). p.nodes ≡ kept_nodes o (event_total o.batches) c.args.cols)
          (IsGraphFor o c.args.handles.now.table c.args.cols)
          (λ p edges nodes. record { edges = edges; nodes = nodes })
          (subst (λ (es : List Edge). IfOk c.new.result (λ p. p.edges ≡ es))
          (λ i. edges_of (record (ground_of (shape i) (holding (c.catalogue.ensures.entries i)) c.args.cols [] (nat_lt 0 (many i))) { bases = bases i }))
          c.new.ensures.edges)
          (subst (λ (ns : List NodeId). IfOk c.new.result (λ p. p.nodes ≡ ns))
          (λ i. nodes_of (ground_of (shape i) (holding (c.catalogue.ensures.entries i)) c.args.cols [] (nat_lt 0 (many i))))
          c.new.ensures.nodes);
    }
