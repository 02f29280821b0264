-- The reply of a plan, by what the planner gives.
use Rattle.std.proofs.Common.{◌≡◌, ℕ, List, [], ◌∷◌, ◌++◌, length, ◌∙◌, ap, subst}
use Rattle.std.specs.List.{AllZip}
use Rattle.dg_graph.specs.declared.element.Columns.{Columns}
use Rattle.dg_graph.specs.declared.event.Event.{Event}
use Rattle.dg_history.specs.declared.node.NodeId.{NodeId}
use Rattle.dg_history.specs.declared.node.NodeId.TheVariants.{Root}
use Rattle.dg_index.specs.OpenedIndex.{Opening, event_total}
use Rattle.dg_machine.specs.declared.reply.BodyLine.{BodyLine}
use Rattle.dg_machine.specs.declared.reply.Head.TheVariants as head
use Rattle.dg_machine.specs.declared.reply.Reply.TheVariants as replied
use Rattle.dg_machine.specs.Answer.{plan_reply, potential_lines, step_lines}
use Rattle.dg_plan.specs.declared.edge.Edge.{Edge}
use Rattle.dg_plan.specs.IndexGraph.{arcs_of}
use Rattle.dg_plan.specs.Walks.{IsPlan, IsPotential, weight_of}
use Rattle.dg_machine.specs.Planning.{no_plan}
use Rattle.dg_retrieval.specs.KeptGraph.{kept_edges, kept_nodes}
use Rattle.dg_ask.specs.HeldIndex.{point_over}
use Rattle.dg_ask.specs.Plans.{IsPlanReply}

pub reply_is : (o : Opening) (recent : List Event) (bases : List (ℕ × NodeId)) (t : ℕ) (cols : Columns) (edges : List Edge) (nodes : List NodeId) (target : NodeId) (steps potentials : List ℕ) (weight count : ℕ) (lines : List BodyLine)
    → edges ≡ kept_edges o (event_total o.batches) cols bases → nodes ≡ kept_nodes o (event_total o.batches) cols → target ≡ point_over o recent t
    → IsPlan (arcs_of edges) (Root ∷ []) target steps → weight ≡ weight_of (arcs_of edges) steps → AllZip (IsPotential (arcs_of edges) (Root ∷ []) weight) nodes potentials
    → lines ≡ step_lines edges steps ++ potential_lines weight nodes potentials → count ≡ length steps
    → IsPlanReply o recent bases t cols (replied.Answered (head.Plan weight count) lines)
reply_is o recent bases t cols edges nodes target steps potentials weight count lines e n at plan w zip l c = record {
  plan = record no_plan { steps = steps; potentials = potentials };
  least =
      subst (λ (es : List Edge). IsPlan (arcs_of es) (Root ∷ []) (point_over o recent t) steps) e
      (subst (λ (a : NodeId). IsPlan (arcs_of edges) (Root ∷ []) a steps) at plan);
  certified =
      subst (λ (ns : List NodeId). AllZip (IsPotential (arcs_of (kept_edges o (event_total o.batches) cols bases)) (Root ∷ []) (weight_of (arcs_of (kept_edges o (event_total o.batches) cols bases)) steps)) ns potentials) n
      (subst (λ (es : List Edge). AllZip (IsPotential (arcs_of es) (Root ∷ []) (weight_of (arcs_of es) steps)) nodes potentials) e
      (subst (λ (x : ℕ). AllZip (IsPotential (arcs_of edges) (Root ∷ []) x) nodes potentials) w zip));
  says =
      ap (λ (xs : List BodyLine). replied.Answered (head.Plan weight count) xs) l
      ∙ ap (λ (k : ℕ). replied.Answered (head.Plan weight k) (step_lines edges steps ++ potential_lines weight nodes potentials)) c
      ∙ ap (λ (x : ℕ). plan_reply edges nodes x steps potentials) w
      ∙ (λ i. plan_reply (e i) (n i) (weight_of (arcs_of (e i)) steps) steps potentials);
}
