-- The plans over the index that a session keeps.
use Rattle.std.specs.Prelude.{◌≡◌, ℕ, List as ListOf, [], ◌∷◌}
use Rattle.std.specs.List.{AllZip}
use Rattle.dg_graph.specs.declared.element.Columns.{Columns}
use Rattle.dg_graph.specs.declared.event.Event.{Event}
use Rattle.dg_history.specs.declared.node.NodeId.{NodeId}
use Rattle.dg_history.specs.declared.node.NodeId.TheVariants.{Root}
use Rattle.dg_index.specs.OpenedIndex.{Opening, event_total}
use Rattle.dg_machine.specs.declared.reply.Reply.{Reply}
use Rattle.dg_machine.specs.Answer.{plan_reply}
use Rattle.dg_machine.specs.Planning.{Planned}
use Rattle.dg_plan.specs.IndexGraph.{arcs_of}
use Rattle.dg_plan.specs.Walks.{IsPlan, IsPotential, weight_of}
use Rattle.dg_retrieval.specs.KeptGraph.{kept_edges, kept_nodes}
use Rattle.dg_ask.specs.HeldIndex.{point_over}

-- The reply shows the least plan of the instant over the index with these bases, and the potentials that certify it.
pub record IsPlanReply (o : Opening) (recent : ListOf Event) (bases : ListOf (ℕ × NodeId)) (t : ℕ) (cols : Columns) (reply : Reply) : Type 0 where
  pub plan : Planned
  pub least : IsPlan (arcs_of (kept_edges o (event_total o.batches) cols bases)) (Root ∷ []) (point_over o recent t) plan.steps
  pub certified : AllZip (IsPotential (arcs_of (kept_edges o (event_total o.batches) cols bases)) (Root ∷ []) (weight_of (arcs_of (kept_edges o (event_total o.batches) cols bases)) plan.steps)) (kept_nodes o (event_total o.batches) cols) plan.potentials
  pub says : reply ≡ plan_reply (kept_edges o (event_total o.batches) cols bases) (kept_nodes o (event_total o.batches) cols) (weight_of (arcs_of (kept_edges o (event_total o.batches) cols bases)) plan.steps) plan.steps plan.potentials
