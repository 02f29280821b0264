-- The graphs as of instants, by what leads to their points along a tree.
use Rattle.std.proofs.Common.{◌≡◌, ℕ, suc, List as ListOf, [], ◌∷◌, length, map, refl, ap, subst, ◌∙◌}
use Rattle.dg_fold.specs.Ends.{AreLedUntil}
use Rattle.dg_fold.specs.Steps.{paired}
use Rattle.dg_fold.specs.Trees.{all_edges}
use Rattle.dg_graph.specs.declared.element.Columns.{Columns}
use Rattle.dg_graph.specs.declared.element.Element.{Element}
use Rattle.dg_graph.specs.declared.event.Event.{Event}
use Rattle.dg_history.specs.declared.node.NodeId.{NodeId}
use Rattle.dg_history.specs.History.{History, events_of, names_of}
use Rattle.dg_index.specs.IndexRecords.{recent_of}
use Rattle.dg_index.specs.OpenedIndex.{Opening}
use Rattle.dg_plan.specs.declared.edge.Edge.{Edge}
use Rattle.dg_plan.specs.Walks.{AreSingles, Arc, Graft, steps_of}
use Rattle.dg_retrieval.specs.Beginnings.{GraphLead, led_to}
use Rattle.dg_retrieval.specs.KeptGraph.{index_ground}
use Rattle.dg_retrieval.specs.NodeSets.{IsIndexOver}
use Rattle.dg_retrieval.specs.Retrieval.{AreHeld, ArePoints, IsOver, graphs_at}
use Rattle.dg_retrieval.specs.TreeLeads.{AreIndexEdges, AreTreeLeads}
use Rattle.dg_retrieval.proofs.HistoryTreeLaws.{trees_reach}
use Rattle.dg_retrieval.proofs.KeptGraphWalks.{walk_among, walk_records}
use Rattle.dg_retrieval.proofs.KeptGraphRecords.{graph_of_index}
use Rattle.dg_retrieval.proofs.BeginningGraphs.{graphs_are}
use Rattle.dg_retrieval.proofs.BranchTrees.{branches_hold}

-- there is a single plan for each target
pub singles_many : {N : Type 0} (g : ListOf (Arc N)) (starts targets : ListOf N) (singles : ListOf ℕ) → AreSingles g starts targets singles → length singles ≡ length targets
singles_many g starts [] [] are = refl
singles_many g starts [] (x ∷ singles) are = elim are [ ]
singles_many g starts (v ∷ targets) [] are = elim are [ ]
singles_many g starts (v ∷ targets) (x ∷ singles) are = ap (λ n. suc n) (singles_many g starts targets singles are.1)

-- the index is that of the history
pub index_over : {z : History} {im : ListOf ℕ} {o : Opening} {names : ℕ} {now : ListOf Element} {recent : ListOf Event} → IsOver z im o names now recent → IsIndexOver z im o names
index_over over = record { stands = over.stands; opened = over.opened; names = over.names }

module _ (o : Opening) (cols : Columns) (edges : ListOf Edge) (is : AreIndexEdges o cols edges) (targets : ListOf NodeId) (grafts : ListOf (Graft NodeId)) (names : ℕ)
    (recent : ListOf Event) (times : ListOf ℕ) (leads : ListOf GraphLead) where
  -- over an image of a history, with its points as targets, they lead to the graphs as of the instants
  pub leads_come : (im : ListOf ℕ) → AreTreeLeads names recent edges o cols targets grafts times leads im → (z : History) (now : ListOf Element) (held : ℕ → ListOf Element) → IsOver z im o names now recent
      → AreHeld z edges cols held → ArePoints z targets times → map (led_to now held cols) leads ≡ graphs_at z times cols
  leads_come im led z now held over are_held points =
      let branches = led.0 in
      let are = led.1 in
      let parts = led.2 in
      let walk : ListOf Edge = all_edges branches in
      let along = branches_hold edges targets grafts branches are in
      let law =
      trees_reach z over.stands.legal (index_ground o cols is.0 is.1) (graph_of_index z o over.opened cols is.0 is.1) is.2 cols walk
      (walk_among o cols is.0 is.1 edges is.3 (steps_of grafts) walk along) parts (walk_records o cols is.0 is.1 edges is.3 (steps_of grafts) walk along z im over.stands over.opened parts led.3) in
      let led_so : AreLedUntil (length (names_of z)) (recent_of z.params (events_of z)) parts (paired walk parts) branches times led.4 =
      subst (λ n. AreLedUntil n (recent_of z.params (events_of z)) parts (paired walk parts) branches times led.4) over.names
      (subst (λ (es : ListOf Event). AreLedUntil names es parts (paired walk parts) branches times led.4) over.recent led.5) in
      ap (λ (set : ListOf Element). map (led_to set held cols) leads) over.now
      ∙ graphs_are (length (names_of z)) z cols edges held are_held walk parts law.1 targets grafts branches times led.4 leads are points led_so led.6
