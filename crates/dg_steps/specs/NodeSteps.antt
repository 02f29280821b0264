-- The exact steps between nodes of an index, by its records alone.
use Rattle.std.specs.Prelude.{◌≡◌, ℕ, List, [], ◌∷◌, Result, IfOk, IfErr, false}
use Rattle.std.specs.Global.{Vec}
use Rattle.std.specs.List.{All, Contains, sum}
use Rattle.dg_fold.specs.BytesRead.{AreParts, TakesAtMost, kept_in, named_along}
use Rattle.dg_fold.specs.declared.part.Part.{Part}
use Rattle.dg_fold.specs.declared.tree.Branch.{Branch}
use Rattle.dg_fold.specs.HistoryPaths.{IsGraphOf, IsIndexed}
use Rattle.dg_fold.specs.Steps.{paired}
use Rattle.dg_fold.specs.Trees.{all_edges}
use Rattle.dg_graph.specs.Composition.{Delta, between}
use Rattle.dg_graph.specs.declared.element.Element.{Element}
use Rattle.dg_history.specs.declared.node.NodeId.{NodeId}
use Rattle.dg_history.specs.declared.node.NodeId.TheVariants.{Root}
use Rattle.dg_history.specs.History.{History, events_of}
use Rattle.dg_index.specs.Hierarchy.{set_of}
use Rattle.dg_index.specs.IndexRecords.{column_in}
use Rattle.dg_index.specs.OpenedIndex.{Opening}
use Rattle.dg_plan.specs.declared.edge.Edge.{Edge}
use Rattle.dg_plan.specs.HistoryGraph.{all_columns}
use Rattle.dg_plan.specs.IndexGraph.{Ground, arcs_of, edges_of}
use Rattle.dg_plan.specs.Walks.{AreSingles, Graft, IsTree}
use Rattle.dg_retrieval.specs.Branches.{AreBranches}
use Rattle.dg_records.specs.declared.fault.RecordFault.{RecordFault}
use Rattle.dg_retrieval.specs.KeptGraph.{record_edges}
use Rattle.dg_retrieval.specs.NodeSets.{sets_of}
use Rattle.dg_retrieval.specs.Retrieval.{IsNoDamage}
use Rattle.dg_steps.specs.TreeSteps.{AreStepsBetween, IsStepBetween}

-- the exact deltas from each set to the next
abbrev pub steps_among : List (List Element) → List Delta
steps_among [] = []
steps_among (a ∷ []) = []
steps_among (a ∷ b ∷ sets) = between a b ∷ steps_among (b ∷ sets)

-- Over the records of a history, with all their columns, the step between two nodes of a tree of the graph of its index,
-- without the current graph and without bases, is the exact delta from the set of the one to that of the other.
abbrev pub StepsAreExact : Type 0
StepsAreExact = (names : ℕ) (z : History) → IsIndexed names z → (g : Ground) → IsGraphOf z g → g.bases ≡ [] → g.memory ≡ false
    → (walk : List Edge) → All (Contains (edges_of g)) walk
    → (parts : List Part) → AreParts (λ key col. column_in z key col) all_columns (named_along walk) parts
    → (u v : NodeId) (d : Delta) → IsStepBetween names (paired walk parts) u v d
    → d ≡ between (set_of z.params (events_of z) u) (set_of z.params (events_of z) v)

-- In this image the steps from each node to the next are those of a tree of the targets, over the records of the index.
abbrev pub AreLedSteps : ℕ → List ℕ → Opening → List NodeId → List NodeId → List Delta → Type 0
AreLedSteps names image o targets nodes steps =
    (grafts : List (Graft NodeId)) × IsTree (arcs_of (record_edges o)) (Root ∷ []) targets grafts
    × (branches : List Branch) × AreBranches (record_edges o) targets grafts branches
    × (parts : List Part) × AreParts (kept_in image o) all_columns (named_along (all_edges branches)) parts
    × AreStepsBetween names (paired (all_edges branches) parts) nodes steps

-- With the image and the index of a history: the steps are the exact deltas from the set of each node to that of the
-- next, at most as many bytes are read as the single plans of the targets weigh together, and no damage is met.
pub record GivesStepsOver (z : History) (edges : List Edge) (targets nodes : List NodeId) (before after : ℕ) (result : Result (Vec Delta) RecordFault) : Type 0 where
  pub steps : IfOk result (λ steps. steps.items ≡ steps_among (sets_of z nodes))
  pub most : (singles : List ℕ) → AreSingles (arcs_of edges) (Root ∷ []) targets singles → TakesAtMost (sum singles) before after
  pub never : IfErr result IsNoDamage
