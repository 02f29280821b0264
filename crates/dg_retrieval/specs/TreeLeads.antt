-- What leads to the targets of a tree.
use Rattle.std.specs.Prelude.{◌≡◌, ℕ, Bool, List, Option, IfSome, length, map}
use Rattle.std.specs.List.{All, AllZip}
use Rattle.dg_fold.specs.BytesRead.{AreParts, kept_in, named_along}
use Rattle.dg_fold.specs.declared.part.Part.{Part}
use Rattle.dg_fold.specs.declared.tree.Branch.{Branch}
use Rattle.dg_fold.specs.Ends.{AreLedUntil, Lead}
use Rattle.dg_fold.specs.Steps.{paired}
use Rattle.dg_fold.specs.Trees.{all_edges}
use Rattle.dg_graph.specs.declared.element.Columns.{Columns}
use Rattle.dg_graph.specs.declared.event.Event.{Event}
use Rattle.dg_history.specs.declared.node.NodeId.{NodeId}
use Rattle.dg_index.specs.OpenedIndex.{Opening}
use Rattle.dg_plan.specs.declared.edge.Edge.{Edge}
use Rattle.dg_plan.specs.TreePaths.{base_under}
use Rattle.dg_plan.specs.Walks.{Graft, steps_of}
use Rattle.dg_retrieval.specs.Branches.{AreBranches}
use Rattle.dg_retrieval.specs.Beginnings.{GraphLead, IsOffered, LeadsAs, base_handle}
use Rattle.dg_retrieval.specs.KeptGraph.{HoldNoList, index_edges}

-- these are the edges of the index in these columns, with the current graph or without, and with bases of which none
-- holds the graph of a list
abbrev pub AreIndexEdges : Opening → Columns → List Edge → Type 0
AreIndexEdges o cols edges = (memory : Bool) × (bases : List (ℕ × NodeId)) × HoldNoList bases × (edges ≡ index_edges o cols memory bases)

-- In this image the records of a tree lead to each target: along the tree's path to it, and on with the target's
-- own events up to its instant. Each lead begins as its path does.
abbrev pub AreTreeLeads : ℕ → List Event → List Edge → Opening → Columns → List NodeId → List (Graft NodeId) → List ℕ → List GraphLead → List ℕ → Type 0
AreTreeLeads names recent edges o cols targets grafts times leads image =
    (branches : List Branch) × AreBranches edges targets grafts branches
    × (parts : List Part) × AreParts (kept_in image o) cols (named_along (all_edges branches)) parts
    × (paths : List Lead) × AreLedUntil names recent parts (paired (all_edges branches) parts) branches times paths
    × AllZip (LeadsAs edges) paths leads

-- There is a lead to each target of a tree, which begins with the base, or with none, of the tree's path to it, and with
-- no other base than those of the edges; where there is an image, its records lead there.
pub record LeadAlongTree (names : ℕ) (recent : List Event) (edges : List Edge) (o : Opening) (cols : Columns) (targets : List NodeId) (grafts : List (Graft NodeId)) (times : List ℕ)
    (image : Option (List ℕ)) (leads : List GraphLead) : Type 0 where
  pub count : length leads ≡ length targets
  pub bases : map (λ (l : GraphLead). base_handle l.begins) leads ≡ map (base_under edges (steps_of grafts)) targets
  pub offered : All (IsOffered edges) leads
  pub there : IfSome image (λ im. AreTreeLeads names recent edges o cols targets grafts times leads im)
