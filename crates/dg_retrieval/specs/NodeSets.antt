-- The sets of nodes of an index, by its records alone.
use Rattle.std.specs.Prelude.{◌≡◌, ℕ, List as ListOf, [], ◌∷◌, Result, Ok, Err, length, map}
use Rattle.dg_delta.specs.Deltas.{applied_in_turn}
use Rattle.dg_fold.specs.BytesRead.{AreParts, kept_in, named_along}
use Rattle.dg_fold.specs.declared.part.Part.{Part}
use Rattle.dg_fold.specs.Parts.{parts_in}
use Rattle.dg_plan.specs.TreePaths.{edges_at}
use Rattle.dg_graph.specs.Composition.{Composes, Delta}
use Rattle.dg_graph.specs.declared.element.Column.{Column}
use Rattle.dg_graph.specs.declared.element.Columns.{Columns}
use Rattle.dg_graph.specs.declared.element.Element.{Element}
use Rattle.dg_history.specs.declared.node.Key.{Key}
use Rattle.dg_history.specs.declared.node.NodeId.{NodeId}
use Rattle.dg_history.specs.declared.node.NodeId.TheVariants.{Root, Now, Recent, Leaf, List, Inner}
use Rattle.dg_history.specs.History.{History, events_of, names_of}
use Rattle.dg_index.specs.Hierarchy.{set_of}
use Rattle.dg_index.specs.ImageOfHistory.{IsImageOf}
use Rattle.dg_index.specs.OpenedIndex.{Opening, opened_of}
use Rattle.dg_plan.specs.declared.edge.Edge.{Edge}
use Rattle.dg_plan.specs.HistoryGraph.{all_columns}
use Rattle.dg_plan.specs.IndexGraph.{arcs_of}
use Rattle.dg_plan.specs.Walks.{Graft, IsPlan, IsTree, steps_of}
use Rattle.dg_retrieval.specs.KeptGraph.{record_edges}

-- In this image the delta is what the records along the least plan of the node compose to, in these columns.
abbrev pub IsLedAlong : ℕ → ListOf ℕ → Opening → Columns → ListOf Edge → NodeId → Delta → Type 0
IsLedAlong names image o cols edges node delta =
    (steps : ListOf ℕ) × IsPlan (arcs_of edges) (Root ∷ []) node steps
    × (parts : ListOf Part) × AreParts (kept_in image o) cols (named_along (edges_at edges steps)) parts
    × (list : ListOf Delta) × (parts_in names parts ≡ Ok list) × Composes delta list

-- what deltas come to from the empty set, one after another; or the damage in their place
abbrev pub set_after : Result (ListOf Delta) (Key × Column) → Result (ListOf Element) (Key × Column)
set_after (Ok deltas) = Ok (applied_in_turn deltas [])
set_after (Err damage) = Err damage

-- In this image the records along the least plan of the node come to this set; or this is the first damage among
-- the columns that the plan enters.
abbrev pub IsLedByPlan : ℕ → ListOf ℕ → Opening → NodeId → Result (ListOf Element) (Key × Column) → Type 0
IsLedByPlan names image o node led =
    (steps : ListOf ℕ) × IsPlan (arcs_of (record_edges o)) (Root ∷ []) node steps
    × (parts : ListOf Part) × AreParts (kept_in image o) all_columns (named_along (edges_at (record_edges o) steps)) parts
    × (led ≡ set_after (parts_in names parts))

-- The image stands for the history, the index is what it is opened as, and it has so many names.
pub record IsIndexOver (z : History) (image : ListOf ℕ) (o : Opening) (count : ℕ) : Type 0 where
  pub stands : IsImageOf z image
  pub opened : o ≡ (opened_of z).index
  pub names : count ≡ length (names_of z)

-- the node has no events of its own
abbrev pub HasNoEvents : NodeId → Type 0
HasNoEvents Root = Unit {0}
HasNoEvents Now = Unit {0}
HasNoEvents Recent = ⊥
HasNoEvents (Leaf j) = Unit {0}
HasNoEvents (List i) = ⊥
HasNoEvents (Inner h j) = Unit {0}

-- the sets of these nodes
abbrev pub sets_of : History → ListOf NodeId → ListOf (ListOf Element)
sets_of z nodes = map (set_of z.params (events_of z)) nodes

-- The columns that the tree of the targets enters are all in their spellings, where this is the image.
abbrev pub IsUndamaged : ℕ → ListOf Edge → Opening → Columns → ListOf NodeId → ListOf ℕ → Type 0
IsUndamaged names edges o cols targets image =
    (grafts : ListOf (Graft NodeId)) × IsTree (arcs_of edges) (Root ∷ []) targets grafts
    × (parts : ListOf Part) × AreParts (kept_in image o) cols (named_along (edges_at edges (steps_of grafts))) parts
    × (list : ListOf Delta) × (parts_in names parts ≡ Ok list)
