-- What a retrieval of several instants gives.
use Rattle.std.specs.Prelude.{◌≡◌, ◌⊎◌, ℕ, List, [], ◌∷◌, Err, Option, length, map}
use Rattle.std.specs.List.{Contains}
use Rattle.dg_fold.specs.BytesRead.{AreParts, TakesAtMost, kept_in, named_along}
use Rattle.dg_fold.specs.declared.part.Part.{Part}
use Rattle.dg_fold.specs.Parts.{parts_in}
use Rattle.dg_plan.specs.TreePaths.{base_under, edges_at}
use Rattle.dg_graph.specs.declared.element.Columns.{Columns}
use Rattle.dg_graph.specs.declared.element.Element.{Element}
use Rattle.dg_graph.specs.declared.event.Event.{Event}
use Rattle.dg_graph.specs.Elements.{IsSet, shown}
use Rattle.dg_graph.specs.Replay.{replay, replay_at}
use Rattle.dg_history.specs.declared.node.NodeId.{NodeId}
use Rattle.dg_history.specs.declared.node.NodeId.TheVariants.{Root}
use Rattle.dg_history.specs.History.{History, events_of, names_of}
use Rattle.dg_index.specs.Hierarchy.{set_of}
use Rattle.dg_index.specs.ImageOfHistory.{IsImageOf}
use Rattle.dg_index.specs.IndexRecords.{recent_of}
use Rattle.dg_index.specs.OpenedIndex.{Opening, opened_of}
use Rattle.dg_plan.specs.declared.edge.Edge.{Edge}
use Rattle.dg_plan.specs.declared.edge.Via.TheVariants as via
use Rattle.dg_plan.specs.IndexGraph.{arcs_of}
use Rattle.dg_plan.specs.InstantPoint.{point}
use Rattle.dg_plan.specs.Walks.{Graft, IsTree, steps_of, tree_weight}
use Rattle.dg_records.specs.declared.fault.RecordFault.{RecordFault}
use Rattle.dg_records.specs.declared.fault.RecordFault.TheVariants as fault

-- The image stands for the history, the index is what it is opened as, and the names, the current graph and
-- the recent events that are in memory are those of the history.
pub record IsOver (z : History) (image : List ℕ) (o : Opening) (count : ℕ) (graph : List Element) (behind : List Event) : Type 0 where
  pub stands : IsImageOf z image
  pub opened : o ≡ (opened_of z).index
  pub names : count ≡ length (names_of z)
  pub now : graph ≡ replay (events_of z)
  pub recent : behind ≡ recent_of z.params (events_of z)

-- the nodes are those from which the graphs as of the instants are reached
abbrev pub ArePoints : History → List NodeId → List ℕ → Type 0
ArePoints z targets times = targets ≡ map (λ t. point z.params (events_of z) t) times

-- the graphs as of the instants, in these columns
abbrev pub graphs_at : History → List ℕ → Columns → List (List Element)
graphs_at z times cols = map (λ t. shown (replay_at (events_of z) t) cols) times

-- a tree of the targets over these edges, which weighs so much, and the bases with which its paths to them begin
abbrev pub IsTreeOf : List Edge → List NodeId → ℕ → List (Option ℕ) → Type 0
IsTreeOf edges targets weight bases =
    (grafts : List (Graft NodeId)) × IsTree (arcs_of edges) (Root ∷ []) targets grafts × (weight ≡ tree_weight (arcs_of edges) grafts)
    × (bases ≡ map (base_under edges (steps_of grafts)) targets)

-- Each base of the graph, the node that an edge enters by it, is a handle that holds the node's set as shown in these
-- columns.
abbrev pub AreHeld : History → List Edge → Columns → (ℕ → List Element) → Type 0
AreHeld z edges cols held =
    (e : Edge) (handle : ℕ) → Contains edges e → e.via ≡ via.Base handle
    → IsSet (held handle) × (shown (held handle) cols ≡ shown (set_of z.params (events_of z) e.to) cols)

-- the bytes read are at most what the tree of the targets weighs
abbrev pub TakesAtMostTree : List Edge → List NodeId → ℕ → ℕ → Type 0
TakesAtMostTree edges targets before after =
    (grafts : List (Graft NodeId)) → IsTree (arcs_of edges) (Root ∷ []) targets grafts → TakesAtMost (tree_weight (arcs_of edges) grafts) before after

-- The fault names the first damage among the columns that the tree of the targets enters, in the order of its
-- steps and of the columns, where this is the image.
abbrev pub IsFirstDamage : ℕ → List Edge → Opening → Columns → List NodeId → List ℕ → RecordFault → Type 0
IsFirstDamage names edges o cols targets image fault.Disk = Unit {0}
IsFirstDamage names edges o cols targets image fault.Memory = Unit {0}
IsFirstDamage names edges o cols targets image (fault.Damaged key col) =
    (grafts : List (Graft NodeId)) × IsTree (arcs_of edges) (Root ∷ []) targets grafts
    × (parts : List Part) × AreParts (kept_in image o) cols (named_along (edges_at edges (steps_of grafts))) parts
    × (parts_in names parts ≡ Err (key, col))

-- the fault is no damage
abbrev pub IsNoDamage : RecordFault → Type 0
IsNoDamage f = (f ≡ fault.Disk) ⊎ (f ≡ fault.Memory)
