-- What the calls of a retrieval answer: what is given, over which image and at what cost, and what each call leaves.
use Rattle.std.specs.Prelude.{◌≡◌, ◌≤◌, ℕ, List, [], ◌∷◌, Option, Result, Ok, Err, IfErr, IfOk, IfSome, length, map}
use Rattle.std.specs.Global.{Vec}
use Rattle.std.specs.List.{All, sum}
use Rattle.dg_fold.specs.BytesRead.{AreParts, named_along}
use Rattle.dg_fold.specs.Trees.{Grow, LeadsToTarget}
use Rattle.dg_graph.specs.Composition.{applied}
use Rattle.dg_graph.specs.declared.element.Columns.{Columns}
use Rattle.dg_graph.specs.declared.element.Element.{Element}
use Rattle.dg_graph.specs.declared.event.Event.{Event}
use Rattle.dg_graph.specs.Elements.{shown}
use Rattle.dg_history.specs.declared.node.NodeId.{NodeId}
use Rattle.dg_history.specs.declared.node.NodeId.TheVariants.{Root}
use Rattle.dg_history.specs.History.{History, events_of}
use Rattle.dg_index.specs.Hierarchy.{set_of}
use Rattle.dg_index.specs.OpenedIndex.{Opening}
use Rattle.dg_plan.specs.declared.edge.Edge.{Edge}
use Rattle.dg_plan.specs.HistoryGraph.{all_columns}
use Rattle.dg_plan.specs.IndexGraph.{arcs_of}
use Rattle.dg_plan.specs.Walks.{AreSingles, Graft, IsPlan, IsTree, tree_weight, weight_of}
use Rattle.dg_planner.specs.Trees.{grafts_in}
use Rattle.dg_planner.specs.Whole.{TREE_WEIGHT_MAX}
pub use Rattle.dg_records.specs.Calls.{ReadsRecords}
use Rattle.dg_records.specs.ColumnReads.{Takes, TakesAtMost, kept_in}
use Rattle.dg_records.specs.declared.fault.RecordFault.{RecordFault}
use Rattle.dg_records.specs.declared.fault.RecordFault.TheVariants as fault
use Rattle.dg_records.specs.EventNames.{EventNamesAreThere}
use Rattle.dg_retrieval.specs.Beginnings.{GraphLead, IsOffered, base_handle, leads_in, led_to}
use Rattle.dg_retrieval.specs.declared.node_lead.NodeLead.{NodeLead}
use Rattle.dg_retrieval.specs.declared.retrieval.Retrieved.{Retrieved}
use Rattle.dg_retrieval.specs.declared.tree_parts.TreeParts.{TreeParts}
use Rattle.dg_retrieval.specs.KeptGraph.{record_edges}
use Rattle.dg_retrieval.specs.NamesThere.{NamesAreThere}
use Rattle.dg_retrieval.specs.NodeSets.{IsLedAlong, IsLedByPlan, IsUndamaged, sets_of}
use Rattle.dg_retrieval.specs.Retrieval.{AreHeld, ArePoints, IsFirstDamage, IsNoDamage, IsTreeOf, TakesAtMostTree, graphs_at}
use Rattle.dg_retrieval.specs.TreeLeads.{AreTreeLeads}
use Rattle.dg_retrieval.specs.TreeParts.{IsTreeWalk}

-- ---- every call

-- What the call tells of damage in this image: what is given has met none among the columns that the tree of the
-- targets enters; a fault that is damage names the first.
abbrev pub TellsDamage : {A : Type 0} → ℕ → List Edge → Opening → Columns → List NodeId → List ℕ → Result A RecordFault → Type 0
TellsDamage name_count edges o cols targets image (Ok r) = IsUndamaged name_count edges o cols targets image
TellsDamage name_count edges o cols targets image (Err f) = IsFirstDamage name_count edges o cols targets image f

-- The names that the deltas of these leads put in are there, where those of the recent events are.
abbrev pub LeadNamesAreThere : ℕ → List Event → List GraphLead → Type 0
LeadNamesAreThere name_count recent leads = EventNamesAreThere name_count recent → All (λ (l : GraphLead). NamesAreThere name_count l.delta.plus) leads

-- ---- graphs as of several instants

-- There is a lead to each target, along one tree, whose weight is given; it begins with the base, or with none, of the
-- tree's path, and puts in names that are there. What the single plans weigh is given too, and their sum. Neither is more
-- than 32 plans weigh at the most.
pub record IsRetrieval (name_count : ℕ) (recent : List Event) (edges : List Edge) (targets : List NodeId) (r : Retrieved) : Type 0 where
  pub count : length (leads_in r.leads) ≡ length targets
  pub singles_count : length r.singles.items ≡ length targets
  pub tree : IsTreeOf edges targets r.weight (map (λ (l : GraphLead). base_handle l.begins) (leads_in r.leads))
  pub singles : AreSingles (arcs_of edges) (Root ∷ []) targets r.singles.items
  pub sum : r.sum ≡ sum r.singles.items
  pub light : r.weight ≤ TREE_WEIGHT_MAX
  pub light_sum : r.sum ≤ TREE_WEIGHT_MAX
  pub offered : All (IsOffered edges) (leads_in r.leads)
  pub named : LeadNamesAreThere name_count recent (leads_in r.leads)

-- With the image, the index and the memory of a history: where the targets are the points of the instants, the leads
-- come to the graphs as of these, and no damage is met; as many bytes are read as the tree weighs, and no more where the
-- call fails.
pub record RetrievesOver (z : History) (now : List Element) (edges : List Edge) (cols : Columns) (targets : List NodeId) (times : List ℕ) (before after : ℕ)
    (result : Result Retrieved RecordFault) : Type 0 where
  pub graphs : IfOk result (λ r. (held : ℕ → List Element) → AreHeld z edges cols held → ArePoints z targets times → map (led_to now held cols) (leads_in r.leads) ≡ graphs_at z times cols)
  pub takes : IfOk result (λ r. Takes r.weight before after)
  pub most : TakesAtMostTree edges targets before after
  pub never : IfErr result (λ f. ArePoints z targets times → IsNoDamage f)

-- ---- one tree

-- The tree is one of the targets, with what it and the single plans weigh; a branch leads to each target, each from
-- the tree before it, and each record on the walk along them has its part in this image.
pub record HasTreeParts (edges : List Edge) (o : Opening) (cols : Columns) (targets : List NodeId) (image : Option (List ℕ)) (r : TreeParts) : Type 0 where
  pub walk : IsTreeWalk edges targets (grafts_in r.tree) r.branches.items r.walk.items
  pub parts : IfSome image (λ im. AreParts (kept_in im o) cols (named_along r.walk.items) r.parts.items)
  pub weight : r.tree.weight ≡ tree_weight (arcs_of edges) (grafts_in r.tree)
  pub singles : AreSingles (arcs_of edges) (Root ∷ []) targets r.tree.singles.items
  pub sum : r.tree.sum ≡ sum r.tree.singles.items
  pub light : r.tree.weight ≤ TREE_WEIGHT_MAX
  pub light_sum : r.tree.sum ≤ TREE_WEIGHT_MAX
  pub count : length r.branches.items ≡ length targets
  pub lead : All LeadsToTarget r.branches.items
  pub grow : Grow [] r.branches.items

-- In this image the leads are those to which the records of a tree of the targets lead, and the weight that is given is
-- that of this tree.
pub record IsLedAlongTree (name_count : ℕ) (recent : List Event) (edges : List Edge) (o : Opening) (cols : Columns) (targets : List NodeId) (times : List ℕ) (image : List ℕ)
    (r : Retrieved) : Type 0 where
  pub grafts : List (Graft NodeId)
  pub tree : IsTree (arcs_of edges) (Root ∷ []) targets grafts
  pub weight : r.weight ≡ tree_weight (arcs_of edges) grafts
  pub led : AreTreeLeads name_count recent edges o cols targets grafts times (leads_in r.leads) image

-- With the image and the index of a history: as many bytes are read as the tree given weighs, and no more where the
-- call fails, and never more than the single plans weigh together.
pub record TakesTree {A : Type 0} (edges : List Edge) (targets : List NodeId) (before after : ℕ) (weight : A → ℕ) (result : Result A RecordFault) : Type 0 where
  pub takes : IfOk result (λ r. Takes (weight r) before after)
  pub most : TakesAtMostTree edges targets before after
  pub shared : (singles : List ℕ) → AreSingles (arcs_of edges) (Root ∷ []) targets singles → TakesAtMost (sum singles) before after

-- The same of a retrieval, and no damage is met.
pub record TakesAlongTree (edges : List Edge) (targets : List NodeId) (before after : ℕ) (result : Result Retrieved RecordFault) : Type 0 where
  pub takes : IfOk result (λ r. Takes r.weight before after)
  pub most : TakesAtMostTree edges targets before after
  pub shared : (singles : List ℕ) → AreSingles (arcs_of edges) (Root ∷ []) targets singles → TakesAtMost (sum singles) before after
  pub never : IfErr result IsNoDamage

-- ---- the set of a node

-- The weight is that of the node's least plan, the delta is what the records along it compose to in this image, and it
-- puts in names that are there.
pub record LeadsToNode (name_count : ℕ) (edges : List Edge) (o : Opening) (cols : Columns) (node : NodeId) (image : Option (List ℕ)) (r : NodeLead) : Type 0 where
  pub plan : (steps : List ℕ) × IsPlan (arcs_of edges) (Root ∷ []) node steps × (r.weight ≡ weight_of (arcs_of edges) steps)
  pub led : IfSome image (λ im. IsLedAlong name_count im o cols edges node r.delta)
  pub named : NamesAreThere name_count r.delta.plus

-- With the image and the index of a history: the delta leads from nothing to the node's set, as many bytes are read as
-- its least plan weighs, and no more where the call fails, and no damage is met.
pub record LeadsToNodeOver (z : History) (edges : List Edge) (cols : Columns) (node : NodeId) (before after : ℕ) (result : Result NodeLead RecordFault) : Type 0 where
  pub set : IfOk result (λ r. shown (applied r.delta []) cols ≡ shown (set_of z.params (events_of z) node) cols)
  pub takes : IfOk result (λ r. Takes r.weight before after)
  pub most : (steps : List ℕ) → IsPlan (arcs_of edges) (Root ∷ []) node steps → TakesAtMost (weight_of (arcs_of edges) steps) before after
  pub never : IfErr result IsNoDamage

-- What is given is the set to which the records along the node's least plan come in this image; a fault that is damage
-- names the first among the columns that the plan enters.
abbrev pub TellsPlan : ℕ → List ℕ → Opening → NodeId → Result (List Element) RecordFault → Type 0
TellsPlan name_count image o node (Ok set) = IsLedByPlan name_count image o node (Ok set)
TellsPlan name_count image o node (Err fault.Disk) = Unit {0}
TellsPlan name_count image o node (Err (fault.Damaged key col)) = IsLedByPlan name_count image o node (Err (key, col))
TellsPlan name_count image o node (Err fault.Memory) = Unit {0}

-- With the image and the index of a history: the set is that of the node, as many bytes are read as its least plan
-- weighs, and no more where the call fails, and no damage is met.
pub record GivesSetOver (z : History) (edges : List Edge) (node : NodeId) (before after : ℕ) (result : Result (List Element) RecordFault) : Type 0 where
  pub set : IfOk result (λ set. set ≡ set_of z.params (events_of z) node)
  pub takes : IfOk result (λ set. (steps : List ℕ) → IsPlan (arcs_of edges) (Root ∷ []) node steps → Takes (weight_of (arcs_of edges) steps) before after)
  pub most : (steps : List ℕ) → IsPlan (arcs_of edges) (Root ∷ []) node steps → TakesAtMost (weight_of (arcs_of edges) steps) before after
  pub never : IfErr result IsNoDamage

-- ---- the sets of several nodes

-- There is a set for each node, and the names that it has are there.
pub record AreNodeSets (name_count : ℕ) (nodes : List NodeId) (sets : List (List Element)) : Type 0 where
  pub count : length sets ≡ length nodes
  pub named : All (NamesAreThere name_count) sets

-- In this image the sets are those to which the records of a tree of these nodes lead from the empty set.
pub record AreLedByTree (name_count : ℕ) (image : List ℕ) (o : Opening) (nodes : List NodeId) (sets : List (List Element)) : Type 0 where
  pub grafts : List (Graft NodeId)
  pub tree : IsTree (arcs_of (record_edges o)) (Root ∷ []) nodes grafts
  pub times : List ℕ  -- not looked at, since no node has events of its own
  pub leads : List GraphLead
  pub led : AreTreeLeads name_count [] (record_edges o) o all_columns nodes grafts times leads image
  pub sets_are : sets ≡ map (λ (l : GraphLead). applied l.delta []) leads

-- With the image and the index of a history: the sets are those of the nodes, at most as many bytes are read as the
-- single plans weigh together, and no damage is met.
pub record GivesSetsOver (z : History) (edges : List Edge) (nodes : List NodeId) (before after : ℕ) (result : Result (Vec (List Element)) RecordFault) : Type 0 where
  pub sets : IfOk result (λ sets. sets.items ≡ sets_of z nodes)
  pub most : (singles : List ℕ) → AreSingles (arcs_of edges) (Root ∷ []) nodes singles → TakesAtMost (sum singles) before after
  pub never : IfErr result IsNoDamage
