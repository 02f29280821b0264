-- The exact steps of the older children, as they are read, and the due delta that is named where one is too large.
use Rattle.std.specs.Prelude.{◌≡◌, ◌⊎◌, ℕ, List, [], ◌∷◌, ◌++◌, Some, Result, IfErr, IfOk, if◌then◌else◌, length, map, slice_get}
use Rattle.std.specs.Global.{Vec}
use Rattle.std.specs.List.{sum}
use Rattle.dg_append.specs.OlderGroups.{AreUndamaged, IsDamageOfGroups, in_groups, leaves_after, leaves_before, older_children}
use Rattle.dg_build.specs.GivenDeltas.{AreGiven, IsFirstWide, taken_back}
use Rattle.dg_build.specs.InteriorDeltas.{steps_to}
use Rattle.dg_build.specs.OlderSteps.{last_leaf, older_in_time}
use Rattle.dg_fold.specs.BytesRead.{TakesAtMost}
use Rattle.dg_graph.specs.Composition.{Delta, nothing}
use Rattle.dg_graph.specs.declared.element.Column.{Column}
use Rattle.dg_graph.specs.declared.element.Column.TheVariants.{Structure}
use Rattle.dg_graph.specs.declared.element.Element.{Element}
use Rattle.dg_graph.specs.declared.event.Event.{Event}
use Rattle.dg_history.specs.declared.node.Key.{Key}
use Rattle.dg_history.specs.declared.node.NodeId.{NodeId}
use Rattle.dg_history.specs.declared.node.NodeId.TheVariants.{Root}
use Rattle.dg_history.specs.History.{History, events_of}
use Rattle.dg_index.specs.Hierarchy.{set_of}
use Rattle.dg_index.specs.IndexRecords.{deltas_due}
use Rattle.dg_index.specs.OpenedIndex.{Opening, event_total}
use Rattle.dg_plan.specs.declared.edge.Edge.{Edge}
use Rattle.dg_plan.specs.IndexGraph.{arcs_of}
use Rattle.dg_plan.specs.InstantPoint.{same_node}
use Rattle.dg_plan.specs.Walks.{AreSingles}
use Rattle.dg_retrieval.specs.Calls.{AreLedByTree}
use Rattle.dg_records.specs.declared.fault.RecordFault.{RecordFault}
use Rattle.dg_retrieval.specs.Retrieval.{IsNoDamage}
use Rattle.dg_steps.specs.NodeSteps.{AreLedSteps}

-- ---- over an image of a history

-- Over an image of the history: from each of the nodes in time there is the exact step to the next, and from the last to
-- the last leaf; at most as many bytes are read as the single plans of the nodes weigh together; no damage is met.
pub record GivesOlderSteps (z : History) (edges : List Edge) (nodes in_time : List NodeId) (before after : ℕ) (result : Result (Vec Delta) RecordFault) : Type 0 where
  pub steps : IfOk result (λ steps. steps.items ≡ steps_to (map (set_of z.params (events_of z)) in_time) (last_leaf z.params (events_of z)))
  pub most : (singles : List ℕ) → AreSingles (arcs_of edges) (Root ∷ []) nodes singles → TakesAtMost (sum singles) before after
  pub never : IfErr result IsNoDamage

-- ---- over any image

-- the set of a node that is among these, whose sets these are; or the other set
abbrev pub set_among : List NodeId → List (List Element) → List Element → NodeId → List Element
set_among [] sets other node = other
set_among (n ∷ nodes) [] other node = other
set_among (n ∷ nodes) (s ∷ sets) other node = if same_node n node then s else set_among nodes sets other node

-- in this image the trees of the groups lead to these sets, group after group
abbrev pub AreLedByGroups : ℕ → List ℕ → Opening → List (List NodeId) → List (List Element) → Type 0
AreLedByGroups names image o [] all = all ≡ []
AreLedByGroups names image o (g ∷ more) all =
    (sets : List (List Element)) × (rest : List (List Element)) × (all ≡ sets ++ rest) × AreLedByTree names image o g sets × AreLedByGroups names image o more rest

-- in this image the steps are those of one tree, and one from the last of the nodes in time to itself
abbrev pub AreLedByOneTree : ℕ → List ℕ → Opening → List NodeId → List NodeId → List Delta → Type 0
AreLedByOneTree names image o nodes in_time steps = (front : List Delta) × AreLedSteps names image o nodes in_time front × (steps ≡ front ++ nothing ∷ [])

-- In this image the steps are those between the sets to which the trees of all groups lead, and from the last to this leaf.
pub record AreLedBySets (names : ℕ) (image : List ℕ) (o : Opening) (nodes in_time : List NodeId) (leaf : List Element) (steps : List Delta) : Type 0 where
  pub sets : List (List Element)
  pub led : AreLedByGroups names image o (in_groups nodes) sets
  pub are : steps ≡ steps_to (map (set_among nodes sets leaf) in_time) leaf

-- In this image the steps are the one or the other: the last leaf is what the recent events lead back to from the current
-- graph.
abbrev pub AreLedOlder : ℕ → List ℕ → Opening → List NodeId → List NodeId → List Event → List Element → List Delta → Type 0
AreLedOlder names image o nodes in_time recent graph steps =
    AreLedByOneTree names image o nodes in_time steps ⊎ AreLedBySets names image o nodes in_time (taken_back graph recent) steps

-- ---- a delta that is too large

-- Of the deltas that a batch of these events gives, behind these recent ones, from the current graph and from these steps
-- of its older children, in the order of its segment, the first that has more elements than its column can count has this
-- key.
pub record IsFirstWideDelta (o : Opening) (recent events : List Event) (graph : List Element) (steps : List Delta) (key : Key) : Type 0 where
  pub place : ℕ
  pub first : IsFirstWide (AreGiven o.params (event_total o.batches) graph recent events steps) 0 place
  pub there : slice_get (deltas_due o.params.k (leaves_before o) (leaves_after o (length events))) place ≡ Some key

-- The same from the steps to which the records of the older children lead in this image.
pub record IsLedWide (names : ℕ) (image : List ℕ) (o : Opening) (recent events : List Event) (graph : List Element) (key : Key) : Type 0 where
  pub steps : List Delta
  pub led : AreLedOlder names image o (older_children o (length events)) (older_in_time o.params.k (leaves_before o) (leaves_after o (length events))) recent graph steps
  pub first : IsFirstWideDelta o recent events graph steps key

-- Why a batch of these events names this column as damaged: it is the first that the trees of the older children enter; or
-- all these are whole, and it is the structure of the first due delta that is too large.
abbrev pub IsNamedDamage : ℕ → List ℕ → Opening → List Event → List Event → List Element → Key → Column → Type 0
IsNamedDamage names image o recent events graph key col =
    IsDamageOfGroups names o image (in_groups (older_children o (length events))) key col
    ⊎ (AreUndamaged names o image (in_groups (older_children o (length events))) × (col ≡ Structure) × IsLedWide names image o recent events graph key)
