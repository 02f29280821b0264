-- Plans: the steps of a walk with the parts that they take, and what they compose to.
use Rattle.std.specs.Prelude.{◌≡◌, ◌<◌, ◌^◌, ℕ, Bool, true, false, List, [], ◌∷◌, ◌++◌, map, drop, Option, Some, None, slice_get, nat_le, Result, Ok, if◌then◌else◌}
use Rattle.std.specs.List.{All}
use Rattle.dg_graph.specs.declared.element.Column.{Column}
use Rattle.dg_graph.specs.declared.element.Columns.{Columns}
use Rattle.dg_graph.specs.declared.element.Element.{Element}
use Rattle.dg_graph.specs.declared.event.Event.{Event}
use Rattle.dg_history.specs.declared.node.Key.{Key}
use Rattle.dg_history.specs.declared.node.NodeId.{NodeId}
use Rattle.dg_graph.specs.Composition.{Delta, Composes, applied}
use Rattle.dg_graph.specs.Elements.{IsSet, shown}
use Rattle.dg_graph.specs.Replay.{replay, replay_at}
use Rattle.dg_plan.specs.declared.edge.Edge.{Edge}
use Rattle.dg_fold.specs.declared.part.Part.{Part}
use Rattle.dg_plan.specs.declared.edge.Via.{Via}
use Rattle.dg_plan.specs.declared.edge.Via.TheVariants as via
use Rattle.dg_plan.specs.declared.edge.Way.{Way}
use Rattle.dg_plan.specs.declared.edge.Way.TheVariants.{Forward}
use Rattle.dg_index.specs.IndexRecords.{Record, Events}
use Rattle.dg_fold.specs.PathIndependence.{taken, Contents, IsSoundEdge, IsWalk, begun_at}
use Rattle.dg_fold.specs.Parts.{beside, deltas_in_part, PartHasRecord, RecordFits}

-- a step: an edge, and the part of the record that it names, where it names one
abbrev pub PartedStep : Type 0
PartedStep = Edge × Option Part

abbrev pub names_record : Via → Bool
names_record via.Now = false
names_record (via.Base handle) = false
names_record (via.Paid key way) = true
names_record (via.Held key way) = true
names_record (via.Recent way) = false

-- the edges with their parts, which are those of the edges that name a record, in their order
abbrev pub paired : List Edge → List Part → List PartedStep
paired [] parts = []
paired (e ∷ edges) parts =
    if names_record e.via then (e, slice_get parts 0) ∷ paired edges (drop 1 parts) else (e, None) ∷ paired edges parts

abbrev pub part_deltas : ℕ → Option Part → Result (List Delta) (Key × Column)
part_deltas names None = Ok []
part_deltas names (Some p) = deltas_in_part names p

-- the deltas of a step, with these recent events; or the first damage
abbrev pub step_by : ℕ → List Event → Via → Option Part → Result (List Delta) (Key × Column)
step_by names recent via.Now part = Ok []
step_by names recent (via.Base handle) part = Ok []
step_by names recent (via.Paid key way) part = part_deltas names part
step_by names recent (via.Held key way) part = part_deltas names part
step_by names recent (via.Recent way) part = Ok (taken way None (Events recent))

-- the deltas of the steps, one after another
abbrev pub steps_in : ℕ → List Event → List PartedStep → Result (List Delta) (Key × Column)
steps_in names recent [] = Ok []
steps_in names recent (s ∷ steps) = beside (step_by names recent s.0.via s.1) (steps_in names recent steps)

-- the part holds the record that the edge names, in the edge's way
abbrev pub PartHolds : ℕ → Columns → Record → Way → Option Part → Type 0
PartHolds names cols r way part = (p : Part) × (part ≡ Some p) × (p.way ≡ way) × (p.until ≡ None) × PartHasRecord cols r p × RecordFits names r

abbrev pub StepHolds : ℕ → Columns → Contents → Via → Option Part → Type 0
StepHolds names cols x via.Now part = Unit {0}
StepHolds names cols x (via.Base handle) part = Unit {0}
StepHolds names cols x (via.Paid key way) part = PartHolds names cols (x.record_of key) way part
StepHolds names cols x (via.Held key way) part = PartHolds names cols (x.record_of key) way part
StepHolds names cols x (via.Recent way) part = Unit {0}

-- A walk over an index, with its parts: each edge is sound, and each part holds its record's columns.
pub record IsPartedWalk (names : ℕ) (cols : Columns) (x : Contents) (u : NodeId) (steps : List PartedStep) (v : NodeId) : Type 0 where
  pub names_fit : names < 2 ^ 32
  pub sets : (n : NodeId) → IsSet (x.set n)
  pub sound : All (IsSoundEdge x) (map (λ s. s.0) steps)
  pub walk : IsWalk u (map (λ s. s.0) steps) v
  pub parts : All (λ s. StepHolds names cols x s.0.via s.1) steps

-- what is shown of the set is what is shown of the set with which the walk begins
abbrev pub BeginsWith : Columns → Contents → NodeId → List PartedStep → List Element → Type 0
BeginsWith cols x u steps set = IsSet set × (shown set cols ≡ shown (x.set (begun_at u (map (λ s. s.0) steps))) cols)

-- The composition goes on with the events up to the instant: by a part of their list that ends with it, or with
-- the recent events themselves.
pub data FoldGoesOn (names : ℕ) (cols : Columns) (t : ℕ) (next : List Event) : Result (List Delta) (Key × Column) → Type 0 where
  By_part : (p : Part) → p.way ≡ Forward → p.until ≡ Some t → PartHasRecord cols (Events next) p → RecordFits names (Events next) → FoldGoesOn names cols t next (deltas_in_part names p)
  By_events : FoldGoesOn names cols t next (Ok (taken Forward (Some t) (Events next)))

-- Path independence: whatever the walk, what its parts compose to leads to what is shown of its end.
abbrev pub PlansLead : Type 0
PlansLead = (names : ℕ) (cols : Columns) (x : Contents) (u : NodeId) (steps : List PartedStep) (v : NodeId) → IsPartedWalk names cols x u steps v
    → (list : List Delta) × (steps_in names x.recent steps ≡ Ok list)
    × ((d : Delta) → Composes d list → (set : List Element) → BeginsWith cols x u steps set → shown (applied d set) cols ≡ shown (x.set v) cols)

-- The same for an instant within the events that follow the set where the walk ends: they are a list, whose part
-- ends with the instant, or the recent events.
abbrev pub PlansReach : Type 0
PlansReach = (names : ℕ) (cols : Columns) (x : Contents) (u : NodeId) (steps : List PartedStep) (v : NodeId) → IsPartedWalk names cols x u steps v
    → (first next last : List Event) (t : ℕ) → x.set v ≡ replay first
    → All (λ e. nat_le e.time t ≡ true) first → All (λ e. t < e.time) last
    → (more : Result (List Delta) (Key × Column)) → FoldGoesOn names cols t next more
    → (list : List Delta) × (beside (steps_in names x.recent steps) more ≡ Ok list)
    × ((d : Delta) → Composes d list → (set : List Element) → BeginsWith cols x u steps set
    → shown (applied d set) cols ≡ shown (replay_at (first ++ (next ++ last)) t) cols)
