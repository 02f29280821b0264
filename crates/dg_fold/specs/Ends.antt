-- The last events along a path of a tree: those of its end that are up to an instant.
use Rattle.std.specs.Prelude.{◌≡◌, ◌<◌, ◌^◌, true, map, nat_le, ℕ, List, [], ◌∷◌, ◌++◌, Option, Some, None, Result, Ok, Err, find}
use Rattle.std.specs.List.{All}
use Rattle.dg_graph.specs.declared.element.Column.{Column}
use Rattle.dg_graph.specs.declared.element.Columns.{Columns}
use Rattle.dg_graph.specs.declared.element.Element.{Element}
use Rattle.dg_graph.specs.Elements.{IsSet, shown}
use Rattle.dg_graph.specs.Replay.{replay, replay_at}
use Rattle.dg_fold.specs.PathIndependence.{Contents, IsSoundEdge, begun_at, taken}
use Rattle.dg_graph.specs.declared.event.Event.{Event}
use Rattle.dg_history.specs.declared.node.Key.{Key}
use Rattle.dg_history.specs.declared.node.Key.TheVariants as key
use Rattle.dg_history.specs.declared.node.NodeId.{NodeId}
use Rattle.dg_history.specs.declared.node.NodeId.TheVariants as node
use Rattle.dg_graph.specs.Composition.{Delta, applied}
use Rattle.dg_history.specs.Keys.{same_key}
use Rattle.dg_fold.specs.declared.fault.FoldFault.{FoldFault}
use Rattle.dg_fold.specs.declared.fault.FoldFault.TheVariants as fault
use Rattle.dg_fold.specs.declared.part.Part.{Part}
use Rattle.dg_plan.specs.declared.edge.Way.TheVariants.{Forward}
use Rattle.dg_fold.specs.Parts.{beside, deltas_in_part, taken_as, Folds}
use Rattle.dg_fold.specs.Steps.{PartedStep, steps_in, StepHolds, FoldGoesOn}
use Rattle.dg_index.specs.IndexRecords.{Events}
use Rattle.dg_fold.specs.declared.tree.Branch.{Branch}
use Rattle.dg_fold.specs.Trees.{PathIn}

abbrev pub part_until : ℕ → ℕ → Option Part → Result (List Delta) (Key × Column)
part_until names t None = Ok []
part_until names t (Some p) = deltas_in_part names (taken_as p Forward (Some t))

abbrev pub list_part : ℕ → List Part → Option Part
list_part i parts = find (λ (p : Part). same_key p.key (key.List i)) parts

-- the deltas of the node's own events up to the instant
abbrev pub last_in : ℕ → List Event → List Part → NodeId → ℕ → Result (List Delta) (Key × Column)
last_in names recent parts node.Root t = Ok []
last_in names recent parts node.Now t = Ok []
last_in names recent parts node.Recent t = Ok (taken Forward (Some t) (Events recent))
last_in names recent parts (node.Leaf j) t = Ok []
last_in names recent parts (node.List i) t = part_until names t (list_part i parts)
last_in names recent parts (node.Inner h j) t = Ok []

abbrev pub lasts_in : ℕ → List Event → List Part → List Branch → List ℕ → Result (List Delta) (Key × Column)
lasts_in names recent parts [] times = Ok []
lasts_in names recent parts (b ∷ branches) [] = Ok []
lasts_in names recent parts (b ∷ branches) (t ∷ times) = beside (last_in names recent parts b.to t) (lasts_in names recent parts branches times)

-- What leads to a target: the node with whose set the tree's path to it begins, and the delta from there.
pub record Lead : Type 0 where
  pub begun : NodeId
  pub delta : Delta

-- Along the tree's path to the node, and on with its events up to the instant: the node with whose set the path
-- begins, and what leads from there.
abbrev pub LeadsUntil : ℕ → List Event → List Part → List PartedStep → NodeId → ℕ → NodeId → Delta → Type 0
LeadsUntil names recent parts all to t begun d =
    (walk : List PartedStep) × PathIn all to walk × (begun_at node.Root (map (λ s. s.0) walk) ≡ begun)
    × Folds (Ok d) (beside (steps_in names recent walk) (last_in names recent parts to t))

abbrev pub AreLedUntil : ℕ → List Event → List Part → List PartedStep → List Branch → List ℕ → List Lead → Type 0
AreLedUntil names recent parts all [] times [] = Unit {0}
AreLedUntil names recent parts all [] times (d ∷ leads) = ⊥
AreLedUntil names recent parts all (b ∷ branches) [] leads = ⊥
AreLedUntil names recent parts all (b ∷ branches) (t ∷ times) [] = ⊥
AreLedUntil names recent parts all (b ∷ branches) (t ∷ times) (d ∷ leads) =
    LeadsUntil names recent parts all b.to t d.begun d.delta × AreLedUntil names recent parts all branches times leads

abbrev pub FailsIn : FoldFault → Result (List Delta) (Key × Column) → Type 0
FailsIn (fault.Damaged k col) due = due ≡ Err (k, col)
FailsIn fault.Memory due = Unit {0}

-- The same along a tree's path, and on with the target's own events up to an instant.
abbrev pub TreesReach : Type 0
TreesReach = (names : ℕ) → names < 2 ^ 32 → (cols : Columns) (x : Contents) → ((n : NodeId) → IsSet (x.set n))
    → (all : List PartedStep) → All (IsSoundEdge x) (map (λ s. s.0) all) → All (λ s. StepHolds names cols x s.0.via s.1) all
    → (parts : List Part) (to : NodeId) (t : ℕ) (begun : NodeId) (d : Delta) → LeadsUntil names x.recent parts all to t begun d
    → (first next last : List Event) → x.set to ≡ replay first
    → All (λ e. nat_le e.time t ≡ true) first → All (λ e. t < e.time) last → FoldGoesOn names cols t next (last_in names x.recent parts to t)
    → (set : List Element) → IsSet set → shown set cols ≡ shown (x.set begun) cols → shown (applied d set) cols ≡ shown (replay_at (first ++ (next ++ last)) t) cols
