-- Paths within a tree of steps, and what they compose to.
use Rattle.std.specs.Prelude.{◌≡◌, ◌⊎◌, ◌<◌, ◌^◌, ℕ, List, [], ◌∷◌, ◌++◌, map, Ok}
use Rattle.std.specs.List.{All, flat_map}
use Rattle.dg_graph.specs.declared.element.Columns.{Columns}
use Rattle.dg_graph.specs.declared.element.Element.{Element}
use Rattle.dg_graph.specs.declared.event.Event.{Event}
use Rattle.dg_graph.specs.Composition.{Delta, applied}
use Rattle.dg_graph.specs.Elements.{IsSet, shown}
use Rattle.dg_history.specs.declared.node.NodeId.{NodeId}
use Rattle.dg_history.specs.declared.node.NodeId.TheVariants.{Root}
use Rattle.dg_plan.specs.declared.edge.Edge.{Edge}
use Rattle.dg_fold.specs.PathIndependence.{Contents, IsSoundEdge, IsWalk}
use Rattle.dg_fold.specs.declared.tree.Branch.{Branch}
use Rattle.dg_fold.specs.Parts.{Folds}
use Rattle.dg_fold.specs.Steps.{PartedStep, steps_in, StepHolds, BeginsWith}

-- ---- the branches of a tree

-- the edge is one of these
abbrev pub IsAmong : Edge → List Edge → Type 0
IsAmong e [] = ⊥
IsAmong e (f ∷ edges) = (e ≡ f) ⊎ IsAmong e edges

-- each branch begins at Root, or at a node that one of the edges or a branch before it enters
abbrev pub Grow : List Edge → List Branch → Type 0
Grow edges [] = Unit {0}
Grow edges (b ∷ branches) = ((b.from ≡ Root) ⊎ ((e : Edge) × IsAmong e edges × (b.from ≡ e.to))) × Grow (edges ++ b.edges.items) branches

-- a branch leads from its node, by its edges, to its target
abbrev pub LeadsToTarget : Branch → Type 0
LeadsToTarget b = IsWalk b.from b.edges.items b.to

abbrev pub all_edges : List Branch → List Edge
all_edges branches = flat_map (λ b. b.edges.items) branches

-- ---- its paths

-- the step is one of these
abbrev pub IsStepOf : PartedStep → List PartedStep → Type 0
IsStepOf s [] = ⊥
IsStepOf s (t ∷ all) = (s ≡ t) ⊎ IsStepOf s all

-- A path from Root to the node by some of a tree's steps: edges with the parts of the records that they name.
pub data PathIn (all : List PartedStep) : NodeId → List PartedStep → Type 0 where
  Begins_at_root : PathIn all Root []
  Steps_on : (s : PartedStep) → (walk : List PartedStep) → IsStepOf s all → PathIn all s.0.from walk → PathIn all s.0.to (walk ++ s ∷ [])

-- the delta is the composition of the parts along the tree's path to the node
abbrev pub LeadsTo : ℕ → List Event → List PartedStep → NodeId → Delta → Type 0
LeadsTo names recent all node d = (walk : List PartedStep) × PathIn all node walk × Folds (Ok d) (steps_in names recent walk)

-- Along a tree's path to a node, what the parts compose to leads to what is shown of the node.
abbrev pub TreesLead : Type 0
TreesLead = (names : ℕ) → names < 2 ^ 32 → (cols : Columns) (x : Contents) → ((n : NodeId) → IsSet (x.set n))
    → (all : List PartedStep) → All (IsSoundEdge x) (map (λ s. s.0) all) → All (λ s. StepHolds names cols x s.0.via s.1) all
    → (node : NodeId) (d : Delta) (led : LeadsTo names x.recent all node d)
    → (set : List Element) → BeginsWith cols x Root led.0 set → shown (applied d set) cols ≡ shown (x.set node) cols
