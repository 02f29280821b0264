-- The exact steps between nodes of a tree: back along the path to one of them, and on along the path to the other.
use Rattle.std.specs.Prelude.{◌≡◌, ℕ, List, [], ◌∷◌, ◌++◌, Option, Some, None, Ok}
use Rattle.dg_fold.specs.declared.part.Part.{Part}
use Rattle.dg_fold.specs.Parts.{Folds, taken_as}
use Rattle.dg_fold.specs.Steps.{PartedStep, steps_in}
use Rattle.dg_fold.specs.Trees.{PathIn}
use Rattle.dg_graph.specs.Composition.{Delta, IsDelta}
use Rattle.dg_graph.specs.Sets.{met}
use Rattle.dg_history.specs.declared.node.NodeId.{NodeId}
use Rattle.dg_plan.specs.declared.edge.Edge.{Edge}
use Rattle.dg_plan.specs.declared.edge.Via.{Via}
use Rattle.dg_plan.specs.declared.edge.Via.TheVariants as via
use Rattle.dg_plan.specs.declared.edge.Way.{Way}
use Rattle.dg_plan.specs.declared.edge.Way.TheVariants.{Same, Forward, Back}

-- ---- a step the other way

abbrev pub turned_way : Way → Way
turned_way Same = Same
turned_way Forward = Back
turned_way Back = Forward

abbrev pub turned_via : Via → Via
turned_via via.Now = via.Now
turned_via (via.Base handle) = via.Base handle
turned_via (via.Paid key way) = via.Paid key (turned_way way)
turned_via (via.Held key way) = via.Held key (turned_way way)
turned_via (via.Recent way) = via.Recent (turned_way way)

abbrev pub turned_edge : Edge → Edge
turned_edge e = record { from = e.to; to = e.from; weight = e.weight; via = turned_via e.via }

abbrev pub turned_part : Option Part → Option Part
turned_part None = None
turned_part (Some p) = Some (taken_as p (turned_way p.way) p.until)

-- the step with its part, from the node that it enters to the one that it leaves
abbrev pub turned : PartedStep → PartedStep
turned s = (turned_edge s.0, turned_part s.1)

-- the way back along steps: each of them turned, the last one first
abbrev pub way_back : List PartedStep → List PartedStep
way_back [] = []
way_back (s ∷ walk) = way_back walk ++ turned s ∷ []

-- ---- between two nodes

-- Two paths of a tree, to these nodes, go together at first, and then each by steps of its own.
pub record GoApart (all : List PartedStep) (u v : NodeId) (to_u to_v : List PartedStep) : Type 0 where
  pub shared : List PartedStep
  pub path_u : PathIn all u (shared ++ to_u)
  pub path_v : PathIn all v (shared ++ to_v)

-- back along the steps of the one, and on along those of the other
abbrev pub walk_over : List PartedStep → List PartedStep → List PartedStep
walk_over to_u to_v = way_back to_u ++ to_v

-- What a delta that leads on and one that leads back again come to exactly: each puts in what the other takes out. Where
-- both lead between two sets, whatever else they name, it is the exact delta from the one to the other.
abbrev pub exact_of : Delta → Delta → Delta
exact_of on back = record { minus = met on.minus back.plus; plus = met on.plus back.minus }

-- The delta is the exact step between the nodes of a tree: of what the records compose to along the walk from the one to
-- the other, and along the walk back.
pub record IsStepBetween (names : ℕ) (all : List PartedStep) (u v : NodeId) (d : Delta) : Type 0 where
  pub to_u : List PartedStep
  pub to_v : List PartedStep
  pub apart : GoApart all u v to_u to_v
  pub on : Delta
  pub back : Delta
  pub on_is : IsDelta on
  pub back_is : IsDelta back
  pub leads_on : Folds (Ok on) (steps_in names [] (walk_over to_u to_v))
  pub leads_back : Folds (Ok back) (steps_in names [] (walk_over to_v to_u))
  pub exact : d ≡ exact_of on back

-- a step from each of the nodes to the next one
abbrev pub AreStepsBetween : ℕ → List PartedStep → List NodeId → List Delta → Type 0
AreStepsBetween names all [] [] = Unit {0}
AreStepsBetween names all [] (d ∷ steps) = ⊥
AreStepsBetween names all (u ∷ []) [] = Unit {0}
AreStepsBetween names all (u ∷ []) (d ∷ steps) = ⊥
AreStepsBetween names all (u ∷ v ∷ nodes) [] = ⊥
AreStepsBetween names all (u ∷ v ∷ nodes) (d ∷ steps) = IsStepBetween names all u v d × AreStepsBetween names all (v ∷ nodes) steps
