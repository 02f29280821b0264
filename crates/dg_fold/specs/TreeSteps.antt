-- The steps of a tree with their deltas, and the paths by them.
use Rattle.std.specs.Prelude.{◌≡◌, ◌⊎◌, ℕ, List, [], ◌∷◌, ◌++◌, map, Ok, Err}
use Rattle.dg_graph.specs.declared.event.Event.{Event}
use Rattle.dg_graph.specs.Composition.{Delta}
use Rattle.dg_history.specs.declared.node.NodeId.{NodeId}
use Rattle.dg_history.specs.declared.node.NodeId.TheVariants.{Root}
use Rattle.dg_plan.specs.declared.edge.Edge.{Edge}
use Rattle.dg_fold.specs.declared.fault.FoldFault.{FoldFault}
use Rattle.dg_fold.specs.declared.fault.FoldFault.TheVariants as fault
use Rattle.dg_fold.specs.declared.tree_step.Stepped.{Stepped}
use Rattle.dg_fold.specs.Parts.{Folds}
use Rattle.dg_fold.specs.Steps.{PartedStep, step_by, steps_in}

-- the step is one of these
abbrev pub IsAmongSteps : Stepped → List Stepped → Type 0
IsAmongSteps s [] = ⊥
IsAmongSteps s (t ∷ steps) = (s ≡ t) ⊎ IsAmongSteps s steps

-- all of the first steps are among the others
abbrev pub AreIn : List Stepped → List Stepped → Type 0
AreIn steps all = (s : Stepped) → IsAmongSteps s steps → IsAmongSteps s all

-- each step leaves the node that the one before it entered
abbrev pub Walks : NodeId → List Stepped → NodeId → Type 0
Walks u [] v = u ≡ v
Walks u (s ∷ steps) v = (s.edge.from ≡ u) × Walks s.edge.to steps v

-- A path from Root to the node by some of the steps.
pub data Path (all : List Stepped) : NodeId → List Stepped → Type 0 where
  Begins : Path all Root []
  Goes_on : (s : Stepped) → (walk : List Stepped) → IsAmongSteps s all → Path all s.edge.from walk → Path all s.edge.to (walk ++ s ∷ [])

abbrev pub step_edges : List Stepped → List Edge
step_edges steps = map (λ s. s.edge) steps

abbrev pub step_deltas : List Stepped → List Delta
step_deltas steps = map (λ s. s.delta) steps

-- each step with its delta
abbrev pub AreStepped : ℕ → List Event → List PartedStep → List Stepped → Type 0
AreStepped names recent [] [] = Unit {0}
AreStepped names recent [] (s ∷ steps) = ⊥
AreStepped names recent (t ∷ all) [] = ⊥
AreStepped names recent (t ∷ all) (s ∷ steps) = (s.edge ≡ t.0) × Folds (Ok s.delta) (step_by names recent t.0.via t.1) × AreStepped names recent all steps

-- the fault names the first damage of the steps, or says that memory ran out
abbrev pub FailsAt : FoldFault → ℕ → List Event → List PartedStep → Type 0
FailsAt (fault.Damaged k col) names recent all = steps_in names recent all ≡ Err (k, col)
FailsAt fault.Memory names recent all = Unit {0}
