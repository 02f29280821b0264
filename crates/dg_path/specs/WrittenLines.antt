-- What lines write, in their order, without a look at whether they are well written.
use Rattle.std.specs.Prelude.{ℕ, ◌+◌, List, [], ◌∷◌, Option, Some, None}
use Rattle.dg_history.specs.declared.node.NodeId.{NodeId}
use Rattle.dg_plan.specs.declared.certificate.PlanLine.{PlanLine}
use Rattle.dg_plan.specs.declared.certificate.PlanLine.TheVariants.{Step, Potential}

-- the numbers of the edges of the steps
abbrev pub written_steps : List (Option PlanLine) → List ℕ
written_steps [] = []
written_steps (Some (Step edge head weight) ∷ lines) = edge ∷ written_steps lines
written_steps (Some (Potential node value) ∷ lines) = written_steps lines
written_steps (None ∷ lines) = written_steps lines

-- the sum of the weights of the steps
abbrev pub written_weight : List (Option PlanLine) → ℕ
written_weight [] = 0
written_weight (Some (Step edge head weight) ∷ lines) = weight + written_weight lines
written_weight (Some (Potential node value) ∷ lines) = written_weight lines
written_weight (None ∷ lines) = written_weight lines

-- the potentials, each with its node
abbrev pub written_potentials : List (Option PlanLine) → List (NodeId × ℕ)
written_potentials [] = []
written_potentials (Some (Step edge head weight) ∷ lines) = written_potentials lines
written_potentials (Some (Potential node value) ∷ lines) = (node, value) ∷ written_potentials lines
written_potentials (None ∷ lines) = written_potentials lines
