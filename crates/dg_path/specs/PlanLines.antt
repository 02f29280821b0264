-- The lines that write a plan.
use Rattle.std.specs.Prelude.{◌≡◌, ◌≢◌, ◌≤◌, ℕ, List, [], ◌∷◌, ◌++◌, AllPairs, Option, Some, None, if◌then◌else◌, nat_lt, slice_get, zip}
use Rattle.std.specs.List.{flat_map}
use Rattle.dg_graph.specs.declared.limits.TheConstants.{TIME_MAX}
use Rattle.dg_history.specs.declared.node.NodeId.{NodeId}
use Rattle.dg_history.specs.declared.node.NodeId.TheVariants.{Root}
use Rattle.dg_plan.specs.declared.certificate.PlanLine.{PlanLine}
use Rattle.dg_plan.specs.declared.certificate.PlanLine.TheVariants.{Step, Potential}
use Rattle.dg_plan.specs.declared.certificate.Verdict.TheVariants.{Valid}
use Rattle.dg_plan.specs.declared.edge.Edge.{Edge}
use Rattle.dg_plan.specs.CertificateLines.{judged, potential_in}
use Rattle.dg_plan.specs.IndexGraph.{arcs_of}
use Rattle.dg_plan.specs.Walks.{IsCertificate}

-- the line of a step, where there is an edge of its number
abbrev pub step_line : ℕ → Option Edge → List (Option PlanLine)
step_line i None = []
step_line i (Some e) = Some (Step i e.to e.weight) ∷ []

-- the line of a node's potential, where it is below the weight
abbrev pub potential_line : ℕ → NodeId × ℕ → List (Option PlanLine)
potential_line weight (node, p) = if nat_lt p weight then Some (Potential node p) ∷ [] else []

-- The lines of a plan that weighs so much: its steps, and behind them the potentials below the weight, in the order of
-- nodes.
abbrev pub plan_lines : List Edge → List NodeId → ℕ → List ℕ → List ℕ → List (Option PlanLine)
plan_lines edges nodes weight steps potentials =
    flat_map (λ i. step_line i (slice_get edges i)) steps ++ flat_map (potential_line weight) (zip nodes potentials)

-- Over nodes of which no two are the same, steps that the potentials of the nodes certify are valid, written as the lines
-- of a plan, unless they weigh more than a line can say.
abbrev pub PlansAreCertified : Type 0
PlansAreCertified =
    (edges : List Edge) (nodes : List NodeId) (target : NodeId) (steps potentials : List ℕ) (weight : ℕ)
    → AllPairs (λ a b. a ≢ b) nodes → weight ≤ TIME_MAX
    → IsCertificate (arcs_of edges) Root target (potential_in weight (zip nodes potentials)) steps weight
    → judged edges nodes target (plan_lines edges nodes weight steps potentials) ≡ Valid
