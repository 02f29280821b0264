-- What is said of the certificate that lines write: its steps, and after them its potentials.
use Rattle.std.specs.Prelude.{ℕ, ◌+◌, Bool, false, ◌&&◌, ◌||◌, ◌==◌, List, [], ◌∷◌, ◌++◌, Option, Some, None, Result, Ok, Err, if◌then◌else◌, drop, find, nat_lt, nat_le, position, slice_get}
use Rattle.dg_graph.specs.declared.limits.TheConstants.{TIME_MAX}
use Rattle.dg_history.specs.declared.node.NodeId.{NodeId}
use Rattle.dg_history.specs.declared.node.NodeId.TheVariants.{Root}
use Rattle.dg_plan.specs.declared.certificate.PlanLine.{PlanLine}
use Rattle.dg_plan.specs.declared.certificate.PlanLine.TheVariants as plan_line
use Rattle.dg_plan.specs.declared.certificate.Verdict.{Verdict}
use Rattle.dg_plan.specs.declared.certificate.Verdict.TheVariants as verdict
use Rattle.dg_plan.specs.declared.edge.Edge.{Edge}
use Rattle.dg_plan.specs.InstantPoint.{same_node}

-- a step as it is written: the number of an edge, the node that it enters, and its weight
pub record WrittenStep : Type 0 where
  pub edge : ℕ
  pub head : NodeId
  pub weight : ℕ

-- What the lines so far claim: steps, the sum of their weights, and potentials; and the first index, in the
-- order of nodes, at which the node of the next potential may stand.
pub record Claim : Type 0 where
  pub steps : List WrittenStep
  pub weight : ℕ
  pub potentials : List (NodeId × ℕ)
  pub next : ℕ

abbrev pub no_claim : Claim
no_claim = record { steps = []; weight = 0; potentials = []; next = 0 }

-- the claim with the potential of a node that stands so many nodes past the next index, unless there is none
abbrev pub with_potential : Claim → NodeId → ℕ → Option ℕ → Option Claim
with_potential c node value None = None
with_potential c node value (Some past) =
    if nat_le c.weight value then None else Some (record c { potentials = c.potentials ++ (node, value) ∷ []; next = c.next + past + 1 })

-- The claim with one more line, unless the line is bad: in no form; a step behind a potential, or one with
-- which the weights pass the greatest instant; the potential of a node that is not in the graph, or not behind
-- that of the line before it, or a potential that is not below the weight of the steps.
abbrev pub claim_with : List NodeId → Claim → Option PlanLine → Option Claim
claim_with nodes c None = None
claim_with nodes c (Some (plan_line.Step edge head weight)) =
    if nat_lt 0 c.next || nat_lt TIME_MAX (c.weight + weight) then None
    else Some (record c { steps = c.steps ++ record { edge = edge; head = head; weight = weight } ∷ []; weight = c.weight + weight })
claim_with nodes c (Some (plan_line.Potential node value)) = with_potential c node value (position (same_node node) (drop c.next nodes))

abbrev pub claim_or : ℕ → (Claim → Result Claim ℕ) → Option Claim → Result Claim ℕ
claim_or n rest None = Err n
claim_or n rest (Some c) = rest c

-- what the lines from number n on make of the claim, or the number of the first bad one
abbrev pub claimed : List NodeId → ℕ → Claim → List (Option PlanLine) → Result Claim ℕ
claimed nodes n c [] = Ok c
claimed nodes n c (line ∷ lines) = claim_or n (λ next. claimed nodes (n + 1) next lines) (claim_with nodes c line)

-- the edge leaves the node reached, and has the head and the weight that are written
abbrev pub is_as_written : Option Edge → NodeId → WrittenStep → Bool
is_as_written None reached s = false
is_as_written (Some e) reached s = same_node e.from reached && (same_node e.to s.head && e.weight == s.weight)

-- The first step, from number n on, that is no such edge; or one past the last, where they end elsewhere
-- than at the target.
abbrev pub bad_step : List Edge → NodeId → ℕ → NodeId → List WrittenStep → Option ℕ
bad_step edges target n reached [] = if same_node reached target then None else Some n
bad_step edges target n reached (s ∷ steps) =
    if is_as_written (slice_get edges s.edge) reached s then bad_step edges target (n + 1) s.head steps else Some n

-- the potential of a node: what is written of it, or else this weight
abbrev pub potential_in : ℕ → List (NodeId × ℕ) → NodeId → ℕ
potential_in weight [] node = weight
potential_in weight (p ∷ potentials) node = if same_node p.0 node then p.1 else potential_in weight potentials node

-- the head's potential is above the tail's by more than the edge weighs
abbrev pub rises_above : (NodeId → ℕ) → Edge → Bool
rises_above potential e = nat_lt (potential e.from + e.weight) (potential e.to)

abbrev pub head_if : Option Edge → Option NodeId
head_if None = None
head_if (Some e) = Some e.to

-- the root, where its potential is not 0, or the head of the first edge that rises more than its weight
abbrev pub bad_potential : List Edge → (NodeId → ℕ) → Option NodeId
bad_potential edges potential = if potential Root == 0 then head_if (find (rises_above potential) edges) else Some Root

abbrev pub verdict_on : ℕ → ℕ → Option ℕ → Option NodeId → Verdict
verdict_on weight at_target (Some step) potential = verdict.Step step
verdict_on weight at_target None (Some node) = verdict.Potential node
verdict_on weight at_target None None = if at_target == weight then verdict.Valid else verdict.NotTight

-- what is said of what the lines claim, or of the first bad line
abbrev pub verdict_of : List Edge → NodeId → Result Claim ℕ → Verdict
verdict_of edges target (Err line) = verdict.Line line
verdict_of edges target (Ok c) =
    verdict_on c.weight (potential_in c.weight c.potentials target) (bad_step edges target 1 Root c.steps) (bad_potential edges (potential_in c.weight c.potentials))

-- what is said of the lines that follow, over these edges and nodes
abbrev pub judged : List Edge → List NodeId → NodeId → List (Option PlanLine) → Verdict
judged edges nodes target lines = verdict_of edges target (claimed nodes 1 no_claim lines)
