-- The laws of walks and of plans. They hold of any nodes (the proofs say so); here of those of an index.
use Rattle.std.specs.Prelude.{◌≡◌, ℕ, ◌≤◌, List}
use Rattle.dg_history.specs.declared.node.NodeId.{NodeId}
use Rattle.dg_plan.specs.Walks.{Arc, Leads, IsPlan, IsLeast, IsCertificate, cost_of, weight_of}

-- a plan is least among all walks from the nodes where it may begin
abbrev pub PlansAreLeast : Type 0
PlansAreLeast = (g : List (Arc NodeId)) (starts : List NodeId) (node : NodeId) (steps : List ℕ) → IsPlan g starts node steps → IsLeast g starts node (cost_of g steps)

-- a node has one plan at most
abbrev pub PlansAreOne : Type 0
PlansAreOne = (g : List (Arc NodeId)) (starts : List NodeId) (node : NodeId) (steps others : List ℕ) → IsPlan g starts node steps → IsPlan g starts node others → steps ≡ others

-- a certificate shows that no walk from the root to the target weighs less
abbrev pub CertificatesHold : Type 0
CertificatesHold =
    (g : List (Arc NodeId)) (root target : NodeId) (potential : NodeId → ℕ) (steps : List ℕ) (weight : ℕ) → IsCertificate g root target potential steps weight
    → (others : List ℕ) → Leads g root others target → weight ≤ weight_of g others
