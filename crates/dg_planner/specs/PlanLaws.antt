-- The laws of the graph of an index: no two of its nodes are the same, each is reached, and its plans are certificates.
use Rattle.std.specs.Prelude.{◌≢◌, ◌≤◌, ℕ, List, [], ◌∷◌, AllPairs, zip}
use Rattle.std.specs.List.{All, AllZip}
use Rattle.dg_history.specs.declared.node.NodeId.{NodeId}
use Rattle.dg_history.specs.declared.node.NodeId.TheVariants.{Root}
use Rattle.dg_plan.specs.CertificateLines.{potential_in}
use Rattle.dg_plan.specs.IndexGraph.{Ground, arcs_of, edges_of, nodes_of}
use Rattle.dg_plan.specs.Walks.{IsCertificate, IsPlan, IsPotential, Leads, weight_of}
use Rattle.dg_planner.specs.Bases.{HasBases}

-- no two nodes of the graph are the same
abbrev pub NodesAreDistinct : Type 0
NodesAreDistinct = (g : Ground) → AllPairs (λ a b. a ≢ b) (nodes_of g)

-- there is a walk from the root to each node of the graph
abbrev pub NodesAreReached : Type 0
NodesAreReached = (g : Ground) → 2 ≤ g.arity → HasBases g → All (λ node. (steps : List ℕ) × Leads (arcs_of (edges_of g)) Root steps node) (nodes_of g)

-- the plan of a node, with the potential of each node of the graph, is a certificate
abbrev pub PlansAreCertificates : Type 0
PlansAreCertificates =
    (g : Ground) → 2 ≤ g.arity → HasBases g → (target : NodeId) (steps potentials : List ℕ) → IsPlan (arcs_of (edges_of g)) (Root ∷ []) target steps
    → AllZip (IsPotential (arcs_of (edges_of g)) (Root ∷ []) (weight_of (arcs_of (edges_of g)) steps)) (nodes_of g) potentials
    → IsCertificate (arcs_of (edges_of g)) Root target (potential_in (weight_of (arcs_of (edges_of g)) steps) (zip (nodes_of g) potentials)) steps (weight_of (arcs_of (edges_of g)) steps)
