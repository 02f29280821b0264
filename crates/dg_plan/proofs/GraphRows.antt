-- The graph of a small history.
use Rattle.std.proofs.Common.{◌==◌, if◌then◌else◌, ◌≡◌, ℕ, [], ◌∷◌, refl, true}
use Rattle.dg_history.specs.declared.node.NodeId.TheVariants.{Root, Now, Recent, Leaf, List, Inner}
use Rattle.dg_history.specs.declared.node.Key.{Key}
use Rattle.dg_history.specs.declared.node.Key.TheVariants as key
use Rattle.dg_plan.specs.declared.edge.Via.TheVariants as via
use Rattle.dg_plan.specs.declared.edge.Way.TheVariants.{Same, Forward, Back}
use Rattle.dg_plan.specs.IndexGraph.{Ground, nodes_of, edges_of, edge}

-- the lengths of the structure column
abbrev pub weighs : Key → ℕ
weighs (key.List i) = if i == 0 then 42 else 40
weighs (key.Top h) = 26
weighs (key.Down h c) = if c == 1 then 0 else 34
weighs (key.Piece s) = 0

abbrev pub p : Ground
p = record { leaves = 2; arity = 2; bases = []; memory = true; weight = weighs }

nodes : nodes_of p ≡ Root ∷ Now ∷ Recent ∷ Leaf 1 ∷ Leaf 2 ∷ List 0 ∷ List 1 ∷ Inner 1 1 ∷ []
nodes = refl

edges : edges_of p ≡
    edge Root Now 0 via.Now
    ∷ edge Root (Inner 1 1) 26 (via.Paid (key.Top 1) Forward)
    ∷ edge Root (List 0) 42 (via.Paid (key.List 0) Same)
    ∷ edge (Leaf 1) (List 0) 42 (via.Paid (key.List 0) Back)
    ∷ edge (List 0) (Leaf 1) 0 (via.Held (key.List 0) Forward)
    ∷ edge (Leaf 1) (List 1) 40 (via.Paid (key.List 1) Same)
    ∷ edge (Leaf 2) (List 1) 40 (via.Paid (key.List 1) Back)
    ∷ edge (List 1) (Leaf 1) 0 (via.Held (key.List 1) Same)
    ∷ edge (List 1) (Leaf 2) 0 (via.Held (key.List 1) Forward)
    ∷ edge (Inner 1 1) (Leaf 1) 0 (via.Paid (key.Down 1 1) Forward)
    ∷ edge (Leaf 1) (Inner 1 1) 0 (via.Paid (key.Down 1 1) Back)
    ∷ edge (Inner 1 1) (Leaf 2) 34 (via.Paid (key.Down 1 2) Forward)
    ∷ edge (Leaf 2) (Inner 1 1) 34 (via.Paid (key.Down 1 2) Back)
    ∷ edge Now Recent 0 (via.Recent Back)
    ∷ edge Recent Now 0 (via.Recent Forward)
    ∷ edge Recent (Leaf 2) 0 (via.Recent Same)
    ∷ edge (Leaf 2) Recent 0 (via.Recent Same)
    ∷ []
edges = refl

-- a history that has no leaf but the root
few : Ground
few = record { leaves = 0; arity = 2; bases = []; memory = true; weight = weighs }

few_edges : edges_of few ≡ edge Root Now 0 via.Now ∷ edge Now Recent 0 (via.Recent Back) ∷ edge Recent Now 0 (via.Recent Forward) ∷ edge Root Recent 0 (via.Recent Same) ∷ []
unfolding few
few_edges = refl
