-- What it means that two nodes are the same.
use Rattle.std.proofs.Common.{◌≡◌, true, List, refl, ap}
use Rattle.std.specs.Prelude.{◌==◌}
use Rattle.std.specs.Map.{lookup}
use Rattle.std.proofs.lemmas.Bool.{eqb-true, false≢true, and_parts}
use Rattle.dg_history.specs.declared.node.NodeId.{NodeId}
use Rattle.dg_history.specs.declared.node.NodeId.TheVariants as node
use Rattle.dg_history.specs.contracts.node.NodeIdPartialEq.TheImpl as of_nodes
use Rattle.dg_plan.specs.InstantPoint.{same_node}

-- two nodes that are the same are equal
pub same_node_exact : (a b : NodeId) → same_node a b ≡ true → a ≡ b
same_node_exact node.Root node.Root e = refl
same_node_exact node.Now node.Now e = refl
same_node_exact node.Recent node.Recent e = refl
same_node_exact (node.Leaf i) (node.Leaf j) e = ap (λ n. node.Leaf n) (eqb-true i j e)
same_node_exact (node.List i) (node.List j) e = ap (λ n. node.List n) (eqb-true i j e)
same_node_exact (node.Inner h i) (node.Inner g j) e = let p = and_parts (h == g) (i == j) e in λ k. node.Inner (eqb-true h g p.0 k) (eqb-true i j p.1 k)
same_node_exact a b e = absurd (false≢true e)

-- the derived comparison of nodes says the same
pub derived_is : (a b : NodeId) → (of_nodes.ghosts).eq a b ≡ same_node a b
derived_is node.Root node.Root = refl
derived_is node.Now node.Now = refl
derived_is node.Recent node.Recent = refl
derived_is (node.Leaf i) (node.Leaf j) = refl
derived_is (node.List i) (node.List j) = refl
derived_is (node.Inner h i) (node.Inner g j) = refl
derived_is a b = refl

-- and so does a look-up by it
pub derived_look : {V : Type 0} (es : List (NodeId × V)) (q : NodeId) → lookup ((of_nodes.ghosts).eq q) es ≡ lookup (same_node q) es
derived_look es q i = lookup (λ k. derived_is q k i) es
