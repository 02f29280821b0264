-- The leaves and interior nodes that exist are nodes of the graph.
use Rattle.std.proofs.Common.{◌≡◌, ℕ, ◌*◌, ◌^◌, ◌≤◌, true, [], subst, sym}
use Rattle.std.specs.Prelude.{nat_le, ◌&&◌}
use Rattle.std.specs.List.{Contains}
use Rattle.std.proofs.lemmas.Bool.{and_parts, leb-true}
use Rattle.std.proofs.lemmas.List.Elements.{All-nil}
use Rattle.dg_history.specs.declared.node.NodeId.{NodeId}
use Rattle.dg_history.specs.declared.node.NodeId.TheVariants.{Root, Now, Recent, Leaf, List, Inner}
use Rattle.dg_history.specs.declared.params.Params.{Params}
use Rattle.dg_index.specs.Hierarchy.{exists, leaves}
use Rattle.dg_plan.specs.IndexGraph.{Ground, nodes_of}
use Rattle.dg_planner.specs.IndexNodes.{IsLeafOrInner, NodesAreListed}
use Rattle.dg_planner.proofs.OrderEnds.{in_Inner, in_Leaf}

module _ (p : Params) (n : ℕ) (wide : 2 ≤ p.k) (g : Ground) (many : g.leaves ≡ leaves p n) (arity : g.arity ≡ p.k) where
  -- the same graph on no base, which has the same nodes
  abbrev bare : Ground
  bare = record g { bases = [] }

  low : 2 ≤ g.arity
  low = subst (λ k. 2 ≤ k) (sym arity) wide

  listed : (node : NodeId) → IsLeafOrInner node → exists p n node ≡ true → Contains (nodes_of g) node
  listed Root is there = elim is [ ]
  listed Now is there = elim is [ ]
  listed Recent is there = elim is [ ]
  listed (Leaf j) is there =
      let both = and_parts (nat_le 1 j) (nat_le j (leaves p n)) there in
      let some : 1 ≤ j = leb-true 1 j both.0 in
      let within : j ≤ leaves p n = leb-true j (leaves p n) both.1 in
      in_Leaf bare low (All-nil (λ (b : ℕ × NodeId). Contains (nodes_of bare) b.1)) j some (subst (λ m. j ≤ m) (sym many) within)
  listed (List i) is there = elim is [ ]
  listed (Inner h j) is there =
      let first = and_parts (nat_le 1 h) (nat_le 1 j && nat_le (j * p.k ^ h) (leaves p n)) there in
      let rest = and_parts (nat_le 1 j) (nat_le (j * p.k ^ h) (leaves p n)) first.1 in
      let high : 1 ≤ h = leb-true 1 h first.0 in
      let some : 1 ≤ j = leb-true 1 j rest.0 in
      let within : j * p.k ^ h ≤ leaves p n = leb-true (j * p.k ^ h) (leaves p n) rest.1 in
      in_Inner bare low (All-nil (λ (b : ℕ × NodeId). Contains (nodes_of bare) b.1)) h j high some
      (subst (λ k. j * k ^ h ≤ g.leaves) (sym arity) (subst (λ m. j * p.k ^ h ≤ m) (sym many) within))

pub nodes_are_listed : NodesAreListed
nodes_are_listed p n wide g many arity = listed p n wide g many arity
