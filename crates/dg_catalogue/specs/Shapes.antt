-- The nodes of an index, by its leaf list size, its arity and the number of its events.
use Rattle.std.specs.Prelude.{◌≡◌, ℕ, ◌+◌, ◌-◌, ◌==◌, ◌≤◌, true, cond, ◌&&◌, Option, Some, None, get_or, nat_le}
use Rattle.dg_graph.specs.declared.function.Function.{Function}
use Rattle.dg_history.specs.declared.limits.TheConstants.{EVENTS_MAX}
use Rattle.dg_history.specs.declared.node.NodeId.{NodeId}
use Rattle.dg_history.specs.declared.node.NodeId.TheVariants as node
use Rattle.dg_history.specs.declared.params.Params.{Params}
use Rattle.dg_history.specs.History.{are_parameters}
use Rattle.dg_index.specs.Hierarchy.{children, parent, exists}
use Rattle.dg_catalogue.specs.declared.shape.Shape.{Shape}

-- an index may have this shape
pub record IsShape (s : Shape) : Type 0 where
  pub parameters : are_parameters s.l s.k ≡ true
  pub few : s.events ≤ EVENTS_MAX

-- the parameters of an index of this shape; which nodes there are does not depend on its function
abbrev pub made_with : Function → Shape → Params
made_with f s = record { l = s.l; k = s.k; function = f }

-- the node of this number at a height, where the leaves have height 0
abbrev pub node_of_height : ℕ → ℕ → NodeId
node_of_height h j = cond (h == 0) (node.Leaf j) (node.Inner h j)

-- the node, if it exists
abbrev pub if_exists : Params → ℕ → NodeId → Option NodeId
if_exists p n a = cond (exists p n a) (Some a) None

-- the interior node of which a leaf or an interior node is a child, where both exist
abbrev pub parent_of : Params → ℕ → NodeId → Option NodeId
parent_of p n (node.Leaf c) = cond (exists p n (node.Leaf c)) (if_exists p n (node.Inner 1 (parent p.k c))) None
parent_of p n (node.Inner h c) = cond (exists p n (node.Inner h c)) (if_exists p n (node.Inner (h + 1) (parent p.k c))) None
parent_of p n node.Root = None
parent_of p n node.Now = None
parent_of p n node.Recent = None
parent_of p n (node.List i) = None

-- the child at a number, counted from 1, among those of an interior node that exists
abbrev pub child_of : Params → ℕ → NodeId → ℕ → Option NodeId
child_of p n (node.Inner h j) child_number = cond (exists p n (node.Inner h j) && (nat_le 1 child_number && nat_le child_number p.k)) (Some (node_of_height (h - 1) (get_or (children p.k j) (child_number - 1) 0))) None
child_of p n node.Root child_number = None
child_of p n node.Now child_number = None
child_of p n node.Recent child_number = None
child_of p n (node.Leaf c) child_number = None
child_of p n (node.List i) child_number = None
