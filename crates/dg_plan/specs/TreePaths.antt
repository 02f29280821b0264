-- The path to a node within a tree of walks: the base with which it begins.
use Rattle.std.specs.Prelude.{ℕ, List as ListOf, [], ◌∷◌, ◌++◌, Option, Some, None, if◌then◌else◌, reverse, slice_get}
use Rattle.std.specs.Option.{option_to_list}
use Rattle.dg_history.specs.declared.node.NodeId.{NodeId}
use Rattle.dg_plan.specs.declared.edge.Edge.{Edge}
use Rattle.dg_plan.specs.declared.edge.Via.{Via}
use Rattle.dg_plan.specs.declared.edge.Via.TheVariants as via
use Rattle.dg_plan.specs.IndexGraph.{is_root}
use Rattle.dg_plan.specs.InstantPoint.{same_node}

-- the edges of these numbers
abbrev pub edges_at : ListOf Edge → ListOf ℕ → ListOf Edge
edges_at edges [] = []
edges_at edges (i ∷ steps) = option_to_list (slice_get edges i) ++ edges_at edges steps

-- the handle of the base by which an edge leads on
abbrev pub base_of_via : Via → Option ℕ
base_of_via via.Now = None
base_of_via (via.Base handle) = Some handle
base_of_via (via.Paid key way) = None
base_of_via (via.Held key way) = None
base_of_via (via.Recent way) = None

-- The base with which the path to a node begins, where the steps so far are these, the last first: the last step into
-- the node decides, by its own base where it leaves the root, and else by the path to the node that it leaves.
abbrev pub base_behind : ListOf Edge → NodeId → Option ℕ
base_behind [] node = None
base_behind (e ∷ before) node =
    if same_node node e.to then (if is_root e.from then base_of_via e.via else base_behind before e.from)
    else base_behind before node

-- the base with which the path to a node begins, within the tree of these steps
abbrev pub base_under : ListOf Edge → ListOf ℕ → NodeId → Option ℕ
base_under edges steps node = base_behind (reverse (edges_at edges steps)) node
