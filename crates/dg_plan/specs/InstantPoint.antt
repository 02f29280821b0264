-- The point of an instant: the node of the index from which the graph as of the instant is reached.
use Rattle.std.specs.Prelude.{ℕ, ◌*◌, ◌/◌, ◌%◌, Bool, true, false, ◌==◌, ◌&&◌, List as ListOf, length, nat_lt, if◌then◌else◌}
use Rattle.dg_graph.specs.declared.event.Event.{Event}
use Rattle.dg_graph.specs.Replay.{events_until}
use Rattle.dg_history.specs.declared.node.NodeId.{NodeId}
use Rattle.dg_history.specs.declared.node.NodeId.TheVariants.{Root, Now, Recent, Leaf, List, Inner}
use Rattle.dg_history.specs.declared.params.Params.{Params}
use Rattle.dg_index.specs.Hierarchy.{leaves}

-- the two are one node
abbrev pub same_node : NodeId → NodeId → Bool
same_node Root Root = true
same_node Now Now = true
same_node Recent Recent = true
same_node (Leaf i) (Leaf j) = i == j
same_node (List i) (List j) = i == j
same_node (Inner h i) (Inner g j) = h == g && i == j
same_node _ _ = false

-- The node for the graph after the first `count` of n events: the current graph after all of them; a leaf
-- after so many that a leaf stands behind them; and otherwise the recent events, or the list in which they end.
abbrev pub point_at : Params → ℕ → ℕ → NodeId
point_at p n count =
    if count == n then Now
    else (if count % p.l == 0 then Leaf (count / p.l)
    else (if nat_lt (leaves p n * p.l) count then Recent else List (count / p.l)))

-- the point of an instant
abbrev pub point : Params → ListOf Event → ℕ → NodeId
point p events t = point_at p (length events) (length (events_until events t))
