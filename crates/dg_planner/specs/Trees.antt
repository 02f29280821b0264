-- The tree of several targets, as the definitions have it, and the costs as it grows.
use Rattle.std.specs.Prelude.{List, [], ◌∷◌, map}
use Rattle.dg_history.specs.declared.node.NodeId.{NodeId}
use Rattle.dg_path.specs.declared.search.Cost.{Cost as Label}
use Rattle.dg_plan.specs.Walks.{Graft as GraftOf}
use Rattle.dg_planner.specs.declared.tree.Graft.{Graft}
use Rattle.dg_planner.specs.declared.tree.Tree.{Tree}

abbrev pub node_graft : Graft → GraftOf NodeId
node_graft x = record { from = x.from; steps = x.steps.items }

abbrev pub node_grafts : List Graft → List (GraftOf NodeId)
node_grafts xs = map node_graft xs

abbrev pub grafts_in : Tree → List (GraftOf NodeId)
grafts_in t = node_grafts t.grafts.items

-- the costs from a tree so far: those that are kept from the root, until it has grown
abbrev pub costs_now : List Label → List Label → List Label
costs_now kept [] = kept
costs_now kept (c ∷ costs) = c ∷ costs
