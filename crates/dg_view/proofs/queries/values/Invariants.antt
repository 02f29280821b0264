use Rattle.std.proofs.Common.{◌≡◌, ◌++◌, length, filter_map}
use Rattle.dg_pool.specs.Graphs.{slot_graph}
use Rattle.dg_pool.specs.Sweeps.{members_as}
use Rattle.dg_query.specs.Queries.{value_at, values_of}
use Rattle.dg_pool.specs.Listing.{members_from}
use Rattle.dg_view.proofs.queries.values.Given as goal

abbrev pub invariant-loop-element : goal.invariant-loop-element
invariant-loop-element l =
    l.list.items ++ filter_map (value_at l.node) (members_from l.pool l.slot.0 l.at) ≡ values_of (members_as (slot_graph l.pool l.slot.0)) l.node

abbrev pub decreases-loop-element : goal.decreases-loop-element
decreases-loop-element l = length (members_from l.pool l.slot.0 l.at)
