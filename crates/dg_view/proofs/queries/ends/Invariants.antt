use Rattle.std.proofs.Common.{◌≡◌, ℕ, ◌++◌, length, filter_map}
use Rattle.dg_pool.specs.Graphs.{slot_graph}
use Rattle.dg_pool.specs.Sweeps.{members_as}
use Rattle.dg_query.specs.Queries.{edge_at, neighbours_of}
use Rattle.dg_pool.specs.Listing.{members_from}
use Rattle.dg_view.specs.EdgeEnds.{edges_ending_at}
use Rattle.dg_view.proofs.queries.ends.Given as goal

abbrev pub invariant-loop-element : goal.invariant-loop-element
invariant-loop-element l =
    (n : ℕ) → edges_ending_at l.ends.items n ++ filter_map (edge_at n) (members_from l.pool l.slot.0 l.at) ≡ neighbours_of (members_as (slot_graph l.pool l.slot.0)) n

abbrev pub decreases-loop-element : goal.decreases-loop-element
decreases-loop-element l = length (members_from l.pool l.slot.0 l.at)
