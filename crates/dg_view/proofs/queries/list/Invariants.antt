use Rattle.std.proofs.Common.{◌≡◌, ◌++◌, length}
use Rattle.dg_pool.specs.Graphs.{slot_graph}
use Rattle.dg_pool.specs.Sweeps.{members_as}
use Rattle.dg_pool.specs.Listing.{members_from}
use Rattle.dg_view.proofs.queries.list.Given as goal

abbrev pub invariant-loop-element : goal.invariant-loop-element
invariant-loop-element l = l.list.items ++ members_from l.pool l.slot.0 l.at ≡ members_as (slot_graph l.pool l.slot.0)

abbrev pub decreases-loop-element : goal.decreases-loop-element
decreases-loop-element l = length (members_from l.pool l.slot.0 l.at)
