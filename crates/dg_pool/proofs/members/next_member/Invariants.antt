use Rattle.std.proofs.Common.{◌≡◌, ◌-◌, length}
use Rattle.dg_cells.specs.Cursors.{ordered, cursor_index}
use Rattle.dg_pool.specs.Sweeps.{in_state}
use Rattle.dg_pool.specs.Listing.{passing_from}
use Rattle.dg_pool.proofs.members.next_member.Given as goal

abbrev pub invariant-loop-n : goal.invariant-loop-n
invariant-loop-n l = passing_from (in_state l.slot l.state) l.cells l.cursor ≡ passing_from (in_state l.slot l.state) l.cells l.fn.from

abbrev pub decreases-loop-n : goal.decreases-loop-n
decreases-loop-n l = length (ordered l.cells) - cursor_index l.cells l.cursor
