use Rattle.std.proofs.Common.{◌≡◌, ◌+◌, ◌<◌, length, get_or}
use Rattle.dg_cells.specs.Pieces.{strung, numbers_before}
use Rattle.dg_cells.proofs.Orders.{inside_piece}
use Rattle.dg_cells.proofs.OrderEdits.{found_at}
use Rattle.dg_cells.proofs.cursors.locate.Goals as goal
use Rattle.dg_cells.proofs.cursors.locate.Goals.{After-seek}

found : (c : After-seek) → (numbers_before c.args.order.now c.seek.result.piece + c.seek.result.index < length (strung c.args.order.now)) × (get_or (strung c.args.order.now) (numbers_before c.args.order.now c.seek.result.piece + c.seek.result.index) 0 ≡ c.args.n)
found c =
    found_at c.args.rows.now.items (strung c.args.order.now) c.args.n c.element.result (numbers_before c.args.order.now c.seek.result.piece + c.seek.result.index) c.requires.listed c.element.ensures c.seek.ensures.lower

pub returns-else-is_number_at-clause-piece : goal.returns-else-is_number_at-clause-piece
returns-else-is_number_at-clause-piece c = inside_piece c.args.order.now c.seek.result.piece c.seek.result.index c.seek.ensures.position (found c).0

pub returns-else-is_number_at-clause-index : goal.returns-else-is_number_at-clause-index
returns-else-is_number_at-clause-index c = c.seek.ensures.position.inside (returns-else-is_number_at-clause-piece c)

pub returns-else-is_number_at-clause-number : goal.returns-else-is_number_at-clause-number
returns-else-is_number_at-clause-number c = (found c).1
