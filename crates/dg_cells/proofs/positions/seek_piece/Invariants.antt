use Rattle.std.proofs.Common.{◌≡◌, ◌-◌, ◌<◌, ◌≤◌, true, false, length}
use Rattle.dg_cells.specs.Order.{is_piece_before}
use Rattle.dg_cells.proofs.positions.seek_piece.Given as goal

abbrev pub invariant-loop-low : goal.invariant-loop-low
invariant-loop-low l = record {
  in_turn : l.low ≤ l.high;
  end : l.high ≤ length l.pieces;
  below : 0 < l.low → is_piece_before l.rows.items l.pieces l.x (l.low - 1) ≡ true;
  above : l.high < length l.pieces → is_piece_before l.rows.items l.pieces l.x l.high ≡ false;
}

abbrev pub decreases-loop-low : goal.decreases-loop-low
decreases-loop-low l = l.high - l.low
