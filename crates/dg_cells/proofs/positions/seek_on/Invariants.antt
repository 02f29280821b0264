use Rattle.std.proofs.Common.{◌≡◌, ◌-◌, ◌<◌, ◌≤◌, true, false, Some, length, get_or}
use Rattle.dg_cells.specs.Rows.{cell_at}
use Rattle.dg_cells.specs.Order.{cell_element, is_index_before}
use Rattle.dg_cells.proofs.positions.seek_on.Given as goal

abbrev pub invariant-loop-low : goal.invariant-loop-low
invariant-loop-low l = record {
  on : l.from ≤ l.low;
  in_turn : l.low ≤ l.high;
  end : l.high ≤ length l.order;
  below : 0 < l.low → is_index_before l.rows.items l.order l.x (l.low - 1) ≡ true;
  above : l.high < length l.order → is_index_before l.rows.items l.order l.x l.high ≡ false;
  inside : l.there ≡ true → l.high < length l.order;
  is : l.there ≡ true → cell_element (cell_at l.rows.items (get_or l.order l.high 0)) ≡ Some l.x;
  is_not : l.there ≡ false → l.high < length l.order → cell_element (cell_at l.rows.items (get_or l.order l.high 0)) ≡ Some l.x → ⊥;
}

abbrev pub decreases-loop-low : goal.decreases-loop-low
decreases-loop-low l = l.high - l.low
