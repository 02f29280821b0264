use Rattle.std.proofs.Common.{◌≡◌, ℕ, ◌+◌, ◌*◌, ◌<◌, ◌≤◌, false, length}
use Rattle.dg_cells.specs.Rows.{word_bit}
use Rattle.dg_pool.specs.Graphs.{slot_at}
use Rattle.dg_pool.specs.Masks.{is_asking}
use Rattle.dg_pool.proofs.masks.asking_mask.Given as goal

abbrev pub invariant-loop-slot : goal.invariant-loop-slot
invariant-loop-slot l = record {
  len : length l.mask ≡ 4;
  explicit : (s : ℕ) → s < l.slot → word_bit l.mask (2 * s) ≡ is_asking l.column (slot_at l.slots s);
  own : (s : ℕ) → s < 128 → word_bit l.mask (2 * s + 1) ≡ false;
  rest : (s : ℕ) → l.slot ≤ s → s < 128 → word_bit l.mask (2 * s) ≡ false;
}
