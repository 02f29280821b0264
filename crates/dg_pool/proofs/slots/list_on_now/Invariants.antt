use Rattle.std.proofs.Common.{◌≡◌, ℕ, ◌<◌, ◌≤◌, length, take, get_or, true}
use Rattle.dg_pool.specs.Graphs.{slot_at, is_on_now, is_listed}
use Rattle.dg_pool.proofs.slots.list_on_now.Given as goal

abbrev pub invariant-loop-slot : goal.invariant-loop-slot
invariant-loop-slot l = record {
  count : length l.numbers ≡ 128;
  first : 1 ≤ l.slot;
  len : l.len < l.slot;
  low : (k : ℕ) → k < l.len → 1 ≤ get_or l.numbers k 0;
  high : (k : ℕ) → k < l.len → get_or l.numbers k 0 ≤ 127;
  all : (s : ℕ) → 1 ≤ s → s < l.slot → is_on_now (slot_at l.slots s) ≡ true → is_listed (take l.len l.numbers) s ≡ true;
}
