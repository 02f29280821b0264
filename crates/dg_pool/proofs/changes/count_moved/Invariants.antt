use Rattle.std.proofs.Common.{◌≡◌, ◌/◌, ℕ, true, false, length}
use Rattle.dg_pool.specs.Counts.{counts_at}
use Rattle.dg_pool.specs.Masks.{explicit_in, own_in}
use Rattle.dg_pool.specs.Changes.{CanCount, counts_moved}
use Rattle.dg_pool.proofs.changes.count_moved.Given as goal

abbrev pub invariant-loop-left : goal.invariant-loop-left
invariant-loop-left l = record {
  len : length l.counts ≡ 128;
  even : (s : ℕ) → own_in l.left s ≡ false;
  fit : (s : ℕ) → s / 32 ≡ l.word → explicit_in l.left s ≡ true → CanCount l.own l.element (counts_at l.counts s);
  counts : (s : ℕ) → counts_moved l.own l.element l.word l.left l.counts s ≡ counts_moved l.own l.element l.word l.moved l.initial.counts s;
}

abbrev pub decreases-loop-left : goal.decreases-loop-left
decreases-loop-left l = l.left
