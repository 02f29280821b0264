use Rattle.std.proofs.Common.{◌≡◌, ◌≤◌, ◌++◌, drop, length, vec_capacity, vec_len}
use Rattle.dg_handles.specs.Written.{slots_for}
use Rattle.dg_pool.specs.Changes.{numbers_of}
use Rattle.dg_handles.proofs.write.slots_for.Given as goal

abbrev pub invariant-loop-i : goal.invariant-loop-i
invariant-loop-i l = record {
  chosen : numbers_of l.chosen.items ++ slots_for l.i l.writing (drop l.i (numbers_of l.slots)) ≡ slots_for 0 l.writing (numbers_of l.slots);
  len : vec_len l.chosen ≤ l.i;
  room : length l.slots ≤ vec_capacity l.chosen;
}
