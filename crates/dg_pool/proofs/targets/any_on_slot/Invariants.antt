use Rattle.std.proofs.Common.{◌≡◌, ℕ, true, false, take}
use Rattle.dg_pool.specs.Graphs.{is_listed, slot_at}
use Rattle.dg_pool.specs.Changes.{numbers_of, is_on_slot}
use Rattle.dg_pool.proofs.targets.any_on_slot.Given as goal

abbrev pub invariant-loop-slot : goal.invariant-loop-slot
invariant-loop-slot l = (s : ℕ) → is_listed (numbers_of (take l.slot-index l.slots)) s ≡ true → is_on_slot (slot_at l.states s) ≡ false
