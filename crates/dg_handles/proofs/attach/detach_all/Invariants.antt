use Rattle.std.proofs.Common.{◌≡◌, ℕ, true, false, None, take}
use Rattle.dg_pool.specs.Changes.{numbers_of}
use Rattle.dg_pool.specs.Graphs.{graph_now, is_listed, slot_graph}
use Rattle.dg_handles.proofs.attach.detach_all.Given as goal

abbrev pub invariant-loop-slot : goal.invariant-loop-slot
invariant-loop-slot l = record {
  gone : (s : ℕ) → is_listed (take l.slot-index (numbers_of l.slots)) s ≡ true → slot_graph l.pool s ≡ None;
  others : (s : ℕ) → is_listed (take l.slot-index (numbers_of l.slots)) s ≡ false → slot_graph l.pool s ≡ slot_graph l.initial.pool s;
  now : graph_now l.pool ≡ graph_now l.initial.pool;
}
