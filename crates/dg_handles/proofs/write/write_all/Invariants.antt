use Rattle.std.proofs.Common.{◌≡◌, ℕ, false, take}
use Rattle.dg_handles.specs.Written.{AreWritten}
use Rattle.dg_pool.specs.Changes.{CanChange, numbers_of}
use Rattle.dg_pool.specs.Graphs.{graph_now, is_listed, slot_graph}
use Rattle.dg_handles.proofs.write.write_all.Given as goal

abbrev pub invariant-loop-writing : goal.invariant-loop-writing
invariant-loop-writing l = record {
  written : AreWritten 0 (numbers_of l.slots) (take l.writing-index l.writings) l.initial.pool l.pool;
  others : (s : ℕ) → is_listed (numbers_of l.slots) s ≡ false → slot_graph l.pool s ≡ slot_graph l.initial.pool s;
  now : graph_now l.pool ≡ graph_now l.initial.pool;
  can : CanChange (numbers_of l.slots) l.pool;
}
