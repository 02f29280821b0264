use Rattle.std.proofs.Common.{◌≡◌, ℕ, ◌<◌, map, slice_index}
use Rattle.dg_handles.proofs.entries.index_of_handle.Given as goal

abbrev pub invariant-loop-entry_index : goal.invariant-loop-entry_index
invariant-loop-entry_index l = (k : ℕ) → k < l.entry_index → slice_index (map (λ e. e.handle) l.entries) k ≡ l.handle → ⊥
