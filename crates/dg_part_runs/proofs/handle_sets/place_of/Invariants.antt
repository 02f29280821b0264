use Rattle.std.proofs.Common.{◌≡◌, ℕ, ◌<◌, map, slice_index}
use Rattle.dg_part_runs.proofs.handle_sets.place_of.Given as goal

abbrev pub invariant-loop-place : goal.invariant-loop-place
invariant-loop-place l = (k : ℕ) → k < l.place → slice_index (map (λ e. e.handle) l.held) k ≡ l.handle → ⊥
