use Rattle.std.proofs.Common.{◌≡◌, ℕ, ◌≤◌, ◌<◌, length, get_or}
use Rattle.std.specs.Prelude.{Some, None}
use Rattle.dg_arena.proofs.words.fill.Given as goal

abbrev pub invariant-loop-n : goal.invariant-loop-n
invariant-loop-n l = (length l.places ≡ length l.initial.places) × ((m : ℕ) → l.from ≤ m → m < l.n → get_or l.places m None ≡ Some 0) × ((m : ℕ) → m < l.from → get_or l.places m None ≡ get_or l.initial.places m None)
