use Rattle.std.proofs.Common.{◌≡◌, ℕ, ◌<◌, ◌/◌, ◌*◌, ◌&&◌, true, false}
use Rattle.dg_cells.specs.Rows.{pair, word_bit}
use Rattle.dg_pool.proofs.masks.meets.Given as goal

abbrev pub invariant-loop-word : goal.invariant-loop-word
invariant-loop-word l = (s : ℕ) → s / 32 < l.word → word_bit l.mask (2 * s) ≡ true → ((pair s l.row).0 && (pair s l.row).1) ≡ false
