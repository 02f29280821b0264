use Rattle.std.proofs.Common.{ℕ, ◌<◌, ◌≤◌, get_or}
use Rattle.dg_text.specs.declared.limits.TheConstants.{KEY_BYTES_MAX}
use Rattle.dg_line.proofs.tails.key_prefix.Given as goal

abbrev pub invariant-loop-i : goal.invariant-loop-i
invariant-loop-i l = record {
  few : l.i ≤ KEY_BYTES_MAX;
  each : (k : ℕ) → k < l.i → 32 < get_or l.rest k 0;
}
