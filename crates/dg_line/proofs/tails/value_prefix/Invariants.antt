use Rattle.std.proofs.Common.{◌≡◌, ℕ, ◌<◌, ◌≤◌, false, get_or}
use Rattle.dg_text.specs.declared.limits.TheConstants.{NAME_BYTES_MAX}
use Rattle.dg_line.proofs.TailTexts.{ends}
use Rattle.dg_line.proofs.tails.value_prefix.Given as goal

abbrev pub invariant-loop-i : goal.invariant-loop-i
invariant-loop-i l = record {
  few : l.i ≤ NAME_BYTES_MAX;
  each : (k : ℕ) → k < l.i → ends (get_or l.rest k 0) ≡ false;
}
