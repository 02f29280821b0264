use Rattle.std.proofs.Common.{◌≡◌, length}
use Rattle.dg_parts.proofs.disks_of.Given as goal

abbrev pub invariant-loop-part : goal.invariant-loop-part
invariant-loop-part l = length l.disks.items ≡ l.part
