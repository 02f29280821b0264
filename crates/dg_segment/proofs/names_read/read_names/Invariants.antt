use Rattle.std.proofs.Common.{◌≡◌, ◌+◌, ◌-◌, ◌≤◌, length}
use Rattle.dg_segment.proofs.DirectoryTexts.{TakenSoFar}
use Rattle.dg_segment.proofs.names_read.read_names.Given as goal

abbrev pub invariant-loop : goal.invariant-loop
invariant-loop l = record {
  taken : TakenSoFar l.bytes l.count (l.count - l.counter) l.at l.fn.names l.names;
  within : l.at ≤ length l.bytes;
  counted : length l.names ≡ length l.fn.names + l.counter;
}
