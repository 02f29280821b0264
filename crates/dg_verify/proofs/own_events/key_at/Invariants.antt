use Rattle.std.proofs.Common.{◌≡◌, drop}
use Rattle.dg_verify.specs.EventTests.{key_at}
use Rattle.dg_verify.proofs.own_events.key_at.Given as goal

abbrev pub invariant-loop-read : goal.invariant-loop-read
invariant-loop-read l = record {
  so_far : key_at l.records l.index ≡ key_at (drop l.read-index l.records) l.index;
}
