use Rattle.std.proofs.Common.{◌≡◌, drop}
use Rattle.dg_graph.specs.DifferentialFunction.{fnv_from}
use Rattle.dg_diff.proofs.hash.with_bytes.Given as goal

abbrev pub invariant-loop-byte : goal.invariant-loop-byte
invariant-loop-byte l = fnv_from l.gone_on (drop l.byte-index l.bytes) ≡ fnv_from l.hash l.bytes
