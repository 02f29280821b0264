use Rattle.std.proofs.Common.{length}
use Rattle.dg_set.specs.Indices.{IsWithin}
use Rattle.dg_set.proofs.replace.range_near.Given as goal

abbrev pub invariant-loop-index : goal.invariant-loop-index
invariant-loop-index l = IsWithin l.element l.items l.index (length l.items)
