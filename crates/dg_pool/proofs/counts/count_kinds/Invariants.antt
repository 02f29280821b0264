use Rattle.std.proofs.Common.{◌≡◌, take}
use Rattle.dg_query.specs.Queries.{counts_of}
use Rattle.dg_pool.proofs.counts.count_kinds.Given as goal

abbrev pub invariant-loop-element : goal.invariant-loop-element
invariant-loop-element l = l.counts ≡ counts_of (take l.element-index l.items)
