use Rattle.dg_set.proofs.SortedSets.{once_is, once_rises}
use Rattle.dg_set.proofs.set.Set.from_unsorted.Goals as goal

pub invariant_of-result : goal.invariant_of-result
invariant_of-result c =
    once_rises c.args.items.items c.sort_unstable.new.self.items c.dedup.new.self.items c.sort_unstable.ensures.permutation c.sort_unstable.ensures.sorted c.dedup.ensures.filtered

pub returns : goal.returns
returns c =
    once_is c.args.items.items c.sort_unstable.new.self.items c.dedup.new.self.items c.sort_unstable.ensures.permutation c.sort_unstable.ensures.sorted c.dedup.ensures.filtered
