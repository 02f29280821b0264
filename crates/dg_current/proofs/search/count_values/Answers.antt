use Rattle.std.proofs.Common.{arith, rules, length-drop, subst}
use Rattle.std.proofs.lemmas.List.{take_all}
use Rattle.std.proofs.lemmas.List.Sorted.{IsPartitionPoint-from_clause}
use Rattle.dg_current.specs.Sorted.{IsFirstFrom, is_value_at}
use Rattle.dg_current.proofs.SortedSearches.{values_counted}
use Rattle.dg_current.proofs.search.count_values.Goals as goal

pub returns : goal.returns
returns c =
    let xs = c.args.items.now in
    let i = c.first_from-first.result in
    values_counted c.args.id xs c.requires i (subst (λ x. IsFirstFrom x xs i) c.first_value.ensures c.first_from-first.ensures) _ (take_all _ _ (omega (arith, length-drop i xs))) c.partition_point.result c.partition_point.ensures.bound
    (λ parted. IsPartitionPoint-from_clause (is_value_at c.args.id) _ _ c.partition_point.ensures.partitioned parted (λ a r q k. search rules))
