use Rattle.std.proofs.Common.{◌≡◌, ◌+◌, ◌==◌, ltb, leb, arith, rules}
use Rattle.std.proofs.lemmas.List.Sorted.{IsPartitionPoint-from_clause, IsPartitionedBy-leb, IsPartitionedBy-ltb}
use Rattle.std.specs.List.{count_by}
use Rattle.dg_current.proofs.SortedSearches.{equal_counted}
use Rattle.dg_current.proofs.ends.count_sorted.Goals as goal
use Rattle.dg_current.proofs.ends.count_sorted.Goals.{After-partition_point-2}

counted : (c : After-partition_point-2) → c.partition_point.result ≡ c.partition_point-2.result + count_by (λ end. end == c.args.id) c.args.ends.now
counted c =
    let ends = c.args.ends.now in
    let id = c.args.id in
    equal_counted ends id c.partition_point.result c.partition_point-2.result c.partition_point.ensures.bound c.partition_point-2.ensures.bound
    (IsPartitionPoint-from_clause (λ m. leb m id) _ _ c.partition_point.ensures.partitioned (IsPartitionedBy-leb (λ m. m) ends id c.requires) (λ a r q k. search rules))
    (IsPartitionPoint-from_clause (λ m. ltb m id) _ _ c.partition_point-2.ensures.partitioned (IsPartitionedBy-ltb (λ m. m) ends id c.requires) (λ a r q k. search rules))

pub overflow_sub-result : goal.overflow_sub-result
overflow_sub-result c = omega (arith, counted c)

pub returns : goal.returns
returns c = omega (arith, counted c)
