use Rattle.std.proofs.Common.{ltb, eqb, rules}
use Rattle.std.proofs.lemmas.List.{take_rest}
use Rattle.std.proofs.lemmas.List.Sorted.{IsPartitionPoint-from_clause, IsPartitionedBy-ltb}
use Rattle.dg_view.specs.declared.ends.EdgeEnd.{EdgeEnd}
use Rattle.dg_view.proofs.EdgeEnds.{ends_found}
use Rattle.dg_view.proofs.ends.at.Goals as goal

pub returns : goal.returns
returns c =
    let ends = c.args.ends.now in
    let n = c.args.node in
    let first = c.partition_point-first.result in
    ends_found ends c.requires n first c.partition_point-first.ensures.bound
    (IsPartitionPoint-from_clause (λ (end : EdgeEnd). ltb end.node n) _ _ c.partition_point-first.ensures.partitioned (IsPartitionedBy-ltb (λ (end : EdgeEnd). end.node) ends n c.requires) (λ a r q k. search rules))
    _ (take_rest ends first) c.partition_point.result c.partition_point.ensures.bound
    (λ parted. IsPartitionPoint-from_clause (λ (end : EdgeEnd). eqb end.node n) _ _ c.partition_point.ensures.partitioned parted (λ a r q k. search rules))
