use Rattle.std.proofs.Common.{ltb, eqb, rules}
use Rattle.std.proofs.lemmas.List.{take_rest}
use Rattle.std.proofs.lemmas.List.Sorted.{IsPartitionPoint-from_clause, IsPartitionedBy-ltb}
use Rattle.dg_aux.specs.declared.turns.Turn.{Turn}
use Rattle.dg_aux.proofs.Sorted.{turns_found, values_rise}
use Rattle.dg_aux.proofs.turns.of_value.Goals as goal

pub returns : goal.returns
returns c =
    let turns = c.args.turns.now in
    let n = c.args.value in
    let rises = values_rise turns c.requires in
    let first = c.partition_point-first.result in
    turns_found turns rises n first c.partition_point-first.ensures.bound
    (IsPartitionPoint-from_clause (λ (turn : Turn). ltb turn.value n) _ _ c.partition_point-first.ensures.partitioned (IsPartitionedBy-ltb (λ (turn : Turn). turn.value) turns n rises) (λ a r q k. search rules))
    _ (take_rest turns first) c.partition_point.result c.partition_point.ensures.bound
    (λ parted. IsPartitionPoint-from_clause (λ (turn : Turn). eqb turn.value n) _ _ c.partition_point.ensures.partitioned parted (λ a r q k. search rules))
