use Rattle.std.proofs.Common.{◌<◌, ℕ, cond, List, [], ◌∷◌, ◌++◌, ap, ◌∙◌, arith}
use Rattle.std.specs.Prelude.{vec_capacity, vec_len}
use Rattle.dg_index.specs.FileOfHistory.{bytes_of, lent}
use Rattle.dg_segment.specs.PackedRecords.{StoredRecord}
use Rattle.dg_segment.proofs.PackedRecordColumns.{packed_more, unpacked_more}
use Rattle.dg_segment.proofs.records.Records.push.Goals as goal

pub invariant_of-self-2 : goal.invariant_of-self-2
invariant_of-self-2 c =
    let r : StoredRecord = record { ends = c.args.ends; columns = lent c.args.columns } in
    let room : vec_len c.reserve.new.self < vec_capacity c.reserve.new.self = omega (arith, c.in_ok-reserve.ensures.ok) in
    packed_more c.self.inside.rows.items c.self.inside.columns.items r _ _ c.self.invariant
    (c.push.ensures.items ∙ (λ i. cond (c.push.ensures.succeeds room i) (c.reserve.ensures.items i ++ record { ends = c.args.ends; lengths = c.lengths_of-lengths.ensures i } ∷ []) (c.reserve.ensures.items i)))
    (c.put_columns.ensures ∙ ap (λ (l : List ℕ). l ++ bytes_of r.columns) c.reserve-2.ensures.items)
    (omega (arith, c.len.ensures, c.if-len-ge-RECORDS_MAX.false, c.self.inside.rows.ok))

pub returns-clause-ok : goal.returns-clause-ok
returns-clause-ok c =
    let r : StoredRecord = record { ends = c.args.ends; columns = lent c.args.columns } in
    let room : vec_len c.reserve.new.self < vec_capacity c.reserve.new.self = omega (arith, c.in_ok-reserve.ensures.ok) in
    unpacked_more c.self.inside.rows.items c.self.inside.columns.items r _ _ c.self.invariant
    (c.push.ensures.items ∙ (λ i. cond (c.push.ensures.succeeds room i) (c.reserve.ensures.items i ++ record { ends = c.args.ends; lengths = c.lengths_of-lengths.ensures i } ∷ []) (c.reserve.ensures.items i)))
    (c.put_columns.ensures ∙ ap (λ (l : List ℕ). l ++ bytes_of r.columns) c.reserve-2.ensures.items)
    ∙ ap (λ (l : List StoredRecord). l ++ r ∷ []) c.self.view_is
