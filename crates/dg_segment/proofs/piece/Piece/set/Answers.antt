use Rattle.std.proofs.Common.{ℕ, List, ◌++◌, None, ap, ◌∙◌}
use Rattle.dg_index.specs.FileOfHistory.{Stored, bytes_of, lent}
use Rattle.dg_segment.specs.PackedRecords.{stored_at}
use Rattle.dg_segment.proofs.PackedRecordColumns.{packed_alone, stored_alone}
use Rattle.dg_segment.proofs.piece.Piece.set.Goals as goal

pub invariant_of-self-2 : goal.invariant_of-self-2
invariant_of-self-2 c =
    let s : Stored = lent c.args.columns in
    packed_alone s (record { ends = None; lengths = c.lengths_of.result }) _ (λ i. record { ends = None; lengths = c.lengths_of.ensures i }) (c.put_columns.ensures ∙ ap (λ (l : List ℕ). l ++ bytes_of s) c.clear.ensures.items)

pub returns-clause-ok : goal.returns-clause-ok
returns-clause-ok c =
    let s : Stored = lent c.args.columns in
    (λ i. stored_at (c.lengths_of.ensures i) ((c.put_columns.ensures ∙ ap (λ (l : List ℕ). l ++ bytes_of s) c.clear.ensures.items) i)) ∙ stored_alone s
