use Rattle.std.proofs.Common.{ℕ, ◌++◌, List, Option, sym, ap, ◌∙◌, append_assoc}
use Rattle.dg_graph.specs.Columns.{eight}
use Rattle.dg_index.specs.declared.entry.Ends.{Ends}
use Rattle.dg_segment.specs.RowTexts.{lengths_text, row_text_with}
use Rattle.dg_segment.proofs.rows_written.put_row.Goals as goal

pub returns-in_ok-put_lengths-in-Some : goal.returns-in_ok-put_lengths-in-Some
returns-in_ok-put_lengths-in-Some c =
    let o : List ℕ = c.args.into.now.items in
    let a : List ℕ = eight c.in-Some.ends.first in
    let b : List ℕ = eight c.in-Some.ends.last in
    let l : List ℕ = lengths_text c.args.wide c.args.row.lengths in
    c.in_ok-put_lengths-in-Some.ensures ∙ ap (λ (t : List ℕ). t ++ l) c.in_ok-put_ends-in-Some.ensures ∙ append_assoc o (a ++ b) l ∙ ap (λ (t : List ℕ). o ++ t) (append_assoc a b l)
    ∙ ap (λ (e : Option Ends). o ++ row_text_with c.args.wide e c.args.row.lengths) (sym c.in-Some.is)
