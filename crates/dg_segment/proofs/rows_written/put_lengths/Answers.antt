use Rattle.std.proofs.Common.{ℕ, ◌++◌, Bool, List, sym, ap, ◌∙◌, append_assoc}
use Rattle.dg_graph.specs.Columns.{eight}
use Rattle.dg_segment.specs.RowTexts.{lengths_text}
use Rattle.dg_segment.proofs.rows_written.put_lengths.Goals as goal

pub returns-else-wide : goal.returns-else-wide
returns-else-wide c =
    let o : List ℕ = c.args.into.now.items in
    let a : List ℕ = eight c.args.lengths.structure in
    let b : List ℕ = eight c.args.lengths.node_attrs in
    let d : List ℕ = eight c.args.lengths.edge_attrs in
    c.in_ok-put_number-3.ensures
    ∙ ap (λ (l : List ℕ). l ++ d) (c.in_ok-put_number-2.ensures ∙ ap (λ (l : List ℕ). l ++ b) c.in_ok-put_number.ensures)
    ∙ append_assoc (o ++ a) b d ∙ append_assoc o a (b ++ d)
    ∙ ap (λ (w : Bool). o ++ lengths_text w c.args.lengths) (sym c.if-wide.false)

pub returns-in_ok-put_number-4 : goal.returns-in_ok-put_number-4
returns-in_ok-put_number-4 c =
    let o : List ℕ = c.args.into.now.items in
    let a : List ℕ = eight c.args.lengths.structure in
    let b : List ℕ = eight c.args.lengths.node_attrs in
    let d : List ℕ = eight c.args.lengths.edge_attrs in
    let e : List ℕ = eight c.args.lengths.transient in
    c.in_ok-put_number-4.ensures
    ∙ ap (λ (l : List ℕ). l ++ e) (c.in_ok-put_number-3.ensures ∙ ap (λ (l : List ℕ). l ++ d) (c.in_ok-put_number-2.ensures ∙ ap (λ (l : List ℕ). l ++ b) c.in_ok-put_number.ensures))
    ∙ append_assoc ((o ++ a) ++ b) d e ∙ append_assoc (o ++ a) b (d ++ e) ∙ append_assoc o a (b ++ (d ++ e))
    ∙ ap (λ (w : Bool). o ++ lengths_text w c.args.lengths) (sym c.if-wide.true)
