use Rattle.std.proofs.Common.{get_or, sym, ap, ◌≡◌, ◌∙◌, subst, IfSome, Option}
use Rattle.dg_graph.specs.declared.element.Column.{Column}
use Rattle.dg_graph.specs.Elements.{column_of}
use Rattle.dg_cells.specs.Rows.{Row}
use Rattle.dg_pool.specs.Masks.{is_asking}
use Rattle.dg_pool.specs.Changes.{numbers_of, IsMarkedWord}
use Rattle.dg_pool.proofs.CurrentGraph.{one_row}
use Rattle.dg_pool.proofs.WordSlots.{moved_word}
use Rattle.dg_pool.proofs.targets.moved_in.Goals as goal

pub returns : goal.returns
returns c = λ r there.
    let t = c.args.targets.now in
    let h = c.requires.holds in
    let bits : c.word.result ≡ get_or r.bits c.args.word 0 = subst (λ (o : Option Row). IfSome o (λ (q : Row). c.word.result ≡ get_or q.bits c.args.word 0)) there c.word.ensures in
    let element : c.args.element.now ≡ r.element = sym h.element ∙ ap (λ (q : Row). q.element) (one_row c.args.cells.now c.args.n h.row r h.there there) in
    let column : c.column_of.result ≡ column_of r.element = c.column_of.ensures ∙ ap column_of element in
    moved_word c.args.own r t.states.now (numbers_of t.slots.now) c.args.word c.word.result c.base_word-base.result c.asking_word-asking.result c.moved_word.result bits
    (c.base_word-base.ensures r there)
    (subst (λ (k : Column). IsMarkedWord (is_asking k) t.states.now (numbers_of t.slots.now) c.args.word c.asking_word-asking.result) column c.asking_word-asking.ensures)
    c.moved_word.ensures
