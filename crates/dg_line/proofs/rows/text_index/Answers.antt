use Rattle.std.proofs.Common.{◌∙◌, [], true, false, sym, arith}
use Rattle.std.proofs.lemmas.List.{get_or-map, length-map}
use Rattle.dg_grammar.specs.Symbols.{word_texts}
use Rattle.dg_line.proofs.Loops.{texts_next}
use Rattle.dg_line.proofs.rows.text_index.Goals as goal

pub returns-then-is : goal.returns-then-is
returns-then-is c =
    let below = c.loop-i-test.true in
    let size = length-map c.args.texts.now (λ w. w.now) in
    sym (c.loop-i.invariant ∙ texts_next (word_texts c.args.texts.now) c.loop-i.i [] _ c.args.word.now true (omega arith)
    (get_or-map (λ w. w.now) c.args.texts.now c.loop-i.i _ [] (omega arith)) (sym c.if-is.true ∙ c.is.ensures))

pub loop-i-preserved : goal.loop-i-preserved
loop-i-preserved c =
    let below = c.loop-i-test.true in
    let size = length-map c.args.texts.now (λ w. w.now) in
    c.loop-i.invariant ∙ texts_next (word_texts c.args.texts.now) c.loop-i.i [] _ c.args.word.now false (omega arith)
    (get_or-map (λ w. w.now) c.args.texts.now c.loop-i.i _ [] (omega arith)) (sym c.if-is.false ∙ c.is.ensures)
