use Rattle.std.proofs.Common.{◌≡◌, List, ℕ, sym, ap, ◌∙◌, map}
use Rattle.dg_graph.specs.declared.element.Element.{Element}
use Rattle.dg_expr.specs.Expressions.{are_expressions, words_of, instants_of, times_of}
use Rattle.dg_expr.specs.Rests.{placed_word, selected}
use Rattle.dg_expr.proofs.Expressions.{are_placed, is_one, selected_is}
use Rattle.dg_expr.proofs.selection.select.Goals as goal

pub select_placed-requires-clause-words : goal.select_placed-requires-clause-words
select_placed-requires-clause-words c =
    let ws = words_of c.args.expr.now in
    ap (are_expressions 1) c.placed-placed.ensures.words ∙ are_placed (times_of c.instants.result) 1 ws ∙ is_one ws c.requires.expression

pub returns : goal.returns
returns c graph e =
    let ws = words_of c.args.expr.now in
    let sets = c.args.sets.now in
    c.from_rising.ensures
    ∙ c.in_ok-items.ensures.value
    ∙ ap (λ w. selected w sets) (c.placed-placed.ensures.words ∙ ap (λ ts. map (placed_word ts) ws) c.instants.ensures.times)
    ∙ selected_is ws graph sets e
