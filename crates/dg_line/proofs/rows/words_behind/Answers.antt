use Rattle.std.proofs.Common.{◌∙◌, ap, arith, drop, length}
use Rattle.std.proofs.lemmas.List.{take_rest}
use Rattle.dg_text.specs.Words.{words}
use Rattle.dg_line.proofs.FirstWords.{behind_first, first_fits, left_behind}
use Rattle.dg_line.proofs.rows.words_behind.Goals as goal

pub slice_bounds-of-count : goal.slice_bounds-of-count
slice_bounds-of-count c = let fits = first_fits c.args.line.now c.args.first.now (drop 1 (words c.args.line.now)) c.requires in omega arith

pub slice_bounds-of-start : goal.slice_bounds-of-start
slice_bounds-of-start c = let fits = first_fits c.args.line.now c.args.first.now (drop 1 (words c.args.line.now)) c.requires in omega arith

pub returns : goal.returns
returns c =
    left_behind _ _ _ (drop 1 (words c.args.line.now)) _ c.next-empty.ensures
    (c.of-words.ensures ∙ ap words (take_rest c.args.line.now (length c.args.first.now)) ∙ behind_first c.args.line.now c.args.first.now (drop 1 (words c.args.line.now)) c.requires)
