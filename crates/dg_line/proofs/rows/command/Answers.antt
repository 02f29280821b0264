use Rattle.std.proofs.Common.{◌∙◌, sym, arith}
use Rattle.dg_text.specs.Words.{words}
use Rattle.dg_line.proofs.Loops.{other_passed, row_passed, well_made_at}
use Rattle.dg_line.proofs.rows.command.Goals as goal
use Rattle.dg_line.proofs.rows.command.Goals.{then-has_verb+in_default, else-has_verb}

pub command-requires-clause-made : goal.command-requires-clause-made
command-requires-clause-made c =
    let test = c.loop-row-test.true in
    well_made_at c.args.rows.now c.loop-row.row-index _ c.requires (omega arith)

pub loop-row-preserved : goal.loop-row-preserved
loop-row-preserved c =
    let test = c.loop-row-test.true in
    elim c.if-has_verb.branch [
      | then-has_verb+in_default w ↦
          c.loop-row.invariant ∙ row_passed c.args.rows.now c.loop-row.row-index _ (words c.args.line.now) (omega arith) (sym w.command.ensures.command ∙ w.in_default.is)
      | else-has_verb w ↦
          c.loop-row.invariant
          ∙ other_passed c.args.rows.now c.loop-row.row-index _ (words c.args.line.now) c.first_word-verb.result.now (omega arith) c.first_word-verb.ensures
          (c.has_verb.ensures.other w.if-has_verb.false)
    ]
