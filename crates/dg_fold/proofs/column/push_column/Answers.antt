use Rattle.std.proofs.Common.{subst, sym, ◌∙◌}
use Rattle.dg_delta.specs.Stacks.{stacked}
use Rattle.dg_fold.specs.Parts.{ColumnStandsOnTop}
use Rattle.dg_fold.proofs.PartStacks.{column_stands, column_turned, went_well}
use Rattle.dg_fold.proofs.column.push_column.Goals as goal
use Rattle.dg_fold.proofs.column.push_column.Goals.{in-Back, in_default}

pub returns-in-Ok-clause-ok : goal.returns-in-Ok-clause-ok
returns-in-Ok-clause-ok c =
    let names = c.args.name_count in
    let part = c.args.part.now in
    let col = c.args.col in
    let bytes = c.bytes_of-bytes.result.now in
    let is = c.bytes_of-bytes.ensures in
    let old = stacked c.args.stack.now in
    let done = c.in-Ok.field-0 in
    elim c.match-part.branch [
      | in-Back w ↦ subst (λ s. ColumnStandsOnTop names part col old (stacked s)) (sym w.stack-is)
          (column_turned names part col bytes old (stacked (record { minus = w.push_delta-pushed.new.plus; plus = w.push_delta-pushed.new.minus })) is c.requires.kind w.in-Back.is
          (went_well w.push_delta-pushed.result done (sym w.pushed-is ∙ c.in-Ok.is) w.push_delta-pushed.ensures.ok))
      | in_default w ↦ subst (λ s. ColumnStandsOnTop names part col old (stacked s)) (sym w.stack-is)
          (column_stands names part col bytes old (stacked (record { minus = w.push_delta-pushed-in_default.new.minus; plus = w.push_delta-pushed-in_default.new.plus })) is c.requires.kind
          c.requires.way w.in_default.not-Back
          (went_well w.push_delta-pushed-in_default.result done (sym w.pushed-is ∙ c.in-Ok.is) w.push_delta-pushed-in_default.ensures.ok))
    ]
