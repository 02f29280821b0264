use Rattle.std.proofs.Common.{sym, ◌∙◌}
use Rattle.std.proofs.lemmas.Bool.{false≢true}
use Rattle.dg_graph.specs.declared.element.Column.TheVariants.{Structure, NodeAttr, EdgeAttr}
use Rattle.dg_fold.specs.Parts.{beside, part_column_in}
use Rattle.dg_fold.proofs.PartCompositions.{both_have_deltas}
use Rattle.dg_fold.proofs.column.is_sound_part.Goals.{then-is_sound_column, else-is_sound_column}
use Rattle.dg_fold.proofs.column.is_sound_part.Goals as goal

pub returns-then-is_sound_column-2 : goal.returns-then-is_sound_column-2
returns-then-is_sound_column-2 c =
    λ t.
    let due = part_column_in c.args.name_count c.args.part.now in
    elim c.if-is_sound_column.branch [
      | then-is_sound_column w ↦ both_have_deltas (due Structure) (beside (due NodeAttr) (due EdgeAttr)) (c.is_sound_column.ensures w.if-is_sound_column.true)
          (both_have_deltas (due NodeAttr) (due EdgeAttr) (w.is_sound_column-then-is_sound_column.ensures (sym w.value-is ∙ c.if-is_sound_column-2.true))
          (c.is_sound_column-then-is_sound_column-2.ensures t))
      | else-is_sound_column w ↦ absurd (false≢true (sym w.if-is_sound_column.false ∙ sym w.value-is ∙ c.if-is_sound_column-2.true))
    ]
