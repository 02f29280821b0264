use Rattle.std.specs.Prelude.{slice_get}
use Rattle.std.proofs.Common.{◌≡◌, ℕ, Some, sym, ap, ◌∙◌}
use Rattle.dg_part_files.proofs.NewNames.{copied_with, new_with}
use Rattle.dg_part_files.proofs.names.copy_names.Goals as goal
use Rattle.dg_text.specs.Names.{added}

-- src/names.rt:22:5
pub loop-number-preserved : goal.loop-number-preserved
loop-number-preserved c =
    let there = sym c.in-Some.ensures.text in
    let same : (m : ℕ) → slice_get c.args.names.now m ≡ Some c.in-Some.text.now → m ≡ c.loop-number.number = λ m at. c.facts.ensures.one_number m c.loop-number.number c.in-Some.text.now at there in
    record {
      copied = c.in_ok-add.ensures.added ∙ ap (λ names. added names c.in-Some.text.now) c.loop-number.invariant.copied ∙ copied_with c.args.names.now c.loop-number.number c.in-Some.text.now there same;
      new = new_with c.args.names.now c.loop-number.number c.in-Some.text.now there same (sym c.is_name.ensures ∙ c.if-not-is_name.false) c.loop-number.invariant.new;
    }
