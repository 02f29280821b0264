use Rattle.std.proofs.Common.{◌∙◌, ◌==◌, ap, length, map, string_bytes, sym}
use Rattle.clap.specs.Words.{App, Kinds, fault_of, is_simple_and_free}
use Rattle.dg_words.proofs.WrittenFormMatches.{finds}
use Rattle.dg_words.specs.WrittenForm.{is_written_form}
use Rattle.dg_words.proofs.words.parse.Goals as goal

pub returns-in-Ok : goal.returns-in-Ok
unfolding is_written_form
returns-in-Ok c =
    let shape = c.in_ok-command.ensures.shape in
    let given = map string_bytes c.args.words.now in (
      ap (λ (kinds : Kinds). length kinds == 0) (sym (ap (λ (a : App). fault_of a given) shape) ∙ c.in-Ok.ensures.kinds (ap is_simple_and_free shape)),
      finds c.in_ok-command.field-0 c.in-Ok.matches given shape c.in-Ok.ensures.parsed c.in-Ok.ensures.matches,
    )
