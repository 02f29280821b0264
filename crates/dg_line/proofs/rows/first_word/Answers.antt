use Rattle.std.proofs.Common.{◌==◌, ◌∙◌, ap, arith, length, sym}
use Rattle.std.proofs.lemmas.List.Splits.{length-slice_split}
use Rattle.dg_line.proofs.rows.first_word.Goals as goal

pub returns-in-None : goal.returns-in-None
returns-in-None c = absurd (let size = length-slice_split (λ b. b == 32) c.args.line.now in omega (arith, ap length (sym c.of.ensures ∙ c.in-None.ensures)))
