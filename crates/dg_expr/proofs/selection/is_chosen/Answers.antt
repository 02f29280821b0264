use Rattle.std.proofs.Common.{◌≡◌, sym, ap, ◌∙◌, arith}
use Rattle.dg_expr.specs.Chosen.{first_of}
use Rattle.dg_expr.specs.Rests.{true_at}
use Rattle.dg_expr.proofs.Expressions.{truths_length}
use Rattle.dg_expr.proofs.selection.is_chosen.Goals as goal

pub truth-requires : goal.truth-requires
truth-requires c = omega (arith, truths_length (true_at c.args.there.now) 1 c.args.words.now c.requires)

pub returns : goal.returns
returns c = sym (ap first_of c.truth.ensures.value)
