use Rattle.dg_delta.proofs.Deltas.{say_the_same_are_equal}
use Rattle.dg_delta.proofs.laws.law_deltas_that_say_the_same_are_equal.Goals as goal

pub returns : goal.returns
returns c = say_the_same_are_equal
