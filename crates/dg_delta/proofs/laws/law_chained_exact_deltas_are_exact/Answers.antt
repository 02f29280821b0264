use Rattle.dg_graph.proofs.DifferentialFunctionDeltas.{chained_between}
use Rattle.dg_delta.proofs.laws.law_chained_exact_deltas_are_exact.Goals as goal

pub returns : goal.returns
returns c = chained_between
