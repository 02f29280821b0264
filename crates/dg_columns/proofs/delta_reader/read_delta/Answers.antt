use Rattle.std.proofs.Common.{arith}
use Rattle.std.proofs.lemmas.Result.{IfOk-weaker}
use Rattle.dg_columns.proofs.ReadFitsDeltas.{delta_fits, all_from_bytes}
use Rattle.dg_columns.proofs.delta_reader.read_delta.Goals as goal

pub returns-clause-fits : goal.returns-clause-fits
returns-clause-fits c =
    IfOk-weaker c.any_delta.result _ _ (λ d is. delta_fits c.args.col c.args.name_count c.args.bytes.now d (all_from_bytes c.args.bytes.now (λ i. omega (arith, c.type_inv.bytes i))) is) c.any_delta.ensures.ok
