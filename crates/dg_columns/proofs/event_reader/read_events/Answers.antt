use Rattle.std.proofs.Common.{arith}
use Rattle.std.proofs.lemmas.Result.{IfOk-weaker}
use Rattle.dg_columns.proofs.ReadFitsDeltas.{all_from_bytes}
use Rattle.dg_columns.proofs.ReadFitsEvents.{events_that_are_read_fit}
use Rattle.dg_columns.proofs.Fronts.{told_by_front}
use Rattle.dg_columns.proofs.event_reader.read_events.Goals as goal

pub returns-clause-fits : goal.returns-clause-fits
returns-clause-fits c =
    IfOk-weaker c.any_events.result _ _ (λ v is. events_that_are_read_fit c.args.col c.args.name_count c.args.bytes.now v.items (all_from_bytes c.args.bytes.now (λ i. omega (arith, c.type_inv.bytes i))) is) c.any_events.ensures.ok

pub returns-clause-front : goal.returns-clause-front
returns-clause-front c whole is =
    told_by_front c.args.col c.args.name_count c.args.bytes.now whole (all_from_bytes c.args.bytes.now (λ i. omega (arith, c.type_inv.bytes i))) is
