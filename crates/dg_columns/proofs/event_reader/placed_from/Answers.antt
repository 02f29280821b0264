use Rattle.std.proofs.Common.{◌≡◌, ◌+◌, arith}
use Rattle.std.proofs.lemmas.Result.{err_from_is_err_and}
use Rattle.dg_graph.specs.ColumnGrammar.{body_size, events_at}
use Rattle.dg_columns.proofs.FieldEvents.{goes_on, stops}
use Rattle.dg_columns.proofs.event_reader.placed_from.Goals as goal

pub returns-in_err-event : goal.returns-in_err-event
returns-in_err-event c =
    let total = events_at c.args.count c.args.col c.args.name_count c.args.bytes.now 4 0 0 in
    let failed = err_from_is_err_and c.from_residual-in_err-event.result c.from_residual-in_err-event.ensures.1 in
    rw (failed.1, failed.2) (stops c.loop.placed.items c.args.count c.loop.counter c.args.col c.args.name_count c.args.bytes.now c.loop.offset c.loop.low c.loop.earliest total c.loop-test.true c.in_err-event.field-0.0 c.in_err-event.ensures.placed c.loop.invariant.so_far)

pub loop-preserved : goal.loop-preserved
loop-preserved c =
    let p = c.in_ok-event.event in
    let total = events_at c.args.count c.args.col c.args.name_count c.args.bytes.now 4 0 0 in
    let next : c.loop.offset + (10 + c.body_size.result) ≡ c.loop.offset + 10 + body_size p.event.body = omega (arith, c.body_size.ensures) in
    record {
      so_far = rw (c.in_ok-push.ensures.items, c.from-low.ensures) (goes_on c.loop.placed.items c.args.count c.loop.counter c.args.col c.args.name_count c.args.bytes.now c.loop.offset c.loop.low c.loop.earliest total c.loop-test.true p _ next c.in_ok-event.ensures.placed c.loop.invariant.so_far);
      within = omega (arith, c.in_ok-event.ensures.fits, c.body_size.ensures);
    }
