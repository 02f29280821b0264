use Rattle.std.proofs.Common.{◌≡◌, ◌+◌, arith}
use Rattle.dg_graph.specs.declared.element.Column.TheVariants as column
use Rattle.dg_graph.specs.ColumnGrammar.{body_size, events_at}
use Rattle.dg_columns.proofs.FieldEvents.{goes_on}
use Rattle.dg_columns.proofs.event_reader.structure_from.Goals as goal

pub loop-preserved : goal.loop-preserved
loop-preserved c =
    let p = c.in_ok-event.event in
    let total = events_at c.args.count column.Structure c.args.name_count c.args.bytes.now 4 0 0 in
    let next : c.loop.offset + (10 + c.body_size.result) ≡ c.loop.offset + 10 + body_size p.event.body = omega (arith, c.body_size.ensures) in
    record {
      so_far = rw (c.push_reserved.ensures.items, c.from-low.ensures) (goes_on c.loop.placed.items c.args.count c.loop.counter column.Structure c.args.name_count c.args.bytes.now c.loop.offset c.loop.low c.loop.earliest total c.loop-test.true p _ next c.in_ok-event.ensures.placed c.loop.invariant.so_far);
      within = omega (arith, c.in_ok-event.ensures.fits, c.body_size.ensures);
      len = omega arith;
      room = omega arith;
    }
