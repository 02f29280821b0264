use Rattle.std.proofs.Common.{◌≡◌, ◌+◌, ◌-◌, ◌<◌, suc, length, ap, ◌∙◌, arith, ◌++◌, ◌∷◌, []}
use Rattle.dg_index.specs.declared.entry.Row.{Row}
use Rattle.dg_segment.specs.RowKinds.{row_at, row_size}
use Rattle.dg_segment.proofs.OpenedIndexRows.{next_row, rows_left}
use Rattle.dg_segment.proofs.rows_read.add_rows.Goals as goal

pub loop-preserved : goal.loop-preserved
loop-preserved c =
    let lt : c.loop.counter < c.args.count = c.loop-test.true in
    let one : c.args.count - c.loop.counter ≡ suc (c.args.count - (c.loop.counter + 1)) = omega (arith, lt) in
    let on : c.loop.offset + c.row_size-offset.result ≡ c.loop.offset + row_size c.args.kind c.args.wide = ap (λ n. c.loop.offset + n) c.row_size-offset.ensures.size in
    record {
      within = rows_left (row_size c.args.kind c.args.wide) (c.args.count - c.loop.counter) (c.args.count - (c.loop.counter + 1)) c.loop.offset (c.loop.offset + c.row_size-offset.result) (length c.args.bytes.now) one on c.loop.invariant.within;
      is = next_row (row_at c.args.kind c.args.wide) (row_size c.args.kind c.args.wide) (c.args.count - c.loop.counter) (c.args.count - (c.loop.counter + 1)) c.args.bytes.now c.loop.offset (c.loop.offset + c.row_size-offset.result) c.loop.out.items _ _ one on
          (c.in_ok-push.ensures.items ∙ ap (λ (r : Row). c.loop.out.items ++ r ∷ []) c.row_at.ensures) c.loop.invariant.is;
    }
