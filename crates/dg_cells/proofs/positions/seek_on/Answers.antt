use Rattle.std.proofs.Common.{◌≡◌, ap, ◌∙◌, arith}
use Rattle.dg_cells.specs.Order.{is_index_before}
use Rattle.dg_cells.proofs.positions.seek_on.Goals as goal

pub returns-clause-high : goal.returns-clause-high
returns-clause-high c = λ h.
    let inv = c.loop-low.invariant in
    let turn = inv.in_turn in
    let past = c.loop-low-test.false in
    let end : c.loop-low.low ≡ c.loop-low.high = omega arith in
    ap (is_index_before c.args.rows.now.items c.args.order.now c.args.x.now) end ∙ inv.above (omega arith)
