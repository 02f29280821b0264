use Rattle.std.proofs.Common.{◌+◌, ◌/◌, ◌*◌, subst, sym, arith}
use Rattle.dg_planner.specs.Order.{AreStarts}
use Rattle.dg_plan.proofs.IndexGraphNumbers.{grows_more}
use Rattle.dg_planner.proofs.OrderHeights.{Starting, one_started, all_started, width_positive}
use Rattle.dg_planner.proofs.node_order.level_starts.Goals as goal

pub nonzero_div-total : goal.nonzero_div-total
nonzero_div-total c = width_positive _ _ _ _ _ c.requires.low c.loop-width.invariant

pub loop-width-smaller : goal.loop-width-smaller
loop-width-smaller c =
    let t = c.loop-width-test.true in
    let p = width_positive c.args.leaves c.args.arity c.loop-width.starts.items c.loop-width.width c.loop-width.total c.requires.low c.loop-width.invariant in
    let m = grows_more c.loop-width.width c.args.arity p c.requires.low in
    omega arith

pub loop-width-preserved : goal.loop-width-preserved
loop-width-preserved c =
    subst (λ xs. Starting c.args.leaves c.args.arity xs (c.loop-width.width * c.args.arity) (c.loop-width.total + c.args.leaves / c.loop-width.width)) (sym c.in_ok-push.ensures.items)
    (one_started c.args.leaves c.args.arity c.loop-width.starts.items c.loop-width.width c.loop-width.total c.requires.low c.loop-width-test.true c.loop-width.invariant)

pub returns : goal.returns
returns c =
    subst (AreStarts c.args.leaves c.args.arity) (sym c.in_ok-push-2.ensures.items)
    (all_started c.args.leaves c.args.arity c.loop-width.starts.items c.loop-width.width c.loop-width.total c.requires.low c.loop-width.invariant.short c.loop-width-test.false c.loop-width.invariant)
