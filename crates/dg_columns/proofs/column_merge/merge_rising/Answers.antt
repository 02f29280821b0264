use Rattle.std.proofs.Common.{drop, arith}
use Rattle.dg_columns.specs.MergeWalk.{MergeStep, walked}
use Rattle.dg_columns.proofs.MergeWalk.{walks_on}
use Rattle.dg_columns.proofs.column_merge.merge_rising.Goals as goal

pub loop-position-preserved : goal.loop-position-preserved
loop-position-preserved c =
    let a = c.args.structure.now in
    let b = c.args.node_attrs.now in
    let e = c.args.edge_attrs.now in
    let t = c.args.transient.now in
    let old = c.loop-position in
    let after = c.in-Some.after in
    let s : MergeStep = record { here = c.in-Some.here; structure = drop after.structure a; node_attrs = drop after.node_attrs b; edge_attrs = drop after.edge_attrs e; transient = drop after.transient t } in
    rw c.in_ok-push.ensures.items (walks_on old.events.items c.args.len old.position old.earliest (drop old.next.structure a) (drop old.next.node_attrs b) (drop old.next.edge_attrs e) (drop old.next.transient t) (walked c.args.len 0 0 a b e t)
    c.loop-position-test.true s c.in-Some.ensures (omega (arith, c.if-here-earliest.false)) old.invariant)
