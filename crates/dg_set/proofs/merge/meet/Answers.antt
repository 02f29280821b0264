use Rattle.std.proofs.Common.{◌≤◌, ◌⊎◌, inl, inr, length, get_or, arith}
use Rattle.std.specs.declared.cmp.Ordering.TheVariants.{Less, Equal, Greater}
use Rattle.dg_graph.specs.declared.element.Element.TheVariants.{Node}
use Rattle.dg_graph.specs.Sets.{met}
use Rattle.dg_set.proofs.Indices.{compared}
use Rattle.dg_set.proofs.SetMerges.{pushed, passed, kept_Less, kept_Equal, kept_Greater, met_done}
use Rattle.dg_set.proofs.merge.meet.Goals as goal
use Rattle.dg_set.proofs.merge.meet.Goals.{then-loop-i-test+else-j-right, else-loop-i-test}

pub loop-i-preserved-in-Less : goal.loop-i-preserved-in-Less
loop-i-preserved-in-Less c =
    let left = c.args.left.now in
    let right = c.args.right.now in
    let i = c.loop-i.i in
    let j = c.loop-i.j in
    let order = compared (get_or left i (Node 0)) (get_or right j (Node 0)) Less c.cmp.result c.cmp.ensures c.in-Less.is in
    let next =
    kept_Less left right i j (Node 0) c.requires.left_set c.requires.right_set c.loop-i-test.true c.if-j-right.true (λ b. b) order in
    record {
      merged = passed c.loop-i.both.items _ _ _ c.loop-i.invariant.merged next;
      left_in = omega arith;
      right_in = omega arith;
    }

pub loop-i-preserved-in-Equal : goal.loop-i-preserved-in-Equal
loop-i-preserved-in-Equal c =
    let left = c.args.left.now in
    let right = c.args.right.now in
    let i = c.loop-i.i in
    let j = c.loop-i.j in
    let order = compared (get_or left i (Node 0)) (get_or right j (Node 0)) Equal c.cmp.result c.cmp.ensures c.in-Equal.is in
    let next =
    kept_Equal left right i j (Node 0) c.requires.left_set c.requires.right_set c.loop-i-test.true c.if-j-right.true (λ b. b) order in
    record {
      merged = pushed c.loop-i.both.items _ _ _ _ _ c.in_ok-push-in-Equal.ensures.items c.loop-i.invariant.merged next;
      left_in = omega arith;
      right_in = omega arith;
    }

pub loop-i-preserved : goal.loop-i-preserved
loop-i-preserved c =
    let left = c.args.left.now in
    let right = c.args.right.now in
    let i = c.loop-i.i in
    let j = c.loop-i.j in
    let order = compared (get_or left i (Node 0)) (get_or right j (Node 0)) Greater c.cmp.result c.cmp.ensures c.in-Greater.is in
    let next =
    kept_Greater left right i j (Node 0) c.requires.left_set c.requires.right_set c.loop-i-test.true c.if-j-right.true (λ b. b) order in
    record {
      merged = passed c.loop-i.both.items _ _ _ c.loop-i.invariant.merged next;
      left_in = omega arith;
      right_in = omega arith;
    }

pub returns : goal.returns
returns c =
    let left = c.args.left.now in
    let right = c.args.right.now in
    let i = c.loop-i.i in
    let j = c.loop-i.j in
    let written = c.loop-i.both.items in
    let ended : (length left ≤ i) ⊎ (length right ≤ j) =
    elim c.loop-i-test.branch [ then-loop-i-test+else-j-right w ↦ inr w.if-j-right.false | else-loop-i-test w ↦ inl w.loop-i-test.false ] in
    met_done written (met left right) left right i j c.loop-i.invariant.merged ended
