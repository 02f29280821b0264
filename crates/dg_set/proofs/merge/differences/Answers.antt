use Rattle.std.proofs.Common.{◌≤◌, ◌⊎◌, inl, inr, length, get_or, arith, ◌++◌, ap, ◌∙◌, not}
use Rattle.std.specs.declared.cmp.Ordering.TheVariants.{Less, Equal, Greater}
use Rattle.std.proofs.lemmas.List.{take_rest}
use Rattle.dg_graph.specs.declared.element.Element.TheVariants.{Node}
use Rattle.dg_graph.specs.Sets.{without_all}
use Rattle.dg_set.proofs.Indices.{compared}
use Rattle.dg_set.proofs.SetMerges.{pushed, passed, turned, kept_Less, kept_Equal, kept_Greater, without_done}
use Rattle.dg_set.proofs.merge.differences.Goals as goal
use Rattle.dg_set.proofs.merge.differences.Goals.{then-loop-i-test+else-j-right, else-loop-i-test}

pub loop-i-preserved-in-Less : goal.loop-i-preserved-in-Less
loop-i-preserved-in-Less c =
    let left = c.args.left.now in
    let right = c.args.right.now in
    let i = c.loop-i.i in
    let j = c.loop-i.j in
    let x = get_or left i (Node 0) in
    let y = get_or right j (Node 0) in
    let order = compared x y Less c.cmp.result c.cmp.ensures c.in-Less.is in
    let left_next =
    kept_Less left right i j (Node 0) c.requires.left_set c.requires.right_set c.loop-i-test.true c.if-j-right.true not order in
    let right_next =
    kept_Greater right left j i (Node 0) c.requires.right_set c.requires.left_set c.if-j-right.true c.loop-i-test.true not (turned x y Less order) in
    record {
      left_merged = pushed c.loop-i.first.items _ _ _ _ _ c.in_ok-push-in-Less.ensures.items c.loop-i.invariant.left_merged left_next;
      right_merged = passed c.loop-i.second.items _ _ _ c.loop-i.invariant.right_merged right_next;
      left_in = omega arith;
      right_in = omega arith;
    }

pub loop-i-preserved-in-Equal : goal.loop-i-preserved-in-Equal
loop-i-preserved-in-Equal c =
    let left = c.args.left.now in
    let right = c.args.right.now in
    let i = c.loop-i.i in
    let j = c.loop-i.j in
    let x = get_or left i (Node 0) in
    let y = get_or right j (Node 0) in
    let order = compared x y Equal c.cmp.result c.cmp.ensures c.in-Equal.is in
    let left_next =
    kept_Equal left right i j (Node 0) c.requires.left_set c.requires.right_set c.loop-i-test.true c.if-j-right.true not order in
    let right_next =
    kept_Equal right left j i (Node 0) c.requires.right_set c.requires.left_set c.if-j-right.true c.loop-i-test.true not (turned x y Equal order) in
    record {
      left_merged = passed c.loop-i.first.items _ _ _ c.loop-i.invariant.left_merged left_next;
      right_merged = passed c.loop-i.second.items _ _ _ c.loop-i.invariant.right_merged right_next;
      left_in = omega arith;
      right_in = omega arith;
    }

pub loop-i-preserved : goal.loop-i-preserved
loop-i-preserved c =
    let left = c.args.left.now in
    let right = c.args.right.now in
    let i = c.loop-i.i in
    let j = c.loop-i.j in
    let x = get_or left i (Node 0) in
    let y = get_or right j (Node 0) in
    let order = compared x y Greater c.cmp.result c.cmp.ensures c.in-Greater.is in
    let left_next =
    kept_Greater left right i j (Node 0) c.requires.left_set c.requires.right_set c.loop-i-test.true c.if-j-right.true not order in
    let right_next =
    kept_Less right left j i (Node 0) c.requires.right_set c.requires.left_set c.if-j-right.true c.loop-i-test.true not (turned x y Greater order) in
    record {
      left_merged = passed c.loop-i.first.items _ _ _ c.loop-i.invariant.left_merged left_next;
      right_merged = pushed c.loop-i.second.items _ _ _ _ _ c.in_ok-push-in-Greater.ensures.items c.loop-i.invariant.right_merged right_next;
      left_in = omega arith;
      right_in = omega arith;
    }

pub returns-clause-first : goal.returns-clause-first
returns-clause-first c =
    let left = c.args.left.now in
    let right = c.args.right.now in
    let i = c.loop-i.i in
    let j = c.loop-i.j in
    let written = c.loop-i.first.items in
    let ended : (length left ≤ i) ⊎ (length right ≤ j) =
    elim c.loop-i-test.branch [ then-loop-i-test+else-j-right w ↦ inr w.if-j-right.false | else-loop-i-test w ↦ inl w.loop-i-test.false ] in
    c.in_ok-extend_from_slice.ensures.items
    ∙ ap (λ l. written ++ l) (take_rest left i)
    ∙ without_done written (without_all left right) left right i j c.loop-i.invariant.left_merged ended

pub returns-clause-second : goal.returns-clause-second
returns-clause-second c =
    let left = c.args.left.now in
    let right = c.args.right.now in
    let i = c.loop-i.i in
    let j = c.loop-i.j in
    let written = c.loop-i.second.items in
    let ended : (length right ≤ j) ⊎ (length left ≤ i) =
    elim c.loop-i-test.branch [ then-loop-i-test+else-j-right w ↦ inl w.if-j-right.false | else-loop-i-test w ↦ inr w.loop-i-test.false ] in
    c.in_ok-extend_from_slice-2.ensures.items
    ∙ ap (λ l. written ++ l) (take_rest right j)
    ∙ without_done written (without_all right left) right left j i c.loop-i.invariant.right_merged ended
