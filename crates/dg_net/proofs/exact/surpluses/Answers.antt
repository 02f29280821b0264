use Rattle.std.proofs.Common.{◌≤◌, ◌+◌, ◌++◌, ◌∙◌, ◌⊎◌, inl, inr, length, drop, get_or, ap, sym, arith}
use Rattle.std.specs.declared.cmp.Ordering.TheVariants.{Less, Equal, Greater}
use Rattle.std.proofs.lemmas.List.{take_rest}
use Rattle.dg_graph.specs.declared.element.Element.TheVariants.{Node}
use Rattle.dg_net.specs.Surplus.{last_of, each_once, surplus}
use Rattle.dg_set.proofs.SetMerges.{passed, turned}
use Rattle.dg_net.proofs.SortedSurplus.{surplus_Less, surplus_Equal, surplus_Greater, surplus_done, written_more}
use Rattle.dg_net.proofs.exact.surpluses.Goals as goal
use Rattle.dg_net.proofs.exact.surpluses.Goals.{then-loop-i-test+else-j-right, else-loop-i-test}

pub loop-i-preserved-in-Less : goal.loop-i-preserved-in-Less
loop-i-preserved-in-Less c =
    let left = c.args.left.now in
    let right = c.args.right.now in
    let i = c.loop-i.i in
    let j = c.loop-i.j in
    let x = get_or left i (Node 0) in
    let y = get_or right j (Node 0) in
    let order = sym c.compare.ensures ∙ c.in-Less.is in
    let pushed = c.in_ok-push_last-in-Less.ensures ∙ ap (λ l. c.loop-i.first.items ++ last_of x l) (take_rest left (i + 1)) in
    record {
      first_kept = written_more c.loop-i.first.items (last_of x (drop (i + 1) left)) _ _ _ _ pushed c.loop-i.invariant.first_kept
          (surplus_Less left right i j (Node 0) c.loop-i-test.true c.if-j-right.true order);
      second_kept = passed c.loop-i.second.items _ _ _ c.loop-i.invariant.second_kept
          (surplus_Greater right left j i (Node 0) c.if-j-right.true c.loop-i-test.true (turned x y Less order));
      left_in = omega arith;
      right_in = omega arith;
    }

pub loop-i-preserved-in-Equal : goal.loop-i-preserved-in-Equal
loop-i-preserved-in-Equal c =
    let left = c.args.left.now in
    let right = c.args.right.now in
    let i = c.loop-i.i in
    let j = c.loop-i.j in
    let x = get_or left i (Node 0) in
    let y = get_or right j (Node 0) in
    let order = sym c.compare.ensures ∙ c.in-Equal.is in
    record {
      first_kept = passed c.loop-i.first.items _ _ _ c.loop-i.invariant.first_kept
          (surplus_Equal left right i j (Node 0) c.loop-i-test.true c.if-j-right.true order);
      second_kept = passed c.loop-i.second.items _ _ _ c.loop-i.invariant.second_kept
          (surplus_Equal right left j i (Node 0) c.if-j-right.true c.loop-i-test.true (turned x y Equal order));
      left_in = omega arith;
      right_in = omega arith;
    }

pub loop-i-preserved : goal.loop-i-preserved
loop-i-preserved c =
    let left = c.args.left.now in
    let right = c.args.right.now in
    let i = c.loop-i.i in
    let j = c.loop-i.j in
    let x = get_or left i (Node 0) in
    let y = get_or right j (Node 0) in
    let order = sym c.compare.ensures ∙ c.in-Greater.is in
    let pushed = c.in_ok-push_last-in-Greater.ensures ∙ ap (λ l. c.loop-i.second.items ++ last_of y l) (take_rest right (j + 1)) in
    record {
      first_kept = passed c.loop-i.first.items _ _ _ c.loop-i.invariant.first_kept
          (surplus_Greater left right i j (Node 0) c.loop-i-test.true c.if-j-right.true order);
      second_kept = written_more c.loop-i.second.items (last_of y (drop (j + 1) right)) _ _ _ _ pushed c.loop-i.invariant.second_kept
          (surplus_Less right left j i (Node 0) c.if-j-right.true c.loop-i-test.true (turned x y Greater order));
      left_in = omega arith;
      right_in = omega arith;
    }

pub returns-clause-first : goal.returns-clause-first
returns-clause-first c =
    let left = c.args.left.now in
    let right = c.args.right.now in
    let i = c.loop-i.i in
    let j = c.loop-i.j in
    let written = c.loop-i.first.items in
    let ended : (length left ≤ i) ⊎ (length right ≤ j) =
    elim c.loop-i-test.branch [ then-loop-i-test+else-j-right w ↦ inr w.if-j-right.false | else-loop-i-test w ↦ inl w.loop-i-test.false ] in
    c.in_ok-push_each.ensures
    ∙ ap (λ l. written ++ each_once l) (take_rest left i)
    ∙ surplus_done written (surplus left right) left right i j c.loop-i.invariant.first_kept ended

pub returns-clause-second : goal.returns-clause-second
returns-clause-second c =
    let left = c.args.left.now in
    let right = c.args.right.now in
    let i = c.loop-i.i in
    let j = c.loop-i.j in
    let written = c.loop-i.second.items in
    let ended : (length right ≤ j) ⊎ (length left ≤ i) =
    elim c.loop-i-test.branch [ then-loop-i-test+else-j-right w ↦ inl w.if-j-right.false | else-loop-i-test w ↦ inr w.loop-i-test.false ] in
    c.in_ok-push_each-2.ensures
    ∙ ap (λ l. written ++ each_once l) (take_rest right j)
    ∙ surplus_done written (surplus right left) right left j i c.loop-i.invariant.second_kept ended
