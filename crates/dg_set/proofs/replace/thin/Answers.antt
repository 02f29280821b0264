use Rattle.std.proofs.Common.{◌+◌, ◌++◌, take, drop, get_or, inr, sym, ap, ◌∙◌, subst, arith}
use Rattle.std.proofs.lemmas.List.{take_rest}
use Rattle.dg_graph.specs.declared.element.Element.TheVariants.{Node}
use Rattle.dg_graph.specs.Elements.{IsSet, before}
use Rattle.dg_graph.specs.Sets.{without_all}
use Rattle.dg_graph.proofs.Sets.{IsSet-filter}
use Rattle.dg_set.proofs.SetMerges.{IsSet-rest, length_rest, without_done}
use Rattle.dg_set.proofs.SetReplacements.{written_front}
use Rattle.dg_set.proofs.SetThinnings.{step_thinned, step_skipped}
use Rattle.dg_set.proofs.replace.thin.Goals as goal

pub range_from-losses-requires-clause-set : goal.range_from-losses-requires-clause-set
range_from-losses-requires-clause-set c = IsSet-rest c.loop-k.k c.args.lost.now c.requires.lost

pub loop-k-preserved-then-idle-eq-FEW : goal.loop-k-preserved-then-idle-eq-FEW
loop-k-preserved-then-idle-eq-FEW c =
    let cells = c.loop-k.cells in
    let lost = c.args.lost.now in
    let next = c.loop-k.next in
    let k = c.loop-k.k in
    let was = c.loop-k.invariant in
    let range = c.range_from-losses.ensures.range in
    let losses = rw (take_rest lost k) at range.front in
    let skipped = step_skipped cells lost next k c.range_from-losses.result.0 (Node 0) was.rises c.if-next-cells.true losses in
    record {
      left = ap (λ l. take c.loop-k.place cells ++ l) (sym skipped) ∙ was.left;
      rises = was.rises;
      lost_in = omega (arith, length_rest lost k, range.order, range.within, was.lost_in);
      order = was.order;
      within = was.within;
      long = was.long;
      idle = omega arith;
    }

pub loop-k-preserved : goal.loop-k-preserved
loop-k-preserved c =
    let lost = c.args.lost.now in
    let k = c.loop-k.k in
    let l = get_or lost k (Node 0) in
    let rest = drop c.loop-k.next c.loop-k.cells in
    let was = c.loop-k.invariant in
    let moved = c.move_before-end.ensures in
    let next = step_thinned rest lost k (Node 0) was.rises c.requires.lost c.loop-k-test.true in
    let front = take c.move_before-end.result.0 c.move_before-end.new.cells in
    record {
      left = ap (λ b. front ++ without_all b (drop (k + 1) lost)) moved.back
          ∙ written_front _ _ _ _ _ _ moved.front was.left next;
      rises = subst IsSet (sym moved.back) (IsSet-filter (λ y. before l y) rest was.rises);
      lost_in = omega (arith, c.loop-k-test.true);
      order = moved.order;
      within = moved.within;
      long = omega (arith, moved.long, was.long);
      idle = c.idle_after-idle.ensures;
    }

pub returns-after-loop-k-clause-left : goal.returns-after-loop-k-clause-left
returns-after-loop-k-clause-left c =
    without_done (take c.loop-k.place c.loop-k.cells) _ c.loop-k.cells c.args.lost.now c.loop-k.next c.loop-k.k c.loop-k.invariant.left (inr c.loop-k-test.false)
