use Rattle.std.proofs.Common.{◌≡◌, suc, ◌+◌, ◌-◌, ◌/◌, ◌≤◌, ◌<◌, ◌++◌, reverse, sym, ap, ◌∙◌, append-nil, arith}
use Rattle.dg_append.proofs.OlderChildTimes.{height_more, heights_end}
use Rattle.dg_append.proofs.OlderNodeHeights.{all_leaves, higher_up}
use Rattle.dg_catalogue.proofs.HierarchyRecords.{half_fewer, height_few}
use Rattle.dg_append.proofs.older_children.nodes_in_time.Goals as goal
use Rattle.dg_build.specs.OlderSteps.{in_time, older_in_time}

pub loop-low-init : goal.loop-low-init
loop-low-init c = record {
  low = all_leaves c.args.before c.args.arity;
  high = all_leaves c.args.after c.args.arity;
  up = c.requires.some;
  far = omega arith;
  is = (λ i. in_time c.args.arity ((let z : c.args.after - 0 ≡ c.args.after = omega arith in z) i) 0 c.args.before c.args.after ++ reverse (c.new-nodes.ensures.items i)) ∙ append-nil (older_in_time c.args.arity c.args.before c.args.after);
}

pub loop-low-preserved : goal.loop-low-preserved
loop-low-preserved c =
    let k = c.args.arity in
    let i = c.loop-low.invariant in
    let h = c.loop-low.height in
    let low = higher_up c.args.before k h c.loop-low.low i.low in
    let high = higher_up c.args.after k h c.loop-low.high i.high in
    let lt : c.loop-low.low / k < c.loop-low.high / k = c.loop-low-test.true in
    let few : h + 1 ≤ c.args.after = height_few k c.args.after (h + 1) c.requires.arity (omega (arith, lt, high)) in
    let turn : suc (c.args.after - (h + 1)) ≡ c.args.after - h = omega (arith, few) in
    let next : suc h ≡ h + 1 = omega arith in
    record {
      low = low;
      high = high;
      up = half_fewer k c.loop-low.low c.loop-low.high c.requires.arity i.up;
      far = few;
      is = (λ j. in_time k (c.args.after - (h + 1)) (sym next j) (c.loop-low.low / k) (c.loop-low.high / k) ++ reverse c.add_back.new.nodes.items)
          ∙ height_more k (c.args.after - (h + 1)) h c.loop-low.low c.loop-low.high c.loop-low.nodes.items c.add_back.new.nodes.items (older_in_time k c.args.before c.args.after) lt c.in_ok-add_back.ensures
          (ap (λ t. in_time k t h c.loop-low.low c.loop-low.high ++ reverse c.loop-low.nodes.items) turn ∙ i.is);
    }

pub returns : goal.returns
returns c =
    let i = c.loop-low.invariant in
    c.reverse.ensures.items ∙ heights_end c.args.arity (c.args.after - c.loop-low.height) c.loop-low.height c.loop-low.low c.loop-low.high c.loop-low.nodes.items _ (omega (arith, c.loop-low-test.false)) i.is
