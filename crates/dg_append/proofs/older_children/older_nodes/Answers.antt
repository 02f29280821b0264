use Rattle.std.proofs.Common.{List, ◌≡◌, ◌+◌, ◌-◌, ◌/◌, ◌≤◌, ◌<◌, ◌++◌, sym, ap, ◌∙◌, arith}
use Rattle.std.specs.List.{flat_map}
use Rattle.dg_append.proofs.OlderNodeHeights.{all_leaves, end_nodes, higher_up, next_nodes, none_more, some_older}
use Rattle.dg_catalogue.proofs.HierarchyRecords.{half_fewer, height_few}
use Rattle.dg_append.proofs.older_children.older_nodes.Goals as goal
use Rattle.dg_history.specs.declared.node.NodeId.{NodeId}
use Rattle.dg_index.specs.Hierarchy.{numbers}
use Rattle.dg_index.specs.OlderNodes.{older_at}

pub loop-low-init : goal.loop-low-init
loop-low-init c = record {
  low = all_leaves c.args.before c.args.arity;
  high = all_leaves c.args.after c.args.arity;
  up = c.requires.some;
  far = omega arith;
  is = ap (λ (l : List NodeId). l ++ flat_map (older_at c.args.arity c.args.before c.args.after) (numbers 1 (c.args.after - 0))) c.new-nodes.ensures.items ∙ ap (λ n. flat_map (older_at c.args.arity c.args.before c.args.after) (numbers 1 n)) (let z : c.args.after - 0 ≡ c.args.after = omega arith in z);
}

pub loop-low-preserved : goal.loop-low-preserved
loop-low-preserved c =
    let k = c.args.arity in
    let i = c.loop-low.invariant in
    let h = c.loop-low.height in
    let low = higher_up c.args.before k h c.loop-low.low i.low in
    let high = higher_up c.args.after k h c.loop-low.high i.high in
    let lt : c.loop-low.low / k < c.loop-low.high / k = c.loop-low-test.true in
    let few : h + 1 ≤ c.args.after = height_few k c.args.after (h + 1) c.requires.arity (omega (arith, lt, high)) in
    record {
      low = low;
      high = high;
      up = half_fewer k c.loop-low.low c.loop-low.high c.requires.arity i.up;
      far = few;
      is = next_nodes (older_at k c.args.before c.args.after) (h + 1) (c.args.after - h) (c.args.after - (h + 1)) c.loop-low.nodes.items _ _ (omega (arith, few))
          (c.in_ok-add_nodes.ensures ∙ ap (λ l. c.loop-low.nodes.items ++ l) (some_older k c.args.before c.args.after h c.loop-low.low c.loop-low.high i.low i.high lt)) i.is;
    }

pub returns : goal.returns
returns c =
    let k = c.args.arity in
    let i = c.loop-low.invariant in
    let h = c.loop-low.height in
    let up = half_fewer k c.loop-low.low c.loop-low.high c.requires.arity i.up in
    let same : c.loop-low.low / k ≡ c.loop-low.high / k = omega (arith, up, c.loop-low-test.false) in
    end_nodes c.loop-low.nodes.items _ _
    (none_more k c.args.before c.args.after h (c.args.after - h) (sym (higher_up c.args.before k h c.loop-low.low i.low) ∙ same ∙ higher_up c.args.after k h c.loop-low.high i.high)) i.is
