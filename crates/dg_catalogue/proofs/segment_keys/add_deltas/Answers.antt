use Rattle.std.proofs.Common.{◌≡◌, ◌+◌, ◌-◌, ◌/◌, ◌≤◌, ◌<◌, ◌++◌, sym, ap, ◌∙◌, arith, div-mul-le_self}
use Rattle.std.specs.List.{flat_map}
use Rattle.dg_index.specs.Hierarchy.{numbers}
use Rattle.dg_index.specs.IndexRecords.{deltas_of, deltas_due_at}
use Rattle.dg_catalogue.proofs.HierarchyRecords.{next_flat, end_flat, none_more, higher_up, first_up, half_fewer, half_less, height_few}
use Rattle.dg_catalogue.proofs.segment_keys.add_deltas.Goals as goal

pub loop-low-init : goal.loop-low-init
loop-low-init c =
    let k = c.args.arity in
    record {
      low = first_up c.args.from k;
      high = first_up c.args.until k;
      up = half_fewer k c.args.from c.args.until c.requires.arity c.requires.some;
      few = div-mul-le_self c.args.until k;
      some = omega arith;
      far = omega arith;
      is = ap (λ n. c.args.out.now.items ++ flat_map (deltas_due_at k c.args.from c.args.until) (numbers 1 n)) (let z : c.args.until + 1 - 1 ≡ c.args.until = omega arith in z);
    }

pub loop-low-preserved : goal.loop-low-preserved
loop-low-preserved c =
    let k = c.args.arity in
    let i = c.loop-low.invariant in
    let h = c.loop-low.height in
    let m = c.args.from in
    let n = c.args.until in
    let lt : c.loop-low.low < c.loop-low.high = c.loop-low-test.true in
    let few : h ≤ n = height_few k n h c.requires.arity (omega (arith, lt, i.high)) in
    let less : c.loop-low.high / k < c.loop-low.high = half_less k c.loop-low.high c.requires.arity (omega (arith, lt)) in
    record {
      low = higher_up m k h c.loop-low.low i.low;
      high = higher_up n k h c.loop-low.high i.high;
      up = half_fewer k c.loop-low.low c.loop-low.high c.requires.arity i.up;
      few = omega (arith, div-mul-le_self c.loop-low.high k, less, i.few);
      some = omega arith;
      far = omega (arith, few);
      is = next_flat (deltas_due_at k m n) h (n + 1 - h) (n + 1 - (h + 1)) c.loop-low.out.items _ _ (omega (arith, few))
          (c.in_ok-add_nodes.ensures ∙ (λ j. c.loop-low.out.items ++ flat_map (deltas_of k h) (numbers (i.low j + 1) (i.high j - i.low j)))) i.is;
    }

pub returns : goal.returns
returns c =
    let i = c.loop-low.invariant in
    let same : c.loop-low.low ≡ c.loop-low.high = omega (arith, i.up, c.loop-low-test.false) in
    end_flat (deltas_due_at c.args.arity c.args.from c.args.until) c.loop-low.height (c.args.until + 1 - c.loop-low.height) c.loop-low.out.items _
    (none_more c.args.arity c.args.from c.args.until c.loop-low.height (c.args.until + 1 - c.loop-low.height) (sym i.low ∙ same ∙ i.high)) i.is
