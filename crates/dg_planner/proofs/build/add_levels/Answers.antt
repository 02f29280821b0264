use Rattle.std.proofs.Common.{◌≡◌, ℕ, ◌+◌, ◌*◌, ◌/◌, ◌^◌, ◌<◌, ◌≤◌, ◌++◌, sym, ap, ◌∙◌, arith}
use Rattle.std.proofs.lemmas.List.{append-nil}
use Rattle.std.specs.Prelude.{filter, nat_le}
use Rattle.std.specs.List.{flat_map}
use Rattle.std.proofs.lemmas.Grind.{pow_more}
use Rattle.std.proofs.Math.Nat.{one-le-pow}
use Rattle.dg_index.specs.Hierarchy.{numbers}
use Rattle.dg_plan.specs.IndexGraph.{kept, inner_edges, level_edges}
use Rattle.dg_plan.proofs.IndexGraphNumbers.{above_exponent, all_heights, height_more, level_more, is_level, power_one, grows_more}
use Rattle.dg_planner.specs.AskedLengths.{asked_length_of}
use Rattle.dg_planner.proofs.build.add_levels.Goals as goal

pub loop-width-init : goal.loop-width-init
loop-width-init c = (sym (power_one c.args.arity), omega arith, sym (append-nil c.args.edges.now.items))

pub nonzero_div-leaves : goal.nonzero_div-leaves
nonzero_div-leaves c = let e = c.loop-width.invariant.0 in let h = one-le-pow (c.loop-width.below + 1) c.args.arity (let l = c.requires.low in omega arith) in omega arith

pub loop-width-smaller : goal.loop-width-smaller
loop-width-smaller c =
    let t = c.loop-width-test.true in
    let p = nonzero c.loop-width.below c.args.arity c.loop-width.width c.loop-width.invariant.0 c.requires.low in
    let m = grows_more c.loop-width.width c.args.arity p c.requires.low in
    omega arith
  where
    nonzero : (below arity width : ℕ) → width ≡ arity ^ (below + 1) → 2 ≤ arity → 0 < width
    nonzero below arity width e low = let h = one-le-pow (below + 1) arity (omega arith) in omega arith

pub loop-width-preserved : goal.loop-width-preserved
loop-width-preserved c =
    let weigh = asked_length_of c.args.catalogue.now c.args.cols in
    let below = c.loop-width.below in
    let arity = c.args.arity in
    let leaves = c.args.leaves in
    let test = c.loop-width-test.true in
    let le : arity ^ (below + 1) ≤ leaves = (let e = c.loop-width.invariant.0 in omega arith) in
    let f = level_edges weigh leaves arity in
    let this : kept (flat_map (inner_edges weigh arity below) (numbers 1 (leaves / c.loop-width.width))) ≡ kept (f (below + 1)) = ap kept (is_level weigh leaves arity below c.loop-width.width c.loop-width.invariant.0) in (
      ap (λ w. w * arity) c.loop-width.invariant.0 ∙ sym (pow_more arity (below + 1)),
      (let h = above_exponent arity (below + 1) c.requires.low in omega arith),
      c.in_ok-add_level.ensures ∙ ((λ k. c.loop-width.invariant.2 k ++ this k)
          ∙ level_more f c.args.edges.now.items (filter (λ h. nat_le (arity ^ h) leaves) (numbers 1 below)) (filter (λ h. nat_le (arity ^ h) leaves) (numbers 1 (below + 1))) (below + 1) (height_more leaves arity below le)),
    )

pub returns : goal.returns
returns c =
    let weigh = asked_length_of c.args.catalogue.now c.args.cols in
    let past : c.args.leaves < c.args.arity ^ (c.loop-width.below + 1) = (let e = c.loop-width.invariant.0 in let t = c.loop-width-test.false in omega arith) in
    c.loop-width.invariant.2 ∙ ap (λ hs. c.args.edges.now.items ++ kept (flat_map (level_edges weigh c.args.leaves c.args.arity) hs)) (all_heights c.args.leaves c.args.arity c.loop-width.below c.requires.low c.loop-width.invariant.1 past)
