use Rattle.std.proofs.Common.{◌≡◌, ℕ, ◌+◌, ◌*◌, ◌/◌, ◌^◌, ◌<◌, ◌≤◌, ◌++◌, map, sym, ap, ◌∙◌, arith}
use Rattle.std.proofs.lemmas.List.{append-nil}
use Rattle.std.specs.Prelude.{filter, nat_le}
use Rattle.std.specs.List.{flat_map}
use Rattle.std.proofs.lemmas.Grind.{pow_more}
use Rattle.std.proofs.Math.Nat.{one-le-pow, pow-le-pow_right}
use Rattle.dg_history.specs.declared.node.Key.TheVariants as key
use Rattle.dg_index.specs.Hierarchy.{numbers}
use Rattle.dg_plan.proofs.IndexGraphNumbers.{above_exponent, all_heights, grows_more, height_more, power_one}
use Rattle.dg_ask.specs.RecordListing.{down_keys, held_line}
use Rattle.dg_ask.proofs.RecordListingLines.{level_more}
use Rattle.dg_ask.proofs.record_listing.add_downs.Goals as goal

pub loop-width-init : goal.loop-width-init
loop-width-init c = (sym (power_one c.args.arity), omega arith, sym (append-nil c.args.lines.now.items))

positive : (below arity width : ℕ) → width ≡ arity ^ (below + 1) → 2 ≤ arity → 0 < width
positive below arity width e low = let h = one-le-pow (below + 1) arity (omega arith) in omega arith

pub loop-width-smaller : goal.loop-width-smaller
loop-width-smaller c =
    let t = c.loop-width-test.true in
    let p = positive c.loop-width.below c.args.arity c.loop-width.width c.loop-width.invariant.0 c.requires.low in
    let m = grows_more c.loop-width.width c.args.arity p c.requires.low in
    omega arith

pub children_at-children-requires-clause-some : goal.children_at-children-requires-clause-some
children_at-children-requires-clause-some c =
    let p = positive c.loop-width.below c.args.arity c.loop-width.width c.loop-width.invariant.0 c.requires.low in omega arith

pub children_at-children-requires-clause-wide : goal.children_at-children-requires-clause-wide
children_at-children-requires-clause-wide c = wide c.loop-width.below c.args.arity c.loop-width.width c.loop-width.invariant.0 c.requires.low
  where
    wide : (below arity width : ℕ) → width ≡ arity ^ (below + 1) → 2 ≤ arity → arity ≤ width
    wide below arity width e low = let h : arity ^ 1 ≤ arity ^ (below + 1) = pow-le-pow_right (omega arith) (omega arith) in let o : arity ^ 1 ≡ arity = power_one arity in omega arith

pub loop-width-preserved : goal.loop-width-preserved
loop-width-preserved c =
    let below = c.loop-width.below in
    let arity = c.args.arity in
    let leaves = c.args.leaves in
    let test = c.loop-width-test.true in
    let le : arity ^ (below + 1) ≤ leaves = (let e = c.loop-width.invariant.0 in omega arith) in
    let f = held_line c.args.catalogue.now.entries in
    let this : map f (map (λ n. key.Down (below + 1) n) (numbers 1 c.children_at-children.result)) ≡ map f (down_keys arity leaves (below + 1)) =
    ap (λ n. map f (map (λ n. key.Down (below + 1) n) (numbers 1 n))) (c.children_at-children.ensures.are ∙ ap (λ w. leaves / w * arity) c.loop-width.invariant.0) in (
      ap (λ w. w * arity) c.loop-width.invariant.0 ∙ sym (pow_more arity (below + 1)),
      (let h = above_exponent arity (below + 1) c.requires.low in omega arith),
      c.in_ok-add_height.ensures
          ∙ ((λ i. c.loop-width.invariant.2 i ++ this i)
          ∙ level_more f (down_keys arity leaves) c.args.lines.now.items (filter (λ h. nat_le (arity ^ h) leaves) (numbers 1 below)) (filter (λ h. nat_le (arity ^ h) leaves) (numbers 1 (below + 1))) (below + 1) (height_more leaves arity below le)),
    )

pub returns : goal.returns
returns c =
    let past : c.args.leaves < c.args.arity ^ (c.loop-width.below + 1) = (let e = c.loop-width.invariant.0 in let t = c.loop-width-test.false in omega arith) in
    c.loop-width.invariant.2
    ∙ ap (λ hs. c.args.lines.now.items ++ map (held_line c.args.catalogue.now.entries) (flat_map (down_keys c.args.arity c.args.leaves) hs)) (all_heights c.args.leaves c.args.arity c.loop-width.below c.requires.low c.loop-width.invariant.1 past)
