-- The nodes of an index: how many there are at a height, and their parents and children.
use Rattle.std.proofs.Common.{◌≡◌, ℕ, zero, suc, ◌+◌, ◌-◌, ◌*◌, ◌/◌, ◌^◌, ◌<◌, ◌≤◌, ◌&&◌, Bool, true, false, get_or, refl, sym, ap, subst, ◌∙◌, arith, pow-suc, mul_comm, mul-le-mul_right, le-div_iff_mul-le}
use Rattle.std.proofs.lemmas.Bool.{le-leb, leb-true, leb-false, and_parts}
use Rattle.std.specs.Prelude.{nat_le}
use Rattle.std.proofs.Common.{Option, Some, None, cond}
use Rattle.std.proofs.Math.Nat.{div-one}
use native.Mathlib.Nat.{pow-zero}
use Rattle.dg_history.specs.declared.node.NodeId.{NodeId}
use Rattle.dg_history.specs.declared.node.NodeId.TheVariants as node
use Rattle.dg_history.specs.declared.params.Params.{Params}
use Rattle.dg_history.specs.History.{are_parameters}
use Rattle.dg_index.specs.Hierarchy.{numbers, children, exists, parent}
use Rattle.dg_catalogue.specs.Shapes.{node_of_height, if_exists, parent_of, child_of}
use Rattle.dg_index.proofs.HierarchyCounts.{none_above}
use Rattle.dg_index.proofs.IndexRecordColumns.{power_some}
use Rattle.dg_catalogue.proofs.HierarchyRecords.{below_power}

-- the least arity
pub arity_two : (l k : ℕ) → are_parameters l k ≡ true → 2 ≤ k
arity_two l k e =
    let rest = (and_parts _ _ (and_parts _ _ e).1).1 in
    leb-true 2 k (and_parts _ _ rest).0

-- where a height has no node, none above it has one
none_more : (n k b d : ℕ) → n / k ^ b ≡ 0 → n / k ^ (b + d) ≡ 0
none_more n k b zero e = ap (λ x. n / k ^ x) (let z : b + 0 ≡ b = omega arith in z) ∙ e
none_more n k b (suc d) e = ap (λ x. n / k ^ x) (let z : b + suc d ≡ suc (b + d) = omega arith in z) ∙ none_above k n (b + d) (none_more n k b d e)

pub none_higher : (n k b h : ℕ) → b ≤ h → n / k ^ b ≡ 0 → n / k ^ h ≡ 0
none_higher n k b h le e = ap (λ x. n / k ^ x) (let z : h ≡ b + (h - b) = omega arith in z) ∙ none_more n k b (h - b) e

-- a height has so many nodes where there are enough leaves for all of them
pub at_height : (n k h j q : ℕ) → 2 ≤ k → q ≡ n / k ^ h → nat_le j q ≡ nat_le (j * k ^ h) n
at_height n k h j q two is = by (nat_le j q) refl
  where
    pos : 0 < k ^ h
    pos = power_some k h (omega (arith, two))

    by : (b : Bool) → nat_le j q ≡ b → b ≡ nat_le (j * k ^ h) n
    by true e = sym (le-leb _ _ ((le-div_iff_mul-le pos).0 (omega (arith, leb-true j q e, is))))
    by false e = sym (up (nat_le (j * k ^ h) n) refl)
      where
        up : (b : Bool) → nat_le (j * k ^ h) n ≡ b → b ≡ false
        up false f = refl
        up true f =
            let more : j ≤ n / k ^ h = (le-div_iff_mul-le pos).1 (leb-true _ _ f) in
            absurd (omega (arith, more, leb-false j q e, is))

-- an interior node that is there has a height and a number, and few nodes are above it or below it
pub record IsInterior (n k h j : ℕ) : Type 0 where
  pub height : 1 ≤ h
  pub number : 1 ≤ j
  pub low : h ≤ n
  pub few : j * k ≤ n

pub interior : (n k h j : ℕ) → 2 ≤ k → (nat_le 1 h && (nat_le 1 j && nat_le (j * k ^ h) n)) ≡ true → IsInterior n k h j
interior n k h j two e =
    let parts = and_parts (nat_le 1 h) (nat_le 1 j && nat_le (j * k ^ h) n) e in
    let rest = and_parts (nat_le 1 j) (nat_le (j * k ^ h) n) parts.1 in
    let height = leb-true 1 h parts.0 in
    let number = leb-true 1 j rest.0 in
    let all = leb-true (j * k ^ h) n rest.1 in
    let least : 1 * k ^ h ≤ j * k ^ h = mul-le-mul_right (k ^ h) number in
    let below = below_power k h two in
    let step : k ^ h ≡ k ^ (h - 1) * k = ap (λ x. k ^ x) (let z : h ≡ suc (h - 1) = omega (arith, height) in z) ∙ pow-suc k (h - 1) in
    let pos = power_some k (h - 1) (omega (arith, two)) in
    let once : 1 * k ≤ k ^ (h - 1) * k = mul-le-mul_right k pos in
    let wide : k ≤ k ^ h = omega (arith, once, step) in
    let few : j * k ≤ j * k ^ h = subst (λ x. x ≤ j * k ^ h) (mul_comm k j) (subst (λ x. k * j ≤ x) (mul_comm (k ^ h) j) (mul-le-mul_right j wide)) in
    record {
      height = height;
      number = number;
      low = omega (arith, below, least, all);
      few = omega (arith, few, all);
    }

-- the number at a number of a row of numbers
pub number_at : (first n i : ℕ) → i < n → get_or (numbers first n) i 0 ≡ first + i
number_at first zero i lt = absurd (omega (arith, lt))
number_at first (suc n) zero lt = omega arith
number_at first (suc n) (suc i) lt = number_at (first + 1) n i (omega (arith, lt)) ∙ (let z : first + 1 + i ≡ first + suc i = omega arith in z)

-- a child's number is at most that of the last leaf
pub child_fits : (j k m : ℕ) → 1 ≤ j → m ≤ k → (j - 1) * k + m ≤ j * k
child_fits j k m some le =
    let step : j * k ≡ (j - 1) * k + k = ap (λ x. x * k) (let z : j ≡ (j - 1) + 1 = omega (arith, some) in z) ∙ (let z : (j - 1 + 1) * k ≡ (j - 1) * k + k = grind arith in z) in
    omega (arith, step, le)

pub height_zero : (n k : ℕ) → n ≡ n / k ^ 0
height_zero n k = sym (ap (λ m. n / m) (pow-zero k) ∙ div-one n)

-- ---- what is told of a node

module _ (p : Params) (n : ℕ) where
  pub leaf_some : (a : NodeId) (j : ℕ) → a ≡ node.Leaf j → exists p n a ≡ true → 1 ≤ j
  leaf_some a j is e = leb-true 1 j (and_parts _ _ (ap (exists p n) (sym is) ∙ e)).0

  pub inner_there : (a : NodeId) (h j : ℕ) → a ≡ node.Inner h j → 2 ≤ p.k → exists p n a ≡ true → IsInterior (n / p.l) p.k h j
  inner_there a h j is two e = interior (n / p.l) p.k h j two (ap (exists p n) (sym is) ∙ e)

  pub no_parent : (a : NodeId) → exists p n a ≡ false → parent_of p n a ≡ None
  no_parent node.Root e = refl
  no_parent node.Now e = refl
  no_parent node.Recent e = refl
  no_parent (node.List i) e = refl
  no_parent (node.Leaf c) e = ap (λ b. cond b (if_exists p n (node.Inner 1 (parent p.k c))) None) e
  no_parent (node.Inner h c) e = ap (λ b. cond b (if_exists p n (node.Inner (h + 1) (parent p.k c))) None) e

  pub leaf_parent : (a : NodeId) (c : ℕ) (above : ℕ) (r : Option NodeId) → a ≡ node.Leaf c → exists p n a ≡ true → above ≡ parent p.k c → r ≡ if_exists p n (node.Inner 1 above) → r ≡ parent_of p n a
  leaf_parent a c above r is e at r_is =
      r_is ∙ ap (λ x. if_exists p n (node.Inner 1 x)) at ∙ ap (λ b. cond b (if_exists p n (node.Inner 1 (parent p.k c))) None) (sym (ap (exists p n) (sym is) ∙ e)) ∙ ap (parent_of p n) (sym is)

  pub inner_parent : (a : NodeId) (h c : ℕ) (above : ℕ) (r : Option NodeId) → a ≡ node.Inner h c → exists p n a ≡ true → above ≡ parent p.k c → r ≡ if_exists p n (node.Inner (h + 1) above) → r ≡ parent_of p n a
  inner_parent a h c above r is e at r_is =
      r_is ∙ ap (λ x. if_exists p n (node.Inner (h + 1) x)) at ∙ ap (λ b. cond b (if_exists p n (node.Inner (h + 1) (parent p.k c))) None) (sym (ap (exists p n) (sym is) ∙ e)) ∙ ap (parent_of p n) (sym is)

  pub no_child : (a : NodeId) (child_number : ℕ) → exists p n a ≡ false → child_of p n a child_number ≡ None
  no_child node.Root child_number e = refl
  no_child node.Now child_number e = refl
  no_child node.Recent child_number e = refl
  no_child (node.List i) child_number e = refl
  no_child (node.Leaf c) child_number e = refl
  no_child (node.Inner h j) child_number e = ap (λ b. cond (b && (nat_le 1 child_number && nat_le child_number p.k)) (Some (node_of_height (h - 1) (get_or (children p.k j) (child_number - 1) 0))) None) e

  pub inner_child : (a : NodeId) (h j child_number : ℕ) (r : Option NodeId) → a ≡ node.Inner h j → exists p n a ≡ true
      → r ≡ cond (nat_le 1 child_number && nat_le child_number p.k) (Some (node_of_height (h - 1) (get_or (children p.k j) (child_number - 1) 0))) None → r ≡ child_of p n a child_number
  inner_child a h j child_number r is e r_is =
      r_is ∙ ap (λ b. cond (b && (nat_le 1 child_number && nat_le child_number p.k)) (Some (node_of_height (h - 1) (get_or (children p.k j) (child_number - 1) 0))) None) (sym (ap (exists p n) (sym is) ∙ e)) ∙ ap (λ x. child_of p n x child_number) (sym is)

-- the child at a number that there is
pub child_there : (k h above child_number : ℕ) (r : NodeId) → 1 ≤ above → 1 ≤ child_number → child_number ≤ k → r ≡ node_of_height (h - 1) ((above - 1) * k + child_number)
    → Some r ≡ cond (nat_le 1 child_number && nat_le child_number k) (Some (node_of_height (h - 1) (get_or (children k above) (child_number - 1) 0))) None
child_there k h above child_number r some low high is =
    let at : get_or (children k above) (child_number - 1) 0 ≡ (above - 1) * k + child_number =
    number_at ((above - 1) * k + 1) k (child_number - 1) (omega (arith, low, high)) ∙ (let z : (above - 1) * k + 1 + (child_number - 1) ≡ (above - 1) * k + child_number = omega (arith, low) in z) in
    let found : Option NodeId = Some (node_of_height (h - 1) (get_or (children k above) (child_number - 1) 0)) in
    ap Some is ∙ ap (λ x. Some (node_of_height (h - 1) x)) (sym at) ∙ (λ i. cond (sym (le-leb 1 child_number low) i && sym (le-leb child_number k high) i) found None)
