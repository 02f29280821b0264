-- The records that are due, listed one after another.
use Rattle.std.proofs.Common.{◌≡◌, ℕ, zero, suc, ◌+◌, ◌-◌, ◌*◌, ◌/◌, ◌^◌, ◌<◌, ◌≤◌, List, [], ◌∷◌, ◌++◌, map, refl, sym, ap, subst, ◌∙◌, append_assoc, append-nil, arith, pow-suc, mul_comm, mul-le-mul_right, div-mul-le_self, le-div_iff_mul-le, div-lt_iff_lt-mul}
use Rattle.std.specs.List.{flat_map}
use native.Mathlib.Nat.{pow-zero}
use Rattle.dg_history.specs.declared.node.Key.{Key}
use Rattle.dg_index.specs.Hierarchy.{numbers}
use Rattle.dg_index.specs.IndexRecords.{deltas_of, deltas_due_at}
use Rattle.dg_index.proofs.HierarchyCounts.{higher}
use Rattle.dg_index.proofs.IndexRecordColumns.{power_some}

-- one more of a row of keys, and none is left
pub next_map : (f : ℕ → Key) (a n left : ℕ) (now new all : List Key) → n ≡ suc left → new ≡ now ++ f a ∷ [] → now ++ map f (numbers a n) ≡ all → new ++ map f (numbers (a + 1) left) ≡ all
next_map f a n left now new all is e so_far =
    ap (λ (l : List Key). l ++ map f (numbers (a + 1) left)) e ∙ append_assoc now (f a ∷ []) (map f (numbers (a + 1) left))
    ∙ ap (λ m. now ++ map f (numbers a m)) (sym is) ∙ so_far

pub end_map : (f : ℕ → Key) (a n : ℕ) (now all : List Key) → n ≡ 0 → now ++ map f (numbers a n) ≡ all → now ≡ all
end_map f a n now all is so_far = sym (append-nil now) ∙ ap (λ m. now ++ map f (numbers a m)) (sym is) ∙ so_far

pub next_flat : (f : ℕ → List Key) (a n left : ℕ) (now new all : List Key) → n ≡ suc left → new ≡ now ++ f a → now ++ flat_map f (numbers a n) ≡ all → new ++ flat_map f (numbers (a + 1) left) ≡ all
next_flat f a n left now new all is e so_far =
    ap (λ (l : List Key). l ++ flat_map f (numbers (a + 1) left)) e ∙ append_assoc now (f a) (flat_map f (numbers (a + 1) left))
    ∙ ap (λ m. now ++ flat_map f (numbers a m)) (sym is) ∙ so_far

pub end_flat : (f : ℕ → List Key) (a n : ℕ) (now all : List Key) → flat_map f (numbers a n) ≡ [] → now ++ flat_map f (numbers a n) ≡ all → now ≡ all
end_flat f a n now all none so_far = sym (append-nil now) ∙ ap (λ (l : List Key). now ++ l) (sym none) ∙ so_far

-- a power of two or more is above its exponent
pub below_power : (k h : ℕ) → 2 ≤ k → h < k ^ h
below_power k zero le = omega (arith, pow-zero k)
below_power k (suc h) le =
    let two : 2 * k ^ h ≤ k ^ h * k = subst (λ n. 2 * k ^ h ≤ n) (mul_comm k (k ^ h)) (mul-le-mul_right (k ^ h) le) in
    omega (arith, below_power k h le, two, pow-suc k h)

-- a height with a node is among those up to the number of leaves
pub height_few : (k n h : ℕ) → 2 ≤ k → 1 ≤ n / k ^ h → h ≤ n
height_few k n h le some =
    let pos = power_some k h (omega (arith, le)) in
    let all : 1 * k ^ h ≤ n = (le-div_iff_mul-le pos).0 some in
    omega (arith, below_power k h le, all)

pub half_fewer : (k a b : ℕ) → 2 ≤ k → a ≤ b → a / k ≤ b / k
half_fewer k a b le up =
    let pos : 0 < k = omega (arith, le) in
    (le-div_iff_mul-le pos).1 (omega (arith, div-mul-le_self a k, up))

pub half_less : (k a : ℕ) → 2 ≤ k → 1 ≤ a → a / k < a
half_less k a le some =
    let pos : 0 < k = omega (arith, le) in
    (div-lt_iff_lt-mul pos).1 (let two : 2 * a ≤ a * k = subst (λ n. 2 * a ≤ n) (mul_comm k a) (mul-le-mul_right a le) in omega (arith, two, some))

-- where no node of a height is new, none of those above it is
none_at : (k m after h : ℕ) → m / k ^ h ≡ after / k ^ h → deltas_due_at k m after h ≡ []
none_at k m after h e = ap (λ n. flat_map (deltas_of k h) (numbers (m / k ^ h + 1) n)) (let z : after / k ^ h - m / k ^ h ≡ 0 = omega (arith, e) in z)

pub none_more : (k m after h n : ℕ) → m / k ^ h ≡ after / k ^ h → flat_map (deltas_due_at k m after) (numbers h n) ≡ []
none_more k m after h zero e = refl
none_more k m after h (suc n) e =
    (λ i. none_at k m after h e i ++ flat_map (deltas_due_at k m after) (numbers (h + 1) n))
    ∙ none_more k m after (h + 1) n (subst (λ b. m / k ^ b ≡ after / k ^ b) (let z : suc h ≡ h + 1 = omega arith in z) (higher m k h ∙ ap (λ n. n / k) e ∙ sym (higher after k h)))

pub higher_up : (m k h q : ℕ) → q ≡ m / k ^ h → q / k ≡ m / k ^ (h + 1)
higher_up m k h q is = ap (λ n. n / k) is ∙ sym (higher m k h) ∙ ap (λ b. m / k ^ b) (let z : suc h ≡ h + 1 = omega arith in z)

pub first_up : (m k : ℕ) → m / k ≡ m / k ^ 1
first_up m k = ap (λ n. m / n) (let z : k ≡ 1 * k = omega arith in z) ∙ ap (λ n. m / (n * k)) (sym (pow-zero k)) ∙ ap (λ n. m / n) (sym (pow-suc k 0))
