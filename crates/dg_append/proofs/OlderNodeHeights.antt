-- The older children that a batch's interior nodes have, listed height by height.
use Rattle.std.proofs.Common.{◌≡◌, ℕ, zero, suc, ◌+◌, ◌-◌, ◌*◌, ◌/◌, ◌^◌, ◌<◌, List as ListOf, [], ◌∷◌, ◌++◌, map, min, refl, sym, ap, subst, ◌∙◌, append_assoc, append-nil, arith}
use Rattle.std.specs.List.{flat_map}
use native.Mathlib.Nat.{pow-zero, div-one}
use Rattle.dg_history.specs.declared.node.NodeId.{NodeId}
use Rattle.dg_index.specs.Hierarchy.{numbers}
use Rattle.dg_index.specs.OlderNodes.{node_at, older_at}
use Rattle.dg_index.proofs.HierarchyCounts.{higher}

-- one more of a row of nodes
pub next_node : (f : ℕ → NodeId) (a n left : ℕ) (now new all : ListOf NodeId) → n ≡ suc left → new ≡ now ++ f a ∷ [] → now ++ map f (numbers a n) ≡ all → new ++ map f (numbers (a + 1) left) ≡ all
next_node f a n left now new all is e so_far =
    ap (λ (l : ListOf NodeId). l ++ map f (numbers (a + 1) left)) e ∙ append_assoc now (f a ∷ []) (map f (numbers (a + 1) left))
    ∙ ap (λ m. now ++ map f (numbers a m)) (sym is) ∙ so_far

pub next_nodes : (f : ℕ → ListOf NodeId) (a n left : ℕ) (now new all : ListOf NodeId) → n ≡ suc left → new ≡ now ++ f a → now ++ flat_map f (numbers a n) ≡ all → new ++ flat_map f (numbers (a + 1) left) ≡ all
next_nodes f a n left now new all is e so_far =
    ap (λ (l : ListOf NodeId). l ++ flat_map f (numbers (a + 1) left)) e ∙ append_assoc now (f a) (flat_map f (numbers (a + 1) left))
    ∙ ap (λ m. now ++ flat_map f (numbers a m)) (sym is) ∙ so_far

pub end_nodes : (now rest all : ListOf NodeId) → rest ≡ [] → now ++ rest ≡ all → now ≡ all
end_nodes now rest all none so_far = sym (append-nil now) ∙ ap (λ (l : ListOf NodeId). now ++ l) (sym none) ∙ so_far

-- ---- heights

pub all_leaves : (m k : ℕ) → m ≡ m / k ^ 0
all_leaves m k = sym (ap (λ n. m / n) (pow-zero k) ∙ div-one m)

pub higher_up : (m k h q : ℕ) → q ≡ m / k ^ h → q / k ≡ m / k ^ (h + 1)
higher_up m k h q is = ap (λ n. n / k) is ∙ sym (higher m k h) ∙ ap (λ b. m / k ^ b) (let z : suc h ≡ h + 1 = omega arith in z)

-- ---- the older children at a height

-- those of the first node that is completed above the height
pub some_older : (k m after h low high : ℕ) → low ≡ m / k ^ h → high ≡ after / k ^ h → low / k < high / k
    → map (node_at h) (numbers (low / k * k + 1) (low - low / k * k)) ≡ older_at k m after (h + 1)
some_older k m after h low high is_low is_high new =
    (λ i. map (node_at h) (numbers (above_low i * k + 1) (is_low i - above_low i * k)))
    ∙ ap (λ n. map (node_at h) (numbers (m / k ^ suc h * k + 1) n)) one
    ∙ ap (older_at k m after) (let z : suc h ≡ h + 1 = omega arith in z)
  where
    above_low : low / k ≡ m / k ^ suc h
    above_low = ap (λ n. n / k) is_low ∙ sym (higher m k h)

    above_high : high / k ≡ after / k ^ suc h
    above_high = ap (λ n. n / k) is_high ∙ sym (higher after k h)

    first : (x y n : ℕ) → x < y → n ≡ min (y - x) 1 * n
    first x y n lt = (let z : n ≡ 1 * n = omega arith in z) ∙ ap (λ c. c * n) (let z : 1 ≡ min (y - x) 1 = omega (arith, lt) in z)

    one : m / k ^ h - m / k ^ suc h * k ≡ min (after / k ^ suc h - m / k ^ suc h) 1 * (m / k ^ h - m / k ^ suc h * k)
    one = first (m / k ^ suc h) (after / k ^ suc h) (m / k ^ h - m / k ^ suc h * k) (omega (arith, above_low, above_high, new))

-- none is completed
none_older : (k m after h : ℕ) → m / k ^ suc h ≡ after / k ^ suc h → older_at k m after (suc h) ≡ []
none_older k m after h e =
    ap (λ n. map (node_at h) (numbers (m / k ^ suc h * k + 1) n)) (none (after / k ^ suc h) (m / k ^ suc h) (m / k ^ h - m / k ^ suc h * k) (sym e))
  where
    none : (x y n : ℕ) → x ≡ y → min (x - y) 1 * n ≡ 0
    none x y n is = ap (λ c. c * n) (let z : min (x - y) 1 ≡ 0 = omega (arith, is) in z) ∙ (let z : 0 * n ≡ 0 = omega arith in z)

pub none_more : (k m after h n : ℕ) → m / k ^ (h + 1) ≡ after / k ^ (h + 1) → flat_map (older_at k m after) (numbers (h + 1) n) ≡ []
none_more k m after h zero e = refl
none_more k m after h (suc n) e =
    (λ i. here i ++ flat_map (older_at k m after) (numbers (h + 1 + 1) n))
    ∙ none_more k m after (h + 1) n (subst (λ b. m / k ^ b ≡ after / k ^ b) next (higher m k (h + 1) ∙ ap (λ q. q / k) e ∙ sym (higher after k (h + 1))))
  where
    next : suc (h + 1) ≡ h + 1 + 1
    next = omega arith

    up : suc h ≡ h + 1
    up = omega arith

    here : older_at k m after (h + 1) ≡ []
    here = ap (older_at k m after) (sym up) ∙ none_older k m after h (subst (λ b. m / k ^ b ≡ after / k ^ b) (sym up) e)
