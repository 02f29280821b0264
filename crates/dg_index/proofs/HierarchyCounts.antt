-- Which interior nodes a batch gives, and how many deltas.
use Rattle.std.proofs.Common.{◌≡◌, ℕ, zero, suc, ◌+◌, ◌-◌, ◌*◌, ◌/◌, ◌^◌, ◌<◌, ◌≤◌, Bool, true, false, cond, ◌==◌, List, [], ◌∷◌, ◌++◌, length, map, refl, sym, ap, subst, ◌∙◌, arith, length-append, div-lt_iff_lt-mul, le-div_iff_mul-le, pow-suc, mul_comm, add-mul, mul-le-mul_right, div-mul-le_self}
use Rattle.std.specs.List.{flat_map}
use Rattle.std.proofs.lemmas.List.{length-map}
use Rattle.std.proofs.lemmas.Bool.{ne_eqb}
use native.Mathlib.Nat.{div-div-eq-div-mul, pow-zero, div-one}
use Rattle.dg_history.specs.declared.node.Key.{Key}
use Rattle.dg_history.specs.declared.node.Key.TheVariants as key
use Rattle.dg_index.specs.Hierarchy.{numbers, children}
use Rattle.dg_index.specs.IndexRecords.{deltas_of, deltas_due_at, deltas_due}

-- the nodes of a height are K times fewer than those below it
pub higher : (m k h : ℕ) → m / k ^ suc h ≡ m / k ^ h / k
higher m k h = ap (λ n. m / n) (pow-suc k h) ∙ sym (div-div-eq-div-mul m (k ^ h) k)

-- node j of the height is among those that are due exactly where its last leaf is
pub due_from : (k m after h j : ℕ) → 0 < k ^ h → m < j * k ^ h → j * k ^ h ≤ after → (m / k ^ h + 1 ≤ j) × (j ≤ after / k ^ h)
due_from k m after h j pos lt le =
    let a = (div-lt_iff_lt-mul pos).1 lt in
    (omega (arith, a), (le-div_iff_mul-le pos).1 le)

pub due_to : (k m after h j : ℕ) → 0 < k ^ h → m / k ^ h + 1 ≤ j → j ≤ after / k ^ h → (m < j * k ^ h) × (j * k ^ h ≤ after)
due_to k m after h j pos lt le = ((div-lt_iff_lt-mul pos).0 (omega (arith, lt)), (le-div_iff_mul-le pos).0 le)

-- ---- lists of numbers

pub numbers_length : (a n : ℕ) → length (numbers a n) ≡ n
numbers_length a zero = refl
numbers_length a (suc n) = ap suc (numbers_length (a + 1) n)

pub numbers_append : (a m n : ℕ) → numbers a (m + n) ≡ numbers a m ++ numbers (a + m) n
numbers_append a zero n = λ i. numbers (zero_left a i) (n_is i)
  where
    zero_left : (a : ℕ) → a ≡ a + 0
    zero_left a = omega arith

    n_is : 0 + n ≡ n
    n_is = omega arith
numbers_append a (suc m) n =
    ap (numbers a) (more m n) ∙ ap (λ (l : List ℕ). a ∷ l) (numbers_append (a + 1) m n ∙ ap (λ b. numbers (a + 1) m ++ numbers b n) (next a m))
  where
    more : (m n : ℕ) → suc m + n ≡ suc (m + n)
    more m n = omega arith

    next : (a m : ℕ) → a + 1 + m ≡ a + suc m
    next a m = omega arith

-- the children of nodes that follow one another follow one another
pub children_follow : (k q n : ℕ) → flat_map (children k) (numbers (q + 1) n) ≡ numbers (q * k + 1) (n * k)
children_follow k q zero = ap (numbers (q * k + 1)) (none k)
  where
    none : (k : ℕ) → 0 ≡ 0 * k
    none k = omega arith
children_follow k q (suc n) =
    (λ i. numbers (start q k i) k ++ children_follow k (q + 1) n i)
    ∙ ap (λ b. numbers (q * k + 1) k ++ numbers b (n * k)) (next q k)
    ∙ sym (numbers_append (q * k + 1) k (n * k)) ∙ ap (numbers (q * k + 1)) (all n k)
  where
    start : (q k : ℕ) → (q + 1 - 1) * k + 1 ≡ q * k + 1
    start q k = ap (λ b. b * k + 1) (let e : q + 1 - 1 ≡ q = omega arith in e)

    next : (q k : ℕ) → (q + 1) * k + 1 ≡ q * k + 1 + k
    next q k = omega (arith, add-mul q 1 k)

    all : (n k : ℕ) → k + n * k ≡ suc n * k
    all n k = omega (arith, add-mul n 1 k)

-- ---- how many deltas

-- one where it is the first of its height
abbrev pub one_if_first : ℕ → ℕ
one_if_first j = cond (j == 1) 1 0

pub deltas_of_length : (k h j : ℕ) → length (deltas_of k h j) ≡ one_if_first j + k
deltas_of_length k h j =
    length-append (cond (j == 1) (key.Top h ∷ []) []) (map (λ c. key.Down h c) (children k j))
    ∙ (λ i. first (j == 1) i + (length-map (children k j) (λ c. key.Down h c) ∙ numbers_length ((j - 1) * k + 1) k) i)
  where
    first : (b : Bool) → length (cond b (key.Top h ∷ []) []) ≡ cond b 1 0
    first true = refl
    first false = refl

later_count : (k h a n : ℕ) → 2 ≤ a → length (flat_map (deltas_of k h) (numbers a n)) ≡ n * k
later_count k h a zero le = omega arith
later_count k h a (suc n) le =
    let one : length (deltas_of k h a) ≡ k = deltas_of_length k h a ∙ ap (λ b. cond b 1 0 + k) (ne_eqb a 1 (λ e. absurd (omega (arith, e, le)))) ∙ (let e : 0 + k ≡ k = omega arith in e) in
    let more = later_count k h (a + 1) n (omega (arith, le)) in
    omega (arith, length-append (deltas_of k h a) (flat_map (deltas_of k h) (numbers (a + 1) n)), one, more, add-mul n 1 k)

-- the deltas of nodes of one height: one for each child, and one more where the first node is among them
pub count_from : (k h q n : ℕ) → length (flat_map (deltas_of k h) (numbers (q + 1) (suc n))) ≡ one_if_first (q + 1) + suc n * k
count_from k h q n =
    let one = deltas_of_length k h (q + 1) in
    let more = later_count k h (q + 1 + 1) n (omega arith) in
    omega (arith, length-append (deltas_of k h (q + 1)) (flat_map (deltas_of k h) (numbers (q + 1 + 1) n)), one, more, add-mul n 1 k)

one_at_most : (j : ℕ) → one_if_first j ≤ 1
one_at_most j = by (j == 1)
  where
    by : (b : Bool) → cond b 1 0 ≤ 1
    by true = omega arith
    by false = omega arith

count_few : (k h q n : ℕ) → length (flat_map (deltas_of k h) (numbers (q + 1) n)) ≤ n + n * k
count_few k h q zero = omega arith
count_few k h q (suc n) = omega (arith, count_from k h q n, one_at_most (q + 1))

twice : (c k q : ℕ) → 2 ≤ k → q ≡ c / k → (2 * q ≤ c) × (q * k ≤ c)
twice c k q le is =
    let all : q * k ≤ c = subst (λ n. n * k ≤ c) (sym is) (div-mul-le_self c k) in
    let two : q * 2 ≤ q * k = subst (λ n. n ≤ q * k) (mul_comm 2 q) (subst (λ n. 2 * q ≤ n) (mul_comm k q) (mul-le-mul_right q le)) in
    (omega (arith, two, all), all)

-- the deltas from a height on are few
pub deltas_few : (k m after : ℕ) → 2 ≤ k → (h n : ℕ) → length (flat_map (deltas_due_at k m after) (numbers (suc h) n)) ≤ 3 * (after / k ^ h)
deltas_few k m after le h zero = omega arith
deltas_few k m after le h (suc n) =
    let q : ℕ = after / k ^ suc h in
    let two = twice (after / k ^ h) k q le (higher after k h) in
    let at : List Key = deltas_due_at k m after (suc h) in
    let more : length (flat_map (deltas_due_at k m after) (numbers (suc h + 1) n)) ≤ 3 * q =
    subst (λ b. length (flat_map (deltas_due_at k m after) (numbers b n)) ≤ 3 * q) (let e : suc (suc h) ≡ suc h + 1 = omega arith in e) (deltas_few k m after le (suc h) n) in
    let here = count_few k (suc h) (m / k ^ suc h) (q - m / k ^ suc h) in
    let less : (q - m / k ^ suc h) * k ≤ q * k = mul-le-mul_right k (let e : q - m / k ^ suc h ≤ q = omega arith in e) in
    omega (arith, length-append at (flat_map (deltas_due_at k m after) (numbers (suc h + 1) n)), more, here, less, two.0, two.1)

-- a batch gives at most three deltas for each leaf
pub deltas_fit : (k m after : ℕ) → 2 ≤ k → length (deltas_due k m after) ≤ 3 * after
deltas_fit k m after le = subst (λ n. length (deltas_due k m after) ≤ 3 * n) (div_one after) (deltas_few k m after le 0 after)
  where
    div_one : (n : ℕ) → n / k ^ 0 ≡ n
    div_one n = ap (λ m. n / m) (pow-zero k) ∙ div-one n

-- ---- the last height

-- where a height has no node, none above it has
pub none_above : (k after h : ℕ) → after / k ^ h ≡ 0 → after / k ^ suc h ≡ 0
none_above k after h e = higher after k h ∙ ap (λ n. n / k) e ∙ zero_div k
  where
    zero_div : (k : ℕ) → 0 / k ≡ 0
    zero_div k = omega arith

pub none_due : (k m after h : ℕ) → after / k ^ h ≡ 0 → deltas_due_at k m after h ≡ []
none_due k m after h e = ap (λ n. flat_map (deltas_of k h) (numbers (m / k ^ h + 1) (n - m / k ^ h))) e ∙ ap (λ n. flat_map (deltas_of k h) (numbers (m / k ^ h + 1) n)) (let z : 0 - m / k ^ h ≡ 0 = omega arith in z)

pub none_from : (k m after h n : ℕ) → after / k ^ h ≡ 0 → flat_map (deltas_due_at k m after) (numbers h n) ≡ []
none_from k m after h zero e = refl
none_from k m after h (suc n) e =
    (λ i. none_due k m after h e i ++ flat_map (deltas_due_at k m after) (numbers (h + 1) n))
    ∙ none_from k m after (h + 1) n (subst (λ b. after / k ^ b ≡ 0) (let z : suc h ≡ h + 1 = omega arith in z) (none_above k after h e))
