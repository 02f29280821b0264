-- The older children in the order of time: how many they are, and where a node is due that is the first of its height.
use Rattle.std.proofs.Common.{◌≡◌, ℕ, zero, suc, ◌+◌, ◌-◌, ◌*◌, ◌/◌, ◌^◌, ◌<◌, ◌≤◌, Bool, true, false, cond, List, [], ◌∷◌, ◌++◌, length, map, reverse, nat_lt, refl, sym, ap, subst, ◌∙◌, arith, append-nil, length-append, lt-ltb, le-ltb, div-lt_iff_lt-mul, div-mul-le_self, le-div_iff_mul-le, mul_comm, mul-le-mul_right, min, pow-suc}
use Rattle.std.specs.List.{flat_map}
use Rattle.std.proofs.lemmas.Bool.{ltb-false, ltb-true}
use Rattle.std.proofs.lemmas.List.{length-map, reverse-append}
use Rattle.std.proofs.lemmas.List.Concat.{flat_map-append}
use Rattle.std.proofs.Math.Nat.{zero-div}
use native.Mathlib.Nat.{pow-zero, div-one}
use Rattle.dg_history.specs.declared.node.NodeId.{NodeId}
use Rattle.dg_index.specs.Hierarchy.{numbers}
use Rattle.dg_index.specs.OlderNodes.{node_at, older_at, older}
use Rattle.dg_index.proofs.HierarchyCounts.{higher, numbers_length}
use Rattle.dg_build.specs.OlderSteps.{IsTopDue, in_time, older_in_time}

-- ---- arithmetic of heights

pub div_one : (n k : ℕ) → n / k ^ 0 ≡ n
div_one n k = ap (λ m. n / m) (pow-zero k) ∙ div-one n

pub div_mono : (a b k : ℕ) → 2 ≤ k → a ≤ b → a / k ≤ b / k
div_mono a b k two le =
    let pos : 0 < k = omega (arith, two) in
    (le-div_iff_mul-le pos).1 (omega (arith, le, div-mul-le_self a k))

pub half : (n k : ℕ) → 2 ≤ k → 2 * (n / k) ≤ n
half n k two = omega (arith, mul-le-mul_right (n / k) two, mul_comm k (n / k), div-mul-le_self n k)

pub pow_some : (k h : ℕ) → 2 ≤ k → 0 < k ^ h
pow_some k zero two = subst (λ n. 0 < n) (sym (pow-zero k)) (omega arith)
pow_some k (suc h) two = subst (λ n. 0 < n) (sym (pow-suc k h)) (let le : 1 * k ≤ k ^ h * k = mul-le-mul_right k (let e : 1 ≤ k ^ h = omega (arith, pow_some k h two) in e) in omega (arith, le, two))

-- ---- where a node is due that is the first of its height

-- of the next height
pub top_above : (k m after : ℕ) → 2 ≤ k → IsTopDue k (m / k) (after / k) → IsTopDue k m after
top_above k m after two is =
    let pos : 0 < k = omega (arith, two) in (
      suc is.0,
      subst (λ n. m < n) (sym (pow-suc k (suc is.0))) ((div-lt_iff_lt-mul pos).0 is.1),
      subst (λ n. n ≤ after) (sym (pow-suc k (suc is.0))) ((le-div_iff_mul-le pos).0 is.2),
    )

one_height : (k : ℕ) → k ^ 1 ≡ k
one_height k = pow-suc k 0 ∙ ap (λ n. n * k) (pow-zero k) ∙ (let e : 1 * k ≡ k = omega arith in e)

-- of this height
pub top_here : (k m after : ℕ) → m < k → k ≤ after → IsTopDue k m after
top_here k m after lt le = (0, subst (λ n. m < n) (sym (one_height k)) lt, subst (λ n. n ≤ after) (sym (one_height k)) le)

pub top_below : (k m after : ℕ) → 2 ≤ k → k ≤ m → IsTopDue k m after → IsTopDue k (m / k) (after / k)
top_below k m after two far is = by is.0 is.1 is.2
  where
    pos : 0 < k
    pos = omega (arith, two)

    by : (h : ℕ) → m < k ^ suc h → k ^ suc h ≤ after → IsTopDue k (m / k) (after / k)
    by zero lt le = absurd (let l : m < k = subst (λ n. m < n) (one_height k) lt in omega (arith, l, far))
    by (suc h) lt le = (h, (div-lt_iff_lt-mul pos).1 (subst (λ n. m < n) (pow-suc k (suc h)) lt), (le-div_iff_mul-le pos).1 (subst (λ n. n ≤ after) (pow-suc k (suc h)) le))

-- a node of some height has a child at the least
pub top_there : (k m after : ℕ) → 2 ≤ k → IsTopDue k m after → k ≤ after
top_there k m after two is =
    let up : 1 * k ≤ k ^ is.0 * k = mul-le-mul_right k (let e : 1 ≤ k ^ is.0 = omega (arith, pow_some k is.0 two) in e) in
    omega (arith, up, subst (λ n. n ≤ after) (pow-suc k is.0) is.2)

-- the first node of a height is due at that height
pub top_at : (k m after h : ℕ) → 2 ≤ k → m / k ^ suc h ≡ 0 → 1 ≤ after / k ^ suc h → IsTopDue k m after
top_at k m after h two none some =
    let pos : 0 < k ^ suc h = pow_some k (suc h) two in
    let up : m < 1 * k ^ suc h = (div-lt_iff_lt-mul pos).0 (let lt : m / k ^ suc h < 1 = omega (arith, none) in lt) in
    let low : 1 * k ^ suc h ≤ after = (le-div_iff_mul-le pos).0 some in
    (h, omega (arith, up), omega (arith, low))

-- ---- height after height

pub due_in_time : (k turns h q end : ℕ) → q / k < end / k → in_time k (suc turns) h q end ≡ in_time k turns (suc h) (q / k) (end / k) ++ map (node_at h) (numbers (q / k * k + 1) (q - q / k * k))
due_in_time k turns h q end due = (λ i. cond (lt-ltb (q / k) (end / k) due i) (in_time k turns (suc h) (q / k) (end / k) ++ map (node_at h) (numbers (q / k * k + 1) (q - q / k * k))) [])

pub none_in_time : (k turns h q end : ℕ) → end / k ≤ q / k → in_time k turns h q end ≡ []
none_in_time k zero h q end le = refl
none_in_time k (suc turns) h q end le = (λ i. cond (le-ltb (q / k) (end / k) le i) (in_time k turns (suc h) (q / k) (end / k) ++ map (node_at h) (numbers (q / k * k + 1) (q - q / k * k))) [])

-- above the first node of a height none is older
pub none_above : (k turns h q end : ℕ) → q ≡ 0 → in_time k turns h q end ≡ []
none_above k zero h q end none = refl
none_above k (suc turns) h q end none =
    let zero_is : q / k ≡ 0 = ap (λ n. n / k) none ∙ zero-div k in
    (λ i. cond (nat_lt (q / k) (end / k)) (none_above k turns (suc h) (q / k) (end / k) zero_is i ++ map (node_at h) (numbers (q / k * k + 1) (let e : q - q / k * k ≡ 0 = omega (arith, none) in e i))) [])
    ∙ by (nat_lt (q / k) (end / k))
  where
    by : (b : Bool) → cond {A = List NodeId} b [] [] ≡ []
    by true = refl
    by false = refl

pub here_long : (k h q : ℕ) → length (map (node_at h) (numbers (q / k * k + 1) (q - q / k * k))) ≡ q - q / k * k
here_long k h q = length-map (numbers (q / k * k + 1) (q - q / k * k)) (node_at h) ∙ numbers_length (q / k * k + 1) (q - q / k * k)

-- ---- they are those of each height, the greatest first

pub older_there : (k m after h q end : ℕ) → q ≡ m / k ^ h → end ≡ after / k ^ h → q / k < end / k → older_at k m after (suc h) ≡ map (node_at h) (numbers (q / k * k + 1) (q - q / k * k))
older_there k m after h q end eq ee due =
    let low : m / k ^ suc h ≡ q / k = higher m k h ∙ ap (λ n. n / k) (sym eq) in
    let high : after / k ^ suc h ≡ end / k = higher after k h ∙ ap (λ n. n / k) (sym ee) in
    (λ i. map (node_at h) (numbers (low i * k + 1) (min (high i - low i) 1 * (sym eq i - low i * k))))
    ∙ ap (λ n. map (node_at h) (numbers (q / k * k + 1) n)) (let e : min (end / k - q / k) 1 * (q - q / k * k) ≡ q - q / k * k = ap (λ n. n * (q - q / k * k)) (let o : min (end / k - q / k) 1 ≡ 1 = omega (arith, due) in o) ∙ (let z : 1 * (q - q / k * k) ≡ q - q / k * k = omega arith in z) in e)

-- the last of them are those of the first height
first_last : {A : Type 0} (f : ℕ → List A) (a n : ℕ) → flat_map f (reverse (numbers a (suc n))) ≡ flat_map f (reverse (numbers (a + 1) n)) ++ f a
first_last f a n =
    ap (flat_map f) (reverse-append (a ∷ []) (numbers (a + 1) n)) ∙ flat_map-append f (reverse (numbers (a + 1) n)) (a ∷ []) ∙ ap (λ (l : List _). flat_map f (reverse (numbers (a + 1) n)) ++ l) (append-nil (f a))

split_older : (k m after h : ℕ) → 1 ≤ after - h → flat_map (older_at k m after) (reverse (numbers (suc h) (after - h))) ≡ flat_map (older_at k m after) (reverse (numbers (suc (suc h)) (after - suc h))) ++ older_at k m after (suc h)
split_older k m after h some =
    ap (λ c. flat_map (older_at k m after) (reverse (numbers (suc h) c))) (let e : after - h ≡ suc (after - h - 1) = omega (arith, some) in e) ∙ first_last (older_at k m after) (suc h) (after - h - 1)
    ∙ (λ i. flat_map (older_at k m after) (reverse (numbers (next i) (less i))) ++ older_at k m after (suc h))
  where
    next : suc h + 1 ≡ suc (suc h)
    next = omega arith

    less : after - h - 1 ≡ after - suc h
    less = omega arith

none_older : (k m after : ℕ) → 2 ≤ k → (n h : ℕ) → after / k ^ suc h ≤ m / k ^ suc h → flat_map (older_at k m after) (reverse (numbers (suc h) n)) ≡ []
none_older k m after two zero h le = refl
none_older k m after two (suc n) h le =
    let none : older_at k m after (suc h) ≡ [] = ap (λ c. map (node_at h) (numbers (m / k ^ suc h * k + 1) c))
    (ap (λ c. c * (m / k ^ h - m / k ^ suc h * k)) (let e : min (after / k ^ suc h - m / k ^ suc h) 1 ≡ 0 = omega (arith, le) in e) ∙ (let z : 0 * (m / k ^ h - m / k ^ suc h * k) ≡ 0 = omega arith in z)) in
    let up : after / k ^ suc (suc h) ≤ m / k ^ suc (suc h) = subst (λ x. x ≤ m / k ^ suc (suc h)) (sym (higher after k (suc h))) (subst (λ x. after / k ^ suc h / k ≤ x) (sym (higher m k (suc h))) (div_mono (after / k ^ suc h) (m / k ^ suc h) k two le)) in
    first_last (older_at k m after) (suc h) n
    ∙ (λ i. flat_map (older_at k m after) (reverse (numbers (let e : suc h + 1 ≡ suc (suc h) = omega arith in e i) n)) ++ none i) ∙ append-nil (flat_map (older_at k m after) (reverse (numbers (suc (suc h)) n))) ∙ none_older k m after two n (suc h) up

module _ (k m after h q end : ℕ) (two : 2 ≤ k) (eq : q ≡ m / k ^ h) (ee : end ≡ after / k ^ h) where
  low : m / k ^ suc h ≡ q / k
  low = higher m k h ∙ ap (λ n. n / k) (sym eq)

  high : after / k ^ suc h ≡ end / k
  high = higher after k h ∙ ap (λ n. n / k) (sym ee)

  -- where a node is due
  where_due : (turns : ℕ) → q / k < end / k → h + end ≤ after → in_time k turns (suc h) (q / k) (end / k) ≡ flat_map (older_at k m after) (reverse (numbers (suc (suc h)) (after - suc h)))
      → in_time k (suc turns) h q end ≡ flat_map (older_at k m after) (reverse (numbers (suc h) (after - h)))
  where_due turns due far later =
      due_in_time k turns h q end due ∙ (λ i. later i ++ sym (older_there k m after h q end eq ee due) i) ∙ sym (split_older k m after h (omega (arith, far, due, half end k two)))

  -- where none is
  where_none : (turns : ℕ) → end / k ≤ q / k → in_time k turns h q end ≡ flat_map (older_at k m after) (reverse (numbers (suc h) (after - h)))
  where_none turns le =
      none_in_time k turns h q end le ∙ sym (none_older k m after two (after - h) h (subst (λ x. x ≤ m / k ^ suc h) (sym high) (subst (λ x. end / k ≤ x) (sym low) le)))

in_time_is : (k m after : ℕ) → 2 ≤ k → (turns h q end : ℕ) → q ≡ m / k ^ h → end ≡ after / k ^ h → end ≤ turns → h + end ≤ after
    → in_time k turns h q end ≡ flat_map (older_at k m after) (reverse (numbers (suc h) (after - h)))
in_time_is k m after two zero h q end eq ee few far = where_none k m after h q end two eq ee zero (div_mono end q k two (omega (arith, few)))
in_time_is k m after two (suc turns) h q end eq ee few far =
    by (nat_lt (q / k) (end / k)) refl (λ due. where_due k m after h q end two eq ee turns due far
    (in_time_is k m after two turns (suc h) (q / k) (end / k) (sym (low k m after h q end two eq ee)) (sym (high k m after h q end two eq ee)) (omega (arith, few, half end k two, due)) (omega (arith, far, half end k two, due))))
  where
    by : (b : Bool) → nat_lt (q / k) (end / k) ≡ b → (q / k < end / k → in_time k (suc turns) h q end ≡ flat_map (older_at k m after) (reverse (numbers (suc h) (after - h))))
        → in_time k (suc turns) h q end ≡ flat_map (older_at k m after) (reverse (numbers (suc h) (after - h)))
    by true is due = due (ltb-true (q / k) (end / k) is)
    by false is due = where_none k m after h q end two eq ee (suc turns) (ltb-false (q / k) (end / k) is)

-- the older children of a batch in the order of time
pub older_in_time_is : (k m after : ℕ) → 2 ≤ k → older_in_time k m after ≡ flat_map (older_at k m after) (reverse (numbers 1 after))
older_in_time_is k m after two =
    in_time_is k m after two after 0 m after (sym (div_one m k)) (sym (div_one after k)) (omega arith) (omega arith)
    ∙ ap (λ n. flat_map (older_at k m after) (reverse (numbers 1 n))) (let e : after - 0 ≡ after = omega arith in e)

back_long : {A B : Type 0} (f : A → List B) (xs : List A) → length (flat_map f (reverse xs)) ≡ length (flat_map f xs)
back_long f [] = refl
back_long f (x ∷ xs) =
    omega (
      arith,
      ap (λ (l : List _). length (flat_map f l)) (reverse-append (x ∷ []) xs),
      ap (λ (l : List _). length l) (flat_map-append f (reverse xs) (x ∷ [])),
      length-append (flat_map f (reverse xs)) (f x ++ []),
      ap (λ (l : List _). length l) (append-nil (f x)),
      back_long f xs,
      length-append (f x) (flat_map f xs),
    )

-- they are as many as by height and number
pub older_in_time_long : (k m after : ℕ) → 2 ≤ k → length (older_in_time k m after) ≡ length (older k m after)
older_in_time_long k m after two = ap (λ (l : List NodeId). length l) (older_in_time_is k m after two) ∙ back_long (older_at k m after) (numbers 1 after)
