-- Which numbers a list has.
use Rattle.std.proofs.Common.{arith, ◌≡◌, ℕ, zero, suc, ◌+◌, ◌≤◌, ◌<◌, true, false, ◌||◌, eqb, List, [], ◌∷◌, ◌++◌, length, map, take, drop, get_or, length-append, refl, sym, ap, ◌∙◌, subst, ◌⊎◌, inl, inr}
use Rattle.std.specs.List.{All}
use Rattle.std.proofs.lemmas.Bool.{eq-eqb, eqb-true, ne_eqb, or_cases, or_from, or_left, or_parts, or_right, both_ways}
use Rattle.std.proofs.lemmas.List.{drop_more}
use Rattle.std.proofs.lemmas.List.Folds.{list_any-append, list_any_at}
use Rattle.std.proofs.Math.ListN.{take-append-drop}
use Rattle.std.proofs.Math.Bool.{or-false}
use Rattle.dg_graph.proofs.Sets.{or_swap}
use Rattle.dg_pool.specs.Changes.{AreDistinct}
use Rattle.dg_pool.specs.Graphs.{is_listed}

pub listed-append : (xs ys : List ℕ) (s : ℕ) → is_listed (xs ++ ys) s ≡ (is_listed xs s || is_listed ys s)
listed-append xs ys s = list_any-append (λ n. eqb n s) xs ys

pub listed_push : (xs : List ℕ) (k s : ℕ) → is_listed (xs ++ k ∷ []) s ≡ (is_listed xs s || eqb k s)
listed_push xs k s = listed-append xs (k ∷ []) s ∙ ap (λ t. is_listed xs s || t) (or-false (eqb k s))

-- a number in the middle
pub listed_middle : (xs : List ℕ) (k : ℕ) (ys : List ℕ) (s : ℕ) → is_listed (xs ++ k ∷ ys) s ≡ (eqb k s || is_listed (xs ++ ys) s)
listed_middle xs k ys s =
    listed-append xs (k ∷ ys) s ∙ or_swap (is_listed xs s) (eqb k s) (is_listed ys s)
    ∙ ap (λ t. eqb k s || t) (sym (listed-append xs ys s))

pub listed_past : (xs : List ℕ) (k : ℕ) (ys : List ℕ) (s : ℕ) → (s ≡ k → ⊥) → is_listed (xs ++ k ∷ ys) s ≡ is_listed (xs ++ ys) s
listed_past xs k ys s differ =
    listed_middle xs k ys s ∙ ap (λ t. t || is_listed (xs ++ ys) s) (ne_eqb k s (λ same. differ (sym same)))

pub listed_at : (xs : List ℕ) (i d : ℕ) → i < length xs → is_listed xs (get_or xs i d) ≡ true
listed_at xs i d within = list_any_at (λ n. eqb n (get_or xs i d)) xs i d within (eq-eqb (get_or xs i d) (get_or xs i d) refl)

pub entry_index_in : (xs : List ℕ) (s : ℕ) → is_listed xs s ≡ true → (k : ℕ) × (k < length xs) × (get_or xs k 0 ≡ s)
entry_index_in [] s e = cc
entry_index_in (x ∷ xs) s e = at (or_cases (eqb x s) (is_listed xs s) e) (entry_index_in xs s)
  where
    at : (eqb x s ≡ true) ⊎ (is_listed xs s ≡ true) → (is_listed xs s ≡ true → (k : ℕ) × (k < length xs) × (get_or xs k 0 ≡ s)) → (k : ℕ) × (k < length (x ∷ xs)) × (get_or (x ∷ xs) k 0 ≡ s)
    at (inl f) rest = (0, omega arith, eqb-true x s f)
    at (inr f) rest = let r = rest f in (suc r.0, omega (arith, r.1), r.2)

pub split_at : (xs : List ℕ) (s : ℕ) → is_listed xs s ≡ true → (front : List ℕ) × (back : List ℕ) × (xs ≡ front ++ s ∷ back)
split_at [] s e = cc
split_at (x ∷ xs) s e = at (or_cases (eqb x s) (is_listed xs s) e) (split_at xs s)
  where
    at : (eqb x s ≡ true) ⊎ (is_listed xs s ≡ true) → (is_listed xs s ≡ true → (front : List ℕ) × (back : List ℕ) × (xs ≡ front ++ s ∷ back)) → (front : List ℕ) × (back : List ℕ) × (x ∷ xs ≡ front ++ s ∷ back)
    at (inl f) rest = ([], xs, ap (λ k. k ∷ xs) (eqb-true x s f))
    at (inr f) rest = let r = rest f in (x ∷ r.0, r.1, ap (λ l. x ∷ l) r.2)

-- a list that has all numbers from 1 on to this one has no fewer
pub many_listed : (n : ℕ) (xs : List ℕ) → ((s : ℕ) → 1 ≤ s → s ≤ n → is_listed xs s ≡ true) → n ≤ length xs
many_listed zero xs all = omega arith
many_listed (suc n) xs all =
    let split = split_at xs (suc n) (all (suc n) (omega arith) (omega arith)) in
    let rest = many_listed n (split.0 ++ split.1)
    (λ s low high. sym (listed_past split.0 (suc n) split.1 s (omega (arith, high))) ∙ ap (λ l. is_listed l s) (sym split.2) ∙ all s low (omega (arith, high))) in
    omega (arith, rest, ap length split.2, length-append split.0 (suc n ∷ split.1), length-append split.0 split.1)

-- ---- distinct numbers

pub distinct-append : (xs ys : List ℕ) → AreDistinct xs → AreDistinct ys → ((s : ℕ) → is_listed xs s ≡ true → is_listed ys s ≡ false) → AreDistinct (xs ++ ys)
distinct-append [] ys h g apart = g
distinct-append (x ∷ xs) ys h g apart = (
  listed-append xs ys x ∙ or_from (is_listed xs x) (is_listed ys x) h.0 (apart x (or_left (eqb x x) (is_listed xs x) (eq-eqb x x refl))),
  distinct-append xs ys h.1 g (λ s in'. apart s (or_right (eqb x s) (is_listed xs s) in')),
)

pub distinct_middle : (xs : List ℕ) (k : ℕ) (ys : List ℕ) → AreDistinct (xs ++ k ∷ ys) → (is_listed (xs ++ ys) k ≡ false) × AreDistinct (xs ++ ys)
distinct_middle [] k ys h = h
distinct_middle (x ∷ xs) k ys h =
    let rest = distinct_middle xs k ys h.1 in
    let parts = or_parts (eqb k x) (is_listed (xs ++ ys) x) (sym (listed_middle xs k ys x) ∙ h.0) in (
      or_from (eqb x k) (is_listed (xs ++ ys) k) (ne_eqb x k (λ same. both_ways (eqb k x) parts.0 (eq-eqb k x (sym same)))) rest.0,
      (parts.1, rest.1),
    )

pub distinct_before : (xs : List ℕ) (i d : ℕ) → AreDistinct xs → i < length xs → is_listed (take i xs) (get_or xs i d) ≡ false
distinct_before xs i d h within =
    let k : ℕ = get_or xs i d in
    let whole : xs ≡ take i xs ++ k ∷ drop (i + 1) xs = sym (take-append-drop i xs) ∙ ap (λ l. take i xs ++ l) (drop_more xs i d within) in
    (or_parts (is_listed (take i xs) k) (is_listed (drop (i + 1) xs) k)
    (sym (listed-append (take i xs) (drop (i + 1) xs) k) ∙ (distinct_middle (take i xs) k (drop (i + 1) xs) (subst AreDistinct whole h)).0)).0

-- ---- facts of each number

pub each_listed : (P : ℕ → Type 0) (xs : List ℕ) → All P xs → (s : ℕ) → is_listed xs s ≡ true → P s
each_listed P xs all s in' = let k = entry_index_in xs s in' in subst P k.2 (all k.0 0 k.1)

pub all_listed : (P : ℕ → Type 0) (xs : List ℕ) → ((s : ℕ) → is_listed xs s ≡ true → P s) → All P xs
all_listed P xs each = λ k d within. each (get_or xs k d) (listed_at xs k d within)

pub map_same : {X : Type 0} (f g : ℕ → X) (xs : List ℕ) → ((s : ℕ) → is_listed xs s ≡ true → f s ≡ g s) → map f xs ≡ map g xs
map_same f g [] same = refl
map_same f g (x ∷ xs) same =
    let first = same x (or_left (eqb x x) (is_listed xs x) (eq-eqb x x refl)) in
    let rest = map_same f g xs (λ s in'. same s (or_right (eqb x s) (is_listed xs s) in')) in
    λ i. first i ∷ rest i
