-- The bytes of the lists that are heard: so far, and of the rest.
use Rattle.std.proofs.Common.{◌≡◌, ℕ, zero, suc, ◌+◌, ◌-◌, ◌==◌, ◌<◌, ◌≤◌, Bool, true, false, not, cond, List as ListOf, [], ◌∷◌, map, Option, Some, refl, ap, ◌∙◌, arith}
use Rattle.std.specs.List.{filter, sum, sum_by}
use Rattle.std.specs.Map.{lookup}
use Rattle.std.proofs.lemmas.Bool.{eqb-true, eqb-false}
use Rattle.std.proofs.lemmas.List.Filters.{sum_by-filter_both}
use Rattle.std.proofs.lemmas.List.Sums.{sum-map, sum_by-cons}
use Rattle.dg_catalogue.specs.Entries.{column_length_in}
use Rattle.dg_graph.specs.declared.element.Column.TheVariants.{Transient}
use Rattle.dg_history.specs.declared.node.Key.{Key}
use Rattle.dg_history.specs.declared.node.Key.TheVariants as key
use Rattle.dg_history.specs.Keys.{same_key}
use Rattle.dg_index.specs.declared.entry.Entry.{Entry}
use Rattle.dg_index.specs.Hierarchy.{numbers}
use Rattle.dg_index.specs.IndexGrowth.{columns_in}
use Rattle.dg_index.specs.OpenedIndex.{Opening, entry_at, entry_or_none, total}
use Rattle.dg_heard.specs.Heard.{heard_bytes, is_heard, list_total}

-- ---- the numbers that pass, from one on

none_pass : (p : ℕ → Bool) (from n : ℕ) → ((k : ℕ) → from ≤ k → k < from + n → p k ≡ false) → filter p (numbers from n) ≡ []
none_pass p from zero none = refl
none_pass p from (suc n) none =
    ap (λ b. cond b (from ∷ filter p (numbers (from + 1) n)) (filter p (numbers (from + 1) n))) (none from (omega arith) (omega arith))
    ∙ none_pass p (from + 1) n (λ k low high. none k (omega arith) (omega arith))

next_passes : (p : ℕ → Bool) (from n i rest : ℕ) → from ≤ i → i + 1 + rest ≡ from + n → p i ≡ true → ((k : ℕ) → from ≤ k → k < i → p k ≡ false) → filter p (numbers from n) ≡ i ∷ filter p (numbers (i + 1) rest)
next_passes p from zero i rest low is pass none = absurd (omega arith)
next_passes p from (suc n) i rest low is pass none = by (from == i) refl (λ later. next_passes p (from + 1) n i rest later (omega arith) pass (λ k below above. none k (omega arith) above))
  where
    by : (b : Bool) → (from == i) ≡ b → (from + 1 ≤ i → filter p (numbers (from + 1) n) ≡ i ∷ filter p (numbers (i + 1) rest)) → filter p (numbers from (suc n)) ≡ i ∷ filter p (numbers (i + 1) rest)
    by true e others =
        let here : from ≡ i = eqb-true from i e in
        let left : n ≡ rest = omega arith in
        ap (λ b. cond b (from ∷ filter p (numbers (from + 1) n)) (filter p (numbers (from + 1) n))) (ap p here ∙ pass)
        ∙ ap (λ m. m ∷ filter p (numbers (m + 1) n)) here
        ∙ ap (λ m. i ∷ filter p (numbers (i + 1) m)) left
    by false e others =
        let apart = eqb-false from i e in
        let later : from + 1 ≤ i = omega arith in
        ap (λ b. cond b (from ∷ filter p (numbers (from + 1) n)) (filter p (numbers (from + 1) n))) (none from (omega arith) (omega arith))
        ∙ others later

-- ---- the bytes

-- the bytes of the column of messages of a list
abbrev pub bytes_at : Opening → ℕ → ℕ
bytes_at o i = column_length_in (entry_at o (key.List i)) Transient

-- the bytes of the lists that are heard, from this number on
abbrev pub bytes_from : Opening → ListOf ℕ → ℕ → ℕ
bytes_from o times from = sum (map (bytes_at o) (filter (is_heard o times) (numbers from (list_total o - from))))

pub no_bytes : (o : Opening) (times : ListOf ℕ) (from : ℕ) → from ≤ list_total o → ((k : ℕ) → from ≤ k → k < list_total o → is_heard o times k ≡ false) → bytes_from o times from ≡ 0
no_bytes o times from low none = ap (λ lists. sum (map (bytes_at o) lists)) (none_pass (is_heard o times) from (list_total o - from) (λ k below above. none k below (omega arith)))

pub next_bytes : (o : Opening) (times : ListOf ℕ) (from i : ℕ) → from ≤ i → i < list_total o → is_heard o times i ≡ true → ((k : ℕ) → from ≤ k → k < i → is_heard o times k ≡ false)
    → bytes_from o times from ≡ bytes_at o i + bytes_from o times (i + 1)
next_bytes o times from i low high heard none =
    ap (λ lists. sum (map (bytes_at o) lists)) (next_passes (is_heard o times) from (list_total o - from) i (list_total o - (i + 1)) low (omega arith) heard none)
    ∙ sum_by-cons (λ n. n) (bytes_at o i) (map (bytes_at o) (filter (is_heard o times) (numbers (i + 1) (list_total o - (i + 1)))))

-- ---- and how many they are at the most

abbrev held_bytes : Option Entry → ℕ
held_bytes x = column_length_in (entry_or_none x) Transient

-- of numbers in a row one at most is this one
past : (weight m first n : ℕ) → m < first → sum_by (λ i. cond (i == m) weight 0) (numbers first n) ≡ 0
past weight m first zero before = refl
past weight m first (suc n) before =
    sum_by-cons (λ i. cond (i == m) weight 0) first (numbers (first + 1) n)
    ∙ (let a : cond (first == m) weight 0 ≡ 0 = apart (first == m) refl in let b = past weight m (first + 1) n (omega arith) in omega arith)
  where
    apart : (b : Bool) → (first == m) ≡ b → cond b weight 0 ≡ 0
    apart true e = absurd (let h = eqb-true first m e in omega arith)
    apart false e = refl

once : (weight m first n : ℕ) → sum_by (λ i. cond (i == m) weight 0) (numbers first n) ≤ weight
once weight m first zero = omega arith
once weight m first (suc n) = by (first == m) refl (once weight m (first + 1) n)
  where
    parts : sum_by (λ i. cond (i == m) weight 0) (numbers first (suc n)) ≡ cond (first == m) weight 0 + sum_by (λ i. cond (i == m) weight 0) (numbers (first + 1) n)
    parts = sum_by-cons (λ i. cond (i == m) weight 0) first (numbers (first + 1) n)

    by : (b : Bool) → (first == m) ≡ b → sum_by (λ i. cond (i == m) weight 0) (numbers (first + 1) n) ≤ weight → sum_by (λ i. cond (i == m) weight 0) (numbers first (suc n)) ≤ weight
    by true e later =
        let here : cond (first == m) weight 0 ≡ weight = ap (λ b. cond b weight 0) e in
        let rest = past weight m (first + 1) n (let h = eqb-true first m e in omega arith) in
        let s = parts in
        omega arith
    by false e later =
        let here : cond (first == m) weight 0 ≡ 0 = ap (λ b. cond b weight 0) e in
        let s = parts in
        omega arith

nothing : (first n : ℕ) → sum_by (λ i. 0) (numbers first n) ≡ 0
nothing first zero = refl
nothing first (suc n) = let a = sum_by-cons (λ i. 0) first (numbers (first + 1) n) in let b = nothing (first + 1) n in omega arith

of_one_key : (k : Key) (weight first n : ℕ) → sum_by (λ i. cond (same_key (key.List i) k) weight 0) (numbers first n) ≤ weight
of_one_key (key.List m) weight first n = once weight m first n
of_one_key (key.Piece s) weight first n = let z = nothing first n in omega arith
of_one_key (key.Top h) weight first n = let z = nothing first n in omega arith
of_one_key (key.Down h c) weight first n = let z = nothing first n in omega arith

-- sums of what is at most a sum
sum_under : (f g h : ℕ → ℕ) → ((i : ℕ) → f i ≤ g i + h i) → (xs : ListOf ℕ) → sum_by f xs ≤ sum_by g xs + sum_by h xs
sum_under f g h each [] = omega arith
sum_under f g h each (x ∷ xs) =
    let a = sum_by-cons f x xs in
    let b = sum_by-cons g x xs in
    let c = sum_by-cons h x xs in
    let e = each x in
    let r = sum_under f g h each xs in
    omega arith

-- what is found first is the first record, or in the others
one_or_rest : (b : Bool) (e : Entry) (x : Option Entry) → held_bytes (cond b (Some e) x) ≤ cond b (column_length_in e Transient) 0 + held_bytes x
one_or_rest true e x = omega arith
one_or_rest false e x = omega arith

lists_among : (es : ListOf (Key × Entry)) (first n : ℕ) → sum_by (λ i. held_bytes (lookup (same_key (key.List i)) es)) (numbers first n) ≤ columns_in es
lists_among [] first n = let z = nothing first n in omega arith
lists_among (x ∷ es) first n =
    let split = sum_under (λ i. held_bytes (lookup (same_key (key.List i)) (x ∷ es))) (λ i. cond (same_key (key.List i) x.0) (column_length_in x.1 Transient) 0) (λ i. held_bytes (lookup (same_key (key.List i)) es))
    (λ i. one_or_rest (same_key (key.List i) x.0) x.1 (lookup (same_key (key.List i)) es)) (numbers first n) in
    let one = of_one_key x.0 (column_length_in x.1 Transient) first n in
    let rest = lists_among es first n in
    let parts = sum_by-cons (λ (r : Key × Entry). total r.1.lengths) x es in
    omega arith

-- the bytes that are heard are among those of all columns
pub bytes_within : (o : Opening) (times : ListOf ℕ) → heard_bytes o times ≤ columns_in o.records
bytes_within o times =
    let heard : ℕ → Bool = is_heard o times in
    let all : ListOf ℕ = numbers 0 (list_total o) in
    let parts = sum_by-filter_both heard (λ i. not (heard i)) (λ i. refl) (bytes_at o) all in
    let flat = sum-map (bytes_at o) (filter heard all) in
    let most : sum_by (bytes_at o) all ≤ columns_in o.records = lists_among o.records 0 (list_total o) in
    omega arith
