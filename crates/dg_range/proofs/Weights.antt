-- The bytes of asked columns: of each list, and how many they are at the most.
use Rattle.std.proofs.Common.{◌≡◌, ℕ, zero, suc, ◌+◌, ◌-◌, ◌==◌, ◌<◌, ◌≤◌, Bool, true, false, cond, List as ListOf, [], ◌∷◌, Option, Some, refl, ap, ◌∙◌, arith}
use Rattle.std.specs.List.{sum_by}
use Rattle.std.specs.Map.{lookup}
use Rattle.std.proofs.lemmas.Bool.{eqb-true}
use Rattle.std.proofs.lemmas.List.Sums.{sum_by-cons}
use Rattle.dg_graph.specs.declared.element.Columns.{Columns}
use Rattle.dg_history.specs.declared.node.Key.{Key}
use Rattle.dg_history.specs.declared.node.Key.TheVariants as key
use Rattle.dg_history.specs.Keys.{same_key}
use Rattle.dg_index.specs.declared.entry.Entry.{Entry}
use Rattle.dg_index.specs.Hierarchy.{numbers}
use Rattle.dg_index.specs.IndexGrowth.{columns_in}
use Rattle.dg_index.specs.OpenedIndex.{Opening, total}
use Rattle.dg_range.specs.Weights.{asked_bytes, bytes_if, list_bytes}

under : (b : Bool) (n : ℕ) → cond b n 0 ≤ n
under true n = omega arith
under false n = omega arith

-- the asked columns are some of all
pub asked_under : (cols : Columns) (e : Entry) → asked_bytes cols e ≤ total e.lengths
asked_under cols e =
    let a = under cols.nodes_attr e.lengths.node_attrs in
    let b = under cols.edges_attr e.lengths.edge_attrs in
    let c = under cols.transient e.lengths.transient in
    omega arith

-- of numbers in a row one at most is this one
past : (weight m first n : ℕ) → m < first → sum_by (λ i. cond (i == m) weight 0) (numbers first n) ≡ 0
past weight m first zero before = refl
past weight m first (suc n) before =
    sum_by-cons (λ i. cond (i == m) weight 0) first (numbers (first + 1) n)
    ∙ (let a : cond (first == m) weight 0 ≡ 0 = apart (first == m) refl in let b = past weight m (first + 1) n (omega arith) in omega arith)
  where
    apart : (b : Bool) → (first == m) ≡ b → cond b weight 0 ≡ 0
    apart true e = absurd (let h = eqb-true first m e in omega arith)
    apart false e = refl

once : (weight m first n : ℕ) → sum_by (λ i. cond (i == m) weight 0) (numbers first n) ≤ weight
once weight m first zero = omega arith
once weight m first (suc n) = by (first == m) refl (once weight m (first + 1) n)
  where
    parts : sum_by (λ i. cond (i == m) weight 0) (numbers first (suc n)) ≡ cond (first == m) weight 0 + sum_by (λ i. cond (i == m) weight 0) (numbers (first + 1) n)
    parts = sum_by-cons (λ i. cond (i == m) weight 0) first (numbers (first + 1) n)

    by : (b : Bool) → (first == m) ≡ b → sum_by (λ i. cond (i == m) weight 0) (numbers (first + 1) n) ≤ weight → sum_by (λ i. cond (i == m) weight 0) (numbers first (suc n)) ≤ weight
    by true e later =
        let here : cond (first == m) weight 0 ≡ weight = ap (λ b. cond b weight 0) e in
        let rest = past weight m (first + 1) n (let h = eqb-true first m e in omega arith) in
        let s = parts in
        omega arith
    by false e later =
        let here : cond (first == m) weight 0 ≡ 0 = ap (λ b. cond b weight 0) e in
        let s = parts in
        omega arith

nothing : (first n : ℕ) → sum_by (λ i. 0) (numbers first n) ≡ 0
nothing first zero = refl
nothing first (suc n) = let a = sum_by-cons (λ i. 0) first (numbers (first + 1) n) in let b = nothing (first + 1) n in omega arith

of_one_key : (k : Key) (weight first n : ℕ) → sum_by (λ i. cond (same_key (key.List i) k) weight 0) (numbers first n) ≤ weight
of_one_key (key.List m) weight first n = once weight m first n
of_one_key (key.Piece s) weight first n = let z = nothing first n in omega arith
of_one_key (key.Top h) weight first n = let z = nothing first n in omega arith
of_one_key (key.Down h c) weight first n = let z = nothing first n in omega arith

-- sums of what is at most a sum
sum_under : (f g h : ℕ → ℕ) → ((i : ℕ) → f i ≤ g i + h i) → (xs : ListOf ℕ) → sum_by f xs ≤ sum_by g xs + sum_by h xs
sum_under f g h each [] = omega arith
sum_under f g h each (x ∷ xs) =
    let a = sum_by-cons f x xs in
    let b = sum_by-cons g x xs in
    let c = sum_by-cons h x xs in
    let e = each x in
    let r = sum_under f g h each xs in
    omega arith

-- what is found first is the first record, or in the others
one_or_rest : (cols : Columns) (b : Bool) (e : Entry) (x : Option Entry) → bytes_if cols (cond b (Some e) x) ≤ cond b (total e.lengths) 0 + bytes_if cols x
one_or_rest cols true e x = let h = asked_under cols e in omega arith
one_or_rest cols false e x = omega arith

among : (cols : Columns) (es : ListOf (Key × Entry)) (first n : ℕ) → sum_by (λ i. bytes_if cols (lookup (same_key (key.List i)) es)) (numbers first n) ≤ columns_in es
among cols [] first n = let z = nothing first n in omega arith
among cols (x ∷ es) first n =
    let split = sum_under (λ i. bytes_if cols (lookup (same_key (key.List i)) (x ∷ es))) (λ i. cond (same_key (key.List i) x.0) (total x.1.lengths) 0) (λ i. bytes_if cols (lookup (same_key (key.List i)) es))
    (λ i. one_or_rest cols (same_key (key.List i) x.0) x.1 (lookup (same_key (key.List i)) es)) (numbers first n) in
    let one = of_one_key x.0 (total x.1.lengths) first n in
    let rest = among cols es first n in
    let parts = sum_by-cons (λ (r : Key × Entry). total r.1.lengths) x es in
    omega arith

pub lists_within : (o : Opening) (cols : Columns) (first n : ℕ) → sum_by (list_bytes o cols) (numbers first n) ≤ columns_in o.records
lists_within o cols first n = among cols o.records first n

-- the first list of those that are left, and the others
pub next_list : (o : Opening) (cols : Columns) (at high : ℕ) → at < high
    → sum_by (list_bytes o cols) (numbers at (high - at)) ≡ list_bytes o cols at + sum_by (list_bytes o cols) (numbers (at + 1) (high - (at + 1)))
next_list o cols at high lt =
    let left : high - at ≡ suc (high - (at + 1)) = omega arith in
    ap (λ n. sum_by (list_bytes o cols) (numbers at n)) left
    ∙ sum_by-cons (list_bytes o cols) at (numbers (at + 1) (high - (at + 1)))

pub no_list : (o : Opening) (cols : Columns) (at high : ℕ) → high ≤ at → sum_by (list_bytes o cols) (numbers at (high - at)) ≡ 0
no_list o cols at high le =
    let left : high - at ≡ zero = omega arith in
    ap (λ n. sum_by (list_bytes o cols) (numbers at n)) left

-- each record is among all
pub one_within : (k : Key) (es : ListOf (Key × Entry)) (e : Entry) → lookup (same_key k) es ≡ Some e → total e.lengths ≤ columns_in es
one_within k [] e is = absurd cc
one_within k (x ∷ es) e is = by (same_key k x.0) is (one_within k es e)
  where
    by : (b : Bool) → cond b (Some x.1) (lookup (same_key k) es) ≡ Some e → (lookup (same_key k) es ≡ Some e → total e.lengths ≤ columns_in es) → total e.lengths ≤ columns_in (x ∷ es)
    by true h rest =
        let same : x.1 ≡ e = cc in
        let long = ap (λ (y : Entry). total y.lengths) same in
        let parts = sum_by-cons (λ (r : Key × Entry). total r.1.lengths) x es in
        omega arith
    by false h rest =
        let less = rest h in
        let parts = sum_by-cons (λ (r : Key × Entry). total r.1.lengths) x es in
        omega arith
