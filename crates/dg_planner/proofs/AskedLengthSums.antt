-- What the asked columns of the records of a catalogue weigh together.
use Rattle.std.proofs.Common.{◌≡◌, ℕ, zero, suc, ◌+◌, ◌==◌, ◌≤◌, ◌<◌, Bool, true, false, cond, List as ListOf, [], ◌∷◌, Option, Some, None, refl, ap, ◌∙◌, arith}
use Rattle.std.specs.Prelude.{if◌then◌else◌, unwrap_or}
use Rattle.std.specs.List.{sum_by}
use Rattle.std.specs.Option.{option_map}
use Rattle.std.specs.Map.{lookup}
use Rattle.std.proofs.lemmas.Bool.{eqb-true}
use Rattle.std.proofs.lemmas.List.Sums.{sum_by-cons}
use Rattle.dg_graph.specs.declared.element.Columns.{Columns}
use Rattle.dg_history.specs.declared.node.Key.{Key}
use Rattle.dg_history.specs.declared.node.Key.TheVariants as key
use Rattle.dg_history.specs.Keys.{same_key}
use Rattle.dg_index.specs.declared.entry.Entry.{Entry}
use Rattle.dg_index.specs.Hierarchy.{numbers}
use Rattle.dg_index.specs.IndexGrowth.{columns_in}
use Rattle.dg_index.specs.OpenedIndex.{total}
use Rattle.dg_plan.specs.IndexGraph.{lists_before}
use Rattle.dg_catalogue.specs.Entries.{Holdings, column_length_in}
use Rattle.dg_planner.specs.AskedLengths.{asked_of, asked_in, asked_length_of}

-- the asked columns of what is held, if anything is
abbrev pub asked_or_none : Columns → Option Entry → ℕ
asked_or_none cols o = asked_of cols (λ col. unwrap_or (option_map (λ e. column_length_in e col) o) 0)

pub none_asked : (cols : Columns) → asked_or_none cols None ≡ 0
none_asked cols = by cols.nodes_attr cols.edges_attr
  where
    by : (n e : Bool) → 0 + ((if n then 0 else 0) + (if e then 0 else 0)) ≡ 0
    by true true = omega arith
    by true false = omega arith
    by false true = omega arith
    by false false = omega arith

pub asked_within : (e : Entry) (cols : Columns) → asked_in e cols ≤ total e.lengths
asked_within e cols = by cols.nodes_attr cols.edges_attr
  where
    by : (n m : Bool) → asked_in e (record { nodes_attr = n; edges_attr = m; transient = cols.transient }) ≤ total e.lengths
    by true true = omega arith
    by true false = omega arith
    by false true = omega arith
    by false false = omega arith

-- ---- one record

-- what is found first is the first record, or in the others
one_or_rest : (cols : Columns) (b : Bool) (e : Entry) (o : Option Entry) → asked_or_none cols (cond b (Some e) o) ≤ cond b (asked_in e cols) 0 + asked_or_none cols o
one_or_rest cols true e o = omega arith
one_or_rest cols false e o = omega arith

held_within : (cols : Columns) (test : Key → Bool) (es : ListOf (Key × Entry)) → asked_or_none cols (lookup test es) ≤ columns_in es
held_within cols test [] = let z = none_asked cols in omega arith
held_within cols test (x ∷ es) =
    let first = one_or_rest cols (test x.0) x.1 (lookup test es) in
    let rest = held_within cols test es in
    let sum = sum_by-cons (λ (r : Key × Entry). total r.1.lengths) x es in
    let here = asked_within x.1 cols in
    let low = part (test x.0) (asked_in x.1 cols) in
    omega arith
  where
    part : (b : Bool) (n : ℕ) → cond b n 0 ≤ n
    part true n = omega arith
    part false n = omega arith

-- a record's asked columns are among all columns
pub one_within : (c : Holdings) (cols : Columns) (k : Key) (most : ℕ) → columns_in c.entries ≤ most → asked_length_of c cols k ≤ most
one_within c cols k most fits = let h : asked_length_of c cols k ≤ columns_in c.entries = held_within cols (same_key k) c.entries in omega arith

-- ---- all lists

-- of numbers in a row one at most is this one
past : (weight m first n : ℕ) → m < first → sum_by (λ i. cond (i == m) weight 0) (numbers first n) ≡ 0
past weight m first zero before = refl
past weight m first (suc n) before =
    sum_by-cons (λ i. cond (i == m) weight 0) first (numbers (first + 1) n)
    ∙ (let a : cond (first == m) weight 0 ≡ 0 = apart (first == m) refl in let b = past weight m (first + 1) n (omega arith) in omega arith)
  where
    apart : (b : Bool) → (first == m) ≡ b → cond b weight 0 ≡ 0
    apart true e = absurd (let h = eqb-true first m e in omega arith)
    apart false e = refl

once : (weight m first n : ℕ) → sum_by (λ i. cond (i == m) weight 0) (numbers first n) ≤ weight
once weight m first zero = omega arith
once weight m first (suc n) = by (first == m) refl (once weight m (first + 1) n)
  where
    sum : sum_by (λ i. cond (i == m) weight 0) (numbers first (suc n)) ≡ cond (first == m) weight 0 + sum_by (λ i. cond (i == m) weight 0) (numbers (first + 1) n)
    sum = sum_by-cons (λ i. cond (i == m) weight 0) first (numbers (first + 1) n)

    by : (b : Bool) → (first == m) ≡ b → sum_by (λ i. cond (i == m) weight 0) (numbers (first + 1) n) ≤ weight → sum_by (λ i. cond (i == m) weight 0) (numbers first (suc n)) ≤ weight
    by true e later =
        let here : cond (first == m) weight 0 ≡ weight = ap (λ b. cond b weight 0) e in
        let rest = past weight m (first + 1) n (let h = eqb-true first m e in omega arith) in
        let s = sum in
        omega arith
    by false e later =
        let here : cond (first == m) weight 0 ≡ 0 = ap (λ b. cond b weight 0) e in
        let s = sum in
        omega arith

none_of : (weight first n : ℕ) → sum_by (λ i. cond false weight 0) (numbers first n) ≡ 0
none_of weight first zero = refl
none_of weight first (suc n) = sum_by-cons (λ i. cond false weight 0) first (numbers (first + 1) n) ∙ (let r = none_of weight (first + 1) n in omega arith)

lists_of_one : (k : Key) (weight first n : ℕ) → sum_by (λ i. cond (same_key (key.List i) k) weight 0) (numbers first n) ≤ weight
lists_of_one (key.List m) weight first n = once weight m first n
lists_of_one (key.Piece s) weight first n = let z = none_of weight first n in omega arith
lists_of_one (key.Top h) weight first n = let z = none_of weight first n in omega arith
lists_of_one (key.Down h c) weight first n = let z = none_of weight first n in omega arith

-- sums of what is at most a sum
sum_under : (f g h : ℕ → ℕ) → ((i : ℕ) → f i ≤ g i + h i) → (first n : ℕ) → sum_by f (numbers first n) ≤ sum_by g (numbers first n) + sum_by h (numbers first n)
sum_under f g h each first zero = omega arith
sum_under f g h each first (suc n) =
    let a = sum_by-cons f first (numbers (first + 1) n) in
    let b = sum_by-cons g first (numbers (first + 1) n) in
    let c = sum_by-cons h first (numbers (first + 1) n) in
    let e = each first in
    let r = sum_under f g h each (first + 1) n in
    omega arith

none_held : (cols : Columns) (first n : ℕ) → sum_by (λ i. asked_or_none cols None) (numbers first n) ≡ 0
none_held cols first zero = refl
none_held cols first (suc n) = sum_by-cons (λ i. asked_or_none cols None) first (numbers (first + 1) n) ∙ (let z = none_asked cols in let r = none_held cols (first + 1) n in omega arith)

lists_among : (cols : Columns) (es : ListOf (Key × Entry)) (first n : ℕ) → sum_by (λ i. asked_or_none cols (lookup (same_key (key.List i)) es)) (numbers first n) ≤ columns_in es
lists_among cols [] first n = let z = none_held cols first n in omega arith
lists_among cols (x ∷ es) first n =
    let split = sum_under (λ i. asked_or_none cols (lookup (same_key (key.List i)) (x ∷ es))) (λ i. cond (same_key (key.List i) x.0) (asked_in x.1 cols) 0) (λ i. asked_or_none cols (lookup (same_key (key.List i)) es))
    (λ i. one_or_rest cols (same_key (key.List i) x.0) x.1 (lookup (same_key (key.List i)) es)) first n in
    let one = lists_of_one x.0 (asked_in x.1 cols) first n in
    let rest = lists_among cols es first n in
    let sum = sum_by-cons (λ (r : Key × Entry). total r.1.lengths) x es in
    let here = asked_within x.1 cols in
    omega arith

-- the asked columns of all lists before a leaf are among all columns
pub lists_within : (c : Holdings) (cols : Columns) (leaves most : ℕ) → columns_in c.entries ≤ most → lists_before (asked_length_of c cols) leaves ≤ most
lists_within c cols leaves most fits = let h : lists_before (asked_length_of c cols) leaves ≤ columns_in c.entries = lists_among cols c.entries 0 leaves in omega arith
