-- The sets of elements that the cells give.
use Rattle.std.proofs.Common.{arith, ◌≡◌, ℕ, suc, zero, ◌<◌, Bool, true, false, cond, ◌||◌, ◌&&◌, List, [], ◌∷◌, Option, Some, None, length, set, refl, sym, ap, ◌∙◌}
use Rattle.std.proofs.lemmas.Bool.{or_left, or_right, or_from}
use Rattle.dg_graph.specs.declared.element.Element.{Element}
use Rattle.dg_graph.specs.Elements.{IsSet, has, put, with_one, same}
use Rattle.dg_graph.proofs.Sets.{IsSet-put, has-put, or_swap, same_members, same_itself, element_exact}
use Rattle.dg_cells.specs.Rows.{Row, cell_at, Lacks, CellsAreApart}
use Rattle.dg_pool.specs.Graphs.{given, picked}

pub IsSet-with_one : (s : List Element) (o : Option Element) → IsSet s → IsSet (with_one s o)
IsSet-with_one s None h = h
IsSet-with_one s (Some x) h = IsSet-put x s h

pub picked_set : (test : Row → Bool) (rows : List (Option Row)) → IsSet (picked test rows)
picked_set test [] = tt
picked_set test (o ∷ rows) = IsSet-with_one (picked test rows) (given test o) (picked_set test rows)

-- a cell that gives what it gave leaves the set
pub picked_same : (test : Row → Bool) (rows : List (Option Row)) (n : ℕ) (o : Option Row) → given test o ≡ given test (cell_at rows n) → picked test (set rows n o) ≡ picked test rows
picked_same test [] n o e = refl
picked_same test (p ∷ rows) zero o e = ap (with_one (picked test rows)) e
picked_same test (p ∷ rows) (suc n) o e = ap (λ s. with_one s (given test p)) (picked_same test rows n o e)

-- cells that give the same, give the same set
pub picked_alike : (test : Row → Bool) (new old : List (Option Row)) → ((n : ℕ) → given test (cell_at new n) ≡ given test (cell_at old n)) → picked test new ≡ picked test old
picked_alike test [] [] f = refl
picked_alike test [] (o ∷ old) f =
    let rest = picked_alike test [] old (λ n. f (suc n)) in
    rest ∙ ap (with_one (picked test old)) (f 0)
picked_alike test (o ∷ new) [] f =
    let rest = picked_alike test new [] (λ n. f (suc n)) in
    (λ i. with_one (rest i) (f 0 i))
picked_alike test (o ∷ new) (p ∷ old) f =
    let rest = picked_alike test new old (λ n. f (suc n)) in
    let first = f 0 in
    λ i. with_one (rest i) (first i)

put_comm : (x y : Element) (s : List Element) → IsSet s → put x (put y s) ≡ put y (put x s)
put_comm x y s h =
    same_members (put x (put y s)) (put y (put x s)) (IsSet-put x (put y s) (IsSet-put y s h)) (IsSet-put y (put x s) (IsSet-put x s h))
    (λ q.
    has-put x (put y s) q ∙ ap (λ t. same q x || t) (has-put y s q)
    ∙ or_swap (same q x) (same q y) (has s q)
    ∙ sym (has-put y (put x s) q ∙ ap (λ t. same q y || t) (has-put x s q)))

put_under : (x : Element) (s : List Element) (o : Option Element) → IsSet s → with_one (put x s) o ≡ put x (with_one s o)
put_under x s None h = refl
put_under x s (Some y) h = put_comm y x s h

-- a cell that gave nothing, and gives an element
pub picked_more : (test : Row → Bool) (rows : List (Option Row)) (n : ℕ) (o : Option Row) (x : Element) → n < length rows → given test (cell_at rows n) ≡ None → given test o ≡ Some x → picked test (set rows n o) ≡ put x (picked test rows)
picked_more test [] n o x h e f = absurd (omega arith)
picked_more test (p ∷ rows) zero o x h e f =
    ap (with_one (picked test rows)) f ∙ ap (put x) (sym (ap (with_one (picked test rows)) e))
picked_more test (p ∷ rows) (suc n) o x h e f =
    ap (λ s. with_one s (given test p)) (picked_more test rows n o x (omega arith) e f)
    ∙ put_under x (picked test rows) (given test p) (picked_set test rows)

-- whether a cell gives the element
abbrev pub gives : (Row → Bool) → Element → Option Row → Bool
gives test q None = false
gives test q (Some r) = test r && same q r.element

has-with_given : (test : Row → Bool) (q : Element) (o : Option Row) (s : List Element) → has (with_one s (given test o)) q ≡ (gives test q o || has s q)
has-with_given test q None s = refl
has-with_given test q (Some r) s =
    elim (test r) as (λ t. has (with_one s (cond t (Some r.element) None)) q ≡ ((t && same q r.element) || has s q)) [
      | true ↦ has-put r.element s q
      | false ↦ refl
    ]

-- no cell gives it
pub picked_lacks : (test : Row → Bool) (rows : List (Option Row)) (q : Element) → ((n : ℕ) → gives test q (cell_at rows n) ≡ false) → has (picked test rows) q ≡ false
picked_lacks test [] q f = refl
picked_lacks test (o ∷ rows) q f =
    has-with_given test q o (picked test rows)
    ∙ or_from (gives test q o) (has (picked test rows) q) (f 0) (picked_lacks test rows q (λ n. f (suc n)))

-- a cell gives it
pub picked_has : (test : Row → Bool) (rows : List (Option Row)) (q : Element) (n : ℕ) → gives test q (cell_at rows n) ≡ true → has (picked test rows) q ≡ true
picked_has test [] q n e = cc
picked_has test (o ∷ rows) q zero e =
    has-with_given test q o (picked test rows) ∙ or_left (gives test q o) (has (picked test rows) q) e
picked_has test (o ∷ rows) q (suc n) e =
    has-with_given test q o (picked test rows) ∙ or_right (gives test q o) (has (picked test rows) q) (picked_has test rows q n e)

-- of an element that has a cell, the test of that cell decides
decided_by : (test : Row → Bool) (rows : List (Option Row)) (q : Element) (n : ℕ) (r : Row) (t : Bool) → test r ≡ t → CellsAreApart rows → cell_at rows n ≡ Some r → r.element ≡ q → has (picked test rows) q ≡ t
decided_by test rows q n r true e apart there is =
    picked_has test rows q n (ap (gives test q) there ∙ ap (λ t. t && same q r.element) e ∙ ap (same q) is ∙ same_itself q)
decided_by test rows q n r false e apart there is =
    picked_lacks test rows q (λ m. at m (cell_at rows m) refl)
  where
    other : (m : ℕ) (p : Row) → cell_at rows m ≡ Some p → (same q p.element ≡ true) → test p ≡ false
    other m p f s =
        let tied = apart m n p r f there (sym (element_exact q p.element s) ∙ sym is) in
        let one : Some p ≡ Some r = sym f ∙ ap (cell_at rows) tied ∙ there in
        let same_row : p ≡ r = cc in
        ap test same_row ∙ e

    by : (p : Row) (s : Bool) → (s ≡ true → test p ≡ false) → (test p && s) ≡ false
    by p true f = ap (λ t. t && true) (f refl)
    by p false f = elim (test p) as (λ t. (t && false) ≡ false) [ true ↦ refl | false ↦ refl ]

    at : (m : ℕ) (o : Option Row) → cell_at rows m ≡ o → gives test q (cell_at rows m) ≡ false
    at m None f = ap (gives test q) f
    at m (Some p) f = ap (gives test q) f ∙ by p (same q p.element) (other m p f)

pub picked_decides : (test : Row → Bool) (rows : List (Option Row)) (q : Element) (n : ℕ) (r : Row) → CellsAreApart rows → cell_at rows n ≡ Some r → r.element ≡ q → has (picked test rows) q ≡ test r
picked_decides test rows q n r apart there is = decided_by test rows q n r (test r) refl apart there is

-- of one that has none, nothing
pub picked_nothing : (test : Row → Bool) (rows : List (Option Row)) (q : Element) → Lacks rows q → has (picked test rows) q ≡ false
picked_nothing test rows q lacks = picked_lacks test rows q (λ m. at m (cell_at rows m) refl)
  where
    none : (t s : Bool) → s ≡ false → (t && s) ≡ false
    none true s e = e
    none false s e = refl

    at : (m : ℕ) (o : Option Row) → cell_at rows m ≡ o → gives test q (cell_at rows m) ≡ false
    at m None f = ap (gives test q) f
    at m (Some p) f = ap (gives test q) f ∙ none (test p) (same q p.element) (lacks m p f)
