-- Cells that grow more than once.
use Rattle.std.proofs.Common.{arith, IsSome, ◌≡◌, ℕ, suc, zero, ◌+◌, ◌<◌, ◌⊎◌, inl, inr, Bool, true, false, ◌||◌, List, [], ◌∷◌, ◌++◌, Option, Some, None, length, get_or, take, refl, sym, ap, ◌∙◌, subst}
use Rattle.std.proofs.lemmas.Bool.{cases_eq, or_left, or_right}
use Rattle.std.proofs.lemmas.List.{take_more}
use Rattle.dg_graph.specs.declared.element.Element.{Element}
use Rattle.dg_graph.specs.Elements.{same, has}
use Rattle.dg_graph.proofs.Sets.{same_itself}
use Rattle.dg_cells.specs.Rows.{Row, cell_at, CellsGrow, Reuses, IsBare, AreAmong}

pub grows_then : (a b c : List (Option Row)) → CellsGrow a b → CellsGrow b c → CellsGrow a c
grows_then a b c first second = record {
  kept = λ n r e. second.kept n r (first.kept n r e);
  bare = λ n r e f. at n r e f (cell_at b n) refl;
}
  where
    at : (n : ℕ) (r : Row) → cell_at a n ≡ None → cell_at c n ≡ Some r → (o : Option Row) → cell_at b n ≡ o → IsBare r
    at n r e f None g = second.bare n r g f
    at n r e f (Some q) g =
        let both : Some q ≡ Some r = sym (second.kept n q g) ∙ f in
        let is : q ≡ r = cc in
        subst IsBare is (first.bare n q e g)

-- ---- vacant cells are used first

pub reuses_itself : (rows : List (Option Row)) → Reuses rows rows
reuses_itself rows = record { longer = omega arith; full = λ more n low. absurd (omega (arith, more)) }

pub reuses_as : (a b c : List (Option Row)) → c ≡ b → Reuses a b → Reuses a c
reuses_as a b c e reuses = subst (λ (l : List (Option Row)). Reuses a l) (sym e) reuses

pub reuses_then : (a b c : List (Option Row)) → CellsGrow b c → Reuses a b → Reuses b c → Reuses a c
reuses_then a b c grows first second = record {
  longer = omega (arith, first.longer, second.longer);
  full = λ more n low. by (cases_eq (length b) (length c)) more n low;
}
  where
    kept : (n : ℕ) → IsSome (cell_at b n) → (o : Option Row) → cell_at b n ≡ o → IsSome (cell_at c n)
    kept n there None e = let no : IsSome {T = Row} None = subst IsSome e there in cc
    kept n there (Some r) e = subst IsSome (sym (grows.kept n r e)) refl

    by : (length b ≡ length c) ⊎ (length b ≡ length c → ⊥) → length a < length c → (n : ℕ) → n < length c → IsSome (cell_at c n)
    by (inl e) more n low = kept n (first.full (omega (arith, e, more)) n (omega (arith, e, low))) (cell_at b n) refl
    by (inr d) more n low = second.full (by_length d) n low
      where
        by_length : (length b ≡ length c → ⊥) → length b < length c
        by_length d = let on = second.longer in omega (arith, on, d)

-- ---- the elements of the new cells

has_push : (xs : List Element) (y q : Element) → has (xs ++ y ∷ []) q ≡ (has xs q || same q y)
has_push [] y q = at (same q y)
  where
    at : (t : Bool) → (t || false) ≡ t
    at true = refl
    at false = refl
has_push (x ∷ xs) y q = ap (λ t. same q x || t) (has_push xs y q) ∙ at (same q x) (has xs q) (same q y)
  where
    at : (a b c : Bool) → (a || (b || c)) ≡ ((a || b) || c)
    at true b c = refl
    at false b c = refl

-- the elements so far, and one more
pub has_more : (xs : List Element) (i : ℕ) (d q : Element) → i < length xs → has (take (i + 1) xs) q ≡ (has (take i xs) q || same q (get_or xs i d))
has_more xs i d q h = ap (λ l. has l q) (take_more xs i d h) ∙ has_push (take i xs) (get_or xs i d) q

pub among_more : (a b c : List (Option Row)) (xs : List Element) (i : ℕ) (d : Element) → i < length xs → CellsGrow b c → AreAmong a b (take i xs) → ((n : ℕ) (r : Row) → cell_at b n ≡ None → cell_at c n ≡ Some r → r.element ≡ get_or xs i d) → AreAmong a c (take (i + 1) xs)
among_more a b c xs i d h grows so_far here n r e f = has_more xs i d r.element h ∙ at (cell_at b n) refl
  where
    at : (o : Option Row) → cell_at b n ≡ o → (has (take i xs) r.element || same r.element (get_or xs i d)) ≡ true
    at None g =
        or_right (has (take i xs) r.element) (same r.element (get_or xs i d)) (ap (λ y. same y (get_or xs i d)) (here n r g f) ∙ same_itself (get_or xs i d))
    at (Some q) g =
        let both : Some q ≡ Some r = sym (grows.kept n q g) ∙ f in
        let is : q ≡ r = cc in
        or_left (has (take i xs) r.element) (same r.element (get_or xs i d)) (ap (λ (z : Row). has (take i xs) z.element) (sym is) ∙ so_far n q e g)

pub has_whole : (xs : List Element) (i : ℕ) (q : Element) → has (take i xs) q ≡ true → has xs q ≡ true
has_whole [] i q e = take_nil i e
  where
    take_nil : (n : ℕ) → has (take n []) q ≡ true → has [] q ≡ true
    take_nil zero e = e
    take_nil (suc n) e = e
has_whole (x ∷ xs) zero q e = cc
has_whole (x ∷ xs) (suc i) q e = by (has_whole xs i q) (same q x) refl e
  where
    by : (has (take i xs) q ≡ true → has xs q ≡ true) → (t : Bool) → same q x ≡ t → (same q x || has (take i xs) q) ≡ true → (same q x || has xs q) ≡ true
    by rest true f g = or_left (same q x) (has xs q) f
    by rest false f g = or_right (same q x) (has xs q) (rest (ap (λ t. t || has (take i xs) q) (sym f) ∙ g))

pub among_wider : (a b : List (Option Row)) (xs : List Element) (i : ℕ) (d : Element) → i < length xs → AreAmong a b (take i xs) → AreAmong a b (take (i + 1) xs)
among_wider a b xs i d h among n r e f =
    has_more xs i d r.element h ∙ or_left (has (take i xs) r.element) (same r.element (get_or xs i d)) (among n r e f)
