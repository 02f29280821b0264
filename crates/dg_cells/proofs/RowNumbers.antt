-- The numbers of the cells of elements.
use Rattle.std.proofs.Common.{arith, ◌≡◌, ℕ, suc, ◌+◌, ◌<◌, ◌≤◌, Bool, true, false, ◌||◌, List, [], ◌∷◌, ◌++◌, Option, Some, None, length, get_or, refl, sym, ap, ◌∙◌, subst, ◌⊎◌, inl, inr, length-append}
use Rattle.std.proofs.lemmas.Bool.{cases_eq}
use Rattle.std.proofs.lemmas.List.{get_or_append_left, get_or_push, get_or_default}
use Rattle.dg_graph.specs.declared.element.Element.{Element}
use Rattle.dg_graph.specs.Elements.{same, has}
use Rattle.dg_graph.proofs.Sets.{element_exact}
use Rattle.dg_cells.specs.Rows.{Row, cell_at, Holds, HasCell, AllHave, CellsGrow, AreNumbers}
use Rattle.dg_cells.specs.Order.{cell_element}
use Rattle.dg_cells.proofs.OrderEdits.{element_is}

-- each of the first elements has the cell with its number
pub record Numbered (rows : List (Option Row)) (items : List Element) (j : ℕ) (numbers : List ℕ) : Type 0 where
  pub within : j ≤ length items
  pub count : length numbers ≡ j
  pub hold : (k : ℕ) → k < j → (d : Element) → Holds rows (get_or items k d) (get_or numbers k 0)

pub holds_still : (a b : List (Option Row)) (x : Element) (n : ℕ) → CellsGrow a b → Holds a x n → Holds b x n
holds_still a b x n grows h = record { row = h.row; there = grows.kept n h.row h.there; element = h.element }

pub numbered_none : (rows : List (Option Row)) (items : List Element) (numbers : List ℕ) → numbers ≡ [] → Numbered rows items 0 numbers
numbered_none rows items numbers e = record {
  within = omega arith;
  count = ap length e;
  hold = λ k h d. absurd (omega arith);
}

pub numbered_all : (rows : List (Option Row)) (items : List Element) (j : ℕ) (numbers : List ℕ) → length items ≤ j → Numbered rows items j numbers → AreNumbers rows items numbers
numbered_all rows items j numbers h m =
    let within = m.within in
    let count = m.count in
    record { count = omega arith; hold = λ k l. m.hold k (omega arith) }

pub numbered_as : (rows rows2 : List (Option Row)) (items : List Element) (j : ℕ) (numbers numbers2 : List ℕ) → rows2 ≡ rows → numbers2 ≡ numbers → Numbered rows items j numbers → Numbered rows2 items j numbers2
numbered_as rows rows2 items j numbers numbers2 e f m =
    subst (λ (r : List (Option Row)). Numbered r items j numbers2) (sym e) (subst (λ (q : List ℕ). Numbered rows items j q) (sym f) m)

pub numbers_as : (rows rows2 : List (Option Row)) (items : List Element) (numbers numbers2 : List ℕ) → rows2 ≡ rows → numbers2 ≡ numbers → AreNumbers rows items numbers → AreNumbers rows2 items numbers2
numbers_as rows rows2 items numbers numbers2 e f m =
    subst (λ (r : List (Option Row)). AreNumbers r items numbers2) (sym e) (subst (λ (q : List ℕ). AreNumbers rows items q) (sym f) m)

pub grows_itself : (rows : List (Option Row)) → CellsGrow rows rows
grows_itself rows = record { kept = λ n r e. e; bare = λ n r e f. let none : None ≡ Some r = sym e ∙ f in cc }

-- one element more has its number
pub numbered_more : (a b : List (Option Row)) (items : List Element) (j : ℕ) (numbers more : List ℕ) (n : ℕ) (d : Element) → j < length items → CellsGrow a b → Holds b (get_or items j d) n → more ≡ numbers ++ n ∷ [] → Numbered a items j numbers → Numbered b items (j + 1) more
numbered_more a b items j numbers more n d h grows here e m = record {
  within = omega arith;
  count = let count = m.count in let len = length-append numbers (n ∷ []) in ap length e ∙ len ∙ omega arith;
  hold = λ k l z. by k l z (cases_eq k j);
}
  where
    old : (k : ℕ) → k < j → get_or more k 0 ≡ get_or numbers k 0
    old k l = let count = m.count in ap (λ q. get_or q k 0) e ∙ get_or_append_left numbers (n ∷ []) 0 k (omega arith)

    new : get_or more j 0 ≡ n
    new = ap (λ q. get_or q j 0) e ∙ get_or_push numbers n 0 j m.count

    by : (k : ℕ) → k < j + 1 → (z : Element) → ((k ≡ j) ⊎ (k ≡ j → ⊥)) → Holds b (get_or items k z) (get_or more k 0)
    by k l z (inl f) =
        let item : get_or items j d ≡ get_or items k z = get_or_default items j d z h ∙ ap (λ q. get_or items q z) (sym f) in
        let number : n ≡ get_or more k 0 = sym new ∙ ap (λ q. get_or more q 0) (sym f) in
        subst (λ (q : ℕ). Holds b (get_or items k z) q) number (subst (λ (q : Element). Holds b q n) item here)
    by k l z (inr f) =
        let low : k < j = omega arith in
        subst (λ (q : ℕ). Holds b (get_or items k z) q) (sym (old k low)) (holds_still a b (get_or items k z) (get_or numbers k 0) grows (m.hold k low z))

-- the cell with the element
pub holds_by : (rows : List (Option Row)) (x : Element) (n : ℕ) → cell_element (cell_at rows n) ≡ Some x → Holds rows x n
holds_by rows x n e = let r = element_is (cell_at rows n) x e in record { row = r.0; there = r.1; element = r.2 }

have_each : (rows : List (Option Row)) (items : List Element) (f : ℕ → ℕ) → ((k : ℕ) → k < length items → (d : Element) → Holds rows (get_or items k d) (f k)) → AllHave rows items
have_each rows [] f h x e = cc
have_each rows (y ∷ items) f h x e = by (have_each rows items (λ k. f (suc k)) (λ k g d. h (suc k) (omega arith) d) x) (same x y) refl e
  where
    by : (has items x ≡ true → HasCell rows x) → (t : Bool) → same x y ≡ t → (same x y || has items x) ≡ true → HasCell rows x
    by rest true g l = (f 0, subst (λ (q : Element). Holds rows q (f 0)) (sym (element_exact x y g)) (h 0 (omega arith) y))
    by rest false g l = rest (ap (λ t. t || has items x) (sym g) ∙ l)

pub all_numbered : (rows : List (Option Row)) (items : List Element) (numbers : List ℕ) → AreNumbers rows items numbers → AllHave rows items
all_numbered rows items numbers m = have_each rows items (λ k. get_or numbers k 0) m.hold
