-- The rows of the occupied cells in element order, and the order of their numbers.
use Rattle.std.proofs.Common.{arith, ◌≡◌, ℕ, suc, zero, ◌+◌, ◌<◌, ◌≤◌, Bool, true, false, cond, ◌||◌, List, [], ◌∷◌, Option, Some, None, IsSome, length, get_or, map, count_by, refl, sym, ap, ◌∙◌, subst, ◌⊎◌, inl, inr}
use Rattle.std.specs.Prelude.{slice_get}
use Rattle.std.specs.Ordering.{is_lt}
use Rattle.std.specs.List.{cons_option, All}
use Rattle.std.proofs.lemmas.Bool.{cases_eq, true≢false, or_left, or_right}
use Rattle.std.proofs.lemmas.List.{get_or_default, get_or-map, length-map}
use Rattle.std.proofs.lemmas.List.Sums.{sum_by-cons}
use Rattle.std.proofs.lemmas.Option.{slice_get_within}
use Rattle.std.proofs.lemmas.List.Elements.{All-head, All-tail, All-cons, All-nil, All-get_or, All-weaker}
use Rattle.dg_graph.specs.declared.element.Element.{Element}
use Rattle.dg_graph.specs.declared.element.Element.TheVariants as kind
use Rattle.dg_graph.specs.Elements.{before, same, has, IsSet, put, with_one}
use Rattle.std.proofs.lemmas.Cmp.{tied_itself}
use Rattle.dg_graph.proofs.Sets.{element_total, Greater_from_before, same_itself, element_exact, has-put, IsSet-put, same_members}
use Rattle.dg_cells.specs.Rows.{Row, cell_at, CellsAreApart}
use Rattle.dg_cells.specs.Order.{cell_element, elements_in, AreCells, IsListed, IsLower}
use Rattle.dg_cells.specs.Cursors.{put_row, ordered, ordered_elements, index_of_row}
use Rattle.dg_cells.proofs.Orders.{IsCell, length-elements_in, element_there, rises_at}
use Rattle.dg_cells.proofs.OrderEdits.{element_is}

-- ---- the set of the elements that have a cell

abbrev held : List (Option Row) → List Element
held [] = []
held (o ∷ rows) = with_one (held rows) (cell_element o)

held_set : (rows : List (Option Row)) → IsSet (held rows)
held_set [] = tt
held_set (None ∷ rows) = held_set rows
held_set (Some r ∷ rows) = IsSet-put r.element (held rows) (held_set rows)

held_gives : (rows : List (Option Row)) (n : ℕ) (r : Row) → cell_at rows n ≡ Some r → has (held rows) r.element ≡ true
held_gives [] n r e = cc
held_gives (None ∷ rows) zero r e = cc
held_gives (Some q ∷ rows) zero r e =
    let is : q ≡ r = cc in
    has-put q.element (held rows) r.element
    ∙ or_left (same r.element q.element) (has (held rows) r.element) (ap (λ (z : Row). same r.element z.element) is ∙ same_itself r.element)
held_gives (None ∷ rows) (suc n) r e = held_gives rows n r e
held_gives (Some q ∷ rows) (suc n) r e =
    has-put q.element (held rows) r.element ∙ or_right (same r.element q.element) (has (held rows) r.element) (held_gives rows n r e)

-- a cell of the element
abbrev Held : List (Option Row) → Element → Type 0
Held rows x = (n : ℕ) × (r : Row) × (cell_at rows n ≡ Some r) × (r.element ≡ x)

held_from : (rows : List (Option Row)) (x : Element) → has (held rows) x ≡ true → Held rows x
held_from [] x e = cc
held_from (None ∷ rows) x e = let f = held_from rows x e in (suc f.0, f.1, f.2, f.3)
held_from (Some q ∷ rows) x e = by (held_from rows x) (same x q.element) refl (sym (has-put q.element (held rows) x) ∙ e)
  where
    by : (has (held rows) x ≡ true → Held rows x) → (t : Bool) → same x q.element ≡ t → (same x q.element || has (held rows) x) ≡ true → Held (Some q ∷ rows) x
    by rest true f g = (0, q, refl, sym (element_exact x q.element f))
    by rest false f g = let h = rest (ap (λ t. t || has (held rows) x) (sym f) ∙ g) in (suc h.0, h.1, h.2, h.3)

-- ---- the rows in order have these elements

abbrev element_of_row : Row → Element
element_of_row r = r.element

-- a row that goes among rows with other elements
put_row-elements : (r : Row) (rows : List Row) → has (map element_of_row rows) r.element ≡ false → map element_of_row (put_row r rows) ≡ put r.element (map element_of_row rows)
put_row-elements r [] e = refl
put_row-elements r (q ∷ rows) e =
    by (put_row-elements r rows (second (same r.element q.element) (has (map element_of_row rows) r.element) e)) (before r.element q.element) refl (same r.element q.element) (first (same r.element q.element) (has (map element_of_row rows) r.element) e) refl
  where
    first : (a b : Bool) → (a || b) ≡ false → a ≡ false
    first true b f = cc
    first false b f = refl

    second : (a b : Bool) → (a || b) ≡ false → b ≡ false
    second true b f = cc
    second false b f = f

    by : map element_of_row (put_row r rows) ≡ put r.element (map element_of_row rows) → (t : Bool) → before r.element q.element ≡ t → (s : Bool) → s ≡ false → same r.element q.element ≡ s → map element_of_row (cond (before r.element q.element) (r ∷ q ∷ rows) (q ∷ put_row r rows)) ≡ cond (before r.element q.element) (r.element ∷ q.element ∷ map element_of_row rows) (cond (same r.element q.element) (q.element ∷ map element_of_row rows) (q.element ∷ put r.element (map element_of_row rows)))
    by rest true f s g h =
        ap (λ b. map element_of_row (cond b (r ∷ q ∷ rows) (q ∷ put_row r rows))) f
        ∙ sym (ap (λ b. cond b (r.element ∷ q.element ∷ map element_of_row rows) (cond (same r.element q.element) (q.element ∷ map element_of_row rows) (q.element ∷ put r.element (map element_of_row rows)))) f)
    by rest false f s g h =
        ap (λ b. map element_of_row (cond b (r ∷ q ∷ rows) (q ∷ put_row r rows))) f
        ∙ ap (λ l. q.element ∷ l) rest
        ∙ sym (ap (λ b. cond b (r.element ∷ q.element ∷ map element_of_row rows) (cond (same r.element q.element) (q.element ∷ map element_of_row rows) (q.element ∷ put r.element (map element_of_row rows)))) f
        ∙ ap (λ b. cond b (q.element ∷ map element_of_row rows) (q.element ∷ put r.element (map element_of_row rows))) (h ∙ g))

apart_tail : (o : Option Row) (rows : List (Option Row)) → CellsAreApart (o ∷ rows) → CellsAreApart rows
apart_tail o rows apart i j r q e f g = let h = apart (suc i) (suc j) r q e f g in omega arith

absent_first : (r : Row) (rows : List (Option Row)) → CellsAreApart (Some r ∷ rows) → has (held rows) r.element ≡ false
absent_first r rows apart = by (has (held rows) r.element) refl
  where
    by : (t : Bool) → has (held rows) r.element ≡ t → has (held rows) r.element ≡ false
    by false f = f
    by true f =
        let h = held_from rows r.element f in
        let same_cell = apart 0 (suc h.0) r h.1 refl h.2 (sym h.3) in
        absurd (omega arith)

ordered_held : (rows : List (Option Row)) → CellsAreApart rows → ordered_elements rows ≡ held rows
ordered_held [] apart = refl
ordered_held (None ∷ rows) apart = ordered_held rows (apart_tail None rows apart)
ordered_held (Some r ∷ rows) apart =
    let rest = ordered_held rows (apart_tail (Some r) rows apart) in
    put_row-elements r (ordered rows) (ap (λ l. has l r.element) rest ∙ absent_first r rows apart)
    ∙ ap (put r.element) rest

-- each row in order is that of a cell
abbrev InCells : List (Option Row) → Row → Type 0
InCells rows r = (n : ℕ) × (cell_at rows n ≡ Some r)

put_row-all : (P : Row → Type 0) (r : Row) (rows : List Row) → P r → All P rows → All P (put_row r rows)
put_row-all P r [] p all = All-cons P r [] p all
put_row-all P r (q ∷ rows) p all = by (put_row-all P r rows p (All-tail P q rows all)) (before r.element q.element)
  where
    by : All P (put_row r rows) → (t : Bool) → All P (cond t (r ∷ q ∷ rows) (q ∷ put_row r rows))
    by rest true = All-cons P r (q ∷ rows) p all
    by rest false = All-cons P q (put_row r rows) (All-head P q rows all) rest

pub ordered_cells : (rows : List (Option Row)) → All (InCells rows) (ordered rows)
ordered_cells [] = All-nil (InCells [])
ordered_cells (None ∷ rows) = All-weaker (InCells rows) (InCells (None ∷ rows)) (λ r c. (suc c.0, c.1)) (ordered rows) (ordered_cells rows)
ordered_cells (Some q ∷ rows) =
    put_row-all (InCells (Some q ∷ rows)) q (ordered rows) (0, refl)
    (All-weaker (InCells rows) (InCells (Some q ∷ rows)) (λ r c. (suc c.0, c.1)) (ordered rows) (ordered_cells rows))

-- ---- positions in a rising list

slice_get_is : (rows : List Row) (k : ℕ) (d : Row) → k < length rows → slice_get rows k ≡ Some (get_or rows k d)
slice_get_is [] k d h = absurd (omega arith)
slice_get_is (r ∷ rows) zero d h = refl
slice_get_is (r ∷ rows) (suc k) d h = slice_get_is rows k d (omega arith)

index_of : (xs : List Element) (x : Element) → has xs x ≡ true → (k : ℕ) × (k < length xs) × (get_or xs k (kind.Node 0) ≡ x)
index_of [] x e = cc
index_of (y ∷ xs) x e = by (index_of xs x) (same x y) refl e
  where
    by : (has xs x ≡ true → (k : ℕ) × (k < length xs) × (get_or xs k (kind.Node 0) ≡ x)) → (t : Bool) → same x y ≡ t → (same x y || has xs x) ≡ true → (k : ℕ) × (k < length (y ∷ xs)) × (get_or (y ∷ xs) k (kind.Node 0) ≡ x)
    by rest true f g = (0, omega arith, sym (element_exact x y f))
    by rest false f g = let h = rest (ap (λ t. t || has xs x) (sym f) ∙ g) in (suc h.0, omega (arith, h.1), h.2)

count_cons : (p : Element → Bool) (y : Element) (xs : List Element) (t : Bool) → p y ≡ t → count_by p (y ∷ xs) ≡ cond t 1 0 + count_by p xs
count_cons p y xs t e = sum_by-cons (λ z. cond (p z) 1 0) y xs ∙ ap (λ b. cond b 1 0 + count_by p xs) e

-- as many elements are before x as stand before its position
pub rank_lower : (x : Element) (xs : List Element) (at : ℕ) → IsLower x xs at → count_by (λ y. before y x) xs ≡ at
rank_lower x [] at p = let w = p.within in omega arith
rank_lower x (y ∷ xs) zero p =
    let rest : IsLower x xs 0 = record {
      within = omega arith;
      low = λ k d h. absurd (omega arith);
      high = λ k d h l. p.high (suc k) d (omega arith) (omega arith);
    } in
    let step = count_cons (λ z. before z x) y xs false (p.high 0 x (omega arith) (omega arith)) in
    let tail = rank_lower x xs 0 rest in
    omega arith
rank_lower x (y ∷ xs) (suc at) p =
    let rest : IsLower x xs at = record {
      within = let w = p.within in omega arith;
      low = λ k d h. p.low (suc k) d (omega arith);
      high = λ k d h l. p.high (suc k) d (omega arith) (omega arith);
    } in
    let step = count_cons (λ z. before z x) y xs true (p.low 0 x (omega arith)) in
    let tail = rank_lower x xs at rest in
    omega arith

not_before : (xs : List Element) (k i : ℕ) (d : Element) → IsSet xs → k ≤ i → i < length xs → before (get_or xs i d) (get_or xs k d) ≡ false
not_before xs k i d s h l = by (cases_eq i k)
  where
    by : ((i ≡ k) ⊎ (i ≡ k → ⊥)) → before (get_or xs i d) (get_or xs k d) ≡ false
    by (inl e) = ap (λ n. before (get_or xs n d) (get_or xs k d)) e ∙ ap is_lt (tied_itself element_total (get_or xs k d))
    by (inr n) = ap is_lt (Greater_from_before (get_or xs k d) (get_or xs i d) (rises_at xs k i d s (omega arith) l))

rank_at : (xs : List Element) (k : ℕ) (d : Element) → IsSet xs → k < length xs → count_by (λ y. before y (get_or xs k d)) xs ≡ k
rank_at xs k d s h = rank_lower (get_or xs k d) xs k (record {
  within = omega arith;
  low = λ i e g. ap (λ y. before y (get_or xs k d)) (get_or_default xs i e d (omega arith)) ∙ rises_at xs i k d s g h;
  high = λ i e g l. ap (λ y. before y (get_or xs k d)) (get_or_default xs i e d l) ∙ not_before xs k i d s g l;
})

-- ---- the numbers in order are those of these rows

elements_held : (rows : List (Option Row)) (order : List ℕ) (x : Element) → AreCells rows order → has (elements_in rows order) x ≡ true → has (held rows) x ≡ true
elements_held rows [] x h e = cc
elements_held rows (n ∷ order) x h e = by (elements_held rows order x (All-tail (IsCell rows) n order h)) (cell_at rows n) refl (All-head (IsCell rows) n order h) e
  where
    by : (has (elements_in rows order) x ≡ true → has (held rows) x ≡ true) → (o : Option Row) → cell_at rows n ≡ o → IsSome o → has (cons_option (cell_element (cell_at rows n)) (elements_in rows order)) x ≡ true → has (held rows) x ≡ true
    by rest None f i g = cc
    by rest (Some r) f i g = split (same x r.element) refl (sym (ap (λ o. has (cons_option (cell_element o) (elements_in rows order)) x) f) ∙ g)
      where
        split : (t : Bool) → same x r.element ≡ t → (same x r.element || has (elements_in rows order) x) ≡ true → has (held rows) x ≡ true
        split true k l = ap (has (held rows)) (element_exact x r.element k) ∙ held_gives rows n r f
        split false k l = rest (ap (λ t. t || has (elements_in rows order) x) (sym k) ∙ l)

module _ (rows : List (Option Row)) (order : List ℕ) (listed : IsListed rows order) where
  pub elements_are : elements_in rows order ≡ ordered_elements rows
  elements_are = same_members (elements_in rows order) (held rows) listed.in_order.rises (held_set rows) by_member ∙ sym (ordered_held rows listed.apart)
    where
      by_member : (q : Element) → has (elements_in rows order) q ≡ has (held rows) q
      by_member q = by (has (elements_in rows order) q) refl (has (held rows) q) refl
        where
          by : (s : Bool) → has (elements_in rows order) q ≡ s → (t : Bool) → has (held rows) q ≡ t → has (elements_in rows order) q ≡ has (held rows) q
          by true e true f = e ∙ sym f
          by false e false f = e ∙ sym f
          by true e false f = absurd (true≢false (sym (elements_held rows order q listed.in_order.live e) ∙ f))
          by false e true f =
              let h = held_from rows q f in
              absurd (true≢false (sym (listed.all h.0 h.1 h.2) ∙ ap (has (elements_in rows order)) h.3 ∙ e))

  pub length_is : length (ordered rows) ≡ length order
  length_is =
      sym (length-map (ordered rows) element_of_row)
      ∙ sym (ap length elements_are)
      ∙ length-elements_in rows order listed.in_order.live

  module _ (k n : ℕ) (r : Row) (within : k < length order) (number : get_or order k 0 ≡ n) (there : cell_at rows n ≡ Some r) where
    element_is_there : get_or (ordered_elements rows) k (kind.Node 0) ≡ r.element
    element_is_there =
        let both : Some (get_or (elements_in rows order) k (kind.Node 0)) ≡ Some r.element =
        sym (element_there rows order k (kind.Node 0) listed.in_order.live within) ∙ ap (λ m. cell_element (cell_at rows m)) number ∙ ap cell_element there in
        let is : get_or (elements_in rows order) k (kind.Node 0) ≡ r.element = cc in
        ap (λ l. get_or l k (kind.Node 0)) (sym elements_are) ∙ is

    -- the row at the position
    pub row_there : slice_get (ordered rows) k ≡ Some r
    row_there =
        let len = length_is in
        let inside : k < length (ordered rows) = omega arith in
        let cell = All-get_or (InCells rows) (ordered rows) k r inside (ordered_cells rows) in
        let same_element : (get_or (ordered rows) k r).element ≡ r.element =
        sym (get_or-map element_of_row (ordered rows) k r (kind.Node 0) inside) ∙ element_is_there in
        let same_cell = listed.apart cell.0 n (get_or (ordered rows) k r) r cell.1 there same_element in
        slice_get_is (ordered rows) k r inside ∙ sym cell.1 ∙ ap (cell_at rows) same_cell ∙ there

    -- and the position of the row
    pub position_is : index_of_row rows (Some r) ≡ k
    position_is =
        let rising = subst IsSet elements_are listed.in_order.rises in
        let len = length_is in
        let mapped = length-map (ordered rows) element_of_row in
        ap (λ x. count_by (λ y. before y x) (ordered_elements rows)) (sym element_is_there)
        ∙ rank_at (ordered_elements rows) k (kind.Node 0) rising (omega arith)

  -- each occupied cell has its position
  pub index_of_cell : (n : ℕ) (r : Row) → cell_at rows n ≡ Some r → (k : ℕ) × (k < length order) × (get_or order k 0 ≡ n)
  index_of_cell n r e =
      let at = index_of (elements_in rows order) r.element (listed.all n r e) in
      let len = length-elements_in rows order listed.in_order.live in
      let within : at.0 < length order = omega (arith, at.1) in
      let there = element_there rows order at.0 (kind.Node 0) listed.in_order.live within in
      let cell = element_is (cell_at rows (get_or order at.0 0)) (get_or (elements_in rows order) at.0 (kind.Node 0)) there in
      (at.0, within, listed.apart (get_or order at.0 0) n cell.0 r cell.1 e (cell.2 ∙ at.2))

  pub position_past : index_of_row rows None ≡ length order
  position_past = length_is

pub rises_ordered : (rows : List (Option Row)) (order : List ℕ) → IsListed rows order → IsSet (ordered_elements rows)
rises_ordered rows order listed = subst IsSet (elements_are rows order listed) listed.in_order.rises

pub each_ordered : (rows : List (Option Row)) (order : List ℕ) → IsListed rows order → (n : ℕ) (r : Row) → cell_at rows n ≡ Some r → (k : ℕ) × (slice_get (ordered rows) k ≡ Some r)
each_ordered rows order listed n r e =
    let position = index_of_cell rows order listed n r e in
    (position.0, row_there rows order listed position.0 n r position.1 position.2 e)

pub only_ordered : (rows : List (Option Row)) (k : ℕ) (r : Row) → slice_get (ordered rows) k ≡ Some r → (n : ℕ) × (cell_at rows n ≡ Some r)
only_ordered rows k r e =
    let inside = slice_get_within (ordered rows) k r e in
    let cell = All-get_or (InCells rows) (ordered rows) k r inside (ordered_cells rows) in
    let both : Some (get_or (ordered rows) k r) ≡ Some r = sym (slice_get_is (ordered rows) k r inside) ∙ e in
    (cell.0, cell.1 ∙ both)
