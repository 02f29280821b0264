-- The elements in an order of cells, by positions.
use Rattle.std.proofs.Common.{arith, ◌≡◌, ℕ, suc, zero, ◌+◌, ◌-◌, ◌<◌, ◌≤◌, Bool, true, false, List, [], ◌∷◌, ◌++◌, Option, Some, None, IsSome, length, get_or, take, refl, sym, ap, ◌∙◌, subst, ◌⊎◌, inl, inr, length-append}
use Rattle.std.specs.List.{cons_option, All}
use Rattle.std.proofs.lemmas.Bool.{cases_eq, cases_lt, true≢false}
use Rattle.std.proofs.lemmas.List.Concat.{flat_map-append}
use Rattle.std.proofs.lemmas.List.{append-nil, take_all, take_more}
use Rattle.std.proofs.lemmas.List.Elements.{All-head, All-tail, All-get_or, All-from_get_or}
use Rattle.dg_graph.specs.declared.element.Element.{Element}
use Rattle.dg_graph.specs.Elements.{before, IsSet}
use Rattle.dg_graph.proofs.Sets.{before_trans}
use Rattle.dg_set.proofs.Indices.{before_at}
use Rattle.dg_cells.specs.Rows.{Row, cell_at}
use Rattle.dg_cells.specs.Pieces.{strung, nth_piece, numbers_before, IsPiece, IsPosition}
use Rattle.dg_cells.specs.Order.{cell_element, elements_in, AreCells, IsOrder, IsLower, is_cell_before, is_index_before, is_piece_before}
use Rattle.dg_cells.proofs.PieceEdits.{number_there}

abbrev pub IsCell : List (Option Row) → ℕ → Type 0
IsCell rows n = IsSome (cell_at rows n)

pub length-elements_in : (rows : List (Option Row)) (order : List ℕ) → AreCells rows order → length (elements_in rows order) ≡ length order
length-elements_in rows [] h = refl
length-elements_in rows (n ∷ order) h =
    at (length-elements_in rows order (All-tail (IsCell rows) n order h)) (cell_at rows n) (All-head (IsCell rows) n order h)
  where
    at : length (elements_in rows order) ≡ length order → (o : Option Row) → IsSome o → length (cons_option (cell_element o) (elements_in rows order)) ≡ suc (length order)
    at rest None e = cc
    at rest (Some r) e = ap suc rest

-- the cell with the number at an index has the element at that index
pub element_there : (rows : List (Option Row)) (order : List ℕ) (k : ℕ) (d : Element) → AreCells rows order → k < length order → cell_element (cell_at rows (get_or order k 0)) ≡ Some (get_or (elements_in rows order) k d)
element_there rows [] k d h l = absurd (omega arith)
element_there rows (n ∷ order) zero d h l = at (cell_at rows n) (All-head (IsCell rows) n order h)
  where
    at : (o : Option Row) → IsSome o → cell_element o ≡ Some (get_or (cons_option (cell_element o) (elements_in rows order)) 0 d)
    at None i = cc
    at (Some r) i = refl
element_there rows (n ∷ order) (suc k) d h l =
    element_there rows order k d (All-tail (IsCell rows) n order h) (omega arith) ∙ at (cell_at rows n) (All-head (IsCell rows) n order h)
  where
    at : (o : Option Row) → IsSome o → Some (get_or (elements_in rows order) k d) ≡ Some (get_or (cons_option (cell_element o) (elements_in rows order)) (suc k) d)
    at None i = cc
    at (Some r) i = refl

pub before_there : (o : Option Row) (x y : Element) → cell_element o ≡ Some x → is_cell_before y o ≡ before x y
before_there None x y e = cc
before_there (Some r) x y e = let is : r.element ≡ x = cc in ap (λ z. before z y) is

pub rises_at : (xs : List Element) (i j : ℕ) (d : Element) → IsSet xs → i < j → j < length xs → before (get_or xs i d) (get_or xs j d) ≡ true
rises_at [] i j d s h l = absurd (omega arith)
rises_at (x ∷ xs) zero zero d s h l = absurd (omega arith)
rises_at (x ∷ xs) zero (suc j) d s h l = before_at x xs j d s.0 s.1 (omega arith)
rises_at (x ∷ xs) (suc i) zero d s h l = absurd (omega arith)
rises_at (x ∷ xs) (suc i) (suc j) d s h l = rises_at xs i j d s.1 (omega arith) (omega arith)

-- all up to an element that is before x
pub all_below : (xs : List Element) (m : ℕ) (x d : Element) → IsSet xs → m < length xs → before (get_or xs m d) x ≡ true → (k : ℕ) → k < m + 1 → before (get_or xs k d) x ≡ true
all_below xs m x d s h e k l = at (cases_eq k m)
  where
    at : ((k ≡ m) ⊎ (k ≡ m → ⊥)) → before (get_or xs k d) x ≡ true
    at (inl f) = ap (λ n. before (get_or xs n d) x) f ∙ e
    at (inr f) = before_trans (get_or xs k d) (get_or xs m d) x (rises_at xs k m d s (omega arith) h) e

-- and all from one on that is not
pub all_above : (xs : List Element) (m : ℕ) (x d : Element) → IsSet xs → before (get_or xs m d) x ≡ false → (k : ℕ) → m ≤ k → k < length xs → before (get_or xs k d) x ≡ false
all_above xs m x d s e k low l = at (cases_eq k m)
  where
    by : (t : Bool) → before (get_or xs k d) x ≡ t → m < k → before (get_or xs k d) x ≡ false
    by true f h = absurd (true≢false (sym (before_trans (get_or xs m d) (get_or xs k d) x (rises_at xs m k d s h l) f) ∙ e))
    by false f h = f

    at : ((k ≡ m) ⊎ (k ≡ m → ⊥)) → before (get_or xs k d) x ≡ false
    at (inl f) = ap (λ n. before (get_or xs n d) x) f ∙ e
    at (inr f) = by (before (get_or xs k d) x) refl (omega arith)

-- the element before a position and the element at it say that it belongs there
pub lower_between : (rows : List (Option Row)) (order : List ℕ) (x : Element) (at : ℕ) → IsOrder rows order → at ≤ length order → (0 < at → is_index_before rows order x (at - 1) ≡ true) → (at < length order → is_index_before rows order x at ≡ false) → IsLower x (elements_in rows order) at
lower_between rows order x at o h low high =
    let xs = elements_in rows order in
    let len = length-elements_in rows order o.live in
    let there : (k : ℕ) (d : Element) → k < length order → is_index_before rows order x k ≡ before (get_or xs k d) x =
    λ (k : ℕ) (d : Element) (g : k < length order). before_there (cell_at rows (get_or order k 0)) (get_or xs k d) x (element_there rows order k d o.live g) in
    record {
      within = omega arith;
      low = λ k d g.
          all_below xs (at - 1) x d o.rises (omega arith) (sym (there (at - 1) d (omega arith)) ∙ low (omega arith)) k (omega arith);
      high = λ k d g l.
          all_above xs at x d o.rises (sym (there at d (omega arith)) ∙ high (omega arith)) k g l;
    }

-- ---- pieces of the order

pub cells_of_piece : (rows : List (Option Row)) (ps : List (List ℕ)) (n : ℕ) → AreCells rows (strung ps) → n < length ps → AreCells rows (nth_piece ps n)
cells_of_piece rows ps n h l =
    All-from_get_or (IsCell rows) (nth_piece ps n) 0
    (λ i g.
    let there = number_there ps n i l g in
    subst (IsCell rows) there.1 (All-get_or (IsCell rows) (strung ps) (numbers_before ps n + i) 0 there.0 h))

pub numbers_before_more : (ps : List (List ℕ)) (n : ℕ) → n < length ps → numbers_before ps (n + 1) ≡ numbers_before ps n + length (nth_piece ps n)
numbers_before_more ps n h =
    ap (λ l. length (strung l)) (take_more ps n [] h)
    ∙ ap length (flat_map-append (λ (x : List ℕ). x) (take n ps) (nth_piece ps n ∷ []))
    ∙ length-append (strung (take n ps)) (nth_piece ps n ++ [])
    ∙ ap (λ k. numbers_before ps n + k) (ap length (append-nil (nth_piece ps n)))

pub numbers_before_all : (ps : List (List ℕ)) → numbers_before ps (length ps) ≡ length (strung ps)
numbers_before_all ps = ap (λ l. length (strung l)) (take_all (length ps) ps (omega arith))

-- what the search over the pieces and then in a piece has found
module _ (rows : List (Option Row)) (ps : List (List ℕ)) (x : Element) (p i : ℕ) (ordered : IsOrder rows (strung ps)) (pieces : All IsPiece ps) (position : IsPosition ps p i)
    (low_piece : i ≡ 0 → 0 < p → is_piece_before rows ps x (p - 1) ≡ true) (low_in : 0 < i → is_index_before rows (nth_piece ps p) x (i - 1) ≡ true) (high_in : p < length ps → is_index_before rows (nth_piece ps p) x i ≡ false) where
  flat : ℕ
  flat = numbers_before ps p + i

  -- an index of a piece in the whole order
  in_whole : (n k : ℕ) (t : Bool) → n < length ps → k < length (nth_piece ps n) → is_index_before rows (nth_piece ps n) x k ≡ t → is_index_before rows (strung ps) x (numbers_before ps n + k) ≡ t
  in_whole n k t h g e = ap (λ m. is_cell_before x (cell_at rows m)) (number_there ps n k h g).1 ∙ e

  within_all : numbers_before ps p + i ≤ length (strung ps)
  within_all = at (cases_lt p (length ps))
    where
      at : ((p < length ps) ⊎ (length ps ≤ p)) → numbers_before ps p + i ≤ length (strung ps)
      at (inl h) = let there = (number_there ps p i h (position.inside h)).0 in omega arith
      at (inr h) =
          let all = numbers_before_all ps in
          let within = position.within in
          let is : p ≡ length ps = omega arith in
          let none = position.end is in
          let same = ap (numbers_before ps) is in
          omega arith

  low_all : 0 < numbers_before ps p + i → is_index_before rows (strung ps) x (numbers_before ps p + i - 1) ≡ true
  low_all h = at (cases_lt 0 i)
    where
      first : p ≡ 0 → numbers_before ps p ≡ 0
      first e = ap (numbers_before ps) e

      at : ((0 < i) ⊎ (i ≤ 0)) → is_index_before rows (strung ps) x (numbers_before ps p + i - 1) ≡ true
      at (inl g) = by (cases_lt p (length ps))
        where
          by : ((p < length ps) ⊎ (length ps ≤ p)) → is_index_before rows (strung ps) x (numbers_before ps p + i - 1) ≡ true
          by (inl inside) =
              let index = position.inside inside in
              let is : numbers_before ps p + (i - 1) ≡ numbers_before ps p + i - 1 = omega arith in
              subst (λ (k : ℕ). is_index_before rows (strung ps) x k ≡ true) is (in_whole p (i - 1) true inside (omega arith) (low_in g))
          by (inr past) = let within = position.within in let none = position.end (omega arith) in absurd (omega arith)
      at (inr g) = by (cases_lt 0 p)
        where
          by : ((0 < p) ⊎ (p ≤ 0)) → is_index_before rows (strung ps) x (numbers_before ps p + i - 1) ≡ true
          by (inl later) =
              let within = position.within in
              let inside : p - 1 < length ps = omega arith in
              let some = (All-get_or IsPiece ps (p - 1) [] inside pieces).some in
              let more = numbers_before_more ps (p - 1) inside in
              let back : p - 1 + 1 ≡ p = omega arith in
              let same = ap (numbers_before ps) back in
              let is : numbers_before ps (p - 1) + (length (nth_piece ps (p - 1)) - 1) ≡ numbers_before ps p + i - 1 = omega arith in
              subst (λ (k : ℕ). is_index_before rows (strung ps) x k ≡ true) is (in_whole (p - 1) (length (nth_piece ps (p - 1)) - 1) true inside (omega arith) (low_piece (omega arith) later))
          by (inr none) = let zero_before = first (omega arith) in absurd (omega arith)

  high_all : numbers_before ps p + i < length (strung ps) → is_index_before rows (strung ps) x (numbers_before ps p + i) ≡ false
  high_all h = at (cases_lt p (length ps))
    where
      at : ((p < length ps) ⊎ (length ps ≤ p)) → is_index_before rows (strung ps) x (numbers_before ps p + i) ≡ false
      at (inl g) = in_whole p i false g (position.inside g) (high_in g)
      at (inr g) =
          let all = numbers_before_all ps in
          let within = position.within in
          let is : p ≡ length ps = omega arith in
          let same = ap (numbers_before ps) is in
          absurd (omega arith)

  pub position_lower : IsLower x (elements_in rows (strung ps)) (numbers_before ps p + i)
  position_lower = lower_between rows (strung ps) x (numbers_before ps p + i) ordered within_all low_all high_all

-- a position before the end is in a piece
pub inside_piece : (ps : List (List ℕ)) (p i : ℕ) → IsPosition ps p i → numbers_before ps p + i < length (strung ps) → p < length ps
inside_piece ps p i position h = by (cases_lt p (length ps))
  where
    by : ((p < length ps) ⊎ (length ps ≤ p)) → p < length ps
    by (inl g) = g
    by (inr g) =
        let within = position.within in
        let is : p ≡ length ps = omega arith in
        let same = ap (numbers_before ps) is in
        let all = numbers_before_all ps in
        absurd (omega arith)
