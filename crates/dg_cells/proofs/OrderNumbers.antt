-- The cells of rising elements, and the order of their numbers.
use Rattle.std.proofs.Common.{arith, ◌≡◌, ℕ, suc, zero, ◌+◌, ◌<◌, ◌≤◌, Bool, List, [], ◌∷◌, ◌++◌, Option, Some, None, is_some, length, get_or, take, drop, refl, sym, ap, ◌∙◌, subst, ◌⊎◌, inl, inr}
use Rattle.std.specs.Ordering.{is_lt}
use Rattle.std.specs.List.{cons_option, range_with_len}
use Rattle.std.proofs.lemmas.Bool.{cases_lt, true≢false}
use Rattle.std.proofs.lemmas.Cmp.{tied_itself}
use Rattle.std.proofs.lemmas.List.{drop_more, take_all, get_or-map, length-map}
use Rattle.std.proofs.lemmas.List.Elements.{All-from_get_or}
use Rattle.std.proofs.lemmas.List.FromFn.{length-range_with_len, get_or-range_with_len}
use Rattle.dg_graph.specs.declared.element.Element.{Element}
use Rattle.dg_graph.specs.declared.element.Element.TheVariants as kind
use Rattle.dg_graph.specs.Elements.{before, has, IsSet}
use Rattle.dg_graph.proofs.Sets.{element_total}
use Rattle.dg_cells.specs.Rows.{Row, cell_at, new_row, new_rows}
use Rattle.dg_cells.specs.Order.{cell_element, elements_in, AreCells, IsListed}
use Rattle.dg_cells.proofs.RowChanges.{cell_there}
use Rattle.dg_cells.proofs.OrderEdits.{has_at}
use Rattle.dg_cells.proofs.Orders.{IsCell, rises_at}

-- one number more
range_push : (a n j : ℕ) → a + n ≡ j → range_with_len a (suc n) ≡ range_with_len a n ++ j ∷ []
range_push a zero j e = let is : a ≡ j = omega arith in ap (λ (k : ℕ). k ∷ []) is
range_push a (suc n) j e = ap (λ (l : List ℕ). a ∷ l) (range_push (a + 1) n j (omega arith))

pub below_more : (n : ℕ) → range_with_len 0 (n + 1) ≡ range_with_len 0 n ++ n ∷ []
below_more n =
    let one : n + 1 ≡ suc n = omega arith in
    ap (range_with_len 0) one ∙ range_push 0 n n (omega arith)

module _ (on : Bool) (items : List Element) (rising : IsSet items) where
  -- what an index past the list reads as
  abbrev past : Element
  past = kind.Node 0

  filled_at : (n : ℕ) → n < length items → cell_at (new_rows on items) n ≡ Some (new_row on (get_or items n past))
  filled_at n h = get_or-map (λ (x : Element). Some (new_row on x)) items n past None h

  -- some of the numbers, from one on
  elements_from : (from count : ℕ) → from + count ≤ length items → elements_in (new_rows on items) (range_with_len from count) ≡ take count (drop from items)
  elements_from from zero h = refl
  elements_from from (suc count) h =
      ap (λ (o : Option Row). cons_option (cell_element o) (elements_in (new_rows on items) (range_with_len (from + 1) count))) (filled_at from (omega arith))
      ∙ ap (λ (l : List Element). get_or items from past ∷ l) (elements_from (from + 1) count (omega arith))
      ∙ sym (ap (take (suc count)) (drop_more items from past (omega arith)))

  abbrev order : List ℕ
  order = range_with_len 0 (length items)

  all_elements : elements_in (new_rows on items) (range_with_len 0 (length items)) ≡ items
  all_elements = elements_from 0 (length items) (omega arith) ∙ take_all (length items) items (omega arith)

  live : AreCells (new_rows on items) (range_with_len 0 (length items))
  live =
      All-from_get_or (IsCell (new_rows on items)) order 0
      (λ i h.
      let within : i < length items = let len = length-range_with_len 0 (length items) in omega arith in
      let is : get_or order i 0 ≡ i = let at = get_or-range_with_len 0 (length items) i 0 within in omega arith in
      subst (IsCell (new_rows on items)) (sym is) (ap is_some (filled_at i within)))

  -- a cell that is there is that of the element with its number
  row_is : (n : ℕ) (r : Row) → cell_at (new_rows on items) n ≡ Some r → (n < length items) × (r.element ≡ get_or items n past)
  row_is n r e =
      let inside = cell_there (new_rows on items) n r e in
      let len = length-map items (λ (x : Element). Some (new_row on x)) in
      let within : n < length items = omega arith in
      let both : Some r ≡ Some (new_row on (get_or items n past)) = sym e ∙ filled_at n within in
      let is : r ≡ new_row on (get_or items n past) = cc in
      (within, ap (λ (z : Row). z.element) is)

  one_position : (i j : ℕ) → i < j → j < length items → get_or items i past ≡ get_or items j past → ⊥
  one_position i j h l e =
      true≢false
      (sym (rises_at items i j past rising h l)
      ∙ ap (λ (x : Element). before x (get_or items j past)) e
      ∙ ap is_lt (tied_itself element_total (get_or items j past)))

  pub listed_new : IsListed (new_rows on items) (range_with_len 0 (length items))
  listed_new = record {
    in_order = record { live = live; rises = subst IsSet (sym all_elements) rising };
    all = λ n r e.
        let at = row_is n r e in
        ap (λ (l : List Element). has l r.element) all_elements ∙ ap (has items) at.1 ∙ has_at items n past at.0;
    apart = λ i j r q e f g.
        let a = row_is i r e in
        let b = row_is j q f in
        tied i j (sym a.1 ∙ g ∙ b.1) a.0 b.0 (cases_lt i j) (cases_lt j i);
  }
    where
      tied : (i j : ℕ) → get_or items i past ≡ get_or items j past → i < length items → j < length items → ((i < j) ⊎ (j ≤ i)) → ((j < i) ⊎ (i ≤ j)) → i ≡ j
      tied i j e h l (inl low) t = absurd (one_position i j low l e)
      tied i j e h l (inr s) (inl high) = absurd (one_position j i high h (sym e))
      tied i j e h l (inr s) (inr t) = omega arith
