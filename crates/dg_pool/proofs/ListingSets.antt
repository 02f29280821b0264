-- The sets that the cells give, by the cells in the order of their elements.
use Rattle.std.proofs.Common.{arith, zero-add, ◌≡◌, ℕ, suc, zero, min, ◌+◌, Bool, true, false, cond, not, ◌||◌, ◌&&◌, IsTrue, List, [], ◌∷◌, Option, Some, None, IfSome, IfNone, length, map, drop, filter, refl, sym, ap, ◌∙◌, ◌⊎◌, inl, inr}
use Rattle.std.specs.Prelude.{slice_get}
use Rattle.std.specs.List.{list_any, count_by}
use Rattle.std.proofs.lemmas.Bool.{true≢false, or_left, or_right, or_from}
use Rattle.std.proofs.lemmas.List.{drop_all, drop_more}
use Rattle.std.proofs.lemmas.Option.{slice_get_within, get_or_from_slice_get}
use Rattle.std.proofs.lemmas.List.Sums.{sum_by-cons}
use Rattle.dg_graph.specs.declared.element.Element.{Element}
use Rattle.dg_graph.specs.Elements.{IsSet, IsBelowFirst, has, same, before, with_one}
use Rattle.dg_graph.proofs.Sets.{same_members, same_itself, element_exact, before_trans, IsBelowFirst-trans}
use Rattle.dg_cells.specs.declared.cursors.Cursor.{Cursor}
use Rattle.dg_cells.specs.Rows.{Row, cell_at, CellsAreApart, Lacks}
use Rattle.dg_cells.specs.Order.{IsLower, cell_element}
use Rattle.dg_cells.specs.Cursors.{ordered, ordered_elements, cursor_index, index_of_row, row_at}
use Rattle.dg_pool.specs.declared.slots.SlotState.{SlotState}
use Rattle.dg_pool.specs.declared.slots.SlotState.TheVariants as state
use Rattle.dg_pool.specs.Graphs.{PoolState, picked, graph_as, slot_at, slot_graph}
use Rattle.dg_pool.specs.Sweeps.{element_of, in_state, members_as}
use Rattle.dg_pool.specs.Listing.{not_before, is_behind, up_to, element_under, members_from, passing_from}
use Rattle.dg_pool.proofs.GraphSets.{picked_set, picked_decides, picked_nothing}
use Rattle.dg_pool.proofs.GraphInvariant.{row_or_none}

abbrev pub el : Row → Element
el r = r.element

-- ---- rows that pass a test, of rows whose elements rise

below-filter : (test : Row → Bool) (x : Element) (rows : List Row) → IsBelowFirst x (map el rows) → IsSet (map el rows) → IsBelowFirst x (map el (filter test rows))
below-filter test x [] h s = tt
below-filter test x (r ∷ rows) h s = at (test r) (below-filter test x rows (IsBelowFirst-trans x (el r) (map el rows) h s.0) s.1)
  where
    at : (t : Bool) → IsBelowFirst x (map el (filter test rows)) → IsBelowFirst x (map el (cond t (r ∷ filter test rows) (filter test rows)))
    at true rest = h
    at false rest = rest

pub IsSet-passing : (test : Row → Bool) (rows : List Row) → IsSet (map el rows) → IsSet (map el (filter test rows))
IsSet-passing test [] s = tt
IsSet-passing test (r ∷ rows) s = at (test r) (IsSet-passing test rows s.1)
  where
    at : (t : Bool) → IsSet (map el (filter test rows)) → IsSet (map el (cond t (r ∷ filter test rows) (filter test rows)))
    at true rest = (below-filter test (el r) rows s.0 s.1, rest)
    at false rest = rest

has-passing : (test : Row → Bool) (rows : List Row) (q : Element) → has (map el (filter test rows)) q ≡ list_any (λ (r : Row). test r && same q r.element) rows
has-passing test [] q = refl
has-passing test (r ∷ rows) q = at (test r) (has-passing test rows q)
  where
    at : (t : Bool) → has (map el (filter test rows)) q ≡ list_any (λ (z : Row). test z && same q z.element) rows → has (map el (cond t (r ∷ filter test rows) (filter test rows))) q ≡ ((t && same q r.element) || list_any (λ (z : Row). test z && same q z.element) rows)
    at true rest = ap (λ t. same q r.element || t) rest
    at false rest = rest

any_at : (f : Row → Bool) (rows : List Row) (k : ℕ) (r : Row) → slice_get rows k ≡ Some r → f r ≡ true → list_any f rows ≡ true
any_at f [] k r e h = let none : None ≡ Some r = e in cc
any_at f (p ∷ rows) zero r e h = let one : p ≡ r = cc in or_left (f p) (list_any f rows) (ap f one ∙ h)
any_at f (p ∷ rows) (suc k) r e h = or_right (f p) (list_any f rows) (any_at f rows k r e h)

any_none : (f : Row → Bool) (rows : List Row) → ((k : ℕ) (r : Row) → slice_get rows k ≡ Some r → f r ≡ false) → list_any f rows ≡ false
any_none f [] h = refl
any_none f (p ∷ rows) h = or_from (f p) (list_any f rows) (h 0 p refl) (any_none f rows (λ k r e. h (suc k) r e))

-- what the cells give is what their rows give in order
module _ (rows : List (Option Row)) (apart : CellsAreApart rows) (rises : IsSet (ordered_elements rows))
    (all : (n : ℕ) (r : Row) → cell_at rows n ≡ Some r → (k : ℕ) × (slice_get (ordered rows) k ≡ Some r))
    (only : (k : ℕ) (r : Row) → slice_get (ordered rows) k ≡ Some r → (n : ℕ) × (cell_at rows n ≡ Some r)) where
  stands : (test : Row → Bool) (q : Element) (n : ℕ) (r : Row) → cell_at rows n ≡ Some r → r.element ≡ q → (t : Bool) → test r ≡ t → list_any (λ (z : Row). test z && same q z.element) (ordered rows) ≡ t
  stands test q n r there is true e =
      let k = all n r there in
      any_at (λ (z : Row). test z && same q z.element) (ordered rows) k.0 r k.1 ((λ i. e i && same q (is i)) ∙ same_one)
    where
      same_one : (true && same q q) ≡ true
      same_one = same_itself q
  stands test q n r there is false e =
      any_none (λ (z : Row). test z && same q z.element) (ordered rows) (λ k p f. at k p f (same q p.element) refl)
    where
      gone : (t : Bool) → (t && false) ≡ false
      gone true = refl
      gone false = refl

      at : (k : ℕ) (p : Row) → slice_get (ordered rows) k ≡ Some p → (s : Bool) → same q p.element ≡ s → (test p && same q p.element) ≡ false
      at k p f false h = ap (λ t. test p && t) h ∙ gone (test p)
      at k p f true h =
          let m = only k p f in
          let tied = apart m.0 n p r m.1 there (sym (element_exact q p.element h) ∙ sym is) in
          let one : Some p ≡ Some r = sym m.1 ∙ ap (cell_at rows) tied ∙ there in
          let row : p ≡ r = cc in
          ap (λ t. t && same q p.element) (ap test row ∙ e)

  pub picked_in_order : (test : Row → Bool) → picked test rows ≡ map el (filter test (ordered rows))
  picked_in_order test =
      same_members (picked test rows) (map el (filter test (ordered rows))) (picked_set test rows) (IsSet-passing test (ordered rows) rises) (λ q. at q (row_or_none rows q))
    where
      gone : (t s : Bool) → s ≡ false → (t && s) ≡ false
      gone true s e = e
      gone false s e = refl

      at : (q : Element) → ((n : ℕ) × (r : Row) × (cell_at rows n ≡ Some r) × (r.element ≡ q)) ⊎ Lacks rows q → has (picked test rows) q ≡ has (map el (filter test (ordered rows))) q
      at q (inl f) = picked_decides test rows q f.0 f.1 apart f.2 f.3 ∙ sym (has-passing test (ordered rows) q ∙ stands test q f.0 f.1 f.2 f.3 (test f.1) refl)
      at q (inr lacks) =
          picked_nothing test rows q lacks
          ∙ sym (has-passing test (ordered rows) q ∙ any_none (λ (z : Row). test z && same q z.element) (ordered rows) (λ k p f. let m = only k p f in gone (test p) (same q p.element) (lacks m.0 p m.1)))

-- ---- the rows from an index on

pub count-rises : (x y : Element) (ys : List Element) → count_by (λ z. before z x) (y ∷ ys) ≡ cond (before y x) 1 0 + count_by (λ z. before z x) ys
count-rises x y ys = sum_by-cons (λ (z : Element). cond (before z x) 1 0) y ys

later_not : (x y z : Element) → IsTrue (before y z) → before y x ≡ false → (t : Bool) → before z x ≡ t → before z x ≡ false
later_not x y z h e true k = absurd (true≢false (sym (before_trans y z x h k) ∙ e))
later_not x y z h e false k = k

-- none of rising elements is before one that their first is not before
module _ (x : Element) where
  first_not : (y : Element) (ys : List Element) → IsBelowFirst y ys → IsSet ys → before y x ≡ false → count_by (λ z. before z x) ys ≡ 0
  first_not y [] h s e = refl
  first_not y (z ∷ ys) h s e =
      let k = later_not x y z h e (before z x) refl in
      count-rises x z ys ∙ ap (λ t. cond t 1 0 + count_by (λ w. before w x) ys) k ∙ zero-add (count_by (λ w. before w x) ys) ∙ first_not z ys s.0 s.1 k

  all_kept : (test : Row → Bool) (y : Element) (rows : List Row) → IsBelowFirst y (map el rows) → IsSet (map el rows) → before y x ≡ false → filter (λ z. not (before z x)) (map el (filter test rows)) ≡ map el (filter test rows)
  all_kept test y [] h s e = refl
  all_kept test y (r ∷ rows) h s e = at (test r) (later_not x y (el r) h e (before (el r) x) refl) (all_kept test (el r) rows s.0 s.1 (later_not x y (el r) h e (before (el r) x) refl))
    where
      at : (t : Bool) → before (el r) x ≡ false → filter (λ z. not (before z x)) (map el (filter test rows)) ≡ map el (filter test rows) → filter (λ z. not (before z x)) (map el (cond t (r ∷ filter test rows) (filter test rows))) ≡ map el (cond t (r ∷ filter test rows) (filter test rows))
      at true k rest = ap (λ t. cond (not t) (el r ∷ filter (λ z. not (before z x)) (map el (filter test rows))) (filter (λ z. not (before z x)) (map el (filter test rows)))) k ∙ ap (λ l. el r ∷ l) rest
      at false k rest = rest

  -- those that are not before x are those from its index on
  pub rest_by_index : (test : Row → Bool) (rows : List Row) → IsSet (map el rows) → filter (λ y. not (before y x)) (map el (filter test rows)) ≡ map el (filter test (drop (count_by (λ y. before y x) (map el rows)) rows))
  rest_by_index test [] s = refl
  rest_by_index test (r ∷ rows) s = at (before (el r) x) refl (rest_by_index test rows s.1)
    where
      here : List Row → List Element
      here l = map el (filter test l)

      at : (b : Bool) → before (el r) x ≡ b
          → filter (λ y. not (before y x)) (map el (filter test rows)) ≡ map el (filter test (drop (count_by (λ y. before y x) (map el rows)) rows))
          → filter (λ y. not (before y x)) (map el (cond (test r) (r ∷ filter test rows) (filter test rows))) ≡ map el (filter test (drop (count_by (λ y. before y x) (el r ∷ map el rows)) (r ∷ rows)))
      at true e rest = passed (test r) ∙ rest ∙ sym (ap (λ n. map el (filter test (drop n (r ∷ rows)))) one_more)
        where
          one_more : count_by (λ y. before y x) (el r ∷ map el rows) ≡ suc (count_by (λ y. before y x) (map el rows))
          one_more = let c = count-rises x (el r) (map el rows) ∙ ap (λ t. cond t 1 0 + count_by (λ w. before w x) (map el rows)) e in omega arith

          passed : (t : Bool) → filter (λ y. not (before y x)) (map el (cond t (r ∷ filter test rows) (filter test rows))) ≡ filter (λ y. not (before y x)) (map el (filter test rows))
          passed true = ap (λ t. cond (not t) (el r ∷ filter (λ z. not (before z x)) (map el (filter test rows))) (filter (λ z. not (before z x)) (map el (filter test rows)))) e
          passed false = refl
      at false e rest = kept (test r) ∙ sym (ap (λ n. map el (filter test (drop n (r ∷ rows)))) none)
        where
          none : count_by (λ y. before y x) (el r ∷ map el rows) ≡ 0
          none = count-rises x (el r) (map el rows) ∙ ap (λ t. cond t 1 0 + count_by (λ w. before w x) (map el rows)) e ∙ zero-add (count_by (λ w. before w x) (map el rows)) ∙ first_not (el r) (map el rows) s.0 s.1 e

          kept : (t : Bool) → filter (λ y. not (before y x)) (map el (cond t (r ∷ filter test rows) (filter test rows))) ≡ map el (cond t (r ∷ filter test rows) (filter test rows))
          kept true = ap (λ t. cond (not t) (el r ∷ filter (λ z. not (before z x)) (map el (filter test rows))) (filter (λ z. not (before z x)) (map el (filter test rows)))) e ∙ ap (λ l. el r ∷ l) (all_kept test (el r) rows s.0 s.1 e)
          kept false = all_kept test (el r) rows s.0 s.1 e

-- the index where x belongs is the number of those before it
pub lower_is_count : (x : Element) (xs : List Element) (at : ℕ) → IsLower x xs at → at ≡ count_by (λ y. before y x) xs
lower_is_count x [] at h = let w = h.within in omega arith
lower_is_count x (y ∷ xs) zero h =
    let here : before y x ≡ false = h.high 0 y (omega arith) (omega arith) in
    let rest = lower_is_count x xs zero (record { within = omega arith; low = λ k d l. absurd (omega arith); high = λ k d a b. h.high (suc k) d (omega arith) (omega arith) }) in
    let c = count-rises x y xs ∙ ap (λ t. cond t 1 0 + count_by (λ w. before w x) xs) here in
    omega (arith, c, rest)
lower_is_count x (y ∷ xs) (suc at) h =
    let here : before y x ≡ true = h.low 0 y (omega arith) in
    let within = h.within in
    let rest = lower_is_count x xs at (record { within = omega arith; low = λ k d l. h.low (suc k) d (omega arith); high = λ k d a b. h.high (suc k) d (omega arith) (omega arith) }) in
    let c = count-rises x y xs ∙ ap (λ t. cond t 1 0 + count_by (λ w. before w x) xs) here in
    omega (arith, c, rest)

-- the cells from a cursor on that pass the test, by the set that they give
pub passing_is : (rows : List (Option Row)) → CellsAreApart rows → IsSet (ordered_elements rows)
    → ((n : ℕ) (r : Row) → cell_at rows n ≡ Some r → (k : ℕ) × (slice_get (ordered rows) k ≡ Some r))
    → ((k : ℕ) (r : Row) → slice_get (ordered rows) k ≡ Some r → (n : ℕ) × (cell_at rows n ≡ Some r))
    → (test : Row → Bool) (c : Cursor) → not_before (picked test rows) (element_of (row_at rows c.cell)) ≡ passing_from test rows c
passing_is rows apart rises all only test c = at (row_at rows c.cell)
  where
    at : (o : Option Row) → not_before (picked test rows) (element_of o) ≡ map el (filter test (drop (index_of_row rows o) (ordered rows)))
    at None = sym (ap (λ l. map el (filter test l)) (drop_all (length (ordered rows)) (ordered rows) (omega arith)))
    at (Some r) = ap (filter (λ y. not (before y r.element))) (picked_in_order rows apart rises all only test) ∙ rest_by_index r.element test (ordered rows) rises

-- a cell more
pub passing_step : (test : Row → Bool) (rows : List (Option Row)) (c d : Cursor) (r : Row) → slice_get (ordered rows) (cursor_index rows c) ≡ Some r → cursor_index rows d ≡ min (cursor_index rows c + 1) (length (ordered rows))
    → passing_from test rows c ≡ cond (test r) (r.element ∷ passing_from test rows d) (passing_from test rows d)
passing_step test rows c d r e f =
    let within = slice_get_within (ordered rows) (cursor_index rows c) r e in
    let next : cursor_index rows c + 1 ≡ cursor_index rows d = omega arith in
    ap (λ l. map el (filter test l)) (drop_more (ordered rows) (cursor_index rows c) r within)
    ∙ (λ i. map el (filter test (get_or_from_slice_get (ordered rows) (cursor_index rows c) r r e i ∷ drop (next i) (ordered rows))))
    ∙ at (test r)
  where
    at : (t : Bool) → map el (cond t (r ∷ filter test (drop (cursor_index rows d) (ordered rows))) (filter test (drop (cursor_index rows d) (ordered rows)))) ≡ cond t (r.element ∷ passing_from test rows d) (passing_from test rows d)
    at true = refl
    at false = refl

pub passing_end : (test : Row → Bool) (rows : List (Option Row)) (c : Cursor) → cursor_index rows c ≡ length (ordered rows) → passing_from test rows c ≡ []
passing_end test rows c e = ap (λ l. map el (filter test l)) (drop_all (cursor_index rows c) (ordered rows) (omega arith))

-- ---- a walk up to an element

-- a row whose element comes behind x adds nothing up to x
skips : (x : Element) (r : Row) (rows : List Row) (t : Bool) → IsTrue (before x (el r)) → up_to (map el rows) (Some x) ≡ [] → up_to (map el (cond t (r ∷ rows) rows)) (Some x) ≡ []
skips x r rows true e rest = ap (λ b. cond (not b) (el r ∷ up_to (map el rows) (Some x)) (up_to (map el rows) (Some x))) e ∙ rest
skips x r rows false e rest = rest

-- from a row on whose element comes behind x, all do
from_behind : (x : Element) (test : Row → Bool) (r : Row) (rows : List Row) → IsTrue (before x (el r)) → IsSet (map el (r ∷ rows)) → up_to (map el (filter test (r ∷ rows))) (Some x) ≡ []
from_behind x test r [] e s = skips x r [] (test r) e refl
from_behind x test r (q ∷ rows) e s = skips x r (filter test (q ∷ rows)) (test r) e (from_behind x test q rows (before_trans x (el r) (el q) e s.0) s.1)

behind_index : (x : Element) (test : Row → Bool) (rows : List Row) (k : ℕ) (r : Row) → IsSet (map el rows) → slice_get rows k ≡ Some r → IsTrue (before x (el r)) → up_to (map el (filter test (drop k rows))) (Some x) ≡ []
behind_index x test [] k r s e f = let none : None ≡ Some r = e in cc
behind_index x test (p ∷ rows) zero r s e f = let one : r ≡ p = cc in from_behind x test p rows (ap (λ (q : Row). before x q.element) (sym one) ∙ f) s
behind_index x test (p ∷ rows) (suc k) r s e f = behind_index x test rows k r s.1 e f

-- at a cell whose element comes behind the last one, the walk may end
pub passing_behind : (test : Row → Bool) (rows : List (Option Row)) (c : Cursor) (r : Row) (last : Option Element) → IsSet (ordered_elements rows) → slice_get (ordered rows) (cursor_index rows c) ≡ Some r → is_behind last r.element ≡ true → up_to (passing_from test rows c) last ≡ []
passing_behind test rows c r None s e f = absurd (true≢false (sym f))
passing_behind test rows c r (Some x) s e f = behind_index x test (ordered rows) (cursor_index rows c) r s e f

pub none_up_to : (set : List Element) (last : Option Element) → set ≡ [] → up_to set last ≡ []
none_up_to set None e = e
none_up_to set (Some x) e = ap (λ l. up_to l (Some x)) e

-- ---- the members of a slot

picked_none : (test : Row → Bool) (rows : List (Option Row)) → ((r : Row) → test r ≡ false) → picked test rows ≡ []
picked_none test [] f = refl
picked_none test (o ∷ rows) f = at o ∙ picked_none test rows f
  where
    at : (o : Option Row) → picked test (o ∷ rows) ≡ picked test rows
    at None = refl
    at (Some r) = ap (λ t. with_one (picked test rows) (cond t (Some r.element) None)) (f r)

pub members_are : (rows : List (Option Row)) (s : ℕ) (slot : SlotState) → members_as (graph_as rows s slot) ≡ picked (in_state s slot) rows
members_are rows s state.Free = sym (picked_none (in_state s state.Free) rows (λ r. refl))
members_are rows s (state.Released swept) = sym (picked_none (in_state s (state.Released swept)) rows (λ r. refl))
members_are rows s (state.Live b cols) = refl

module _ (p : PoolState) (apart : CellsAreApart p.rows) (rises : IsSet (ordered_elements p.rows))
    (all : (n : ℕ) (r : Row) → cell_at p.rows n ≡ Some r → (k : ℕ) × (slice_get (ordered p.rows) k ≡ Some r))
    (only : (k : ℕ) (r : Row) → slice_get (ordered p.rows) k ≡ Some r → (n : ℕ) × (cell_at p.rows n ≡ Some r)) where
  pub members_from_is : (s : ℕ) (c : Cursor) → members_from p s c ≡ passing_from (in_state s (slot_at p.slots s)) p.rows c
  members_from_is s c =
      ap (λ set. not_before set (element_under p c)) (members_are p.rows s (slot_at p.slots s))
      ∙ passing_is p.rows apart rises all only (in_state s (slot_at p.slots s)) c

  in_order : (s : ℕ) → members_as (slot_graph p s) ≡ map el (filter (in_state s (slot_at p.slots s)) (ordered p.rows))
  in_order s = members_are p.rows s (slot_at p.slots s) ∙ picked_in_order p.rows apart rises all only (in_state s (slot_at p.slots s))

  -- from the first cell on, all
  pub members_from_first : (s : ℕ) (c : Cursor) → cursor_index p.rows c ≡ 0 → members_from p s c ≡ members_as (slot_graph p s)
  members_from_first s c e =
      members_from_is s c ∙ ap (λ n. map el (filter (in_state s (slot_at p.slots s)) (drop n (ordered p.rows)))) e ∙ sym (in_order s)

  -- from where an element belongs, those that are not before it
  pub members_from_lower : (s : ℕ) (c : Cursor) (x : Element) → IsLower x (ordered_elements p.rows) (cursor_index p.rows c) → members_from p s c ≡ not_before (members_as (slot_graph p s)) (Some x)
  members_from_lower s c x h =
      members_from_is s c
      ∙ ap (λ n. map el (filter (in_state s (slot_at p.slots s)) (drop n (ordered p.rows)))) (lower_is_count x (ordered_elements p.rows) (cursor_index p.rows c) h)
      ∙ sym (rest_by_index x (in_state s (slot_at p.slots s)) (ordered p.rows) rises)
      ∙ sym (ap (filter (λ y. not (before y x))) (in_order s))

  pub next_some : (s : ℕ) (c : Cursor) (o : Option (Element × Cursor)) → IfSome o (λ m. passing_from (in_state s (slot_at p.slots s)) p.rows c ≡ m.0 ∷ passing_from (in_state s (slot_at p.slots s)) p.rows m.1) → IfSome o (λ m. members_from p s c ≡ m.0 ∷ members_from p s m.1)
  next_some s c None h = h
  next_some s c (Some m) h = members_from_is s c ∙ h ∙ ap (λ l. m.0 ∷ l) (sym (members_from_is s m.1))

  pub next_none : (s : ℕ) (c : Cursor) (last : Option Element) (o : Option (Element × Cursor)) → IfNone o (up_to (passing_from (in_state s (slot_at p.slots s)) p.rows c) last ≡ []) → IfNone o (up_to (members_from p s c) last ≡ [])
  next_none s c last None h = ap (λ set. up_to set last) (members_from_is s c) ∙ h
  next_none s c last (Some m) h = h

-- ---- a cell by its element

pub row_of : (o : Option Row) (x : Element) → cell_element o ≡ Some x → (r : Row) × (o ≡ Some r) × (r.element ≡ x)
row_of None x e = cc
row_of (Some r) x e = (r, refl, (let both : Some r.element ≡ Some x = e in cc))
