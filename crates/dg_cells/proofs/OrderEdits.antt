-- The order of the cells after a cell is given, taken or written.
use Rattle.std.proofs.Common.{arith, ◌≡◌, ℕ, suc, zero, ◌<◌, ◌≤◌, Bool, true, false, cond, not, ◌||◌, ◌&&◌, List, [], ◌∷◌, ◌++◌, Option, Some, None, IsSome, is_some, length, get_or, set, take, drop, refl, sym, ap, ◌∙◌, subst, ◌⊎◌, inl, inr, IsTrue}
use Rattle.std.specs.declared.cmp.Ordering.{Ordering}
use Rattle.std.specs.declared.cmp.Ordering.TheVariants.{Less, Equal, Greater}
use Rattle.std.specs.Ordering.{is_lt, is_eq}
use Rattle.std.specs.List.{cons_option, insert, remove}
use Rattle.std.proofs.lemmas.Bool.{cases_eq, cases_lt, true≢false, or_from, or_left, or_right}
use Rattle.std.proofs.lemmas.List.Elements.{All-head, All-tail, All-append, All-take, All-drop, All-cons, All-nil, All-weaker}
use Rattle.dg_graph.specs.declared.element.Element.{Element}
use Rattle.dg_graph.specs.declared.element.Element.TheVariants as kind
use Rattle.dg_graph.specs.Elements.{element_cmp, before, same, has, IsSet, put, take_out}
use Rattle.dg_graph.proofs.Sets.{differs_back, lacks_below, before_from_Greater, same_itself, element_exact, has-put, has-take_out, IsSet-put, IsSet-take_out, take_out-absent}
use Rattle.dg_set.proofs.Indices.{before_at, put-first, put-past}
use Rattle.dg_cells.specs.Rows.{Row, cell_at, CellsAreApart, Lacks}
use Rattle.dg_cells.specs.Order.{cell_element, elements_in, AreCells, IsLower, IsListed, Puts}
use Rattle.dg_cells.proofs.RowChanges.{cell_past, cell_written, cell_there, apart_by, comes_written}
use Rattle.dg_cells.proofs.Orders.{IsCell, length-elements_in, element_there}

-- ---- elements of a cell

pub element_is : (o : Option Row) (x : Element) → cell_element o ≡ Some x → (r : Row) × (o ≡ Some r) × (r.element ≡ x)
element_is None x e = cc
element_is (Some r) x e = (r, refl, cc)

pub some_is : (o : Option Row) (x : Element) → cell_element o ≡ Some x → IsSome o
some_is None x e = cc
some_is (Some r) x e = refl

-- each element keeps its cell
abbrev pub KeepsElements : List (Option Row) → List (Option Row) → Type 0
KeepsElements old new = (n : ℕ) (x : Element) → cell_element (cell_at old n) ≡ Some x → cell_element (cell_at new n) ≡ Some x

pub elements_as : (old new : List (Option Row)) → KeepsElements old new → (order : List ℕ) → AreCells old order → elements_in new order ≡ elements_in old order
elements_as old new keeps [] h = refl
elements_as old new keeps (n ∷ order) h =
    at (elements_as old new keeps order (All-tail (IsCell old) n order h)) (cell_at old n) refl (All-head (IsCell old) n order h)
  where
    at : elements_in new order ≡ elements_in old order → (o : Option Row) → cell_at old n ≡ o → IsSome o → elements_in new (n ∷ order) ≡ elements_in old (n ∷ order)
    at rest None e i = cc
    at rest (Some r) e i =
        let was = ap cell_element e in
        let is = keeps n r.element was ∙ sym was in
        λ t. cons_option (is t) (rest t)

pub cells_as : (old new : List (Option Row)) → KeepsElements old new → (order : List ℕ) → AreCells old order → AreCells new order
cells_as old new keeps order h = All-weaker (IsCell old) (IsCell new) (λ n i. at n (cell_at old n) refl i) order h
  where
    at : (n : ℕ) (o : Option Row) → cell_at old n ≡ o → IsSome o → IsSome (cell_at new n)
    at n None e i = cc
    at n (Some r) e i = some_is (cell_at new n) r.element (keeps n r.element (ap cell_element e))

-- ---- parts of an order

pub elements_append : (rows : List (Option Row)) (a b : List ℕ) → elements_in rows (a ++ b) ≡ elements_in rows a ++ elements_in rows b
elements_append rows [] b = refl
elements_append rows (n ∷ a) b = ap (cons_option (cell_element (cell_at rows n))) (elements_append rows a b) ∙ at (cell_element (cell_at rows n))
  where
    at : (o : Option Element) → cons_option o (elements_in rows a ++ elements_in rows b) ≡ cons_option o (elements_in rows a) ++ elements_in rows b
    at None = refl
    at (Some x) = refl

pub elements_drop : (rows : List (Option Row)) (order : List ℕ) (i : ℕ) → AreCells rows order → elements_in rows (drop i order) ≡ drop i (elements_in rows order)
elements_drop rows order zero h = refl
elements_drop rows [] (suc i) h = refl
elements_drop rows (n ∷ order) (suc i) h =
    elements_drop rows order i (All-tail (IsCell rows) n order h) ∙ at (cell_at rows n) (All-head (IsCell rows) n order h)
  where
    at : (o : Option Row) → IsSome o → drop i (elements_in rows order) ≡ drop (suc i) (cons_option (cell_element o) (elements_in rows order))
    at None e = cc
    at (Some x) e = refl

pub elements_take : (rows : List (Option Row)) (order : List ℕ) (i : ℕ) → AreCells rows order → elements_in rows (take i order) ≡ take i (elements_in rows order)
elements_take rows order zero h = refl
elements_take rows [] (suc i) h = refl
elements_take rows (n ∷ order) (suc i) h =
    ap (cons_option (cell_element (cell_at rows n))) (elements_take rows order i (All-tail (IsCell rows) n order h)) ∙ at (cell_at rows n) (All-head (IsCell rows) n order h)
  where
    at : (o : Option Row) → IsSome o → cons_option (cell_element o) (take i (elements_in rows order)) ≡ take (suc i) (cons_option (cell_element o) (elements_in rows order))
    at None e = cc
    at (Some x) e = refl

pub elements_insert : (rows : List (Option Row)) (order : List ℕ) (k n : ℕ) (x : Element) → AreCells rows order → cell_element (cell_at rows n) ≡ Some x → elements_in rows (insert order k n) ≡ insert (elements_in rows order) k x
elements_insert rows order k n x h e =
    elements_append rows (take k order) (n ∷ drop k order)
    ∙ (λ t. elements_take rows order k h t ++ cons_option (e t) (elements_drop rows order k h t))

pub elements_remove : (rows : List (Option Row)) (order : List ℕ) (k : ℕ) → AreCells rows order → elements_in rows (remove order k) ≡ remove (elements_in rows order) k
elements_remove rows order k h =
    elements_append rows (take k order) (drop (suc k) order)
    ∙ (λ t. elements_take rows order k h t ++ elements_drop rows order (suc k) h t)

pub cells_insert : (rows : List (Option Row)) (order : List ℕ) (k n : ℕ) → AreCells rows order → IsSome (cell_at rows n) → AreCells rows (insert order k n)
cells_insert rows order k n h i =
    All-append (IsCell rows) (take k order) (n ∷ drop k order) (All-take (IsCell rows) k order h) (All-cons (IsCell rows) n (drop k order) i (All-drop (IsCell rows) k order h))

-- ---- sets by positions

-- what is not before x and is not x stands after it
pub after_from : (x y : Element) → before y x ≡ false → same x y ≡ false → IsTrue (before x y)
after_from x y e f = by (element_cmp x y) refl
  where
    by : (o : Ordering) → element_cmp x y ≡ o → is_lt (element_cmp x y) ≡ true
    by Less p = ap is_lt p
    by Equal p = absurd (true≢false (sym (ap is_eq p) ∙ f))
    by Greater p = absurd (true≢false (sym (before_from_Greater x y p) ∙ e))

lower_tail : (x y : Element) (xs : List Element) (at : ℕ) → IsLower x (y ∷ xs) (suc at) → IsLower x xs at
lower_tail x y xs at p = record {
  within = let w = p.within in omega arith;
  low = λ k e h. p.low (suc k) e (omega arith);
  high = λ k e h l. p.high (suc k) e (omega arith) (omega arith);
}

-- an element that does not stand where it belongs is not there
pub lacks_lower : (x : Element) (xs : List Element) (at : ℕ) (d : Element) → IsSet xs → IsLower x xs at → (at < length xs → same x (get_or xs at d) ≡ false) → has xs x ≡ false
lacks_lower x [] at d s p f = refl
lacks_lower x (y ∷ xs) zero d s p f =
    lacks_below x (y ∷ xs) (after_from x y (p.high 0 d (omega arith) (omega arith)) (f (omega arith))) s
lacks_lower x (y ∷ xs) (suc at) d s p f =
    or_from (same x y) (has xs x) (differs_back y x (p.low 0 d (omega arith)))
    (lacks_lower x xs at d s.1 (lower_tail x y xs at p) (λ h. f (omega arith)))

-- an element that is not there is put where it belongs
pub put_lower : (x : Element) (xs : List Element) (at : ℕ) (d : Element) → IsLower x xs at → (at < length xs → same x (get_or xs at d) ≡ false) → put x xs ≡ insert xs at x
put_lower x [] zero d p f = refl
put_lower x [] (suc at) d p f = absurd (let w = p.within in omega arith)
put_lower x (y ∷ xs) zero d p f =
    put-first x (y ∷ xs) (after_from x y (p.high 0 d (omega arith) (omega arith)) (f (omega arith)))
put_lower x (y ∷ xs) (suc at) d p f =
    put-past x y xs (p.low 0 d (omega arith)) ∙ ap (λ l. y ∷ l) (put_lower x xs at d (lower_tail x y xs at p) (λ h. f (omega arith)))

pub take_out_at : (xs : List Element) (at : ℕ) (d : Element) → IsSet xs → at < length xs → take_out (get_or xs at d) xs ≡ remove xs at
take_out_at [] at d s h = absurd (omega arith)
take_out_at (y ∷ xs) zero d s h =
    ap (λ b. cond (not b) (y ∷ take_out y xs) (take_out y xs)) (same_itself y)
    ∙ take_out-absent y xs s.1 (lacks_below y xs s.0 s.1)
take_out_at (y ∷ xs) (suc at) d s h =
    let x = get_or xs at d in
    ap (λ b. cond (not b) (y ∷ take_out x xs) (take_out x xs)) (differs_back y x (before_at y xs at d s.0 s.1 (omega arith)))
    ∙ ap (λ l. y ∷ l) (take_out_at xs at d s.1 (omega arith))

pub has_at : (ys : List Element) (k : ℕ) (e : Element) → k < length ys → has ys (get_or ys k e) ≡ true
has_at [] k e l = absurd (omega arith)
has_at (y ∷ ys) zero e l = or_left (same y y) (has ys y) (same_itself y)
has_at (y ∷ ys) (suc k) e l = or_right (same (get_or ys k e) y) (has ys (get_or ys k e)) (has_at ys k e (omega arith))

first_false : (a b : Bool) → (a || b) ≡ false → a ≡ false
first_false true b e = cc
first_false false b e = refl

second_false : (a b : Bool) → (a || b) ≡ false → b ≡ false
second_false true b e = cc
second_false false b e = e

-- ---- what a search has found

module _ (rows : List (Option Row)) (order : List ℕ) (x : Element) (at : ℕ) (listed : IsListed rows order) where
  pub lacks_of : has (elements_in rows order) x ≡ false → Lacks rows x
  lacks_of gone n r e = by (same x r.element) refl
    where
      by : (t : Bool) → same x r.element ≡ t → same x r.element ≡ false
      by false f = f
      by true f =
          absurd (true≢false (sym (listed.all n r e) ∙ ap (has (elements_in rows order)) (sym (element_exact x r.element f)) ∙ gone))

  pub absent_from : IsLower x (elements_in rows order) at → (at < length order → same x (get_or (elements_in rows order) at (kind.Node 0)) ≡ false) → has (elements_in rows order) x ≡ false
  absent_from lower f =
      lacks_lower x (elements_in rows order) at (kind.Node 0) listed.in_order.rises lower
      (λ h. f (let len = length-elements_in rows order listed.in_order.live in omega arith))

-- an element that has a cell stands where it belongs
pub found_at : (rows : List (Option Row)) (order : List ℕ) (n : ℕ) (x : Element) (at : ℕ) → IsListed rows order → cell_element (cell_at rows n) ≡ Some x → IsLower x (elements_in rows order) at → (at < length order) × (get_or order at 0 ≡ n)
found_at rows order n x at listed there lower = by (cases_lt at (length order))
  where
    mine : (r : Row) × (cell_at rows n ≡ Some r) × (r.element ≡ x)
    mine = element_is (cell_at rows n) x there

    has_it : has (elements_in rows order) x ≡ true
    has_it = ap (has (elements_in rows order)) (sym mine.2) ∙ listed.all n mine.0 mine.1

    by : ((at < length order) ⊎ (length order ≤ at)) → (at < length order) × (get_or order at 0 ≡ n)
    by (inr h) = absurd (true≢false (sym has_it ∙ absent_from rows order x at listed lower (λ g. absurd (omega arith))))
    by (inl h) = split (same x (get_or (elements_in rows order) at (kind.Node 0))) refl
      where
        split : (t : Bool) → same x (get_or (elements_in rows order) at (kind.Node 0)) ≡ t → (at < length order) × (get_or order at 0 ≡ n)
        split false f = absurd (true≢false (sym has_it ∙ absent_from rows order x at listed lower (λ _. f)))
        split true f =
            let cell = element_is (cell_at rows (get_or order at 0)) (get_or (elements_in rows order) at (kind.Node 0)) (element_there rows order at (kind.Node 0) listed.in_order.live h) in
            let is = element_exact x (get_or (elements_in rows order) at (kind.Node 0)) f in
            (h, listed.apart (get_or order at 0) n cell.0 mine.0 cell.1 mine.1 (cell.2 ∙ sym is ∙ sym mine.2))

-- ---- changes of one cell

module _ (old new : List (Option Row)) (order : List ℕ) (n : ℕ) (r : Row) (x : Element) (at : ℕ) (listed : IsListed old order) (is : r.element ≡ x)
    (lower : IsLower x (elements_in old order) at) (absent : has (elements_in old order) x ≡ false) (puts : Puts old new n r) where
  keeps_put : KeepsElements old new
  keeps_put m y e = by (cases_eq m n)
    where
      by : ((m ≡ n) ⊎ (m ≡ n → ⊥)) → cell_element (cell_at new m) ≡ Some y
      by (inl f) = let none : None ≡ Some y = sym (ap cell_element (ap (cell_at old) f ∙ puts.vacant)) ∙ e in cc
      by (inr d) = ap cell_element (puts.others m d) ∙ e

  put_there : cell_element (cell_at new n) ≡ Some x
  put_there = ap cell_element puts.put ∙ ap (λ z. Some z) is

  differs_at : at < length (elements_in old order) → same x (get_or (elements_in old order) at (kind.Node 0)) ≡ false
  differs_at h = by (same x (get_or xs at d)) refl
    where
      xs : List Element
      xs = elements_in old order

      d : Element
      d = kind.Node 0

      by : (t : Bool) → same x (get_or (elements_in old order) at (kind.Node 0)) ≡ t → same x (get_or (elements_in old order) at (kind.Node 0)) ≡ false
      by false f = f
      by true f =
          absurd (true≢false (sym (has_at (elements_in old order) at (kind.Node 0) h) ∙ ap (has (elements_in old order)) (sym (element_exact x (get_or (elements_in old order) at (kind.Node 0)) f)) ∙ absent))

  pub elements_put : elements_in new (insert order at n) ≡ put x (elements_in old order)
  elements_put =
      elements_insert new order at n x (cells_as old new keeps_put order listed.in_order.live) put_there
      ∙ ap (λ l. insert l at x) (elements_as old new keeps_put order listed.in_order.live)
      ∙ sym (put_lower x (elements_in old order) at (kind.Node 0) lower differs_at)

  where_from : (m : ℕ) (q : Row) → cell_at new m ≡ Some q → ((m ≡ n) × (q ≡ r)) ⊎ (cell_at old m ≡ Some q)
  where_from m q e = by (cases_eq m n)
    where
      by : ((m ≡ n) ⊎ (m ≡ n → ⊥)) → ((m ≡ n) × (q ≡ r)) ⊎ (cell_at old m ≡ Some q)
      by (inl f) = let both : Some q ≡ Some r = sym e ∙ ap (cell_at new) f ∙ puts.put in inl (f, cc)
      by (inr d) = inr (sym (puts.others m d) ∙ e)

  never : (m : ℕ) (q : Row) → cell_at old m ≡ Some q → q.element ≡ x → ⊥
  never m q e f = true≢false (sym (listed.all m q e) ∙ ap (has (elements_in old order)) f ∙ absent)

  pub listed_put : IsListed new (insert order at n)
  listed_put = record {
    in_order = record {
      live = cells_insert new order at n (cells_as old new keeps_put order listed.in_order.live) (some_is (cell_at new n) x put_there);
      rises = subst IsSet (sym elements_put) (IsSet-put x (elements_in old order) listed.in_order.rises);
    };
    all = λ m q e. ap (λ l. has l q.element) elements_put ∙ has-put x (elements_in old order) q.element ∙ all_by m q (where_from m q e);
    apart = λ i j p q a b e. apart_by i j p q e (where_from i p a) (where_from j q b);
  }
    where
      all_by : (m : ℕ) (q : Row) → (((m ≡ n) × (q ≡ r)) ⊎ (cell_at old m ≡ Some q)) → (same q.element x || has (elements_in old order) q.element) ≡ true
      all_by m q (inl f) = or_left (same q.element x) (has (elements_in old order) q.element) (ap (λ y. same y x) (ap (λ (z : Row). z.element) f.1 ∙ is) ∙ same_itself x)
      all_by m q (inr f) = or_right (same q.element x) (has (elements_in old order) q.element) (listed.all m q f)

      apart_by : (i j : ℕ) (p q : Row) → p.element ≡ q.element → (((i ≡ n) × (p ≡ r)) ⊎ (cell_at old i ≡ Some p)) → (((j ≡ n) × (q ≡ r)) ⊎ (cell_at old j ≡ Some q)) → i ≡ j
      apart_by i j p q e (inl f) (inl g) = f.0 ∙ sym g.0
      apart_by i j p q e (inl f) (inr g) = absurd (never j q g (sym e ∙ ap (λ (z : Row). z.element) f.1 ∙ is))
      apart_by i j p q e (inr f) (inl g) = absurd (never i p f (e ∙ ap (λ (z : Row). z.element) g.1 ∙ is))
      apart_by i j p q e (inr f) (inr g) = listed.apart i j p q f g e

-- a cell is vacated
module _ (rows : List (Option Row)) (order : List ℕ) (n : ℕ) (r : Row) (at : ℕ) (listed : IsListed rows order) (was : cell_at rows n ≡ Some r) (within : at < length order) (is : get_or order at 0 ≡ n) where
  abbrev gone : List (Option Row)
  gone = set rows n None

  element_at : get_or (elements_in rows order) at (kind.Node 0) ≡ r.element
  element_at =
      let both : Some (get_or (elements_in rows order) at (kind.Node 0)) ≡ Some r.element =
      sym (element_there rows order at (kind.Node 0) listed.in_order.live within) ∙ ap (λ m. cell_element (cell_at rows m)) is ∙ ap cell_element was in
      cc

  elements_gone : remove (elements_in rows order) at ≡ take_out r.element (elements_in rows order)
  elements_gone =
      let len = length-elements_in rows order listed.in_order.live in
      sym (take_out_at (elements_in rows order) at (kind.Node 0) listed.in_order.rises (omega arith))
      ∙ ap (λ x. take_out x (elements_in rows order)) element_at

  other : (m : ℕ) (q : Row) → cell_at rows m ≡ Some q → same r.element q.element ≡ false → cell_at gone m ≡ cell_at rows m
  other m q e f = cell_past rows n m None (λ here. true≢false (sym (same_itself r.element) ∙ ap (same r.element) (elements here) ∙ f))
    where
      elements : m ≡ n → r.element ≡ q.element
      elements here = let both : Some r ≡ Some q = sym was ∙ sym (ap (cell_at rows) here) ∙ e in ap (λ (z : Row). z.element) (the both)
        where
          the : Some r ≡ Some q → r ≡ q
          the both = cc

  -- numbers of other cells
  others_stay : (numbers : List ℕ) → AreCells rows numbers → has (elements_in rows numbers) r.element ≡ false → (elements_in gone numbers ≡ elements_in rows numbers) × AreCells gone numbers
  others_stay [] h e = (refl, All-nil (IsCell gone))
  others_stay (m ∷ numbers) h e = by (cell_at rows m) refl (All-head (IsCell rows) m numbers h) (others_stay numbers (All-tail (IsCell rows) m numbers h))
    where
      by : (o : Option Row) → cell_at rows m ≡ o → IsSome o → (has (elements_in rows numbers) r.element ≡ false → (elements_in gone numbers ≡ elements_in rows numbers) × AreCells gone numbers) → (elements_in gone (m ∷ numbers) ≡ elements_in rows (m ∷ numbers)) × AreCells gone (m ∷ numbers)
      by None f i rest = cc
      by (Some q) f i rest =
          let apart : (same r.element q.element || has (elements_in rows numbers) r.element) ≡ false = ap (λ o. has (cons_option (cell_element o) (elements_in rows numbers)) r.element) (sym f) ∙ e in
          let stays = other m q f (first_false (same r.element q.element) (has (elements_in rows numbers) r.element) apart) in
          let tail = rest (second_false (same r.element q.element) (has (elements_in rows numbers) r.element) apart) in
          ((λ t. cons_option (cell_element (stays t)) (tail.0 t)), All-cons (IsCell gone) m numbers (ap is_some (stays ∙ f)) tail.1)

  rest_lacks : has (elements_in rows (remove order at)) r.element ≡ false
  rest_lacks =
      ap (λ l. has l r.element) (elements_remove rows order at listed.in_order.live ∙ elements_gone)
      ∙ has-take_out r.element (elements_in rows order) r.element
      ∙ ap (λ b. not b && has (elements_in rows order) r.element) (same_itself r.element)

  cells_left : AreCells rows (remove order at)
  cells_left = All-append (IsCell rows) (take at order) (drop (suc at) order) (All-take (IsCell rows) at order listed.in_order.live) (All-drop (IsCell rows) (suc at) order listed.in_order.live)

  elements_left : elements_in gone (remove order at) ≡ take_out r.element (elements_in rows order)
  elements_left = (others_stay (remove order at) cells_left rest_lacks).0 ∙ elements_remove rows order at listed.in_order.live ∙ elements_gone

  from_old : (m : ℕ) (q : Row) → cell_at gone m ≡ Some q → (m ≡ n → ⊥) × (cell_at rows m ≡ Some q)
  from_old m q e = by (cases_eq m n)
    where
      by : ((m ≡ n) ⊎ (m ≡ n → ⊥)) → (m ≡ n → ⊥) × (cell_at rows m ≡ Some q)
      by (inl f) = let none : None ≡ Some q = sym (cell_written rows n None (cell_there rows n r was)) ∙ sym (ap (cell_at gone) f) ∙ e in cc
      by (inr d) = (d, sym (cell_past rows n m None d) ∙ e)

  pub listed_gone : IsListed (set rows n None) (remove order at)
  listed_gone = record {
    in_order = record {
      live = (others_stay (remove order at) cells_left rest_lacks).1;
      rises = subst IsSet (sym elements_left) (IsSet-take_out r.element (elements_in rows order) listed.in_order.rises);
    };
    all = λ m q e.
        let old = from_old m q e in
        ap (λ l. has l q.element) elements_left
        ∙ has-take_out r.element (elements_in rows order) q.element
        ∙ by_both (same q.element r.element) (has (elements_in rows order) q.element) (differs_by m q old.0 old.1 (same q.element r.element) refl) (listed.all m q old.1);
    apart = λ i j p q a b e. listed.apart i j p q (from_old i p a).1 (from_old j q b).1 e;
  }
    where
      by_both : (a b : Bool) → a ≡ false → b ≡ true → (not a && b) ≡ true
      by_both a b e f = (λ t. not (e t) && f t)

      differs_by : (m : ℕ) (q : Row) → (m ≡ n → ⊥) → cell_at rows m ≡ Some q → (t : Bool) → same q.element r.element ≡ t → same q.element r.element ≡ false
      differs_by m q d e true f = absurd (d (listed.apart m n q r e was (element_exact q.element r.element f)))
      differs_by m q d e false f = f

-- a row is written that has the same element
pub listed_written : (old new : List (Option Row)) (order : List ℕ) → KeepsElements old new → KeepsElements new old → CellsAreApart new → IsListed old order → IsListed new order
listed_written old new order keeps back apart listed =
    let same_elements = elements_as old new keeps order listed.in_order.live in
    record {
      in_order = record {
        live = cells_as old new keeps order listed.in_order.live;
        rises = subst IsSet (sym same_elements) listed.in_order.rises;
      };
      all = λ n r e.
          let was = element_is (cell_at old n) r.element (back n r.element (ap cell_element e)) in
          ap (λ l. has l r.element) same_elements ∙ ap (has (elements_in old order)) (sym was.2) ∙ listed.all n was.0 was.1;
      apart = apart;
    }

element_written : (rows : List (Option Row)) (n : ℕ) (r r2 : Row) → cell_at rows n ≡ Some r → r2.element ≡ r.element → (m : ℕ) → cell_element (cell_at (set rows n (Some r2)) m) ≡ cell_element (cell_at rows m)
element_written rows n r r2 was same m = by (cases_eq m n)
  where
    by : ((m ≡ n) ⊎ (m ≡ n → ⊥)) → cell_element (cell_at (set rows n (Some r2)) m) ≡ cell_element (cell_at rows m)
    by (inl e) =
        ap (λ k. cell_element (cell_at (set rows n (Some r2)) k)) e
        ∙ ap cell_element (cell_written rows n (Some r2) (cell_there rows n r was))
        ∙ ap (λ x. Some x) same
        ∙ sym (ap cell_element was)
        ∙ sym (ap (λ k. cell_element (cell_at rows k)) e)
    by (inr d) = ap cell_element (cell_past rows n m (Some r2) d)

pub listed_rewritten : (rows : List (Option Row)) (order : List ℕ) (n : ℕ) (r r2 : Row) → cell_at rows n ≡ Some r → r2.element ≡ r.element → IsListed rows order → IsListed (set rows n (Some r2)) order
listed_rewritten rows order n r r2 was same listed =
    listed_written rows (set rows n (Some r2)) order
    (λ m x e. element_written rows n r r2 was same m ∙ e)
    (λ m x e. sym (element_written rows n r r2 was same m) ∙ e)
    (apart_by rows (set rows n (Some r2)) (comes_written rows n r r2 was same) listed.apart)
    listed
