-- What searches in a rising list find, and how many of its elements pass a test.
use Rattle.std.proofs.Common.{◌≡◌, ℕ, ◌+◌, ◌-◌, ◌<◌, ◌≤◌, zero, suc, Bool, true, false, cond, ltb, leb, eqb, ◌||◌, List, [], ◌∷◌, ◌++◌, Some, None, Result, Ok, Err, is_ok, find, length, take, drop, get_or, IsTrue, refl, sym, ap, subst, ◌∙◌, arith, add-one, drop-cons}
use Rattle.std.proofs.lemmas.Bool.{true≢false, ltb-true, ltb-false, eq-eqb, ne_eqb}
use Rattle.std.proofs.lemmas.List.{get_or_default, take_more, get_or-drop, length-drop}
use Rattle.std.proofs.lemmas.List.Folds.{list_any_at, list_any_none}
use Rattle.std.proofs.lemmas.List.Sorted.{searchable_from_sorted, searched}
use Rattle.std.proofs.lemmas.List.Sums.{sum_by-cons}
use Rattle.std.specs.List.{list_any, count_by}
use Rattle.std.specs.List.Sorted.{IsBinarySearchResult, IsNonDecreasing, IsNonDecreasingBy, IsPartitionPoint, IsPartitionedBy}
use Rattle.std.specs.Ordering.{is_lt, nat_cmp, ordering_index}
use Rattle.std.specs.declared.cmp.Ordering.TheVariants.{Less, Equal, Greater}
use Rattle.dg_graph.specs.declared.element.Element.{Element}
use Rattle.dg_graph.specs.declared.element.Element.TheVariants as element
use Rattle.dg_graph.specs.Elements.{bit, element_cmp, before, IsSet}
use Rattle.dg_graph.proofs.Sets.{element_total, tied_exact, before_trans}
use Rattle.dg_current.specs.declared.element_id.ElementId.{ElementId}
use Rattle.dg_current.specs.declared.element_id.ElementId.TheVariants.{Node, Edge, NodeValue, EdgeValue, Message}
use Rattle.dg_current.specs.ElementIds.{element_id_of, has_id, at, needs_id}
use Rattle.dg_current.specs.Sorted.{IsFirstFrom, least, least_value_at, is_value_at, has_end}
use Rattle.dg_current.proofs.ElementIds.{has_id_is, has_id_itself}
use Rattle.dg_current.proofs.SortedOrder.{rises_far, rises_on, id_between, id_of_least, below_least, value_between, below_value}

-- ---- the first item that is not before an element

module _ (x : Element) (xs : List Element) (s : IsSet xs) (i : ℕ) where
  -- by what is before the index and what is there
  pub first_here : i < length xs → ((k : ℕ) (d : Element) → k < i → IsTrue (before (get_or xs k d) x)) → ((d : Element) → before (get_or xs i d) x ≡ false) → IsFirstFrom x xs i
  first_here less below here = record { within = omega arith; below = below; above = above }
    where
      above : (k : ℕ) (d : Element) → i ≤ k → k < length xs → before (get_or xs k d) x ≡ false
      above k d from end = by (before (get_or xs k d) x) refl
        where
          by : (b : Bool) → before (get_or xs k d) x ≡ b → before (get_or xs k d) x ≡ false
          by false e = e
          by true e = which (ltb i k) refl
            where
              which : (b : Bool) → ltb i k ≡ b → before (get_or xs k d) x ≡ false
              which true f =
                  absurd (true≢false (sym (before_trans (get_or xs i d) (get_or xs k d) x (rises_far xs s i k d (ltb-true i k f) end) e) ∙ here d))
              which false f =
                  let back = ltb-false i k f in
                  let one : k ≡ i = omega arith in
                  ap (λ j. before (get_or xs j d) x) one ∙ here d

  pub first_end : length xs ≤ i → i ≤ length xs → ((k : ℕ) (d : Element) → k < i → IsTrue (before (get_or xs k d) x)) → IsFirstFrom x xs i
  first_end end within below = record { within = within; below = below; above = λ k d from less. absurd (omega arith) }

  -- by a binary search with the order of the code
  pub first_found : i < length xs → ((d : Element) → element_cmp (get_or xs i d) x ≡ Equal) → IsFirstFrom x xs i
  first_found less tied =
      first_here less
      (λ k d up. subst (λ y. IsTrue (before (get_or xs k d) y)) (tied_exact (get_or xs i d) x (tied d)) (rises_far xs s k i d up less))
      (λ d. ap is_lt (tied d))

  pub first_missed : i ≤ length xs
      → (IsNonDecreasingBy (λ y. ordering_index (element_cmp y x)) xs → IsPartitionPoint (λ y. element_cmp y x ≡ Less) (λ y. element_cmp y x ≡ Greater) xs i)
      → IsFirstFrom x xs i
  first_missed within parts =
      let split = parts (searchable_from_sorted element_total (λ (y : Element). y) xs x (λ k d low end. rises_on xs s k (k + 1) d (omega arith) (omega arith))) in
      record {
        within = within;
        below = λ k d up. ap is_lt (split.0 k d (omega arith) up);
        above = λ k d from end. ap is_lt (split.1 k d from end);
      }

-- what an index past the list reads as
abbrev pub past : Element
past = element.Node 0

-- by whether the item at an index is before it
module _ (x : Element) (xs : List Element) (i : ℕ) (less : i < length xs) where
  same_item : (d : Element) → before (get_or xs i d) x ≡ before (get_or xs i past) x
  same_item d = ap (λ y. before y x) (get_or_default xs i d past less)

  pub not_before_here : before (get_or xs i past) x ≡ false → (d : Element) → before (get_or xs i d) x ≡ false
  not_before_here e d = same_item d ∙ e

  pub before_more : before (get_or xs i past) x ≡ true → ((k : ℕ) (d : Element) → k < i → IsTrue (before (get_or xs k d) x)) → (k : ℕ) (d : Element) → k < i + 1 → IsTrue (before (get_or xs k d) x)
  before_more here below k d up = by (ltb k i) refl
    where
      by : (b : Bool) → ltb k i ≡ b → IsTrue (before (get_or xs k d) x)
      by true e = below k d (ltb-true k i e)
      by false e =
          let back = ltb-false k i e in
          let one : k ≡ i = omega arith in
          ap (λ j. before (get_or xs j d) x) one ∙ same_item d ∙ here

-- ---- the item with an id

find_from : (t : Element → Bool) (xs : List Element) (i : ℕ) → ((k : ℕ) (d : Element) → k < i → t (get_or xs k d) ≡ false) → find t xs ≡ find t (drop i xs)
find_from t xs zero h = refl
find_from t [] (suc i) h = refl
find_from t (x ∷ xs) (suc i) h =
    ap (λ b. cond b (Some x) (find t xs)) (h 0 x (omega arith)) ∙ find_from t xs i (λ k d less. h (suc k) d (omega arith))

find_none : (t : Element → Bool) (xs : List Element) → ((k : ℕ) (d : Element) → k < length xs → t (get_or xs k d) ≡ false) → find t xs ≡ None
find_none t [] h = refl
find_none t (x ∷ xs) h = ap (λ b. cond b (Some x) (find t xs)) (h 0 x (omega arith)) ∙ find_none t xs (λ k d less. h (suc k) d (omega arith))

has_id_from : (p : ElementId) (x : Element) → element_id_of x ≡ p → has_id p x ≡ true
has_id_from p x is = subst (λ q. has_id q x ≡ true) is (has_id_itself x)

module _ (xs : List Element) (s : IsSet xs) (p : ElementId) (i : ℕ) (first : IsFirstFrom (least p) xs i) where
  skipped : (k : ℕ) (d : Element) → k < i → has_id p (get_or xs k d) ≡ false
  skipped k d less = below_least p (get_or xs k d) (first.below k d less)

  pub found_here : (d : Element) → i < length xs → element_id_of (get_or xs i d) ≡ p → at xs p ≡ Some (get_or xs i d)
  found_here d less is =
      let split : drop i xs ≡ get_or xs i d ∷ drop (i + 1) xs = rw (add-one, drop-cons xs i d) refl in
      find_from (has_id p) xs i skipped ∙ ap (find (has_id p)) split
      ∙ ap (λ b. cond b (Some (get_or xs i d)) (find (has_id p) (drop (i + 1) xs))) (has_id_from p (get_or xs i d) is)

  pub found_none : ((d : Element) → i < length xs → element_id_of (get_or xs i d) ≡ p → ⊥) → at xs p ≡ None
  found_none other = find_none (has_id p) xs lacks
    where
      lacks : (k : ℕ) (d : Element) → k < length xs → has_id p (get_or xs k d) ≡ false
      lacks k d end = by (ltb k i) refl
        where
          by : (b : Bool) → ltb k i ≡ b → has_id p (get_or xs k d) ≡ false
          by true e = skipped k d (ltb-true k i e)
          by false e = which (has_id p (get_or xs k d)) refl
            where
              from : i ≤ k
              from = ltb-false k i e

              which : (b : Bool) → has_id p (get_or xs k d) ≡ b → has_id p (get_or xs k d) ≡ false
              which false f = f
              which true f =
                  absurd (other d (omega (arith, from)) (id_between p (least p) (get_or xs k d) (get_or xs i d) (id_of_least p) (has_id_is p (get_or xs k d) f)
                  (first.above i d (omega arith) (omega (arith, from))) (rises_on xs s i k d from end)))

-- ---- how many items pass a test

module _ {X : Type 0} (t : X → Bool) where
  pub count_front : (x : X) (xs : List X) → count_by t (x ∷ xs) ≡ bit (t x) + count_by t xs
  count_front x xs = sum_by-cons (λ y. bit (t y)) x xs

  pub count_none : (xs : List X) → ((k : ℕ) (d : X) → k < length xs → t (get_or xs k d) ≡ false) → count_by t xs ≡ 0
  count_none [] h = refl
  count_none (x ∷ xs) h =
      count_front x xs ∙ (λ j. bit (h 0 x (omega arith) j) + count_none xs (λ k d less. h (suc k) d (omega arith)) j)

  -- where the first ones pass and no other does
  pub count_point : (xs : List X) (i : ℕ) → i ≤ length xs → ((k : ℕ) (d : X) → k < i → t (get_or xs k d) ≡ true)
      → ((k : ℕ) (d : X) → i ≤ k → k < length xs → t (get_or xs k d) ≡ false) → count_by t xs ≡ i
  count_point xs zero within pass fail = count_none xs (λ k d less. fail k d (omega arith) less)
  count_point [] (suc i) within pass fail = absurd (omega arith)
  count_point (x ∷ xs) (suc i) within pass fail =
      let front = count_front x xs in
      let one : bit (t x) ≡ 1 = ap bit (pass 0 x (omega arith)) in
      let rest = count_point xs i (omega arith) (λ k d less. pass (suc k) d (omega arith)) (λ k d from end. fail (suc k) d (omega arith) (omega arith)) in
      omega arith

  pub count_from : (xs : List X) (i : ℕ) → i ≤ length xs → ((k : ℕ) (d : X) → k < i → t (get_or xs k d) ≡ false) → count_by t xs ≡ count_by t (drop i xs)
  count_from xs zero within fail = refl
  count_from [] (suc i) within fail = refl
  count_from (x ∷ xs) (suc i) within fail =
      let front = count_front x xs in
      let none : bit (t x) ≡ 0 = ap bit (fail 0 x (omega arith)) in
      let rest = count_from xs i (omega arith) (λ k d less. fail (suc k) d (omega arith)) in
      omega arith

  count_end : (xs : List X) (x : X) → count_by t (xs ++ x ∷ []) ≡ count_by t xs + bit (t x)
  count_end [] x = let front = count_front x [] in omega arith
  count_end (y ∷ xs) x =
      let front = count_front y (xs ++ x ∷ []) in
      let old = count_front y xs in
      let rest = count_end xs x in
      omega arith

  pub count_more : (xs : List X) (i : ℕ) (d : X) → i < length xs → count_by t (take (i + 1) xs) ≡ count_by t (take i xs) + bit (t (get_or xs i d))
  count_more xs i d less = ap (count_by t) (take_more xs i d less) ∙ count_end (take i xs) (get_or xs i d)

-- a test that passes what one of two others does
pub count_both : {X : Type 0} (t u v : X → Bool) → ((x : X) → bit (t x) ≡ bit (u x) + bit (v x)) → (xs : List X) → count_by t xs ≡ count_by u xs + count_by v xs
count_both t u v h [] = refl
count_both t u v h (x ∷ xs) =
    let one = h x in
    let rest = count_both t u v h xs in
    let first = count_front t x xs in
    let second = count_front u x xs in
    let third = count_front v x xs in
    omega arith

-- ---- values

-- the items from the first value that can stand at an element on: those that do come first
values_parted : (p : ElementId) (xs : List Element) → IsSet xs → (i : ℕ) → IsFirstFrom (least_value_at p) xs i
    → (k j : ℕ) (d : Element) → i ≤ k → k ≤ j → j < length xs → is_value_at p (get_or xs j d) ≡ true → is_value_at p (get_or xs k d) ≡ true
values_parted p xs s i first k j d from up end h =
    value_between p (get_or xs j d) (get_or xs k d) h (first.above k d from (omega arith)) (rises_on xs s k j d up end)

values_past : (p : ElementId) (xs : List Element) (i : ℕ) → IsFirstFrom (least_value_at p) xs i → count_by (is_value_at p) xs ≡ count_by (is_value_at p) (drop i xs)
values_past p xs i first = count_from (is_value_at p) xs i first.within (λ k d less. below_value p (get_or xs k d) (first.below k d less))

-- a search for the end of them counts them
pub values_counted : (p : ElementId) (xs : List Element) → IsSet xs → (i : ℕ) → IsFirstFrom (least_value_at p) xs i → (ys : List Element) → ys ≡ drop i xs → (n : ℕ) → n ≤ length ys
    → (IsPartitionedBy (is_value_at p) ys → IsPartitionPoint (λ y. is_value_at p y ≡ true) (λ y. is_value_at p y ≡ false) ys n) → n ≡ count_by (is_value_at p) xs
values_counted p xs s i first ys is n within parted =
    let point = parted by in
    sym (values_past p xs i first ∙ ap (count_by (is_value_at p)) (sym is) ∙ count_point (is_value_at p) ys n within (λ k d less. point.0 k d (omega arith) less) (λ k d from end. point.1 k d from end))
  where
    read : (k : ℕ) (d : Element) → get_or ys k d ≡ get_or xs (i + k) d
    read k d = ap (λ l. get_or l k d) is ∙ get_or-drop i xs k d

    by : IsPartitionedBy (is_value_at p) ys
    by k j d up end h =
        let long : length ys ≡ length xs - i = ap length is ∙ length-drop i xs in
        ap (is_value_at p) (read k d)
        ∙ values_parted p xs s i first (i + k) (i + j) d (omega arith) (omega arith) (omega arith) (ap (is_value_at p) (sym (read j d)) ∙ h)

-- ---- uses

node_uses : (id : ℕ) (x : Element) → bit (needs_id (Node id) x) ≡ bit (has_end id x) + bit (is_value_at (Node id) x)
node_uses id (element.Node n) = refl
node_uses id (element.Edge b n s d) = by (eqb s id || eqb d id)
  where
    by : (b : Bool) → bit b ≡ bit b + 0
    by true = refl
    by false = refl
node_uses id (element.NodeAttr n k v) = let b = eqb n id in omega arith
node_uses id (element.EdgeAttr n k v) = refl
node_uses id (element.Message s d v) = refl

pub uses_of_node : (id : ℕ) (xs : List Element) → count_by (needs_id (Node id)) xs ≡ count_by (has_end id) xs + count_by (is_value_at (Node id)) xs
uses_of_node id xs = count_both (needs_id (Node id)) (has_end id) (is_value_at (Node id)) (node_uses id) xs

edge_uses : (id : ℕ) (x : Element) → needs_id (Edge id) x ≡ is_value_at (Edge id) x
edge_uses id (element.Node n) = refl
edge_uses id (element.Edge b n s d) = refl
edge_uses id (element.NodeAttr n k v) = refl
edge_uses id (element.EdgeAttr n k v) = refl
edge_uses id (element.Message s d v) = refl

uses_of_edge : (id : ℕ) (xs : List Element) → count_by (needs_id (Edge id)) xs ≡ count_by (is_value_at (Edge id)) xs
uses_of_edge id xs i = count_by (λ x. edge_uses id x i) xs

-- all else that is needed is needed by its values alone
pub uses_of_other : (p : ElementId) (xs : List Element) → ((id : ℕ) → p ≡ Node id → ⊥) → count_by (needs_id p) xs ≡ count_by (is_value_at p) xs
uses_of_other (Node id) xs not = absurd (not id refl)
uses_of_other (Edge id) xs not = uses_of_edge id xs
uses_of_other (NodeValue key id) xs not = refl
uses_of_other (EdgeValue key id) xs not = refl
uses_of_other Message xs not = refl

-- ---- rising numbers

-- how many are a number, by how many are at most it and how many are below it
count_equal : (xs : List ℕ) (n : ℕ) → count_by (λ m. leb m n) xs ≡ count_by (λ m. ltb m n) xs + count_by (λ m. eqb m n) xs
count_equal xs n = count_both (λ m. leb m n) (λ m. ltb m n) (λ m. eqb m n) by xs
  where
    by : (m : ℕ) → bit (leb m n) ≡ bit (ltb m n) + bit (eqb m n)
    by m = grind arith

-- the two searches for the ends of those below a number and of those at most it
pub equal_counted : (xs : List ℕ) (n high low : ℕ) → high ≤ length xs → low ≤ length xs → IsPartitionPoint (λ m. leb m n ≡ true) (λ m. leb m n ≡ false) xs high
    → IsPartitionPoint (λ m. ltb m n ≡ true) (λ m. ltb m n ≡ false) xs low → high ≡ low + count_by (λ m. eqb m n) xs
equal_counted xs n high low in_high in_low up down =
    let most = count_point (λ m. leb m n) xs high in_high (λ k d less. up.0 k d (omega arith) less) (λ k d from end. up.1 k d from end) in
    let under = count_point (λ m. ltb m n) xs low in_low (λ k d less. down.0 k d (omega arith) less) (λ k d from end. down.1 k d from end) in
    let all = count_equal xs n in
    omega arith

-- whether a number is among rising ones, by a binary search
pub among : (xs : List ℕ) (n : ℕ) (r : Result ℕ ℕ) → IsNonDecreasing xs → IsBinarySearchResult (λ y. nat_cmp y n) xs r → is_ok r ≡ list_any (λ m. eqb m n) xs
among xs n (Ok i) rises found =
    let got = searched xs n (Ok i) found (λ i j up end. rises i j 0 up end) in
    sym (list_any_at (λ m. eqb m n) xs i 0 got.0 (eq-eqb (get_or xs i 0) n got.1))
among xs n (Err i) rises found = sym (list_any_none (λ m. eqb m n) xs apart)
  where
    apart : (k : ℕ) (d : ℕ) → k < length xs → eqb (get_or xs k d) n ≡ false
    apart k d end =
        let got = searched xs n (Err i) found (λ i j up end. rises i j 0 up end) in
        ap (λ m. eqb m n) (get_or_default xs k d 0 end) ∙ by (ltb k i) refl got.1 got.2
      where
        by : (b : Bool) → ltb k i ≡ b → ((k : ℕ) → k < i → get_or xs k 0 < n) → ((k : ℕ) → i ≤ k → k < length xs → n < get_or xs k 0) → eqb (get_or xs k 0) n ≡ false
        by true e low high = let less = low k (ltb-true k i e) in ne_eqb (get_or xs k 0) n (λ is. absurd (omega arith))
        by false e low high = let more = high k (ltb-false k i e) end in ne_eqb (get_or xs k 0) n (λ is. absurd (omega arith))
