-- The order of elements and their ids: those with one id, and the values at one element, follow one
-- another in a rising list.
use Rattle.std.proofs.Common.{◌≡◌, ℕ, ◌<◌, ◌≤◌, zero, suc, Bool, true, false, cond, ltb, eqb, List, [], ◌∷◌, ◌++◌, length, get_or, IsTrue, refl, sym, ap, subst, ◌∙◌, arith, ◌⊎◌, inl, inr}
use Rattle.std.proofs.lemmas.Bool.{true≢false, false≢true, ltb-true, ltb-false, le-ltb, eqb-true, eq-eqb}
use Rattle.std.proofs.lemmas.Cmp.{tied_itself}
use Rattle.std.proofs.lemmas.List.Folds.{list_any_at}
use Rattle.std.specs.Cmp.Lexicographic.{slice_cmp}
use Rattle.std.specs.Ordering.{is_lt, nat_cmp, ordering_then}
use Rattle.std.specs.declared.cmp.Ordering.TheVariants.{Less, Equal, Greater}
use Rattle.dg_graph.specs.declared.element.Element.{Element}
use Rattle.dg_graph.specs.declared.element.Element.TheVariants as element
use Rattle.dg_graph.specs.Elements.{bit, spelled, before, same, has, IsSet, IsBelowFirst}
use Rattle.dg_graph.proofs.Sets.{element_total, element_exact, same_itself, Greater_from_before, IsBelowFirst-trans}
use Rattle.dg_current.specs.declared.element_id.ElementId.{ElementId}
use Rattle.dg_current.specs.declared.element_id.ElementId.TheVariants.{Node, Edge, NodeValue, EdgeValue, Message}
use Rattle.dg_current.specs.ElementIds.{element_id_of, has_id}
use Rattle.dg_current.specs.Sorted.{least, least_value_at, is_value_at}
use Rattle.dg_current.proofs.ElementIds.{either, has_id_is}

-- ---- indices in a rising list

below_all : (x : Element) (xs : List Element) → IsBelowFirst x xs → IsSet xs → (i : ℕ) (d : Element) → i < length xs → IsTrue (before x (get_or xs i d))
below_all x [] h s i d less = absurd (omega arith)
below_all x (y ∷ ys) h s zero d less = h
below_all x (y ∷ ys) h s (suc i) d less = below_all x ys (IsBelowFirst-trans x y ys h s.0) s.1 i d (omega arith)

pub rises_far : (xs : List Element) → IsSet xs → (i j : ℕ) (d : Element) → i < j → j < length xs → IsTrue (before (get_or xs i d) (get_or xs j d))
rises_far [] s i j d up less = absurd (omega arith)
rises_far (x ∷ xs) s zero zero d up less = absurd (omega arith)
rises_far (x ∷ xs) s zero (suc j) d up less = below_all x xs s.0 s.1 j d (omega arith)
rises_far (x ∷ xs) s (suc i) zero d up less = absurd (omega arith)
rises_far (x ∷ xs) s (suc i) (suc j) d up less = rises_far xs s.1 i j d (omega arith) (omega arith)

pub not_back : (x y : Element) → IsTrue (before x y) → before y x ≡ false
not_back x y e = ap is_lt (Greater_from_before x y e)

pub not_itself : (x : Element) → before x x ≡ false
not_itself x = ap is_lt (tied_itself element_total x)

-- no item is before an earlier one
pub rises_on : (xs : List Element) → IsSet xs → (i j : ℕ) (d : Element) → i ≤ j → j < length xs → before (get_or xs j d) (get_or xs i d) ≡ false
rises_on xs s i j d up less = by (ltb i j) refl
  where
    by : (b : Bool) → ltb i j ≡ b → before (get_or xs j d) (get_or xs i d) ≡ false
    by true e = not_back (get_or xs i d) (get_or xs j d) (rises_far xs s i j d (ltb-true i j e) less)
    by false e =
        let back = ltb-false i j e in
        let one : i ≡ j = omega arith in
        ap (λ k. before (get_or xs j d) (get_or xs k d)) one ∙ not_itself (get_or xs j d)

-- the index of an element that is there
pub index_of : (xs : List Element) (x d : Element) → has xs x ≡ true → (i : ℕ) × ((i < length xs) × (get_or xs i d ≡ x))
index_of [] x d h = absurd (false≢true h)
index_of (y ∷ ys) x d h = by (either (same x y) (has ys x) h) (index_of ys x d)
  where
    by : (same x y ≡ true) ⊎ (has ys x ≡ true) → (has ys x ≡ true → (i : ℕ) × ((i < length ys) × (get_or ys i d ≡ x)))
        → (i : ℕ) × ((i < length (y ∷ ys)) × (get_or (y ∷ ys) i d ≡ x))
    by (inl e) rest = (zero, (omega arith, sym (element_exact x y e)))
    by (inr k) rest = let got = rest k in (suc got.0, (omega (arith, got.1.0), got.1.1))

pub item_there : (xs : List Element) (i : ℕ) (d : Element) → i < length xs → has xs (get_or xs i d) ≡ true
item_there xs i d less = list_any_at (same (get_or xs i d)) xs i d less (same_itself (get_or xs i d))

-- ---- lists with one beginning

nat_itself : (n : ℕ) → nat_cmp n n ≡ Equal
nat_itself n = ap (λ b. cond b Less (cond (eqb n n) Equal Greater)) (le-ltb n n (omega arith)) ∙ ap (λ b. cond b Equal Greater) (eq-eqb n n refl)

nat_above : (m n : ℕ) → n < m → nat_cmp m n ≡ Greater
nat_above m n less = ap (λ b. cond b Less (cond (eqb m n) Equal Greater)) (le-ltb m n (omega arith)) ∙ ap (λ b. cond b Equal Greater) (apart (eqb m n) refl)
  where
    apart : (b : Bool) → eqb m n ≡ b → eqb m n ≡ false
    apart false e = e
    apart true e = let is = eqb-true m n e in absurd (omega arith)

-- a list that is not before another has no lesser number first
first_le : (m n : ℕ) (xs ys : List ℕ) → is_lt (slice_cmp nat_cmp (n ∷ ys) (m ∷ xs)) ≡ false → m ≤ n
first_le m n xs ys e = by (ltb n m) refl
  where
    by : (b : Bool) → ltb n m ≡ b → m ≤ n
    by true f = absurd (true≢false (sym (ap (λ b. is_lt (ordering_then (cond b Less (cond (eqb n m) Equal Greater)) (slice_cmp nat_cmp ys xs))) f) ∙ e))
    by false f = ltb-false n m f

rest_le : (m : ℕ) (xs ys : List ℕ) → is_lt (slice_cmp nat_cmp (m ∷ ys) (m ∷ xs)) ≡ is_lt (slice_cmp nat_cmp ys xs)
rest_le m xs ys = ap (λ o. is_lt (ordering_then o (slice_cmp nat_cmp ys xs))) (nat_itself m)

abbrev Begins : List ℕ → List ℕ → Type 0
Begins front xs = (rest : List ℕ) × (xs ≡ front ++ rest)

-- what stands between two lists with one beginning has it too
squeezed : (front low high xs : List ℕ) → is_lt (slice_cmp nat_cmp xs (front ++ low)) ≡ false → is_lt (slice_cmp nat_cmp (front ++ high) xs) ≡ false → Begins front xs
squeezed [] low high xs h k = (xs, refl)
squeezed (n ∷ front) low high [] h k = absurd (true≢false h)
squeezed (n ∷ front) low high (m ∷ xs) h k =
    let up = first_le n m (front ++ low) xs h in
    let down = first_le m n xs (front ++ high) k in
    let is : m ≡ n = omega arith in
    let got = squeezed front low high xs (sym (rest_le n (front ++ low) xs) ∙ ap (λ j. is_lt (slice_cmp nat_cmp (j ∷ xs) (n ∷ front ++ low))) (sym is) ∙ h)
    (sym (rest_le n xs (front ++ high)) ∙ ap (λ j. is_lt (slice_cmp nat_cmp (n ∷ front ++ high) (j ∷ xs))) (sym is) ∙ k) in
    (got.0, λ i. is i ∷ got.1 i)

-- no list is before one that goes on by zeros
same_more : (n : ℕ) (xs ys : List ℕ) → is_lt (slice_cmp nat_cmp xs ys) ≡ false → is_lt (slice_cmp nat_cmp (n ∷ xs) (n ∷ ys)) ≡ false
same_more n xs ys h = rest_le n ys xs ∙ h

zero_more : (n : ℕ) (xs ys : List ℕ) → is_lt (slice_cmp nat_cmp xs ys) ≡ false → is_lt (slice_cmp nat_cmp (n ∷ xs) (0 ∷ ys)) ≡ false
zero_more zero xs ys h = rest_le 0 ys xs ∙ h
zero_more (suc n) xs ys h = ap (λ o. is_lt (ordering_then o (slice_cmp nat_cmp xs ys))) (nat_above (suc n) 0 (omega arith))

between : (front : List ℕ) (x y z : Element) → Begins front (spelled x) → Begins front (spelled y) → before z x ≡ false → before y z ≡ false → Begins front (spelled z)
between front x y z (low, is) (high, at) h k =
    squeezed front low high (spelled z) (ap (λ l. is_lt (slice_cmp nat_cmp (spelled z) l)) (sym is) ∙ h)
    (ap (λ l. is_lt (slice_cmp nat_cmp l (spelled z))) (sym at) ∙ k)

-- nodes, and edges and values by their first numbers
pub nodes_above : (n m : ℕ) → before (element.Node m) (element.Node n) ≡ false → n ≤ m
nodes_above n m e = first_le n m [] [] (sym (rest_le 0 (n ∷ []) (m ∷ [])) ∙ e)

pub node_values_rise : (n k v m l w : ℕ) → before (element.NodeAttr m l w) (element.NodeAttr n k v) ≡ false → n ≤ m
node_values_rise n k v m l w e = first_le n m (k ∷ v ∷ []) (l ∷ w ∷ []) (sym (rest_le 2 (n ∷ k ∷ v ∷ []) (m ∷ l ∷ w ∷ [])) ∙ e)

pub edge_values_rise : (n k v m l w : ℕ) → before (element.EdgeAttr m l w) (element.EdgeAttr n k v) ≡ false → n ≤ m
edge_values_rise n k v m l w e = first_le n m (k ∷ v ∷ []) (l ∷ w ∷ []) (sym (rest_le 3 (n ∷ k ∷ v ∷ []) (m ∷ l ∷ w ∷ [])) ∙ e)

-- a list is not before another with no greater number first and the same rest
first_on : (n m : ℕ) (xs : List ℕ) → n ≤ m → is_lt (slice_cmp nat_cmp xs xs) ≡ false → is_lt (slice_cmp nat_cmp (m ∷ xs) (n ∷ xs)) ≡ false
first_on n m xs up rest = by (ltb n m) refl
  where
    by : (b : Bool) → ltb n m ≡ b → is_lt (slice_cmp nat_cmp (m ∷ xs) (n ∷ xs)) ≡ false
    by true e = ap (λ o. is_lt (ordering_then o (slice_cmp nat_cmp xs xs))) (nat_above m n (ltb-true n m e))
    by false e =
        let back = ltb-false n m e in
        let one : n ≡ m = omega arith in
        ap (λ j. is_lt (slice_cmp nat_cmp (m ∷ xs) (j ∷ xs))) one ∙ same_more m xs xs rest

pub nodes_rise : (n m : ℕ) → n ≤ m → before (element.Node m) (element.Node n) ≡ false
nodes_rise n m up = same_more 0 (m ∷ []) (n ∷ []) (first_on n m [] up refl)

pub edges_rise : (n m : ℕ) → n ≤ m → before (element.Edge false m 0 0) (element.Edge false n 0 0) ≡ false
edges_rise n m up = same_more 1 (m ∷ 0 ∷ 0 ∷ 0 ∷ []) (n ∷ 0 ∷ 0 ∷ 0 ∷ []) (first_on n m (0 ∷ 0 ∷ 0 ∷ []) up refl)

-- ---- elements with one id

-- an id as numbers: those with which an element begins that has it
abbrev id_spelled : ElementId → List ℕ
id_spelled (Node id) = 0 ∷ id ∷ []
id_spelled (Edge id) = 1 ∷ id ∷ []
id_spelled (NodeValue key id) = 2 ∷ id ∷ key ∷ []
id_spelled (EdgeValue key id) = 3 ∷ id ∷ key ∷ []
id_spelled Message = 4 ∷ []

id_begins : (x : Element) → Begins (id_spelled (element_id_of x)) (spelled x)
id_begins (element.Node n) = ([], refl)
id_begins (element.Edge b n s d) = (s ∷ d ∷ bit b ∷ [], refl)
id_begins (element.NodeAttr n k v) = (v ∷ [], refl)
id_begins (element.EdgeAttr n k v) = (v ∷ [], refl)
id_begins (element.Message s d v) = (s ∷ d ∷ v ∷ [], refl)

has_begins : (p : ElementId) (x : Element) → element_id_of x ≡ p → Begins (id_spelled p) (spelled x)
has_begins p x is = subst (λ q. Begins (id_spelled q) (spelled x)) is (id_begins x)

nth_is : (i : ℕ) (xs ys : List ℕ) → xs ≡ ys → get_or xs i 0 ≡ get_or ys i 0
nth_is i xs ys e = ap (λ l. get_or l i 0) e

begins_id : (p : ElementId) (x : Element) → Begins (id_spelled p) (spelled x) → element_id_of x ≡ p
begins_id (Node id) (element.Node n) (rest, is) = ap Node (nth_is 1 (0 ∷ n ∷ []) (0 ∷ id ∷ rest) is)
begins_id (Node id) (element.Edge b n s d) (rest, is) = let kind = nth_is 0 _ (0 ∷ id ∷ rest) is in absurd (omega arith)
begins_id (Node id) (element.NodeAttr n k v) (rest, is) = let kind = nth_is 0 _ (0 ∷ id ∷ rest) is in absurd (omega arith)
begins_id (Node id) (element.EdgeAttr n k v) (rest, is) = let kind = nth_is 0 _ (0 ∷ id ∷ rest) is in absurd (omega arith)
begins_id (Node id) (element.Message s d v) (rest, is) = let kind = nth_is 0 _ (0 ∷ id ∷ rest) is in absurd (omega arith)
begins_id (Edge id) (element.Node n) (rest, is) = let kind = nth_is 0 _ (1 ∷ id ∷ rest) is in absurd (omega arith)
begins_id (Edge id) (element.Edge b n s d) (rest, is) = ap Edge (nth_is 1 (1 ∷ n ∷ s ∷ d ∷ bit b ∷ []) (1 ∷ id ∷ rest) is)
begins_id (Edge id) (element.NodeAttr n k v) (rest, is) = let kind = nth_is 0 _ (1 ∷ id ∷ rest) is in absurd (omega arith)
begins_id (Edge id) (element.EdgeAttr n k v) (rest, is) = let kind = nth_is 0 _ (1 ∷ id ∷ rest) is in absurd (omega arith)
begins_id (Edge id) (element.Message s d v) (rest, is) = let kind = nth_is 0 _ (1 ∷ id ∷ rest) is in absurd (omega arith)
begins_id (NodeValue key id) (element.Node n) (rest, is) = let kind = nth_is 0 _ (2 ∷ id ∷ key ∷ rest) is in absurd (omega arith)
begins_id (NodeValue key id) (element.Edge b n s d) (rest, is) = let kind = nth_is 0 _ (2 ∷ id ∷ key ∷ rest) is in absurd (omega arith)
begins_id (NodeValue key id) (element.NodeAttr n k v) (rest, is) =
    λ i. NodeValue (nth_is 2 (2 ∷ n ∷ k ∷ v ∷ []) (2 ∷ id ∷ key ∷ rest) is i) (nth_is 1 (2 ∷ n ∷ k ∷ v ∷ []) (2 ∷ id ∷ key ∷ rest) is i)
begins_id (NodeValue key id) (element.EdgeAttr n k v) (rest, is) = let kind = nth_is 0 _ (2 ∷ id ∷ key ∷ rest) is in absurd (omega arith)
begins_id (NodeValue key id) (element.Message s d v) (rest, is) = let kind = nth_is 0 _ (2 ∷ id ∷ key ∷ rest) is in absurd (omega arith)
begins_id (EdgeValue key id) (element.Node n) (rest, is) = let kind = nth_is 0 _ (3 ∷ id ∷ key ∷ rest) is in absurd (omega arith)
begins_id (EdgeValue key id) (element.Edge b n s d) (rest, is) = let kind = nth_is 0 _ (3 ∷ id ∷ key ∷ rest) is in absurd (omega arith)
begins_id (EdgeValue key id) (element.NodeAttr n k v) (rest, is) = let kind = nth_is 0 _ (3 ∷ id ∷ key ∷ rest) is in absurd (omega arith)
begins_id (EdgeValue key id) (element.EdgeAttr n k v) (rest, is) =
    λ i. EdgeValue (nth_is 2 (3 ∷ n ∷ k ∷ v ∷ []) (3 ∷ id ∷ key ∷ rest) is i) (nth_is 1 (3 ∷ n ∷ k ∷ v ∷ []) (3 ∷ id ∷ key ∷ rest) is i)
begins_id (EdgeValue key id) (element.Message s d v) (rest, is) = let kind = nth_is 0 _ (3 ∷ id ∷ key ∷ rest) is in absurd (omega arith)
begins_id Message (element.Node n) (rest, is) = let kind = nth_is 0 _ (4 ∷ rest) is in absurd (omega arith)
begins_id Message (element.Edge b n s d) (rest, is) = let kind = nth_is 0 _ (4 ∷ rest) is in absurd (omega arith)
begins_id Message (element.NodeAttr n k v) (rest, is) = let kind = nth_is 0 _ (4 ∷ rest) is in absurd (omega arith)
begins_id Message (element.EdgeAttr n k v) (rest, is) = let kind = nth_is 0 _ (4 ∷ rest) is in absurd (omega arith)
begins_id Message (element.Message s d v) (rest, is) = refl

pub id_between : (p : ElementId) (x y z : Element) → element_id_of x ≡ p → element_id_of y ≡ p → before z x ≡ false → before y z ≡ false → element_id_of z ≡ p
id_between p x y z is at h k = begins_id p z (between (id_spelled p) x y z (has_begins p x is) (has_begins p y at) h k)

pub id_of_least : (p : ElementId) → element_id_of (least p) ≡ p
id_of_least (Node id) = refl
id_of_least (Edge id) = refl
id_of_least (NodeValue key id) = refl
id_of_least (EdgeValue key id) = refl
id_of_least Message = refl

-- no element is before the least one with its id
not_below : (x : Element) → before x (least (element_id_of x)) ≡ false
not_below (element.Node n) = same_more 0 (n ∷ []) (n ∷ []) (same_more n [] [] refl)
not_below (element.Edge b n s d) =
    same_more 1 (n ∷ s ∷ d ∷ bit b ∷ []) (n ∷ 0 ∷ 0 ∷ 0 ∷ [])
    (same_more n (s ∷ d ∷ bit b ∷ []) (0 ∷ 0 ∷ 0 ∷ []) (zero_more s (d ∷ bit b ∷ []) (0 ∷ 0 ∷ []) (zero_more d (bit b ∷ []) (0 ∷ []) (zero_more (bit b) [] [] refl))))
not_below (element.NodeAttr n k v) =
    same_more 2 (n ∷ k ∷ v ∷ []) (n ∷ k ∷ 0 ∷ []) (same_more n (k ∷ v ∷ []) (k ∷ 0 ∷ []) (same_more k (v ∷ []) (0 ∷ []) (zero_more v [] [] refl)))
not_below (element.EdgeAttr n k v) =
    same_more 3 (n ∷ k ∷ v ∷ []) (n ∷ k ∷ 0 ∷ []) (same_more n (k ∷ v ∷ []) (k ∷ 0 ∷ []) (same_more k (v ∷ []) (0 ∷ []) (zero_more v [] [] refl)))
not_below (element.Message s d v) =
    same_more 4 (s ∷ d ∷ v ∷ []) (0 ∷ 0 ∷ 0 ∷ []) (zero_more s (d ∷ v ∷ []) (0 ∷ 0 ∷ []) (zero_more d (v ∷ []) (0 ∷ []) (zero_more v [] [] refl)))

pub below_least : (p : ElementId) (x : Element) → IsTrue (before x (least p)) → has_id p x ≡ false
below_least p x e = by (has_id p x) refl
  where
    by : (b : Bool) → has_id p x ≡ b → has_id p x ≡ false
    by false f = f
    by true f = absurd (true≢false (sym e ∙ ap (λ q. before x (least q)) (sym (has_id_is p x f)) ∙ not_below x))

-- ---- the values at one element

abbrev value_spelled : ElementId → List ℕ
value_spelled (Node id) = 2 ∷ id ∷ []
value_spelled (Edge id) = 3 ∷ id ∷ []
value_spelled (NodeValue key id) = 2 ∷ id ∷ []
value_spelled (EdgeValue key id) = 3 ∷ id ∷ []
value_spelled Message = 2 ∷ []

value_begins : (p : ElementId) (x : Element) → is_value_at p x ≡ true → Begins (value_spelled p) (spelled x)
value_begins (Node id) (element.Node n) e = absurd (false≢true e)
value_begins (Node id) (element.Edge b n s d) e = absurd (false≢true e)
value_begins (Node id) (element.NodeAttr n k v) e = (k ∷ v ∷ [], λ i. 2 ∷ eqb-true n id e i ∷ k ∷ v ∷ [])
value_begins (Node id) (element.EdgeAttr n k v) e = absurd (false≢true e)
value_begins (Node id) (element.Message s d v) e = absurd (false≢true e)
value_begins (Edge id) (element.Node n) e = absurd (false≢true e)
value_begins (Edge id) (element.Edge b n s d) e = absurd (false≢true e)
value_begins (Edge id) (element.NodeAttr n k v) e = absurd (false≢true e)
value_begins (Edge id) (element.EdgeAttr n k v) e = (k ∷ v ∷ [], λ i. 3 ∷ eqb-true n id e i ∷ k ∷ v ∷ [])
value_begins (Edge id) (element.Message s d v) e = absurd (false≢true e)
value_begins (NodeValue key id) x e = absurd (false≢true e)
value_begins (EdgeValue key id) x e = absurd (false≢true e)
value_begins Message x e = absurd (false≢true e)

begins_node_value : (id : ℕ) (x : Element) → Begins (2 ∷ id ∷ []) (spelled x) → is_value_at (Node id) x ≡ true
begins_node_value id (element.Node n) (rest, is) = let kind = nth_is 0 _ (2 ∷ id ∷ rest) is in absurd (omega arith)
begins_node_value id (element.Edge b n s d) (rest, is) = let kind = nth_is 0 _ (2 ∷ id ∷ rest) is in absurd (omega arith)
begins_node_value id (element.NodeAttr n k v) (rest, is) = eq-eqb n id (nth_is 1 (2 ∷ n ∷ k ∷ v ∷ []) (2 ∷ id ∷ rest) is)
begins_node_value id (element.EdgeAttr n k v) (rest, is) = let kind = nth_is 0 _ (2 ∷ id ∷ rest) is in absurd (omega arith)
begins_node_value id (element.Message s d v) (rest, is) = let kind = nth_is 0 _ (2 ∷ id ∷ rest) is in absurd (omega arith)

begins_edge_value : (id : ℕ) (x : Element) → Begins (3 ∷ id ∷ []) (spelled x) → is_value_at (Edge id) x ≡ true
begins_edge_value id (element.Node n) (rest, is) = let kind = nth_is 0 _ (3 ∷ id ∷ rest) is in absurd (omega arith)
begins_edge_value id (element.Edge b n s d) (rest, is) = let kind = nth_is 0 _ (3 ∷ id ∷ rest) is in absurd (omega arith)
begins_edge_value id (element.NodeAttr n k v) (rest, is) = let kind = nth_is 0 _ (3 ∷ id ∷ rest) is in absurd (omega arith)
begins_edge_value id (element.EdgeAttr n k v) (rest, is) = eq-eqb n id (nth_is 1 (3 ∷ n ∷ k ∷ v ∷ []) (3 ∷ id ∷ rest) is)
begins_edge_value id (element.Message s d v) (rest, is) = let kind = nth_is 0 _ (3 ∷ id ∷ rest) is in absurd (omega arith)

-- a value that is not before the first one that can stand there, and is before one that does
pub value_between : (p : ElementId) (y z : Element) → is_value_at p y ≡ true → before z (least_value_at p) ≡ false → before y z ≡ false → is_value_at p z ≡ true
value_between (Node id) y z at h k =
    begins_node_value id z (between (2 ∷ id ∷ []) (least_value_at (Node id)) y z (0 ∷ 0 ∷ [], refl) (value_begins (Node id) y at) h k)
value_between (Edge id) y z at h k =
    begins_edge_value id z (between (3 ∷ id ∷ []) (least_value_at (Edge id)) y z (0 ∷ 0 ∷ [], refl) (value_begins (Edge id) y at) h k)
value_between (NodeValue key id) y z at h k = absurd (false≢true at)
value_between (EdgeValue key id) y z at h k = absurd (false≢true at)
value_between Message y z at h k = absurd (false≢true at)

value_not_below : (p : ElementId) (x : Element) → is_value_at p x ≡ true → before x (least_value_at p) ≡ false
value_not_below (Node id) (element.Node n) e = absurd (false≢true e)
value_not_below (Node id) (element.Edge b n s d) e = absurd (false≢true e)
value_not_below (Node id) (element.NodeAttr n k v) e =
    ap (λ m. before (element.NodeAttr n k v) (element.NodeAttr m 0 0)) (sym (eqb-true n id e))
    ∙ same_more 2 (n ∷ k ∷ v ∷ []) (n ∷ 0 ∷ 0 ∷ []) (same_more n (k ∷ v ∷ []) (0 ∷ 0 ∷ []) (zero_more k (v ∷ []) (0 ∷ []) (zero_more v [] [] refl)))
value_not_below (Node id) (element.EdgeAttr n k v) e = absurd (false≢true e)
value_not_below (Node id) (element.Message s d v) e = absurd (false≢true e)
value_not_below (Edge id) (element.Node n) e = absurd (false≢true e)
value_not_below (Edge id) (element.Edge b n s d) e = absurd (false≢true e)
value_not_below (Edge id) (element.NodeAttr n k v) e = absurd (false≢true e)
value_not_below (Edge id) (element.EdgeAttr n k v) e =
    ap (λ m. before (element.EdgeAttr n k v) (element.EdgeAttr m 0 0)) (sym (eqb-true n id e))
    ∙ same_more 3 (n ∷ k ∷ v ∷ []) (n ∷ 0 ∷ 0 ∷ []) (same_more n (k ∷ v ∷ []) (0 ∷ 0 ∷ []) (zero_more k (v ∷ []) (0 ∷ []) (zero_more v [] [] refl)))
value_not_below (Edge id) (element.Message s d v) e = absurd (false≢true e)
value_not_below (NodeValue key id) x e = absurd (false≢true e)
value_not_below (EdgeValue key id) x e = absurd (false≢true e)
value_not_below Message x e = absurd (false≢true e)

pub below_value : (p : ElementId) (x : Element) → IsTrue (before x (least_value_at p)) → is_value_at p x ≡ false
below_value p x e = by (is_value_at p x) refl
  where
    by : (b : Bool) → is_value_at p x ≡ b → is_value_at p x ≡ false
    by false f = f
    by true f = absurd (true≢false (sym e ∙ value_not_below p x f))
