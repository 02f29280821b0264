-- Whether a rising list is a graph, by what walks over it find.
use Rattle.std.proofs.Common.{◌≡◌, ℕ, ◌+◌, ◌-◌, ◌<◌, ◌≤◌, Bool, true, false, ltb, eqb, ◌&&◌, ◌||◌, List, [], ◌∷◌, ◌++◌, Some, None, is_some, length, take, map, get_or, IsTrue, refl, sym, ap, subst, ◌∙◌, arith, ◌⊎◌, inl, inr}
use Rattle.std.proofs.lemmas.Bool.{true≢false, false≢true, ltb-true, ltb-false, eqb-true, eq-eqb, or_left}
use Rattle.std.proofs.lemmas.List.{get_or-take, get_or-map, get_or_default, length-take-le, length-map, map-append, take_more}
use Rattle.std.proofs.lemmas.List.Folds.{Any-from_list_any, list_any_at, list_all_more}
use Rattle.std.specs.List.{list_any, list_all}
use Rattle.std.specs.List.Sorted.{IsNonDecreasing}
use Rattle.std.specs.Ordering.{is_lt}
use Rattle.std.specs.declared.cmp.Ordering.{Ordering}
use Rattle.std.specs.declared.cmp.Ordering.TheVariants.{Less, Equal, Greater}
use Rattle.dg_graph.specs.declared.element.Element.{Element}
use Rattle.dg_graph.specs.declared.element.Element.TheVariants as element
use Rattle.dg_graph.specs.Completion.{has_node}
use Rattle.dg_graph.specs.Elements.{IsSet, element_cmp, before, same, has}
use Rattle.dg_graph.specs.Graph.{IsGraph, has_needs}
use Rattle.dg_graph.proofs.Sets.{element_exact, tied_exact, same_itself, before_trans, before_from_Greater}
use Rattle.dg_current.specs.declared.element_id.ElementId.{ElementId}
use Rattle.dg_current.specs.declared.element_id.ElementId.TheVariants.{Node, Edge}
use Rattle.dg_current.specs.ElementIds.{element_id_of, at, same_id}
use Rattle.dg_current.specs.Sorted.{AreNodesOf, OneOfEachId, has_ends, holder_of, least}
use Rattle.dg_current.proofs.ElementIds.{both, either, has_node_is, graph_from}
use Rattle.dg_current.proofs.HeldGraph.{same_id_from}
use Rattle.dg_current.proofs.SortedOrder.{nodes_rise, edges_rise, node_values_rise, edge_values_rise, nodes_above, rises_far, rises_on, index_of, item_there, id_between, not_itself}

bool_is : (a b : Bool) → (a ≡ true → b ≡ true) → (b ≡ true → a ≡ true) → a ≡ b
bool_is true b f g = sym (f refl)
bool_is false true f g = g refl
bool_is false false f g = refl

node_exact : (m n : ℕ) → element.Node m ≡ element.Node n → m ≡ n
node_exact m n e = cc

-- ---- tests of all items

pub all_of : (t : Element → Bool) (xs : List Element) → list_all t xs ≡ true → (x : Element) → has xs x ≡ true → t x ≡ true
all_of t [] all x h = absurd (false≢true h)
all_of t (y ∷ ys) all x h =
    let parts = both (t y) (list_all t ys) all in
    by parts.0 (either (same x y) (has ys x) h) (all_of t ys parts.1 x)
  where
    by : t y ≡ true → (same x y ≡ true) ⊎ (has ys x ≡ true) → (has ys x ≡ true → t x ≡ true) → t x ≡ true
    by here (inl e) rest = ap t (element_exact x y e) ∙ here
    by here (inr k) rest = rest k

pub of_all : (t : Element → Bool) (xs : List Element) → ((x : Element) → has xs x ≡ true → t x ≡ true) → list_all t xs ≡ true
of_all t [] h = refl
of_all t (y ∷ ys) h =
    let here = h y (or_left (same y y) (has ys y) (same_itself y)) in
    let rest = of_all t ys (λ x k. h x (later x k)) in
    λ i. here i && rest i
  where
    later : (x : Element) → has ys x ≡ true → has (y ∷ ys) x ≡ true
    later x k = by (same x y)
      where
        by : (b : Bool) → (b || has ys x) ≡ true
        by true = refl
        by false = k

-- one item more passes
pub all_more : (t : Element → Bool) (xs : List Element) (i : ℕ) (d : Element) → i < length xs → list_all t (take i xs) ≡ true → t (get_or xs i d) ≡ true → list_all t (take (i + 1) xs) ≡ true
all_more t xs i d less old new = list_all_more t xs i d less ∙ (λ j. old j && new j)

-- ---- ids

abbrev pub NeighboursDiffer : List Element → ℕ → Type 0
NeighboursDiffer xs n = (k : ℕ) (d : Element) → k + 1 < n → same_id (element_id_of (get_or xs k d)) (element_id_of (get_or xs (k + 1) d)) ≡ false

pub ids_differ : (xs : List Element) → IsSet xs → NeighboursDiffer xs (length xs) → OneOfEachId xs
ids_differ xs s apart x y h k is =
    let first = index_of xs x x h in
    let second = index_of xs y x k in
    by first.0 second.0 first.1.0 second.1.0 first.1.1 second.1.1
  where
    no_two : (i j : ℕ) → i < j → j < length xs → element_id_of (get_or xs i x) ≡ element_id_of (get_or xs j x) → ⊥
    no_two i j up end one =
        let next = id_between (element_id_of (get_or xs i x)) (get_or xs i x) (get_or xs j x) (get_or xs (i + 1) x) refl (sym one)
        (rises_on xs s i (i + 1) x (omega arith) (omega arith)) (rises_on xs s (i + 1) j x (omega arith) end) in
        true≢false (sym (same_id_from (element_id_of (get_or xs i x)) (element_id_of (get_or xs (i + 1) x)) (sym next)) ∙ apart i x (omega arith))

    by : (i j : ℕ) → i < length xs → j < length xs → get_or xs i x ≡ x → get_or xs j x ≡ y → x ≡ y
    by i j less end e f = which (ltb i j) refl (ltb j i) refl
      where
        ids : element_id_of (get_or xs i x) ≡ element_id_of (get_or xs j x)
        ids = ap element_id_of e ∙ is ∙ ap element_id_of (sym f)

        which : (b : Bool) → ltb i j ≡ b → (c : Bool) → ltb j i ≡ c → x ≡ y
        which true up c down = absurd (no_two i j (ltb-true i j up) end ids)
        which false up true down = absurd (no_two j i (ltb-true j i down) less (sym ids))
        which false up false down =
            let one = ltb-false i j up in
            let other = ltb-false j i down in
            let at : i ≡ j = omega arith in
            sym e ∙ ap (λ n. get_or xs n x) at ∙ f

-- neighbours with one id are two elements with one
pub ids_meet : (xs : List Element) → IsSet xs → (k : ℕ) (d : Element) → k + 1 < length xs → element_id_of (get_or xs k d) ≡ element_id_of (get_or xs (k + 1) d) → OneOfEachId xs → ⊥
ids_meet xs s k d less is one =
    let x = get_or xs k d in
    let y = get_or xs (k + 1) d in
    let alike : x ≡ y = one x y (item_there xs k d (omega arith)) (item_there xs (k + 1) d less) is in
    true≢false (sym (rises_far xs s k (k + 1) d (omega arith) less) ∙ ap (λ z. before z y) alike ∙ not_itself y)

-- what an index past the list reads as
abbrev pub past : Element
past = element.Node 0

-- the same by the index of the second of them
module _ (xs : List Element) (i : ℕ) (low : 1 ≤ i) (less : i < length xs) where
  back : i - 1 + 1 ≡ i
  back = omega arith

  pub index_meets : IsSet xs → element_id_of (get_or xs (i - 1) past) ≡ element_id_of (get_or xs i past) → OneOfEachId xs → ⊥
  index_meets s is =
      ids_meet xs s (i - 1) past (omega arith) (is ∙ ap (λ n. element_id_of (get_or xs n past)) (sym back))

  pub neighbours_more : NeighboursDiffer xs i → same_id (element_id_of (get_or xs (i - 1) past)) (element_id_of (get_or xs i past)) ≡ false → NeighboursDiffer xs (i + 1)
  neighbours_more old apart k d up = by (ltb (k + 1) i) refl
    where
      by : (b : Bool) → ltb (k + 1) i ≡ b → same_id (element_id_of (get_or xs k d)) (element_id_of (get_or xs (k + 1) d)) ≡ false
      by true e = old k d (ltb-true (k + 1) i e)
      by false e =
          let other = ltb-false (k + 1) i e in
          let first : k ≡ i - 1 = omega arith in
          let second : k + 1 ≡ i = omega arith in
          (λ j. same_id (element_id_of (get_or_default xs k d past (omega arith) j)) (element_id_of (get_or_default xs (k + 1) d past (omega arith) j)))
          ∙ (λ j. same_id (element_id_of (get_or xs (first j) past)) (element_id_of (get_or xs (second j) past))) ∙ apart

-- ---- what values stand at

-- what is before an element is before one that is not before it
before_on : (x y z : Element) → IsTrue (before x y) → before z y ≡ false → IsTrue (before x z)
before_on x y z e f = by (element_cmp y z) refl
  where
    by : (o : Ordering) → element_cmp y z ≡ o → IsTrue (before x z)
    by Less p = before_trans x y z e (ap is_lt p)
    by Equal p = subst (λ w. IsTrue (before x w)) (tied_exact y z p) e
    by Greater p = absurd (true≢false (sym (before_from_Greater y z p) ∙ f))

none_some : {w : ElementId} → None ≡ Some w → ⊥
none_some e = cc

some_is : (p q : ElementId) → Some p ≡ Some q → p ≡ q
some_is p q e = cc

-- what later values stand at comes later
holders_rise : (x y : Element) (p q : ElementId) → before y x ≡ false → holder_of x ≡ Some p → holder_of y ≡ Some q → before (least q) (least p) ≡ false
holders_rise (element.Node n) y p q b e f = absurd (none_some e)
holders_rise (element.Edge u n s d) y p q b e f = absurd (none_some e)
holders_rise (element.Message n s d) y p q b e f = absurd (none_some e)
holders_rise (element.NodeAttr n k v) (element.Node m) p q b e f = absurd (none_some f)
holders_rise (element.NodeAttr n k v) (element.Edge a m t c) p q b e f = absurd (none_some f)
holders_rise (element.NodeAttr n k v) (element.NodeAttr m l w) p q b e f =
    (let later = sym (some_is (Node m) q f) in let earlier = sym (some_is (Node n) p e) in λ i. before (least (later i)) (least (earlier i))) ∙ nodes_rise n m (node_values_rise n k v m l w b)
holders_rise (element.NodeAttr n k v) (element.EdgeAttr m l w) p q b e f =
    (let later = sym (some_is (Edge m) q f) in let earlier = sym (some_is (Node n) p e) in λ i. before (least (later i)) (least (earlier i)))
holders_rise (element.NodeAttr n k v) (element.Message m l w) p q b e f = absurd (none_some f)
holders_rise (element.EdgeAttr n k v) (element.Node m) p q b e f = absurd (none_some f)
holders_rise (element.EdgeAttr n k v) (element.Edge a m t c) p q b e f = absurd (none_some f)
holders_rise (element.EdgeAttr n k v) (element.NodeAttr m l w) p q b e f = absurd (true≢false b)
holders_rise (element.EdgeAttr n k v) (element.EdgeAttr m l w) p q b e f =
    (let later = sym (some_is (Edge m) q f) in let earlier = sym (some_is (Edge n) p e) in λ i. before (least (later i)) (least (earlier i))) ∙ edges_rise n m (edge_values_rise n k v m l w b)
holders_rise (element.EdgeAttr n k v) (element.Message m l w) p q b e f = absurd (none_some f)

-- the first items are before all that the values from an index on stand at
abbrev pub HoldersPast : List Element → ℕ → ℕ → Type 0
HoldersPast xs at from = (k j : ℕ) (d : Element) (p : ElementId) → k < at → from ≤ j → j < length xs → holder_of (get_or xs j past) ≡ Some p → IsTrue (before (get_or xs k d) (least p))

pub holders_next : (xs : List Element) → IsSet xs → (at i : ℕ) (p : ElementId) → i < length xs → holder_of (get_or xs i past) ≡ Some p
    → ((k : ℕ) (d : Element) → k < at → IsTrue (before (get_or xs k d) (least p))) → HoldersPast xs at (i + 1)
holders_next xs s at i p less is below k j d q up from end holds =
    before_on (get_or xs k d) (least p) (least q) (below k d up)
    (holders_rise (get_or xs i past) (get_or xs j past) p q (rises_on xs s i j past (omega arith) end) is holds)

pub holders_still : (xs : List Element) (at i : ℕ) → HoldersPast xs at i → HoldersPast xs at (i + 1)
holders_still xs at i old k j d p up from end is = old k j d p up (omega arith) end is

-- ---- nodes

-- no node comes after an item that is none
pub no_later_node : (xs : List Element) → IsSet xs → (i k : ℕ) (d : Element) (n : ℕ) → i ≤ k → k < length xs → get_or xs k d ≡ element.Node n
    → ((m : ℕ) → get_or xs i d ≡ element.Node m → ⊥) → ⊥
no_later_node xs s i k d n from end is other = by (get_or xs i d) other (ap (λ x. before x (get_or xs i d)) (sym is) ∙ rises_on xs s i k d from end)
  where
    by : (x : Element) → ((m : ℕ) → x ≡ element.Node m → ⊥) → before (element.Node n) x ≡ false → ⊥
    by (element.Node m) not e = not m refl
    by (element.Edge a m t c) not e = true≢false e
    by (element.NodeAttr m l w) not e = true≢false e
    by (element.EdgeAttr m l w) not e = true≢false e
    by (element.Message m l w) not e = true≢false e

-- one node more
pub nodes_more : (xs : List Element) (nodes : List ℕ) (i id : ℕ) → i < length xs → map element.Node nodes ≡ take i xs → get_or xs i past ≡ element.Node id
    → map element.Node (nodes ++ id ∷ []) ≡ take (i + 1) xs
nodes_more xs nodes i id less listed is =
    map-append element.Node nodes (id ∷ []) ∙ (λ j. listed j ++ sym is j ∷ []) ∙ sym (take_more xs i past less)

module _ (xs : List Element) (s : IsSet xs) (nodes : List ℕ) (i : ℕ) (within : i ≤ length xs) (listed : map element.Node nodes ≡ take i xs)
    (others : (k : ℕ) (d : Element) (n : ℕ) → i ≤ k → k < length xs → get_or xs k d ≡ element.Node n → ⊥) where
  count : length nodes ≡ i
  count = sym (length-map {A = ℕ} {B = Element} nodes element.Node) ∙ ap length listed ∙ length-take-le i xs within

  node_at : (k e : ℕ) → k < length nodes → get_or xs k (element.Node e) ≡ element.Node (get_or nodes k e)
  node_at k e less =
      sym (get_or-take i xs k (element.Node e) (omega (arith, count))) ∙ ap (λ l. get_or l k (element.Node e)) (sym listed)
      ∙ get_or-map element.Node nodes k e (element.Node e) less

  rising : IsNonDecreasing nodes
  rising k j e up end =
      nodes_above (get_or nodes k e) (get_or nodes j e)
      (let later = sym (node_at j e end) in let earlier = sym (node_at k e (omega arith)) in (λ h. before (later h) (earlier h)) ∙ rises_on xs s k j (element.Node e) up (omega (arith, count)))

  listed_there : (n : ℕ) → list_any (λ m. eqb m n) nodes ≡ true → has_node xs n ≡ true
  listed_there n e =
      let (k, m, less, read, is) = Any-from_list_any (λ m. eqb m n) nodes e in
      let node : get_or xs k (element.Node m) ≡ element.Node n = node_at k m less ∙ ap element.Node (read ∙ eqb-true m n is) in
      subst (λ x. has xs x ≡ true) node (item_there xs k (element.Node m) (omega (arith, count)))

  there_listed : (n : ℕ) → has_node xs n ≡ true → list_any (λ m. eqb m n) nodes ≡ true
  there_listed n h =
      let (k, (end, is)) = index_of xs (element.Node n) (element.Node n) h in
      by k end is (ltb k i) refl
    where
      by : (k : ℕ) → k < length xs → get_or xs k (element.Node n) ≡ element.Node n → (b : Bool) → ltb k i ≡ b → list_any (λ m. eqb m n) nodes ≡ true
      by k end is true e =
          let less : k < length nodes = omega (arith, count, ltb-true k i e) in
          let same_node : element.Node (get_or nodes k n) ≡ element.Node n = sym (node_at k n less) ∙ is in
          list_any_at (λ m. eqb m n) nodes k n less (eq-eqb (get_or nodes k n) n (node_exact (get_or nodes k n) n same_node))
      by k end is false e = absurd (others k (element.Node n) n (ltb-false k i e) end is)

  pub are_nodes : AreNodesOf xs nodes
  are_nodes = record {
    rises = rising;
    among = λ n. bool_is (list_any (λ m. eqb m n) nodes) (has_node xs n) (listed_there n) (there_listed n);
  }

-- ---- graphs

-- what a value needs is what it stands at, and what all others need are their ends
pub needs_held : (set : List Element) (x : Element) (p : ElementId) → holder_of x ≡ Some p → has_needs set x ≡ is_some (at set p)
needs_held set (element.Node n) p e = absurd (none_some e)
needs_held set (element.Edge b n s d) p e = absurd (none_some e)
needs_held set (element.NodeAttr n k v) p e = sym (has_node_is set n) ∙ ap (λ q. is_some (at set q)) (some_is (Node n) p e)
needs_held set (element.EdgeAttr n k v) p e = ap (λ q. is_some (at set q)) (some_is (Edge n) p e)
needs_held set (element.Message s d v) p e = absurd (none_some e)

pub needs_ends : (set : List Element) (x : Element) → holder_of x ≡ None → has_needs set x ≡ has_ends set x
needs_ends set (element.Node n) e = refl
needs_ends set (element.Edge b n s d) e = refl
needs_ends set (element.NodeAttr n k v) e = absurd (none_some (sym e))
needs_ends set (element.EdgeAttr n k v) e = absurd (none_some (sym e))
needs_ends set (element.Message s d v) e = refl

-- a set whose elements have ids of their own and what they need is a graph, and the other way round
pub graph_passes : (set : List Element) → IsSet set → OneOfEachId set → list_all (has_needs set) set ≡ true → IsGraph set
graph_passes set s one fed = graph_from set s one (all_of (has_needs set) set fed)

pub graph_fed : (set : List Element) → IsGraph set → list_all (has_needs set) set ≡ true
graph_fed set g = of_all (has_needs set) set g.needs
