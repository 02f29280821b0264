-- The counts of a set that gains or loses one element.
use Rattle.std.proofs.Common.{arith, ◌≡◌, ℕ, suc, ◌+◌, ◌-◌, ◌≤◌, Bool, true, false, cond, List, [], ◌∷◌, ◌++◌, Option, Some, None, length, refl, sym}
use Rattle.std.specs.declared.cmp.Ordering.TheVariants.{Less, Equal, Greater}
use Rattle.std.specs.List.{count_by}
use Rattle.std.proofs.lemmas.List.Sums.{count_by-le-length}
use Rattle.dg_graph.specs.declared.element.Element.{Element}
use Rattle.dg_graph.specs.declared.element.Columns.{Columns}
use Rattle.dg_graph.specs.declared.element.Element.TheVariants.{Node, Edge, NodeAttr, EdgeAttr, Message}
use Rattle.dg_graph.specs.Elements.{IsSet, has, put, take_out, with_one, element_cmp, asks, column_of, shown}
use Rattle.dg_graph.proofs.Sets.{put_by}
use Rattle.dg_cells.specs.Rows.{Row}
use Rattle.dg_query.specs.declared.answers.Counts.{Counts}
use Rattle.dg_pool.specs.Graphs.{given, picked}
use Rattle.dg_query.specs.Queries.{is_a_node, is_an_edge, is_a_node_attr, is_an_edge_attr, is_a_message, counts_of}
use Rattle.dg_pool.specs.Counts.{kind_count, one_more, one_less, counts_shown}
use Rattle.dg_pool.proofs.SetCounts.{count-put, count-take_out, count-cons, count-filter}

counts_by : {c d : Counts} → c.nodes ≡ d.nodes → c.edges ≡ d.edges → c.node_attrs ≡ d.node_attrs → c.edge_attrs ≡ d.edge_attrs → c.messages ≡ d.messages → c ≡ d
counts_by p q r s t = λ i. record { nodes = p i; edges = q i; node_attrs = r i; edge_attrs = s i; messages = t i }

more : (n m : ℕ) → n ≡ 1 + m → n ≡ m + 1
more n m e = omega arith

less : (n m : ℕ) → n ≡ 1 + m → m ≡ n - 1
less n m e = omega arith

same : (n m : ℕ) → n ≡ 0 + m → m ≡ n
same n m e = omega arith

same_too : (n m : ℕ) → n ≡ 0 + m → n ≡ m
same_too n m e = omega arith

-- with its counts in a record of variables, one more
more_by : (x : Element) (set after : List Element) → ((p : Element → Bool) → count_by p after ≡ cond (p x) 1 0 + count_by p set) → counts_of after ≡ one_more (counts_of set) x
more_by (Node id) set after f = counts_by (more _ _ (f is_a_node)) (same_too _ _ (f is_an_edge)) (same_too _ _ (f is_a_node_attr)) (same_too _ _ (f is_an_edge_attr)) (same_too _ _ (f is_a_message))
more_by (Edge directed id src dst) set after f = counts_by (same_too _ _ (f is_a_node)) (more _ _ (f is_an_edge)) (same_too _ _ (f is_a_node_attr)) (same_too _ _ (f is_an_edge_attr)) (same_too _ _ (f is_a_message))
more_by (NodeAttr id key value) set after f = counts_by (same_too _ _ (f is_a_node)) (same_too _ _ (f is_an_edge)) (more _ _ (f is_a_node_attr)) (same_too _ _ (f is_an_edge_attr)) (same_too _ _ (f is_a_message))
more_by (EdgeAttr id key value) set after f = counts_by (same_too _ _ (f is_a_node)) (same_too _ _ (f is_an_edge)) (same_too _ _ (f is_a_node_attr)) (more _ _ (f is_an_edge_attr)) (same_too _ _ (f is_a_message))
more_by (Message src dst value) set after f = counts_by (same_too _ _ (f is_a_node)) (same_too _ _ (f is_an_edge)) (same_too _ _ (f is_a_node_attr)) (same_too _ _ (f is_an_edge_attr)) (more _ _ (f is_a_message))

less_by : (x : Element) (set after : List Element) → ((p : Element → Bool) → count_by p set ≡ cond (p x) 1 0 + count_by p after) → counts_of after ≡ one_less (counts_of set) x
less_by (Node id) set after f = counts_by (less _ _ (f is_a_node)) (same _ _ (f is_an_edge)) (same _ _ (f is_a_node_attr)) (same _ _ (f is_an_edge_attr)) (same _ _ (f is_a_message))
less_by (Edge directed id src dst) set after f = counts_by (same _ _ (f is_a_node)) (less _ _ (f is_an_edge)) (same _ _ (f is_a_node_attr)) (same _ _ (f is_an_edge_attr)) (same _ _ (f is_a_message))
less_by (NodeAttr id key value) set after f = counts_by (same _ _ (f is_a_node)) (same _ _ (f is_an_edge)) (less _ _ (f is_a_node_attr)) (same _ _ (f is_an_edge_attr)) (same _ _ (f is_a_message))
less_by (EdgeAttr id key value) set after f = counts_by (same _ _ (f is_a_node)) (same _ _ (f is_an_edge)) (same _ _ (f is_a_node_attr)) (less _ _ (f is_an_edge_attr)) (same _ _ (f is_a_message))
less_by (Message src dst value) set after f = counts_by (same _ _ (f is_a_node)) (same _ _ (f is_an_edge)) (same _ _ (f is_a_node_attr)) (same _ _ (f is_an_edge_attr)) (less _ _ (f is_a_message))

pub counts-put : (x : Element) (set : List Element) → has set x ≡ false → counts_of (put x set) ≡ one_more (counts_of set) x
counts-put x set e = more_by x set (put x set) (λ p. count-put p x set e)

pub counts-take_out : (x : Element) (set : List Element) → IsSet set → has set x ≡ true → counts_of (take_out x set) ≡ one_less (counts_of set) x
counts-take_out x set s e = less_by x set (take_out x set) (λ p. count-take_out p x set s e)

count-push : (p : Element → Bool) (xs : List Element) (y : Element) → count_by p (xs ++ y ∷ []) ≡ cond (p y) 1 0 + count_by p xs
count-push p [] y = count-cons p y []
count-push p (x ∷ xs) y =
    let rest = count-push p xs y in
    let a = count-cons p x (xs ++ y ∷ []) in
    let b = count-cons p x xs in
    omega (arith, rest, a, b)

pub counts-push : (xs : List Element) (y : Element) → counts_of (xs ++ y ∷ []) ≡ one_more (counts_of xs) y
counts-push xs y = more_by y xs (xs ++ y ∷ []) (λ p. count-push p xs y)

pub kind-one_more : (c : Counts) (x : Element) → kind_count (one_more c x) x ≡ kind_count c x + 1
kind-one_more c (Node id) = refl
kind-one_more c _ = refl

pub kind-most : (set : List Element) (x : Element) → kind_count (counts_of set) x ≤ length set
kind-most set (Node id) = count_by-le-length is_a_node set
kind-most set (Edge directed id src dst) = count_by-le-length is_an_edge set
kind-most set (NodeAttr id key value) = count_by-le-length is_a_node_attr set
kind-most set (EdgeAttr id key value) = count_by-le-length is_an_edge_attr set
kind-most set (Message src dst value) = count_by-le-length is_a_message set

-- a set with the element has one of its kind
pub kind-least : (x : Element) (set : List Element) → IsSet set → has set x ≡ true → 1 ≤ kind_count (counts_of set) x
kind-least (Node id) set s e = let f = count-take_out is_a_node (Node id) set s e in omega arith
kind-least (Edge directed id src dst) set s e = let f = count-take_out is_an_edge (Edge directed id src dst) set s e in omega arith
kind-least (NodeAttr id key value) set s e = let f = count-take_out is_a_node_attr (NodeAttr id key value) set s e in omega arith
kind-least (EdgeAttr id key value) set s e = let f = count-take_out is_an_edge_attr (EdgeAttr id key value) set s e in omega arith
kind-least (Message src dst value) set s e = let f = count-take_out is_a_message (Message src dst value) set s e in omega arith

-- ---- in the columns that are asked for

module _ (set : List Element) (cols : Columns) where
  node_asks : (x : Element) → is_a_node x ≡ true → asks cols (column_of x) ≡ true
  node_asks (Node id) e = refl
  node_asks _ e = cc

  edge_asks : (x : Element) → is_an_edge x ≡ true → asks cols (column_of x) ≡ true
  edge_asks (Edge directed id src dst) e = refl
  edge_asks _ e = cc

  node_attr_asks : (x : Element) → is_a_node_attr x ≡ true → asks cols (column_of x) ≡ cols.nodes_attr
  node_attr_asks (NodeAttr id key value) e = refl
  node_attr_asks _ e = cc

  edge_attr_asks : (x : Element) → is_an_edge_attr x ≡ true → asks cols (column_of x) ≡ cols.edges_attr
  edge_attr_asks (EdgeAttr id key value) e = refl
  edge_attr_asks _ e = cc

  message_asks : (x : Element) → is_a_message x ≡ true → asks cols (column_of x) ≡ cols.transient
  message_asks (Message src dst value) e = refl
  message_asks _ e = cc

  abbrev asked : Element → Bool
  asked x = asks cols (column_of x)

  pub counts-shown : counts_shown (counts_of set) cols ≡ counts_of (shown set cols)
  counts-shown =
      sym (counts_by
      (count-filter is_a_node asked true node_asks set) (count-filter is_an_edge asked true edge_asks set)
      (count-filter is_a_node_attr asked cols.nodes_attr node_attr_asks set) (count-filter is_an_edge_attr asked cols.edges_attr edge_attr_asks set)
      (count-filter is_a_message asked cols.transient message_asks set))

-- ---- no more than there are cells

put_most : (x : Element) (set : List Element) → length (put x set) ≤ length set + 1
put_most x [] = omega arith
put_most x (y ∷ set) =
    elim (element_cmp x y) as (λ o. length (put_by o x y set) ≤ length (y ∷ set) + 1) [
      | Less ↦ omega arith
      | Equal ↦ omega arith
      | Greater ↦ let rest = put_most x set in omega arith
    ]

-- no graph has more elements than there are cells
pub picked_most : (test : Row → Bool) (rows : List (Option Row)) → length (picked test rows) ≤ length rows
picked_most test [] = omega arith
picked_most test (o ∷ rows) = at (given test o) (picked_most test rows)
  where
    at : (z : Option Element) → length (picked test rows) ≤ length rows → length (with_one (picked test rows) z) ≤ suc (length rows)
    at None rest = omega arith
    at (Some x) rest = let f = put_most x (picked test rows) in omega arith
