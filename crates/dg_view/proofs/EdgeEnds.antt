-- What stands at a node among the ends of edges, and where a search finds it.
use Rattle.std.proofs.Common.{◌≡◌, ℕ, zero, suc, ◌+◌, ◌-◌, ◌<◌, ◌≤◌, Bool, true, false, cond, not, ◌&&◌, ltb, eqb, List, [], ◌∷◌, ◌++◌, Option, Some, None, map, filter, filter_map, length, take, drop, get_or, refl, sym, ap, subst, ◌∙◌, arith}
use Rattle.std.proofs.lemmas.Bool.Decides.{nat_tests}
use Rattle.std.proofs.lemmas.List.{append_assoc, length-drop, get_or-drop}
use Rattle.std.specs.List.{cons_option}
use Rattle.std.specs.List.Sorted.{IsPartitionPoint, IsPartitionedBy, ties}
use Rattle.std.specs.Option.{option_to_list}
use Rattle.std.specs.Ordering.{is_lt, nat_cmp}
use Rattle.dg_graph.specs.declared.element.Element.{Element}
use Rattle.dg_graph.specs.declared.element.Element.TheVariants.{Edge}
use Rattle.dg_query.specs.declared.answers.Neighbour.{Neighbour}
use Rattle.dg_query.specs.declared.answers.Side.TheVariants as side
use Rattle.dg_query.specs.Queries.{is_an_edge, edge_at, neighbours_of}
use Rattle.dg_view.specs.declared.ends.EdgeEnd.{EdgeEnd}
use Rattle.dg_view.specs.EdgeEnds.{edges_ending_at, IsAdjacencyOf, RiseByNode}

abbrev edge_of : EdgeEnd → Neighbour
edge_of end = end.edge

abbrev stands_at : ℕ → EdgeEnd → Bool
stands_at n end = eqb end.node n

-- ---- a walk over the elements

cons_is : (o : Option Neighbour) (l : List Neighbour) → cons_option o l ≡ option_to_list o ++ l
cons_is None l = refl
cons_is (Some edge) l = refl

pub one_walked : (f : Element → Option Neighbour) (was now : List Neighbour) (x : Element) (from behind : List Element) (all : List Neighbour)
    → now ≡ was ++ option_to_list (f x) → from ≡ x ∷ behind → was ++ filter_map f from ≡ all → now ++ filter_map f behind ≡ all
one_walked f was now x from behind all pushed is before =
    ap (λ l. l ++ filter_map f behind) pushed
    ∙ append_assoc was (option_to_list (f x)) (filter_map f behind)
    ∙ ap (λ l. was ++ l) (sym (cons_is (f x) (filter_map f behind)) ∙ sym (ap (filter_map f) is))
    ∙ before

-- ---- edges alone

edges_alone : (set : List Element) (n : ℕ) → neighbours_of (filter is_an_edge set) n ≡ neighbours_of set n
edges_alone [] n = refl
edges_alone (Edge directed id src dst ∷ set) n = ap (cons_option (edge_at n (Edge directed id src dst))) (edges_alone set n)
edges_alone (_ ∷ set) n = edges_alone set n

pub same_edges : (a b : List Element) (ends : List EdgeEnd) → filter is_an_edge a ≡ filter is_an_edge b → IsAdjacencyOf a ends → IsAdjacencyOf b ends
same_edges a b ends same of n = of n ∙ sym (edges_alone a n) ∙ ap (λ set. neighbours_of set n) same ∙ edges_alone b n

-- ---- a stable sort

tied : (m n : ℕ) → (not (is_lt (nat_cmp n m)) && not (is_lt (nat_cmp m n))) ≡ eqb m n
tied m n = grind (arith, nat_tests)

pub still_at : (xs ys : List EdgeEnd) (n : ℕ)
    → ((x : EdgeEnd) → filter (ties (λ a b. is_lt (nat_cmp a.node b.node)) x) ys ≡ filter (ties (λ a b. is_lt (nat_cmp a.node b.node)) x) xs)
    → edges_ending_at ys n ≡ edges_ending_at xs n
still_at xs ys n stable =
    ap (map edge_of) (subst (λ (t : EdgeEnd → Bool). filter t ys ≡ filter t xs) (λ i end. tied end.node n i) (stable (record { node = n; edge = record { edge = 0; node = 0; side = side.Both } })))

-- ---- a search

module _ {X : Type 0} (t : X → Bool) where
  filter_none : (xs : List X) → ((k : ℕ) (d : X) → k < length xs → t (get_or xs k d) ≡ false) → filter t xs ≡ []
  filter_none [] fail = refl
  filter_none (x ∷ xs) fail = ap (λ b. cond b (x ∷ filter t xs) (filter t xs)) (fail 0 x (omega arith)) ∙ filter_none xs (λ k d less. fail (suc k) d (omega arith))

  filter_from : (xs : List X) (i : ℕ) → i ≤ length xs → ((k : ℕ) (d : X) → k < i → t (get_or xs k d) ≡ false) → filter t xs ≡ filter t (drop i xs)
  filter_from xs zero within fail = refl
  filter_from [] (suc i) within fail = refl
  filter_from (x ∷ xs) (suc i) within fail =
      ap (λ b. cond b (x ∷ filter t xs) (filter t xs)) (fail 0 x (omega arith)) ∙ filter_from xs i (omega arith) (λ k d less. fail (suc k) d (omega arith))

  filter_point : (xs : List X) (i : ℕ) → i ≤ length xs → ((k : ℕ) (d : X) → k < i → t (get_or xs k d) ≡ true)
      → ((k : ℕ) (d : X) → i ≤ k → k < length xs → t (get_or xs k d) ≡ false) → filter t xs ≡ take i xs
  filter_point xs zero within pass fail = filter_none xs (λ k d less. fail k d (omega arith) less)
  filter_point [] (suc i) within pass fail = refl
  filter_point (x ∷ xs) (suc i) within pass fail =
      ap (λ b. cond b (x ∷ filter t xs) (filter t xs)) (pass 0 x (omega arith))
      ∙ ap (λ l. x ∷ l) (filter_point xs i (omega arith) (λ k d less. pass (suc k) d (omega arith)) (λ k d from end. fail (suc k) d (omega arith) (omega arith)))

below_is_not : (m n : ℕ) → ltb m n ≡ true → eqb m n ≡ false
below_is_not m n e = grind (arith, nat_tests)

between : (l m n : ℕ) → ltb l n ≡ false → l ≤ m → eqb m n ≡ true → eqb l n ≡ true
between l m n e up f = grind (arith, nat_tests)

-- the ends from the first one that is not below the node on: those at the node come first
module _ (xs : List EdgeEnd) (rises : RiseByNode xs) (n first : ℕ) (within : first ≤ length xs)
    (parted : IsPartitionPoint (λ (end : EdgeEnd). ltb end.node n ≡ true) (λ (end : EdgeEnd). ltb end.node n ≡ false) xs first)
    (ys : List EdgeEnd) (is : ys ≡ drop first xs) where
  long : length ys ≡ length xs - first
  long = ap length is ∙ length-drop first xs

  read : (k : ℕ) (d : EdgeEnd) → get_or ys k d ≡ get_or xs (first + k) d
  read k d = ap (λ l. get_or l k d) is ∙ get_or-drop first xs k d

  come_first : IsPartitionedBy (stands_at n) ys
  come_first i j d up end at =
      let size = long in
      ap (stands_at n) (read i d)
      ∙ between (get_or xs (first + i) d).node (get_or xs (first + j) d).node n (parted.1 (first + i) d (omega arith) (omega arith))
      (rises (first + i) (first + j) d (omega arith) (omega arith)) (ap (stands_at n) (sym (read j d)) ∙ at)

  pub ends_found : (count : ℕ) → count ≤ length ys
      → (IsPartitionedBy (stands_at n) ys → IsPartitionPoint (λ (end : EdgeEnd). stands_at n end ≡ true) (λ (end : EdgeEnd). stands_at n end ≡ false) ys count)
      → map edge_of (take count ys) ≡ edges_ending_at xs n
  ends_found count fits point =
      let at = point come_first in
      ap (map edge_of)
      (sym
      (filter_from (stands_at n) xs first within (λ k d less. below_is_not (get_or xs k d).node n (parted.0 k d (omega arith) less))
      ∙ ap (filter (stands_at n)) (sym is)
      ∙ filter_point (stands_at n) ys count fits (λ k d less. at.0 k d (omega arith) less) (λ k d from end. at.1 k d from end)))
