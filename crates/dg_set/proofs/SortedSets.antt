-- What sorted elements leave of which each stands there once: the set of them.
use Rattle.std.proofs.Common.{◌≡◌, Bool, true, false, cond, ◌||◌, List, [], ◌∷◌, refl, sym, ap, ◌∙◌, subst}
use Rattle.std.specs.List.{AllByRecursion, dedup, dedup_from}
use Rattle.std.specs.List.Retain.{DiffersFromLast, IsFiltered}
use Rattle.std.specs.List.Sorted.{IsPermutation, IsSorted, IsStrictlySortedBy}
use Rattle.std.specs.Ordering.{is_lt}
use Rattle.std.specs.declared.cmp.Ordering.TheVariants.{Less}
use Rattle.std.proofs.lemmas.List.Filters.{dedup_is}
use Rattle.std.proofs.lemmas.List.Kept.{IsStrictlySortedBy-dedup}
use Rattle.std.proofs.lemmas.List.Sorted.{list_any-IsPermutation}
use Rattle.dg_graph.specs.contracts.element.ElementOrd.TheImpl as order
use Rattle.dg_graph.specs.contracts.element.ElementOrd.TheImpl.Laws as laws
use Rattle.dg_graph.specs.contracts.element.ElementPartialEq.TheImpl as equality
use Rattle.dg_graph.specs.declared.element.Element.{Element}
use Rattle.dg_graph.specs.Elements.{IsBelowFirst, IsSet, has, same}
use Rattle.dg_graph.specs.Sets.{unioned}
use Rattle.dg_graph.proofs.Sets.{IsSet-unioned, element_exact, has-unioned, same_members}

-- elements that the code finds equal are one
equal_exact : (x y : Element) → equality.ghosts.eq x y ≡ true → x ≡ y
equal_exact x y e = element_exact x y (sym (laws.matches_eq-law x y) ∙ e)

twice : (a b c : Bool) → b ≡ a → (a || c) ≡ (a || (b || c))
twice true b c e = refl
twice false b c e = sym (ap (λ t. t || c) e)

has-dedup_from : (q k : Element) (xs : List Element) → has (dedup_from equality.ghosts.eq k xs) q ≡ (same q k || has xs q)
has-dedup_from q k [] = refl
has-dedup_from q k (x ∷ xs) = by (equality.ghosts.eq x k) refl (has-dedup_from q k xs) (has-dedup_from q x xs)
  where
    by : (b : Bool) → equality.ghosts.eq x k ≡ b → has (dedup_from equality.ghosts.eq k xs) q ≡ (same q k || has xs q) → has (dedup_from equality.ghosts.eq x xs) q ≡ (same q x || has xs q)
        → has (cond b (dedup_from equality.ghosts.eq k xs) (k ∷ dedup_from equality.ghosts.eq x xs)) q ≡ (same q k || (same q x || has xs q))
    by true e passed kept = passed ∙ twice (same q k) (same q x) (has xs q) (ap (same q) (equal_exact x k e))
    by false e passed kept = ap (λ b. same q k || b) kept

has-dedup : (q : Element) (xs : List Element) → has (dedup equality.ghosts.eq xs) q ≡ has xs q
has-dedup q [] = refl
has-dedup q (x ∷ xs) = has-dedup_from q x xs

below : (x : Element) (xs : List Element) → AllByRecursion (λ y. order.ghosts.cmp x y ≡ Less) xs → IsBelowFirst x xs
below x [] h = tt
below x (y ∷ xs) h = ap is_lt h.0

rises : (xs : List Element) → IsStrictlySortedBy order.ghosts.cmp xs → IsSet xs
unfolding IsStrictlySortedBy
rises [] h = tt
rises (x ∷ xs) h = (below x xs h.0, rises xs h.1)

module _ (xs sorted once : List Element) (moved : IsPermutation xs sorted) (climbs : IsSorted order.ghosts.cmp sorted) (kept : IsFiltered (DiffersFromLast equality.ghosts.eq) [] sorted once) where
  is : once ≡ dedup equality.ghosts.eq sorted
  is = dedup_is equality.ghosts.eq sorted once kept

  -- each element once rises
  pub once_rises : IsSet once
  once_rises = subst IsSet (sym is) (rises (dedup equality.ghosts.eq sorted) (IsStrictlySortedBy-dedup laws.total-law laws.matches_eq-law sorted climbs))

  -- and is the set of the elements
  pub once_is : once ≡ unioned [] xs
  once_is =
      same_members once (unioned [] xs) once_rises (IsSet-unioned [] xs tt)
      (λ q. ap (λ l. has l q) is ∙ has-dedup q sorted ∙ sym (list_any-IsPermutation (same q) xs sorted moved) ∙ sym (has-unioned [] xs q))
