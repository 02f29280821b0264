-- Turns in their order: what they say is what they said, and those of a value follow one another.
use Rattle.std.proofs.Common.{◌≡◌, ℕ, zero, suc, ◌+◌, ◌-◌, ◌<◌, ◌≤◌, Bool, true, false, cond, not, ◌&&◌, ltb, eqb, List, [], ◌∷◌, ◌++◌, filter, length, take, drop, get_or, nat_eq, nat_le, refl, sym, ap, subst, ◌∙◌, arith}
use Rattle.std.proofs.lemmas.Bool.{true≢false, false≢true, eqb-true}
use Rattle.std.proofs.lemmas.Bool.Decides.{nat_tests}
use Rattle.std.proofs.lemmas.Cmp.{on_total, nat_list_cmp_total, tied_itself}
use Rattle.std.proofs.lemmas.List.{length-drop, get_or-drop}
use Rattle.std.proofs.lemmas.List.Sorted.{ranks_by, sorted_far, sum_by-IsPermutation}
use Rattle.std.specs.Cmp.{IsStrictWeakOrder}
use Rattle.std.specs.Cmp.Lexicographic.{slice_cmp}
use Rattle.std.specs.declared.cmp.Ordering.{Ordering}
use Rattle.std.specs.declared.cmp.Ordering.TheVariants.{Less, Equal, Greater}
use Rattle.std.specs.List.Sorted.{IsNonDecreasingBy, IsPartitionPoint, IsPartitionedBy, IsSortedBy, IsStableBy, IsPermutation, ties}
use Rattle.std.specs.Ordering.{is_lt, nat_cmp, ordering_then}
use Rattle.dg_aux.specs.declared.turns.Turn.{Turn}
use Rattle.dg_aux.specs.Turns.{is_about, says_from, says, additions, AreAlike, place, earlier}

pub earlier_ranks : IsStrictWeakOrder earlier
earlier_ranks = ranks_by (nat_list_cmp_total) place

-- ---- a stable sort

-- turns of one value at one node tie
tie : (x y : Turn) → place x ≡ place y → ties earlier x y ≡ true
tie x y e = sym (ap (λ p. not (is_lt (slice_cmp nat_cmp (place x) p)) && not (is_lt (slice_cmp nat_cmp p (place x)))) e) ∙ one
  where
    one : (not (is_lt (slice_cmp nat_cmp (place x) (place x))) && not (is_lt (slice_cmp nat_cmp (place x) (place x)))) ≡ true
    one = ap (λ o. not (is_lt o) && not (is_lt o)) (tied_itself nat_list_cmp_total (place x))

module _ (v i t : ℕ) where
  abbrev at : Turn
  at = record { value = v; comes = false; id = i; time = 0 }

  not_about : (m : Turn) → ties earlier at m ≡ false → is_about v i t m ≡ false
  not_about m e = by (nat_eq m.value v) (nat_eq m.id i) refl refl
    where
      by : (p q : Bool) → nat_eq m.value v ≡ p → nat_eq m.id i ≡ q → ((p && q) && nat_le m.time t) ≡ false
      by true true f g =
          let values = eqb-true m.value v f in
          let ids = eqb-true m.id i g in
          absurd (true≢false (sym (tie at m (λ j. sym values j ∷ sym ids j ∷ [])) ∙ e))
      by true false f g = refl
      by false q f g = refl

  only : (b : Bool) (ms : List Turn) → says_from b (filter (ties earlier at) ms) v i t ≡ says_from b ms v i t
  only b [] = refl
  only b (m ∷ ms) =
      let rest = filter (ties earlier at) ms in
      elim (ties earlier at m) as (λ s. ties earlier at m ≡ s → says_from b (cond s (m ∷ rest) rest) v i t ≡ says_from (cond (is_about v i t m) m.comes b) ms v i t) [
        | true ↦ λ e. only (cond (is_about v i t m) m.comes b) ms
        | false ↦ λ e. only b ms ∙ sym (ap (λ s. says_from (cond s m.comes b) ms v i t) (not_about m e))
      ] refl

pub still_says : (xs ys : List Turn) → IsStableBy earlier xs ys → (v i t : ℕ) → says ys v i t ≡ says xs v i t
still_says xs ys stable v i t = sym (only v i t false ys) ∙ ap (λ l. says_from false l v i t) (stable (at v i t)) ∙ only v i t false xs

-- ---- a search

by_value : (a b c d : ℕ) → is_lt (slice_cmp nat_cmp (a ∷ b ∷ []) (c ∷ d ∷ [])) ≡ false → c ≤ a
by_value a b c d e = by (ltb a c) refl
  where
    by : (s : Bool) → ltb a c ≡ s → c ≤ a
    by true f = absurd (true≢false (sym (less f) ∙ e))
      where
        less : ltb a c ≡ true → is_lt (slice_cmp nat_cmp (a ∷ b ∷ []) (c ∷ d ∷ [])) ≡ true
        less g = ap (λ s. is_lt (ordering_then (cond s Less (cond (nat_eq a c) Equal Greater)) (slice_cmp nat_cmp (b ∷ []) (d ∷ [])))) g
    by false f = grind (arith, nat_tests, f)

pub values_rise : (ms : List Turn) → IsSortedBy earlier ms → IsNonDecreasingBy (λ (m : Turn). m.value) ms
values_rise ms sorted i j d le lt =
    let x = get_or ms i d in
    let y = get_or ms j d in
    by_value y.value y.id x.value x.id (sorted_far earlier earlier_ranks ms sorted i j d le lt)

pub sorted_alike : (xs ys : List Turn) → IsPermutation xs ys → IsStableBy earlier xs ys → AreAlike xs ys
sorted_alike xs ys moved stable = record {
  says = still_says xs ys stable;
  additions = sum_by-IsPermutation (λ (m : Turn). cond m.comes 1 0) xs ys moved;
}

pub alike_itself : (xs : List Turn) → AreAlike xs xs
alike_itself xs = record { says = λ v i t. refl; additions = refl }

-- ---- where the turns of a value stand

module _ {X : Type 0} (t : X → Bool) where
  filter_none : (xs : List X) → ((k : ℕ) (d : X) → k < length xs → t (get_or xs k d) ≡ false) → filter t xs ≡ []
  filter_none [] fail = refl
  filter_none (x ∷ xs) fail = ap (λ b. cond b (x ∷ filter t xs) (filter t xs)) (fail 0 x (omega arith)) ∙ filter_none xs (λ k d less. fail (suc k) d (omega arith))

  filter_from : (xs : List X) (i : ℕ) → i ≤ length xs → ((k : ℕ) (d : X) → k < i → t (get_or xs k d) ≡ false) → filter t xs ≡ filter t (drop i xs)
  filter_from xs zero within fail = refl
  filter_from [] (suc i) within fail = refl
  filter_from (x ∷ xs) (suc i) within fail =
      ap (λ b. cond b (x ∷ filter t xs) (filter t xs)) (fail 0 x (omega arith)) ∙ filter_from xs i (omega arith) (λ k d less. fail (suc k) d (omega arith))

  filter_point : (xs : List X) (i : ℕ) → i ≤ length xs → ((k : ℕ) (d : X) → k < i → t (get_or xs k d) ≡ true)
      → ((k : ℕ) (d : X) → i ≤ k → k < length xs → t (get_or xs k d) ≡ false) → filter t xs ≡ take i xs
  filter_point xs zero within pass fail = filter_none xs (λ k d less. fail k d (omega arith) less)
  filter_point [] (suc i) within pass fail = refl
  filter_point (x ∷ xs) (suc i) within pass fail =
      ap (λ b. cond b (x ∷ filter t xs) (filter t xs)) (pass 0 x (omega arith))
      ∙ ap (λ l. x ∷ l) (filter_point xs i (omega arith) (λ k d less. pass (suc k) d (omega arith)) (λ k d from end. fail (suc k) d (omega arith) (omega arith)))

below_is_not : (m n : ℕ) → ltb m n ≡ true → eqb m n ≡ false
below_is_not m n e = grind (arith, nat_tests)

between : (l m n : ℕ) → ltb l n ≡ false → l ≤ m → eqb m n ≡ true → eqb l n ≡ true
between l m n e up f = grind (arith, nat_tests)

abbrev pub of : ℕ → Turn → Bool
of n m = eqb m.value n

-- the turns from the first one on whose value is not below this: those of the value come first
module _ (xs : List Turn) (rises : IsNonDecreasingBy (λ (m : Turn). m.value) xs) (n first : ℕ) (within : first ≤ length xs)
    (parted : IsPartitionPoint (λ (m : Turn). ltb m.value n ≡ true) (λ (m : Turn). ltb m.value n ≡ false) xs first)
    (ys : List Turn) (is : ys ≡ drop first xs) where
  long : length ys ≡ length xs - first
  long = ap length is ∙ length-drop first xs

  read : (k : ℕ) (d : Turn) → get_or ys k d ≡ get_or xs (first + k) d
  read k d = ap (λ l. get_or l k d) is ∙ get_or-drop first xs k d

  come_first : IsPartitionedBy (of n) ys
  come_first i j d up end at =
      let size = long in
      ap (of n) (read i d)
      ∙ between (get_or xs (first + i) d).value (get_or xs (first + j) d).value n (parted.1 (first + i) d (omega arith) (omega arith))
      (rises (first + i) (first + j) d (omega arith) (omega arith)) (ap (of n) (sym (read j d)) ∙ at)

  pub turns_found : (count : ℕ) → count ≤ length ys
      → (IsPartitionedBy (of n) ys → IsPartitionPoint (λ (m : Turn). of n m ≡ true) (λ (m : Turn). of n m ≡ false) ys count)
      → take count ys ≡ filter (of n) xs
  turns_found count fits point =
      let at = point come_first in
      sym
      (filter_from (of n) xs first within (λ k d less. below_is_not (get_or xs k d).value n (parted.0 k d (omega arith) less))
      ∙ ap (filter (of n)) (sym is)
      ∙ filter_point (of n) ys count fits (λ k d less. at.0 k d (omega arith) less) (λ k d from end. at.1 k d from end))
