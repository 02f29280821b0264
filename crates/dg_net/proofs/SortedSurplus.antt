-- What one sorted list of elements has more often than another, by a walk over both.
--     times      how often an element stands in a list, in whatever order
--     surplus_Less, surplus_Equal, surplus_Greater, surplus_done      the steps of the walk
--     surplus_tells, IsSet-surplus, surplus_apart      which elements the surplus has, and that it is a set
use Rattle.std.proofs.Common.{◌≡◌, ℕ, suc, ◌+◌, ◌<◌, ◌≤◌, Bool, true, false, cond, ◌||◌, List, [], ◌∷◌, ◌++◌, length, drop, get_or, append_assoc, refl, sym, ap, ◌∙◌, subst, IsTrue, arith, ◌⊎◌, inl, inr}
use Rattle.std.specs.List.Sorted.{IsPermutation, IsSortedBy}
use Rattle.std.specs.Ordering.{is_lt, is_eq}
use Rattle.std.specs.declared.cmp.Ordering.{Ordering}
use Rattle.std.specs.declared.cmp.Ordering.TheVariants.{Less, Equal, Greater}
use Rattle.std.proofs.lemmas.Bool.{true≢false, cases_lt}
use Rattle.std.proofs.lemmas.List.{drop_more, drop_all}
use Rattle.std.proofs.lemmas.List.Recursion.{is_sum_by}
use Rattle.std.proofs.lemmas.List.Sorted.{sum_by-IsPermutation}
use Rattle.dg_graph.specs.declared.element.Element.{Element}
use Rattle.dg_graph.specs.Elements.{IsSet, IsBelowFirst, element_cmp, before, has, same, bit}
use Rattle.dg_graph.proofs.Sets.{element_total, element_exact, before_trans, before_from_Greater, differs, tied_exact}
use Rattle.dg_set.specs.Apart.{AreApart}
use Rattle.dg_net.specs.Surplus.{stands_first, last_of, each_once, surplus}
use Rattle.dg_net.proofs.EventMarks.{strictly}

-- ---- a walk over both lists

-- the next step, by how the first elements stand to each other
abbrev stepped : Ordering → Element → List Element → Element → List Element → List Element
stepped o x xs y ys =
    cond (is_lt o) (last_of x xs ++ surplus xs (y ∷ ys)) (cond (is_eq o) (surplus xs ys) (surplus (x ∷ xs) ys))

module _ (left right : List Element) (i j : ℕ) (d : Element) (left_in : i < length left) (right_in : j < length right) where
  abbrev x : Element
  x = get_or left i d

  abbrev y : Element
  y = get_or right j d

  step : (o : Ordering) → element_cmp x y ≡ o → surplus (drop i left) (drop j right) ≡ stepped o x (drop (i + 1) left) y (drop (j + 1) right)
  step o e =
      (λ t. surplus (drop_more left i d left_in t) (drop_more right j d right_in t))
      ∙ ap (λ o. stepped o x (drop (i + 1) left) y (drop (j + 1) right)) e

  pub surplus_Less : element_cmp x y ≡ Less → surplus (drop i left) (drop j right) ≡ last_of x (drop (i + 1) left) ++ surplus (drop (i + 1) left) (drop j right)
  surplus_Less e =
      step Less e ∙ ap (λ l. last_of x (drop (i + 1) left) ++ surplus (drop (i + 1) left) l) (sym (drop_more right j d right_in))

  pub surplus_Equal : element_cmp x y ≡ Equal → surplus (drop i left) (drop j right) ≡ surplus (drop (i + 1) left) (drop (j + 1) right)
  surplus_Equal e = step Equal e

  pub surplus_Greater : element_cmp x y ≡ Greater → surplus (drop i left) (drop j right) ≡ surplus (drop i left) (drop (j + 1) right)
  surplus_Greater e = step Greater e ∙ ap (λ l. surplus l (drop (j + 1) right)) (sym (drop_more left i d left_in))

-- what is written, and then a part of what was left to write
pub written_more : (out more new rest whole to_come : List Element) → new ≡ out ++ more → out ++ to_come ≡ whole → to_come ≡ more ++ rest → new ++ rest ≡ whole
written_more out more new rest whole to_come push written next =
    ap (λ l. l ++ rest) push ∙ append_assoc out more rest ∙ ap (λ l. out ++ l) (sym next) ∙ written

nothing_more : (xs : List Element) → surplus xs [] ≡ each_once xs
nothing_more [] = refl
nothing_more (x ∷ xs) = refl

-- at the end of either list, each element that is left is written once
pub surplus_done : (out whole left right : List Element) (i j : ℕ) → out ++ surplus (drop i left) (drop j right) ≡ whole → (length left ≤ i) ⊎ (length right ≤ j) → out ++ each_once (drop i left) ≡ whole
surplus_done out whole left right i j written (inl h) =
    let e = drop_all i left h in
    ap (λ l. out ++ each_once l) e ∙ sym (ap (λ l. out ++ surplus l (drop j right)) e) ∙ written
surplus_done out whole left right i j written (inr h) =
    ap (λ l. out ++ l) (sym (ap (surplus (drop i left)) (drop_all j right h) ∙ nothing_more (drop i left))) ∙ written

-- ---- how often an element stands in a list

abbrev pub times : Element → List Element → ℕ
times q [] = 0
times q (x ∷ xs) = bit (same q x) + times q xs

pub times_permuted : (q : Element) (xs ys : List Element) → IsPermutation xs ys → times q ys ≡ times q xs
times_permuted q xs ys h =
    let one : Element → ℕ = λ x. bit (same q x) in
    let summed = is_sum_by (times q) one refl (λ x xs. refl) in
    summed ys ∙ sum_by-IsPermutation one xs ys h ∙ sym (summed xs)

-- ---- sorted lists

abbrev NotAfter : Element → List Element → Type 0
NotAfter x [] = Unit {0}
NotAfter x (y ∷ ys) = before y x ≡ false

-- no element is before the one in front of it
abbrev pub Climbs : List Element → Type 0
Climbs [] = Unit {0}
Climbs (x ∷ xs) = NotAfter x xs × Climbs xs

pub climbs_sorted : (xs : List Element) → IsSortedBy before xs → Climbs xs
climbs_sorted [] h = tt
climbs_sorted (x ∷ []) h = (tt, tt)
climbs_sorted (x ∷ y ∷ xs) h = (
  h 0 x (omega arith) (omega arith),
  climbs_sorted (y ∷ xs) (λ k d le lt.
      let next : suc (k + 1) ≡ suc k + 1 = omega arith in
      ap (λ j. before (get_or (x ∷ y ∷ xs) j d) (get_or (y ∷ xs) k d)) next ∙ h (suc k) d (omega arith) (omega arith)),
)

below_other : (x : Element) (xs : List Element) → NotAfter x xs → stands_first x xs ≡ false → IsBelowFirst x xs
below_other x [] h e = tt
below_other x (y ∷ xs) h e = strictly (element_cmp x y) (ap is_lt (sym (element_total.antisymm y x)) ∙ h) e

below_next : (z x : Element) (xs : List Element) → IsTrue (before z x) → NotAfter x xs → IsBelowFirst z xs
below_next z x [] b h = tt
below_next z x (y ∷ xs) b h =
    elim (same x y) as (λ t. same x y ≡ t → IsTrue (before z y)) [
      | true ↦ λ e. ap (before z) (sym (element_exact x y e)) ∙ b
      | false ↦ λ e. before_trans z x y b (below_other x (y ∷ xs) h e)
    ] refl

-- an element below the first is nowhere
none_below : (z : Element) (xs : List Element) → IsBelowFirst z xs → Climbs xs → times z xs ≡ 0
none_below z [] b h = refl
none_below z (x ∷ xs) b h = (λ i. bit (differs z x b i) + none_below z xs (below_next z x xs b h.0) h.1 i)

-- ---- which elements the surplus has

-- the element is among these, exactly where it is named more often on one side than on the other
pub record Tells (q : Element) (kept : List Element) (many others : ℕ) : Type 0 where
  pub more : others < many → has kept q ≡ true
  pub less : many ≤ others → has kept q ≡ false

last_tells : (q x : Element) (xs kept : List Element) (others : ℕ) → (same q x ≡ true → others ≡ 0) → Tells q kept (times q xs) others → Tells q (last_of x xs ++ kept) (times q (x ∷ xs)) others
last_tells q x xs kept others none h = by (stands_first x xs) refl (same q x) refl
  where
    again : (zs : List Element) → stands_first x zs ≡ true → same q x ≡ true → 1 ≤ times q zs
    again [] e at = absurd (true≢false (sym e))
    again (z ∷ zs) e at =
        let one = ap (same q) (sym (element_exact x z e)) ∙ at in
        subst (λ b. 1 ≤ bit b + times q zs) (sym one) (omega arith)

    by : (t : Bool) → stands_first x xs ≡ t → (b : Bool) → same q x ≡ b → Tells q (cond t [] (x ∷ []) ++ kept) (bit b + times q xs) others
    by true e true at =
        let zero = none at in
        let some = again xs e at in
        record { more = λ lt. h.more (omega arith); less = λ le. absurd (omega arith) }
    by true e false at = record { more = λ lt. h.more (omega arith); less = λ le. h.less (omega arith) }
    by false e true at =
        let zero = none at in
        record { more = λ lt. ap (λ b. b || has kept q) at; less = λ le. absurd (omega arith) }
    by false e false at = record {
      more = λ lt. ap (λ b. b || has kept q) at ∙ h.more (omega arith);
      less = λ le. ap (λ b. b || has kept q) at ∙ h.less (omega arith);
    }

once_tells : (q : Element) (xs : List Element) → Tells q (each_once xs) (times q xs) 0
once_tells q [] = record { more = λ lt. absurd (omega arith); less = λ le. refl }
once_tells q (x ∷ xs) = last_tells q x xs (each_once xs) 0 (λ at. refl) (once_tells q xs)

-- an element below all of the list is not there, nor is one that is the same
nowhere : (q z : Element) (xs : List Element) → IsBelowFirst z xs → Climbs xs → same q z ≡ true → times q xs ≡ 0
nowhere q z xs b h at = ap (λ w. times w xs) (element_exact q z at) ∙ none_below z xs b h

pub surplus_tells : (q : Element) (xs ys : List Element) → Climbs xs → Climbs ys → Tells q (surplus xs ys) (times q xs) (times q ys)
surplus_tells q [] ys f g = record { more = λ lt. absurd (omega arith); less = λ le. refl }
surplus_tells q (x ∷ xs) [] f g = once_tells q (x ∷ xs)
surplus_tells q (x ∷ xs) (y ∷ ys) f g =
    elim (element_cmp x y) as (λ o. element_cmp x y ≡ o → Tells q (stepped o x xs y ys) (times q (x ∷ xs)) (times q (y ∷ ys))) [
      | Less ↦ λ e.
          last_tells q x xs (surplus xs (y ∷ ys)) (times q (y ∷ ys)) (nowhere q x (y ∷ ys) (ap is_lt e) g) (surplus_tells q xs (y ∷ ys) f.1 g)
      | Equal ↦ λ e.
          let h = surplus_tells q xs ys f.1 g.1 in
          let one : bit (same q x) ≡ bit (same q y) = ap (λ z. bit (same q z)) (tied_exact x y e) in
          record { more = λ lt. h.more (omega arith); less = λ le. h.less (omega arith) }
      | Greater ↦ λ e.
          let h = surplus_tells q (x ∷ xs) ys f g.1 in
          let none = nowhere q y (x ∷ xs) (before_from_Greater x y e) f in
          elim (same q y) as (λ b. same q y ≡ b → Tells q (surplus (x ∷ xs) ys) (times q (x ∷ xs)) (bit b + times q ys)) [
            | true ↦ λ at.
                let zero = none at in
                record { more = λ lt. absurd (omega arith); less = λ le. h.less (omega arith) }
            | false ↦ λ at. record { more = λ lt. h.more (omega arith); less = λ le. h.less (omega arith) }
          ] refl
    ] refl

pub surplus_apart : (xs ys : List Element) → Climbs xs → Climbs ys → AreApart (surplus xs ys) (surplus ys xs)
surplus_apart xs ys f g q there = by (cases_lt (times q ys) (times q xs))
  where
    by : (times q ys < times q xs) ⊎ (times q xs ≤ times q ys) → has (surplus ys xs) q ≡ false
    by (inl lt) = (surplus_tells q ys xs g f).less (omega arith)
    by (inr le) = absurd (true≢false (sym there ∙ (surplus_tells q xs ys f g).less le))

-- ---- the surplus is a set

below_last : (z x : Element) (xs kept : List Element) → IsTrue (before z x) → IsBelowFirst z kept → IsBelowFirst z (last_of x xs ++ kept)
below_last z x xs kept b h = elim (stands_first x xs) as (λ t. IsBelowFirst z (cond t [] (x ∷ []) ++ kept)) [ true ↦ h | false ↦ b ]

below_once : (z : Element) (xs : List Element) → Climbs xs → IsBelowFirst z xs → IsBelowFirst z (each_once xs)
below_once z [] f b = tt
below_once z (x ∷ xs) f b = below_last z x xs (each_once xs) b (below_once z xs f.1 (below_next z x xs b f.0))

below_surplus : (z : Element) (xs ys : List Element) → Climbs xs → IsBelowFirst z xs → IsBelowFirst z (surplus xs ys)
below_surplus z [] ys f b = tt
below_surplus z (x ∷ xs) [] f b = below_once z (x ∷ xs) f b
below_surplus z (x ∷ xs) (y ∷ ys) f b =
    let next = below_next z x xs b f.0 in
    elim (element_cmp x y) as (λ o. IsBelowFirst z (stepped o x xs y ys)) [
      | Less ↦ below_last z x xs (surplus xs (y ∷ ys)) b (below_surplus z xs (y ∷ ys) f.1 next)
      | Equal ↦ below_surplus z xs ys f.1 next
      | Greater ↦ below_surplus z (x ∷ xs) ys f b
    ]

last_set : (x : Element) (xs kept : List Element) → (stands_first x xs ≡ false → IsBelowFirst x kept) → IsSet kept → IsSet (last_of x xs ++ kept)
last_set x xs kept below s =
    elim (stands_first x xs) as (λ t. stands_first x xs ≡ t → IsSet (cond t [] (x ∷ []) ++ kept)) [ true ↦ λ e. s | false ↦ λ e. (below e, s) ] refl

IsSet-once : (xs : List Element) → Climbs xs → IsSet (each_once xs)
IsSet-once [] f = tt
IsSet-once (x ∷ xs) f =
    last_set x xs (each_once xs) (λ e. below_once x xs f.1 (below_other x xs f.0 e)) (IsSet-once xs f.1)

pub IsSet-surplus : (xs ys : List Element) → Climbs xs → IsSet (surplus xs ys)
IsSet-surplus [] ys f = tt
IsSet-surplus (x ∷ xs) [] f = IsSet-once (x ∷ xs) f
IsSet-surplus (x ∷ xs) (y ∷ ys) f =
    elim (element_cmp x y) as (λ o. IsSet (stepped o x xs y ys)) [
      | Less ↦ last_set x xs (surplus xs (y ∷ ys)) (λ e. below_surplus x xs (y ∷ ys) f.1 (below_other x xs f.0 e)) (IsSet-surplus xs (y ∷ ys) f.1)
      | Equal ↦ IsSet-surplus xs ys f.1
      | Greater ↦ IsSet-surplus (x ∷ xs) ys f
    ]
