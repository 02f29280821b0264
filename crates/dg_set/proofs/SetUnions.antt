-- How a set takes in the elements of another in its own cells, from the last of them on.
--     last_gained      what comes after the last element gained stands behind it, and the rest is merged in front of it
--     moved_back      the cells after those behind an element have been moved, and the element put there
--     step_behind, step_past, united_rest      a step of the merge for one element, and for all behind an item, and its end
--     copied_back      items that are put into the cells
use Rattle.std.proofs.Common.{◌≡◌, ℕ, suc, zero, ◌+◌, ◌-◌, ◌<◌, ◌≤◌, true, false, cond, List, [], ◌∷◌, ◌++◌, length, take, drop, set, get_or, append_assoc, refl, sym, ap, ◌∙◌, subst, IsTrue, arith, ◌⊎◌, inl, inr}
use Rattle.std.specs.List.{copy_within}
use Rattle.std.specs.declared.cmp.Ordering.TheVariants.{Less, Equal, Greater}
use Rattle.std.proofs.lemmas.List.{append-nil, take_more, take-take, take-append-drop, length-take-le, length-drop, drop-drop, drop-take, drop_at, drop-set}
use borrow.Rule.Slice.PartMut.{put_mid}
use Rattle.std.proofs.lemmas.List.Edits.{length-paste}
use Rattle.dg_graph.specs.declared.element.Element.{Element}
use Rattle.dg_graph.specs.Elements.{element_cmp, before, IsBelowFirst, IsSet, put}
use Rattle.dg_graph.specs.Sets.{unioned}
use Rattle.dg_graph.proofs.Sets.{IsBelowFirst-trans, put_by}
use Rattle.dg_set.specs.Indices.{before_it, behind_it}
use Rattle.dg_set.proofs.Indices.{put-first}
use Rattle.dg_set.proofs.SetMerges.{IsSet-drop, unioned_less, unioned_none, without_none}
use Rattle.dg_set.proofs.SetReplacements.{gained_next}

-- ---- the last element that is gained

-- what is put in front of an element leaves it, and all behind it, where they are
put-in_front : (x g : Element) (front back : List Element) → IsTrue (before x g) → put x (front ++ g ∷ back) ≡ put x front ++ g ∷ back
put-in_front x g [] back h = put-first x (g ∷ back) h
put-in_front x g (y ∷ front) back h =
    elim (element_cmp x y) as (λ o. put_by o x y (front ++ g ∷ back) ≡ put_by o x y front ++ g ∷ back) [
      | Less ↦ refl
      | Equal ↦ refl
      | Greater ↦ ap (λ l. y ∷ l) (put-in_front x g front back h)
    ]

-- what is below a list is below the later part of it
below_back : (x : Element) (front back : List Element) → IsBelowFirst x (front ++ back) → IsSet (front ++ back) → IsBelowFirst x back
below_back x [] back h s = h
below_back x (y ∷ front) back h s = IsBelowFirst-trans x y back h (below_back y front back s.0 s.1)

put_between : (g : Element) (set : List Element) → IsSet set → put g set ≡ before_it g set ++ g ∷ behind_it g set
put_between g set s =
    ap (put g) (sym (without_none set))
    ∙ gained_next g set [] [] s tt (tt, tt) (λ e. cc)
    ∙ ap (λ l. before_it g set ++ g ∷ l) (without_none (behind_it g set))

last_gained : (g : Element) (set gained : List Element) → IsSet set → IsSet (gained ++ g ∷ []) → unioned set (gained ++ g ∷ []) ≡ unioned (before_it g set) gained ++ g ∷ behind_it g set
last_gained g set [] s t = put_between g set s
last_gained g set (x ∷ gained) s t =
    ap (put x) (last_gained g set gained s t.1)
    ∙ put-in_front x g (unioned (before_it g set) gained) (behind_it g set) (below_back x gained (g ∷ []) t.0 t.1)

-- ---- all that are gained behind the last item of the set

put-in_front_of : (x : Element) (front back : List Element) → IsBelowFirst x back → put x (front ++ back) ≡ put x front ++ back
put-in_front_of x front [] h = ap (put x) (append-nil front) ∙ sym (append-nil (put x front))
put-in_front_of x front (g ∷ back) h = put-in_front x g front back h

below_behind : (x : Element) (xs : List Element) → IsBelowFirst x (behind_it x xs)
below_behind x [] = tt
below_behind x (y ∷ xs) =
    elim (before x y) as (λ b. before x y ≡ b → IsBelowFirst x (cond b (y ∷ behind_it x xs) (behind_it x xs))) [ true ↦ λ e. e | false ↦ λ e. below_behind x xs ] refl

all_behind : (x : Element) (set back : List Element) → IsSet (set ++ x ∷ []) → IsBelowFirst x back → IsSet back → unioned (set ++ x ∷ []) back ≡ (set ++ x ∷ []) ++ back
all_behind x [] back s h t = unioned_less x [] back h t ∙ ap (λ l. x ∷ l) (unioned_none back t)
all_behind x (y ∷ set) back s h t =
    let below = IsBelowFirst-trans y x back (below_back y set (x ∷ []) s.0 s.1) h in
    unioned_less y (set ++ x ∷ []) back below t ∙ ap (λ l. y ∷ l) (all_behind x set back s.1 h t)

passed_behind : (set gained back : List Element) → unioned set back ≡ set ++ back → IsSet (gained ++ back) → unioned set (gained ++ back) ≡ unioned set gained ++ back
passed_behind set [] back behind s = behind
passed_behind set (x ∷ gained) back behind s =
    ap (put x) (passed_behind set gained back behind s.1)
    ∙ put-in_front_of x (unioned set gained) back (below_back x gained back s.0 s.1)

-- ---- a step of the merge

IsBelowFirst-take : (x : Element) (n : ℕ) (xs : List Element) → IsBelowFirst x xs → IsBelowFirst x (take n xs)
IsBelowFirst-take x zero xs h = tt
IsBelowFirst-take x (suc n) [] h = tt
IsBelowFirst-take x (suc n) (y ∷ xs) h = h

pub IsSet-take : (n : ℕ) (xs : List Element) → IsSet xs → IsSet (take n xs)
IsSet-take zero xs s = tt
IsSet-take (suc n) [] s = tt
IsSet-take (suc n) (x ∷ xs) s = (IsBelowFirst-take x n xs s.0, IsSet-take n xs s.1)

pub step_behind : (set gained back whole : List Element) (j : ℕ) (d : Element) → IsSet set → IsSet gained → j < length gained → unioned set (take (j + 1) gained) ++ back ≡ whole
    → unioned (before_it (get_or gained j d) set) (take j gained) ++ (get_or gained j d ∷ behind_it (get_or gained j d) set ++ back) ≡ whole
step_behind set gained back whole j d s t j_in written =
    let g = get_or gained j d in
    let more = take_more gained j d j_in in
    sym (append_assoc (unioned (before_it g set) (take j gained)) (g ∷ behind_it g set) back)
    ∙ ap (λ l. l ++ back) (sym (ap (unioned set) more ∙ last_gained g set (take j gained) s (subst IsSet more (IsSet-take (j + 1) gained t))))
    ∙ written

pub step_past : (cells gained back whole : List Element) (kept j n : ℕ) (d : Element) → IsSet (take kept cells) → IsSet gained → 0 < kept → kept ≤ length cells → n ≤ j
    → drop n (take j gained) ≡ behind_it (get_or cells (kept - 1) d) (take j gained) → unioned (take kept cells) (take j gained) ++ back ≡ whole
    → unioned (take kept cells) (take n gained) ++ (drop n (take j gained) ++ back) ≡ whole
step_past cells gained back whole kept j n d s t some within le behind written =
    let x = get_or cells (kept - 1) d in
    let set = take (kept - 1) cells in
    let run = drop n (take j gained) in
    let is : kept ≡ kept - 1 + 1 = omega arith in
    let more : take kept cells ≡ set ++ x ∷ [] = ap (λ m. take m cells) is ∙ take_more cells (kept - 1) d (omega arith) in
    let parts : take n gained ++ run ≡ take j gained = ap (λ l. l ++ run) (sym (take-take n j gained le)) ∙ take-append-drop n (take j gained) in
    let front = IsSet-take j gained t in
    let below = subst (IsBelowFirst x) (sym behind) (below_behind x (take j gained)) in
    let last = all_behind x set run (subst IsSet more s) below (IsSet-drop n (take j gained) front) in
    let last = subst (λ l. unioned l run ≡ l ++ run) (sym more) last in
    sym (append_assoc (unioned (take kept cells) (take n gained)) run back)
    ∙ ap (λ l. l ++ back) (sym (passed_behind (take kept cells) (take n gained) run last (subst IsSet (sym parts) front)))
    ∙ ap (λ l. unioned (take kept cells) l ++ back) parts
    ∙ written

-- ---- the cells

module _ (cells : List Element) (start left free : ℕ) (g : Element) (in_left : start ≤ left) (room : left < free) (within : free ≤ length cells) where
  abbrev to : ℕ
  to = free - (left - start)

  abbrev moved : List Element
  moved = copy_within cells start left to

  many : length (take to cells) ≡ to
  many = length-take-le to cells (omega arith)

  parts : moved ≡ take to cells ++ (take (left - start) (drop start cells) ++ drop (to + (left - start)) cells)
  parts = append_assoc (take to cells) (take (left - start) (drop start cells)) (drop (to + (left - start)) cells)

  long : length moved ≡ length cells
  long = length-paste cells to (drop start cells) (left - start) (omega arith) (omega (arith, length-drop start cells))

  pub moved_back : drop (to - 1) (set moved (to - 1) g) ≡ g ∷ drop start (take left cells) ++ drop free cells
  moved_back =
      let next : to - 1 + 1 ≡ to = omega arith in
      let last : start + (left - start) ≡ left = omega arith in
      let behind : to + (left - start) ≡ free = omega arith in
      let run = sym (drop-take start (left - start) cells) ∙ ap (λ n. drop start (take n cells)) last in
      drop-set moved (to - 1) g (omega (arith, long))
      ∙ ap (λ n. g ∷ drop n moved) next
      ∙ ap (λ l. g ∷ drop to l) parts
      ∙ ap (λ l. g ∷ l) (drop_at (take to cells) (take (left - start) (drop start cells) ++ drop (to + (left - start)) cells) to many)
      ∙ (λ i. g ∷ run i ++ drop (behind i) cells)

-- ---- the end of the merge

pub united_rest : (cells gained back : List Element) (kept j : ℕ) → IsSet gained → (j ≤ 0) ⊎ (kept ≤ 0) → take kept cells ++ (take j gained ++ back) ≡ unioned (take kept cells) (take j gained) ++ back
united_rest cells gained back kept zero s ended = refl
united_rest cells gained back zero (suc j) s ended =
    ap (λ l. l ++ back) (sym (unioned_none (take (suc j) gained) (IsSet-take (suc j) gained s)))
united_rest cells gained back (suc kept) (suc j) s (inl h) = absurd (omega arith)
united_rest cells gained back (suc kept) (suc j) s (inr h) = absurd (omega arith)

-- the items are put behind the first cells
pub copied_back : (cells items now : List Element) (free at : ℕ) → at + length items ≡ free → free ≤ length cells → now ≡ items → drop at (put_mid at (free - at) cells now) ≡ items ++ drop free cells
copied_back cells items now free at place within copied =
    let many = free - at in
    let is : at + many ≡ free = omega arith in
    drop_at (take at cells) (now ++ drop many (drop at cells)) at (length-take-le at cells (omega arith))
    ∙ (λ i. copied i ++ (drop-drop many at cells ∙ ap (λ n. drop n cells) is) i)

-- what is the same as far as an index is so as far as a lesser one
pub take_less : (less more : ℕ) (xs ys : List Element) → less ≤ more → take more xs ≡ take more ys → take less xs ≡ take less ys
take_less less more xs ys le same =
    sym (take-take less more xs le) ∙ ap (take less) same ∙ take-take less more ys le
