-- How one walk over three sets takes the elements of one out and puts those of another in.
--     gained_next, lost_next      what comes before the next change is kept, and then it is made
--     passed_before      what changes in front of an item is made at once
--     step_gained, step_lost, step_passed, replaced_done      the same in a walk at indices
--     written_gained, written_front      what the walk has written, with what is still to come, is all
--     few_and_more      a run that is written in two parts
use Rattle.std.proofs.Common.{◌≡◌, ℕ, ◌+◌, ◌-◌, ◌<◌, ◌≤◌, ◌≢◌, true, false, cond, not, List, [], ◌∷◌, ◌++◌, length, take, drop, get_or, append_assoc, refl, sym, ap, ◌∙◌, subst, IsTrue, arith, ◌⊎◌, inl, inr}
use Rattle.std.specs.declared.cmp.Ordering.TheVariants.{Less, Equal, Greater}
use Rattle.std.specs.Ordering.{is_lt, ordering_reverse}
use Rattle.std.proofs.lemmas.List.{drop_more, drop_all, drop-drop, drop-take, append-nil, take-take, take-append-drop}
use Rattle.dg_graph.specs.declared.element.Element.{Element}
use Rattle.dg_graph.specs.Elements.{element_cmp, before, IsBelowFirst, IsSet, has}
use Rattle.dg_graph.specs.Sets.{unioned, without_all}
use Rattle.dg_graph.proofs.Sets.{element_total, before_trans, before_from_Greater, Greater_from_before, tied_exact, IsBelowFirst-trans, IsBelowFirst-filter}
use Rattle.dg_set.specs.Indices.{first_cmp, before_it, behind_it}
use Rattle.dg_set.proofs.Indices.{put-first}
use Rattle.dg_set.proofs.SetMerges.{IsBelowFirst-unioned, unioned_less, unioned_equal, kept_less, kept_equal, skipped, IsSet-drop, rest_is_set, unioned_none, without_none}

-- ---- all of a set behind an element

no_front : (z : Element) (set : List Element) → IsBelowFirst z set → IsSet set → before_it z set ≡ []
no_front z [] b s = refl
no_front z (x ∷ set) b s =
    ap (λ o. cond (is_lt o) (x ∷ before_it z set) (before_it z set)) (Greater_from_before z x b) ∙ no_front z set (IsBelowFirst-trans z x set b s.0) s.1

whole_back : (z : Element) (set : List Element) → IsBelowFirst z set → IsSet set → behind_it z set ≡ set
whole_back z [] b s = refl
whole_back z (x ∷ set) b s =
    ap (λ t. cond t (x ∷ behind_it z set) (behind_it z set)) b ∙ ap (λ l. x ∷ l) (whole_back z set (IsBelowFirst-trans z x set b s.0) s.1)

-- ---- one change

-- an element that is put in is there once, whether or not it was taken out
put_in_once : (x : Element) (a c b : List Element) → IsSet (x ∷ a) → IsSet (x ∷ b) → unioned (without_all (x ∷ a) c) (x ∷ b) ≡ x ∷ unioned (without_all a c) b
put_in_once x a c b s t =
    let kept = without_all a c in
    let below = IsBelowFirst-filter (λ z. not (has c z)) x a s.0 s.1 in
    elim (not (has c x)) as (λ z. unioned (cond z (x ∷ kept) kept) (x ∷ b) ≡ x ∷ unioned kept b) [
      | true ↦ unioned_equal x kept b t
      | false ↦ put-first x (unioned kept b) (IsBelowFirst-unioned x kept b below t.0 t.1)
    ]

-- what comes before the element comes before all that are lost, where none of these comes before it
below_lost : (x g : Element) (lost : List Element) → first_cmp g lost ≢ Greater → IsTrue (before x g) → IsBelowFirst x lost
below_lost x g [] other b = tt
below_lost x g (y ∷ lost) other b =
    elim (element_cmp g y) as (λ o. element_cmp g y ≡ o → IsTrue (before x y)) [
      | Less ↦ λ e. before_trans x g y b (ap is_lt e)
      | Equal ↦ λ e. subst (λ z. IsTrue (before x z)) (tied_exact g y e) b
      | Greater ↦ λ e. absurd (other e)
    ] refl

abbrev pub exchanged : List Element → List Element → List Element → List Element
exchanged set lost gained = unioned (without_all set lost) gained

pub gained_next : (g : Element) (set lost gained : List Element) → IsSet set → IsSet lost → IsSet (g ∷ gained) → first_cmp g lost ≢ Greater
    → exchanged set lost (g ∷ gained) ≡ before_it g set ++ g ∷ exchanged (behind_it g set) lost gained
gained_next g [] lost gained s t u other = put-first g (unioned [] gained) (IsBelowFirst-unioned g [] gained tt u.0 u.1)
gained_next g (x ∷ set) lost gained s t u other =
    elim (element_cmp x g) as (λ o. element_cmp x g ≡ o
    → exchanged (x ∷ set) lost (g ∷ gained) ≡ cond (is_lt o) (x ∷ before_it g set) (before_it g set) ++ g ∷ exchanged (cond (is_lt (ordering_reverse o)) (x ∷ behind_it g set) (behind_it g set)) lost gained) [
      | Less ↦ λ e.
          ap (λ l. unioned l (g ∷ gained)) (kept_less not x set lost (below_lost x g lost other (ap is_lt e)) t)
          ∙ unioned_less x (without_all set lost) (g ∷ gained) (ap is_lt e) u
          ∙ ap (λ l. x ∷ l) (gained_next g set lost gained s.1 t u other)
      | Equal ↦ λ e.
          let is : x ≡ g = tied_exact x g e in
          let v : IsSet (g ∷ set) = subst (λ z. IsSet (z ∷ set)) is s in
          ap (λ z. exchanged (z ∷ set) lost (g ∷ gained)) is
          ∙ put_in_once g set lost gained v u
          ∙ sym (λ i. no_front g set v.0 v.1 i ++ g ∷ exchanged (whole_back g set v.0 v.1 i) lost gained)
      | Greater ↦ λ e.
          let first = before_from_Greater x g e in
          let next = IsBelowFirst-trans g x set first s.0 in
          let kept = without_all (x ∷ set) lost in
          put-first g (unioned kept gained) (IsBelowFirst-unioned g kept gained (IsBelowFirst-filter (λ z. not (has lost z)) g (x ∷ set) first s) u.0 u.1)
          ∙ sym (λ i. no_front g set next s.1 i ++ g ∷ exchanged (x ∷ whole_back g set next s.1 i) lost gained)
    ] refl
    ∙ ap (λ o. before_it g (x ∷ set) ++ g ∷ exchanged (cond (is_lt o) (x ∷ behind_it g set) (behind_it g set)) lost gained) (sym (element_total.antisymm g x))

pub lost_next : (l : Element) (set lost gained : List Element) → IsSet set → IsSet (l ∷ lost) → IsSet gained → IsBelowFirst l gained
    → exchanged set (l ∷ lost) gained ≡ before_it l set ++ exchanged (behind_it l set) lost gained
lost_next l [] lost gained s t u below = refl
lost_next l (x ∷ set) lost gained s t u below =
    elim (element_cmp x l) as (λ o. element_cmp x l ≡ o
    → exchanged (x ∷ set) (l ∷ lost) gained ≡ cond (is_lt o) (x ∷ before_it l set) (before_it l set) ++ exchanged (cond (is_lt (ordering_reverse o)) (x ∷ behind_it l set) (behind_it l set)) lost gained) [
      | Less ↦ λ e.
          ap (λ a. unioned a gained) (kept_less not x set (l ∷ lost) (ap is_lt e) t)
          ∙ unioned_less x (without_all set (l ∷ lost)) gained (IsBelowFirst-trans x l gained (ap is_lt e) below) u
          ∙ ap (λ a. x ∷ a) (lost_next l set lost gained s.1 t u below)
      | Equal ↦ λ e.
          let is : x ≡ l = tied_exact x l e in
          let v : IsSet (l ∷ set) = subst (λ z. IsSet (z ∷ set)) is s in
          ap (λ z. exchanged (z ∷ set) (l ∷ lost) gained) is
          ∙ ap (λ a. unioned a gained) (kept_equal not l set lost v)
          ∙ sym (λ i. no_front l set v.0 v.1 i ++ exchanged (whole_back l set v.0 v.1 i) lost gained)
      | Greater ↦ λ e.
          let first = before_from_Greater x l e in
          let next = IsBelowFirst-trans l x set first s.0 in
          ap (λ a. unioned a gained) (skipped not l lost (x ∷ set) first s)
          ∙ sym (λ i. no_front l set next s.1 i ++ exchanged (x ∷ whole_back l set next s.1 i) lost gained)
    ] refl
    ∙ ap (λ o. before_it l (x ∷ set) ++ exchanged (cond (is_lt o) (x ∷ behind_it l set) (behind_it l set)) lost gained) (sym (element_total.antisymm l x))

-- ---- many changes in front of an item

-- all of the list come before the element
abbrev AllBefore : Element → List Element → Type 0
AllBefore z [] = Unit {0}
AllBefore z (x ∷ xs) = IsTrue (before x z) × AllBefore z xs

all_before : (z : Element) (xs : List Element) → AllBefore z (before_it z xs)
all_before z [] = tt
all_before z (x ∷ xs) =
    elim (before x z) as (λ t. before x z ≡ t → AllBefore z (cond t (x ∷ before_it z xs) (before_it z xs))) [ true ↦ λ e. (e, all_before z xs) | false ↦ λ e. all_before z xs ] refl

gained_run : (s : Element) (set lost front gained : List Element) → AllBefore s front → IsSet (s ∷ set) → IsSet (front ++ gained) → exchanged (s ∷ set) lost (front ++ gained) ≡ front ++ exchanged (s ∷ set) lost gained
gained_run s set lost [] gained a t u = refl
gained_run s set lost (x ∷ front) gained a t u =
    let kept = without_all (s ∷ set) lost in
    let below = IsBelowFirst-filter (λ z. not (has lost z)) x (s ∷ set) a.0 t in
    put-first x (unioned kept (front ++ gained)) (IsBelowFirst-unioned x kept (front ++ gained) below u.0 u.1)
    ∙ ap (λ l. x ∷ l) (gained_run s set lost front gained a.1 t u.1)

lost_run : (s : Element) (set front lost : List Element) → AllBefore s front → IsSet (s ∷ set) → without_all (s ∷ set) (front ++ lost) ≡ without_all (s ∷ set) lost
lost_run s set [] lost a t = refl
lost_run s set (x ∷ front) lost a t =
    skipped not x (front ++ lost) (s ∷ set) a.0 t ∙ lost_run s set front lost a.1 t

-- those in front of an item of the set are gained, and those lost are passed by
pub passed_before : (s : Element) (set lost gained : List Element) (n m : ℕ) → IsSet (s ∷ set) → IsSet gained → take n gained ≡ before_it s gained → take m lost ≡ before_it s lost
    → exchanged (s ∷ set) lost gained ≡ take n gained ++ exchanged (s ∷ set) (drop m lost) (drop n gained)
passed_before s set lost gained n m t u gains losses =
    let g = take-append-drop n gained in
    let l = take-append-drop m lost in
    (λ i. exchanged (s ∷ set) (sym l i) (sym g i))
    ∙ ap (λ a. unioned a (take n gained ++ drop n gained)) (lost_run s set (take m lost) (drop m lost) (subst (AllBefore s) (sym losses) (all_before s lost)) t)
    ∙ gained_run s set (drop m lost) (take n gained) (drop n gained) (subst (AllBefore s) (sym gains) (all_before s gained)) t (subst IsSet (sym g) u)

-- ---- the walk

module _ (set lost gained : List Element) where
  -- what is left to write
  abbrev pub to_replace : ℕ → ℕ → ℕ → List Element
  to_replace i j k = exchanged (drop i set) (drop k lost) (drop j gained)

  module _ (i j k n : ℕ) (d : Element) (set_ok : IsSet set) (lost_ok : IsSet lost) (gained_ok : IsSet gained) where
    pub step_gained : j < length gained → first_cmp (get_or gained j d) (drop k lost) ≢ Greater → drop n (drop i set) ≡ behind_it (get_or gained j d) (drop i set)
        → to_replace i j k ≡ before_it (get_or gained j d) (drop i set) ++ get_or gained j d ∷ to_replace (i + n) (j + 1) k
    step_gained j_in other rest =
        let g = get_or gained j d in
        ap (exchanged (drop i set) (drop k lost)) (drop_more gained j d j_in)
        ∙ gained_next g (drop i set) (drop k lost) (drop (j + 1) gained) (IsSet-drop i set set_ok) (IsSet-drop k lost lost_ok) (rest_is_set gained j d j_in gained_ok) other
        ∙ ap (λ a. before_it g (drop i set) ++ g ∷ exchanged a (drop k lost) (drop (j + 1) gained)) (sym rest ∙ drop-drop n i set)

    pub step_lost : k < length lost → IsBelowFirst (get_or lost k d) (drop j gained) → drop n (drop i set) ≡ behind_it (get_or lost k d) (drop i set)
        → to_replace i j k ≡ before_it (get_or lost k d) (drop i set) ++ to_replace (i + n) j (k + 1)
    step_lost k_in below rest =
        let l = get_or lost k d in
        ap (λ a. exchanged (drop i set) a (drop j gained)) (drop_more lost k d k_in)
        ∙ lost_next l (drop i set) (drop (k + 1) lost) (drop j gained) (IsSet-drop i set set_ok) (rest_is_set lost k d k_in lost_ok) (IsSet-drop j gained gained_ok) below
        ∙ ap (λ a. before_it l (drop i set) ++ exchanged a (drop (k + 1) lost) (drop j gained)) (sym rest ∙ drop-drop n i set)

  pub step_passed : (i j k n m : ℕ) (d : Element) → IsSet set → IsSet gained → i < length set → take n (drop j gained) ≡ before_it (get_or set i d) (drop j gained) → take m (drop k lost) ≡ before_it (get_or set i d) (drop k lost)
      → to_replace i j k ≡ take n (drop j gained) ++ to_replace i (j + n) (k + m)
  step_passed i j k n m d s u i_in gains losses =
      let e = drop_more set i d i_in in
      ap (λ a. exchanged a (drop k lost) (drop j gained)) e
      ∙ passed_before (get_or set i d) (drop (i + 1) set) (drop k lost) (drop j gained) n m (rest_is_set set i d i_in s) (IsSet-drop j gained u) gains losses
      ∙ (λ t. take n (drop j gained) ++ exchanged (sym e t) (drop-drop m k lost t) (drop-drop n j gained t))

  pub replaced_done : (out whole : List Element) (i j k : ℕ) → IsSet gained → out ++ to_replace i j k ≡ whole → (length set ≤ i) ⊎ ((length gained ≤ j) × (length lost ≤ k)) → (out ++ drop i set) ++ drop j gained ≡ whole
  replaced_done out whole i j k s written (inl h) =
      let e = drop_all i set h in
      ap (λ a. (out ++ a) ++ drop j gained) e
      ∙ ap (λ a. a ++ drop j gained) (append-nil out)
      ∙ ap (λ a. out ++ a) (sym (ap (λ a. exchanged a (drop k lost) (drop j gained)) e ∙ unioned_none (drop j gained) (IsSet-drop j gained s)))
      ∙ written
  replaced_done out whole i j k s written (inr h) =
      let e = drop_all j gained h.0 in
      let f = drop_all k lost h.1 in
      ap (λ b. (out ++ drop i set) ++ b) e
      ∙ append-nil (out ++ drop i set)
      ∙ ap (λ a. out ++ a) (sym ((λ t. exchanged (drop i set) (f t) (e t)) ∙ without_none (drop i set)))
      ∙ written

-- ---- what the walk has written

pub written_gained : (out front kept new rest whole to_come : List Element) (g : Element) → kept ≡ out ++ front → new ≡ kept ++ g ∷ [] → out ++ to_come ≡ whole → to_come ≡ front ++ g ∷ rest → new ++ rest ≡ whole
written_gained out front kept new rest whole to_come g keep push written next =
    ap (λ l. l ++ rest) push
    ∙ append_assoc kept (g ∷ []) rest
    ∙ ap (λ l. l ++ g ∷ rest) keep
    ∙ append_assoc out front (g ∷ rest)
    ∙ ap (λ l. out ++ l) (sym next)
    ∙ written

pub written_front : (out front kept rest whole to_come : List Element) → kept ≡ out ++ front → out ++ to_come ≡ whole → to_come ≡ front ++ rest → kept ++ rest ≡ whole
written_front out front kept rest whole to_come keep written next =
    ap (λ l. l ++ rest) keep ∙ append_assoc out front rest ∙ ap (λ l. out ++ l) (sym next) ∙ written

-- a few items, and those behind them as far as an index
pub few_and_more : (xs : List Element) (few end : ℕ) → few ≤ end → take few xs ++ take (end - few) (drop few xs) ≡ take end xs
few_and_more xs few end le =
    let e : few + (end - few) ≡ end = omega arith in
    let more = sym (drop-take few (end - few) xs) ∙ ap (λ n. drop few (take n xs)) e in
    let front = sym (take-take few end xs le) in
    (λ i. front i ++ more i) ∙ take-append-drop few (take end xs)
