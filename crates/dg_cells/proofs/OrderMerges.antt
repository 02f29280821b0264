-- One step of the walk that gives rising elements their cells.
use Rattle.dg_cells.proofs.RowGrowth.{grows_then}
use Rattle.std.proofs.Common.{eqb, arith, ◌≡◌, ℕ, suc, zero, ◌+◌, ◌-◌, ◌<◌, ◌≤◌, Bool, true, false, ◌||◌, List, [], ◌∷◌, ◌++◌, Option, Some, None, is_some, length, get_or, take, drop, refl, sym, ap, ◌∙◌, subst, ◌⊎◌, inl, inr}
use Rattle.std.specs.List.{cons_option}
use Rattle.std.proofs.lemmas.Bool.{cases_eq, cases_lt, true≢false, or_left, or_right, or_from, eq-eqb, eqb-true}
use Rattle.std.proofs.lemmas.List.{append_assoc, drop_more, drop_all, drop-drop, get_or-drop, length-drop, get_or_default}
use Rattle.std.proofs.lemmas.List.Elements.{All-append, All-take, All-drop, All-cons, All-nil}
use Rattle.dg_graph.specs.declared.element.Element.{Element}
use Rattle.dg_graph.specs.Elements.{before, same, has, IsSet, IsBelowFirst}
use Rattle.dg_graph.specs.Sets.{unioned}
use Rattle.dg_graph.proofs.Sets.{before_trans, element_exact, differs_back, put-there, has-unioned, IsSet-unioned}
use Rattle.dg_set.proofs.Indices.{put-first}
use Rattle.dg_set.proofs.SetMerges.{unioned_less, IsBelowFirst-unioned, IsSet-drop, rest_is_set}
use Rattle.dg_cells.specs.Rows.{Row, cell_at, CellsAreApart, CellsGrow, AreAmong, IsBare}
use Rattle.dg_cells.specs.Order.{cell_element, elements_in, AreCells, IsOrder, IsLower, IsListed, Puts, is_noted, AreNoted}
use Rattle.dg_cells.proofs.Orders.{IsCell, length-elements_in, element_there, rises_at}
use Rattle.dg_cells.proofs.OrderEdits.{KeepsElements, element_is, elements_as, cells_as, elements_append, elements_drop, elements_take, has_at, lacks_lower, after_from}

pub keeps_grown : (old new : List (Option Row)) → CellsGrow old new → KeepsElements old new
keeps_grown old new grows n x e =
    let was = element_is (cell_at old n) x e in
    ap cell_element (grows.kept n was.0 was.1) ∙ ap (λ y. Some y) was.2

pub order_grown : (old new : List (Option Row)) (order : List ℕ) → CellsGrow old new → IsOrder old order → IsOrder new order
order_grown old new order grows o = record {
  live = cells_as old new (keeps_grown old new grows) order o.live;
  rises = subst IsSet (sym (elements_as old new (keeps_grown old new grows) order o.live)) o.rises;
}

-- ---- unions by positions

unioned_front : (n : ℕ) (a b : List Element) (x d : Element) → IsBelowFirst x b → IsSet b → n ≤ length a → ((k : ℕ) → k < n → before (get_or a k d) x ≡ true) → unioned a (x ∷ b) ≡ take n a ++ unioned (drop n a) (x ∷ b)
unioned_front zero a b x d s t h f = refl
unioned_front (suc n) [] b x d s t h f = absurd (omega arith)
unioned_front (suc n) (y ∷ a) b x d s t h f =
    unioned_less y a (x ∷ b) (f 0 (omega arith)) (s, t)
    ∙ ap (λ l. y ∷ l) (unioned_front n a b x d s t (omega arith) (λ k g. f (suc k) (omega arith)))

-- an element of a rising list is not among those before it
pub not_yet : (xs : List Element) (j : ℕ) (d : Element) → IsSet xs → j < length xs → has (take j xs) (get_or xs j d) ≡ false
not_yet [] j d s h = absurd (omega arith)
not_yet (y ∷ xs) zero d s h = refl
not_yet (y ∷ xs) (suc j) d s h =
    or_from (same (get_or xs j d) y) (has (take j xs) (get_or xs j d))
    (differs_back y (get_or xs j d) (rises_at (y ∷ xs) 0 (suc j) d s (omega arith) (omega arith)))
    (not_yet xs j d s.1 (omega arith))

module _ (xs items : List Element) (i at j : ℕ) (d : Element) (xs_set : IsSet xs) (items_set : IsSet items) (j_in : j < length items) (position : IsLower (get_or items j d) xs at)
    (past : (k : ℕ) (e : Element) → k < i → (m : ℕ) (g : Element) → j ≤ m → m < length items → before (get_or xs k e) (get_or items m g) ≡ true) where
  abbrev x : Element
  x = get_or items j d

  abbrev rest : List Element
  rest = drop (j + 1) items

  rest_set : IsSet (get_or items j d ∷ drop (j + 1) items)
  rest_set = rest_is_set items j d j_in items_set

  -- the position is not before what is written
  pub on : i ≤ length xs → i ≤ at
  on h = by (cases_lt at i)
    where
      by : ((at < i) ⊎ (i ≤ at)) → i ≤ at
      by (inr g) = g
      by (inl g) = absurd (true≢false (sym (past at d g j d (omega arith) j_in) ∙ position.high at d (omega arith) (omega arith)))

  -- the element is there: nothing is written
  pub there_step : i ≤ length xs → at < length xs → get_or xs at d ≡ get_or items j d → unioned (drop i xs) (drop j items) ≡ unioned (drop i xs) (drop (j + 1) items)
  there_step low h is =
      let first = on low in
      let back : i + (at - i) ≡ at = omega arith in
      let len = length-drop i xs in
      let here : get_or (drop i xs) (at - i) d ≡ x = get_or-drop i xs (at - i) d ∙ ap (λ k. get_or xs k d) back ∙ is in
      let inside : has (drop i xs) x ≡ true = ap (has (drop i xs)) (sym here) ∙ has_at (drop i xs) (at - i) d (omega arith) in
      ap (unioned (drop i xs)) (drop_more items j d j_in)
      ∙ put-there x (unioned (drop i xs) rest) (IsSet-unioned (drop i xs) rest (IsSet-drop i xs xs_set))
      (has-unioned (drop i xs) rest x ∙ or_left (has (drop i xs) x) (has rest x) inside)

  -- it is not there: what stands before it is copied
  pub absent_step : i ≤ length xs → (at < length xs → same x (get_or xs at d) ≡ false) → unioned (drop i xs) (drop j items) ≡ take (at - i) (drop i xs) ++ (get_or items j d ∷ unioned (drop at xs) (drop (j + 1) items))
  absent_step low f =
      let first = on low in
      let within = position.within in
      let len = length-drop i xs in
      let sum : i + (at - i) ≡ at = omega arith in
      ap (unioned (drop i xs)) (drop_more items j d j_in)
      ∙ unioned_front (at - i) (drop i xs) rest x d rest_set.0 rest_set.1 (omega arith)
      (λ k g. ap (λ y. before y x) (get_or-drop i xs k d) ∙ position.low (i + k) d (omega arith))
      ∙ ap (λ l. take (at - i) (drop i xs) ++ unioned l (x ∷ rest)) (drop-drop (at - i) i xs ∙ ap (λ n. drop n xs) sum)
      ∙ ap (λ l. take (at - i) (drop i xs) ++ l) (put-first x (unioned (drop at xs) rest) (IsBelowFirst-unioned x (drop at xs) rest (below (cases_lt at (length xs))) rest_set.0 rest_set.1))
    where
      below : ((at < length xs) ⊎ (length xs ≤ at)) → IsBelowFirst x (drop at xs)
      below (inl h) = subst (IsBelowFirst x) (sym (drop_more xs at d h)) (after_from x (get_or xs at d) (position.high at d (omega arith) h) (f h))
      below (inr h) = subst (IsBelowFirst x) (sym (drop_all at xs h)) tt

  -- what is written by then stands before all that is to come
  pub past_step : (k : ℕ) (e : Element) → k < at → (m : ℕ) (g : Element) → j + 1 ≤ m → m < length items → before (get_or xs k e) (get_or items m g) ≡ true
  past_step k e h m g low l =
      before_trans (get_or xs k e) x (get_or items m g) (position.low k e h)
      (ap (λ y. before y (get_or items m g)) (get_or_default items j d g j_in) ∙ rises_at items j m g items_set (omega arith) l)

-- ---- a cell that comes

came_from : (mid new : List (Option Row)) (n : ℕ) (r : Row) → Puts mid new n r → (m : ℕ) (q : Row) → cell_at new m ≡ Some q → ((m ≡ n) × (q ≡ r)) ⊎ (cell_at mid m ≡ Some q)
came_from mid new n r puts m q e = by (cases_eq m n)
  where
    by : ((m ≡ n) ⊎ (m ≡ n → ⊥)) → ((m ≡ n) × (q ≡ r)) ⊎ (cell_at mid m ≡ Some q)
    by (inl f) = let both : Some q ≡ Some r = sym e ∙ ap (cell_at new) f ∙ puts.put in inl (f, cc)
    by (inr d) = inr (sym (puts.others m d) ∙ e)

pub puts_grows : (mid new : List (Option Row)) (n : ℕ) (r : Row) → Puts mid new n r → IsBare r → CellsGrow mid new
puts_grows mid new n r puts bare = record {
  kept = λ m q e. kept_by m q e (cases_eq m n);
  bare = λ m q e f. bare_by m q e (came_from mid new n r puts m q f);
}
  where
    kept_by : (m : ℕ) (q : Row) → cell_at mid m ≡ Some q → ((m ≡ n) ⊎ (m ≡ n → ⊥)) → cell_at new m ≡ Some q
    kept_by m q e (inl f) = let none : None ≡ Some q = sym puts.vacant ∙ sym (ap (cell_at mid) f) ∙ e in cc
    kept_by m q e (inr d) = puts.others m d ∙ e

    bare_by : (m : ℕ) (q : Row) → cell_at mid m ≡ None → (((m ≡ n) × (q ≡ r)) ⊎ (cell_at mid m ≡ Some q)) → IsBare q
    bare_by m q e (inl f) = subst IsBare (sym f.1) bare
    bare_by m q e (inr f) = let none : None ≡ Some q = sym e ∙ f in cc

pub puts_fresh : (mid new : List (Option Row)) (n : ℕ) (r : Row) → Puts mid new n r → (m : ℕ) (q : Row) → cell_at mid m ≡ None → cell_at new m ≡ Some q → q.element ≡ r.element
puts_fresh mid new n r puts m q e f = by (came_from mid new n r puts m q f)
  where
    by : (((m ≡ n) × (q ≡ r)) ⊎ (cell_at mid m ≡ Some q)) → q.element ≡ r.element
    by (inl g) = ap (λ (z : Row). z.element) g.1
    by (inr g) = let none : None ≡ Some q = sym e ∙ g in cc

puts_apart : (mid new : List (Option Row)) (n : ℕ) (r : Row) → Puts mid new n r → CellsAreApart mid → ((m : ℕ) (q : Row) → cell_at mid m ≡ Some q → q.element ≡ r.element → ⊥) → CellsAreApart new
puts_apart mid new n r puts apart never i j p q a b e = by (came_from mid new n r puts i p a) (came_from mid new n r puts j q b)
  where
    by : (((i ≡ n) × (p ≡ r)) ⊎ (cell_at mid i ≡ Some p)) → (((j ≡ n) × (q ≡ r)) ⊎ (cell_at mid j ≡ Some q)) → i ≡ j
    by (inl f) (inl g) = f.0 ∙ sym g.0
    by (inl f) (inr g) = absurd (never j q g (sym e ∙ ap (λ (z : Row). z.element) f.1))
    by (inr f) (inl g) = absurd (never i p f (e ∙ ap (λ (z : Row). z.element) g.1))
    by (inr f) (inr g) = apart i j p q f g e

-- ---- numbers that are noted

noted_push : (numbers : List ℕ) (n m : ℕ) → is_noted (numbers ++ n ∷ []) m ≡ (is_noted numbers m || (eqb m n))
noted_push [] n m = at (eqb m n)
  where
    at : (t : Bool) → (t || false) ≡ t
    at true = refl
    at false = refl
noted_push (k ∷ numbers) n m = ap (λ t. eqb m k || t) (noted_push numbers n m) ∙ at (eqb m k) (is_noted numbers m) (eqb m n)
  where
    at : (a b c : Bool) → (a || (b || c)) ≡ ((a || b) || c)
    at true b c = refl
    at false b c = refl

pub noted_more : (old mid new : List (Option Row)) (numbers more : List ℕ) (n : ℕ) (r : Row) → CellsGrow old mid → AreNoted old mid numbers → Puts mid new n r → more ≡ numbers ++ n ∷ [] → AreNoted old new more
noted_more old mid new numbers more n r grows noted puts is = record {
  came = λ m q e f. ap (λ l. is_noted l m) is ∙ noted_push numbers n m ∙ came_by m q e (came_from mid new n r puts m q f);
  vacant = λ m e. vacant_by m (is_noted numbers m) refl (eqb m n) refl (sym (ap (λ l. is_noted l m) is ∙ noted_push numbers n m) ∙ e);
}
  where
    came_by : (m : ℕ) (q : Row) → cell_at old m ≡ None → (((m ≡ n) × (q ≡ r)) ⊎ (cell_at mid m ≡ Some q)) → (is_noted numbers m || eqb m n) ≡ true
    came_by m q e (inl f) = or_right (is_noted numbers m) (eqb m n) (eq-eqb m n f.0)
    came_by m q e (inr f) = or_left (is_noted numbers m) (eqb m n) (noted.came m q e f)

    empty : (m : ℕ) → m ≡ n → (o : Option Row) → cell_at old m ≡ o → cell_at old m ≡ None
    empty m e None f = f
    empty m e (Some q) f = let none : Some q ≡ None = sym (grows.kept m q f) ∙ ap (cell_at mid) e ∙ puts.vacant in cc

    vacant_by : (m : ℕ) (s : Bool) → is_noted numbers m ≡ s → (t : Bool) → eqb m n ≡ t → (is_noted numbers m || eqb m n) ≡ true → cell_at old m ≡ None
    vacant_by m true f t g h = noted.vacant m f
    vacant_by m false f true g h = empty m (eqb-true m n g) (cell_at old m) refl
    vacant_by m false f false g h = let no : false ≡ true = sym (λ u. f u || g u) ∙ h in cc

-- ---- the step of the walk

module _ (old mid : List (Option Row)) (order out : List ℕ) (items : List Element) (i j at : ℕ) (d : Element) (listed : IsListed old order) (items_set : IsSet items) (j_in : j < length items) (low_in : i ≤ length order)
    (grows : CellsGrow old mid) (apart : CellsAreApart mid) (among : AreAmong old mid (take j items)) (live : AreCells mid out)
    (past : (k : ℕ) (e : Element) → k < i → (m : ℕ) (g : Element) → j ≤ m → m < length items → before (get_or (elements_in old order) k e) (get_or items m g) ≡ true)
    (merged : elements_in mid out ++ unioned (drop i (elements_in old order)) (drop j items) ≡ unioned (elements_in old order) items)
    (position : IsLower (get_or items j d) (elements_in old order) at) where
  abbrev es : List Element
  es = elements_in old order

  abbrev y : Element
  y = get_or items j d

  len : length (elements_in old order) ≡ length order
  len = length-elements_in old order listed.in_order.live

  pub at_in : at ≤ length order
  at_in = let l = len in let within = position.within in omega arith

  element_of : at < length order → cell_element (cell_at mid (get_or order at 0)) ≡ Some (get_or (elements_in old order) at d)
  element_of h = keeps_grown old mid grows (get_or order at 0) (get_or es at d) (element_there old order at d listed.in_order.live h)

  pub merged_there : at < length order → cell_element (cell_at mid (get_or order at 0)) ≡ Some (get_or items j d) → elements_in mid out ++ unioned (drop i (elements_in old order)) (drop (j + 1) items) ≡ unioned (elements_in old order) items
  merged_there h e =
      let l = len in
      let both : Some (get_or es at d) ≡ Some y = sym (element_of h) ∙ e in
      let is : get_or es at d ≡ y = cc in
      ap (λ q. elements_in mid out ++ q) (sym (there_step es items i at j d listed.in_order.rises items_set j_in position past (omega arith) (omega arith) is)) ∙ merged

  module _ (new : List (Option Row)) (n : ℕ) (r : Row) (is : r.element ≡ get_or items j d) (puts : Puts mid new n r) (bare : IsBare r)
      (is_not : at < length order → cell_element (cell_at mid (get_or order at 0)) ≡ Some (get_or items j d) → ⊥) where
    differs_there : at < length (elements_in old order) → same (get_or items j d) (get_or (elements_in old order) at d) ≡ false
    differs_there h = by (same y (get_or es at d)) refl
      where
        inside : at < length order
        inside = let l = len in omega arith

        by : (t : Bool) → same (get_or items j d) (get_or (elements_in old order) at d) ≡ t → same (get_or items j d) (get_or (elements_in old order) at d) ≡ false
        by false f = f
        by true f = absurd (is_not inside (element_of inside ∙ ap (λ z. Some z) (sym (element_exact (get_or items j d) (get_or (elements_in old order) at d) f))))

    never : (m : ℕ) (q : Row) → cell_at mid m ≡ Some q → q.element ≡ r.element → ⊥
    never m q e f = by (cell_at old m) refl
      where
        is_y : q.element ≡ get_or items j d
        is_y = f ∙ is

        gone : has (elements_in old order) (get_or items j d) ≡ false
        gone = lacks_lower (get_or items j d) (elements_in old order) at d listed.in_order.rises position differs_there

        by : (o : Option Row) → cell_at old m ≡ o → ⊥
        by None g = true≢false (sym (among m q g e) ∙ ap (has (take j items)) is_y ∙ not_yet items j d items_set j_in)
        by (Some z) g =
            let both : Some z ≡ Some q = sym (grows.kept m z g) ∙ e in
            let tied : z ≡ q = cc in
            true≢false (sym (listed.all m z g) ∙ ap (λ (w : Row). has (elements_in old order) w.element) tied ∙ ap (has (elements_in old order)) is_y ∙ gone)

    pub apart_absent : CellsAreApart new
    apart_absent = puts_apart mid new n r puts apart never

    part : List ℕ
    part = take (at - i) (drop i order)

    pub live_absent : (more : List ℕ) → more ≡ (out ++ take (at - i) (drop i order)) ++ n ∷ [] → AreCells new more
    live_absent more e =
        let kept = puts_grows mid new n r puts bare in
        let first = cells_as mid new (keeps_grown mid new kept) out live in
        let both = keeps_grown old new (grows_then old mid new grows kept) in
        let old_part = All-take (IsCell old) (at - i) (drop i order) (All-drop (IsCell old) i order listed.in_order.live) in
        subst (AreCells new) (sym e)
        (All-append (IsCell new) (out ++ take (at - i) (drop i order)) (n ∷ [])
        (All-append (IsCell new) out (take (at - i) (drop i order)) first (cells_as old new both (take (at - i) (drop i order)) old_part))
        (All-cons (IsCell new) n [] (ap is_some puts.put) (All-nil (IsCell new))))

    pub merged_absent : (more : List ℕ) → more ≡ (out ++ take (at - i) (drop i order)) ++ n ∷ [] → elements_in new more ++ unioned (drop at (elements_in old order)) (drop (j + 1) items) ≡ unioned (elements_in old order) items
    merged_absent more e =
        let l = len in
        let kept = puts_grows mid new n r puts bare in
        let both = keeps_grown old new (grows_then old mid new grows kept) in
        let drop_live = All-drop (IsCell old) i order listed.in_order.live in
        let old_part = All-take (IsCell old) (at - i) (drop i order) drop_live in
        let rest = unioned (drop at es) (drop (j + 1) items) in
        let copied : elements_in new (take (at - i) (drop i order)) ≡ take (at - i) (drop i es) =
        elements_as old new both (take (at - i) (drop i order)) old_part ∙ elements_take old (drop i order) (at - i) drop_live ∙ ap (take (at - i)) (elements_drop old order i listed.in_order.live) in
        let front : elements_in new out ≡ elements_in mid out = elements_as mid new (keeps_grown mid new kept) out live in
        let last : cell_element (cell_at new n) ≡ Some y = ap cell_element puts.put ∙ ap (λ z. Some z) is in
        ap (λ q. elements_in new q ++ rest) e
        ∙ ap (λ q. q ++ rest) (elements_append new (out ++ take (at - i) (drop i order)) (n ∷ []) ∙ (λ t. elements_append new out (take (at - i) (drop i order)) t ++ cons_option (last t) []))
        ∙ (λ t. ((front t ++ copied t) ++ y ∷ []) ++ rest)
        ∙ append_assoc (elements_in mid out ++ take (at - i) (drop i es)) (y ∷ []) rest
        ∙ append_assoc (elements_in mid out) (take (at - i) (drop i es)) (y ∷ rest)
        ∙ ap (λ q. elements_in mid out ++ q) (sym (absent_step es items i at j d listed.in_order.rises items_set j_in position past (omega arith) differs_there))
        ∙ merged

    pub past_absent : (k : ℕ) (e : Element) → k < at → (m : ℕ) (g : Element) → j + 1 ≤ m → m < length items → before (get_or (elements_in old order) k e) (get_or items m g) ≡ true
    past_absent = past_step es items i at j d listed.in_order.rises items_set j_in position past

-- ---- the end of the walk

module _ (old new : List (Option Row)) (order out : List ℕ) (items : List Element) (i : ℕ) (listed : IsListed old order) (items_set : IsSet items)
    (grows : CellsGrow old new) (apart : CellsAreApart new) (among : AreAmong old new items) (live : AreCells new out)
    (merged : elements_in new out ++ unioned (drop i (elements_in old order)) [] ≡ unioned (elements_in old order) items) where
  elements_all : elements_in new (out ++ drop i order) ≡ unioned (elements_in old order) items
  elements_all =
      let keeps = keeps_grown old new grows in
      let rest_live = All-drop (IsCell old) i order listed.in_order.live in
      elements_append new out (drop i order)
      ∙ ap (λ q. elements_in new out ++ q) (elements_as old new keeps (drop i order) rest_live ∙ elements_drop old order i listed.in_order.live)
      ∙ merged

  live_all : AreCells new (out ++ drop i order)
  live_all = All-append (IsCell new) out (drop i order) live (cells_as old new (keeps_grown old new grows) (drop i order) (All-drop (IsCell old) i order listed.in_order.live))

  pub listed_all : IsListed new (out ++ drop i order)
  listed_all = record {
    in_order = record { live = live_all; rises = subst IsSet (sym elements_all) (IsSet-unioned (elements_in old order) items listed.in_order.rises) };
    all = λ n r e. ap (λ l. has l r.element) elements_all ∙ has-unioned (elements_in old order) items r.element ∙ by n r e (cell_at old n) refl;
    apart = apart;
  }
    where
      by : (n : ℕ) (r : Row) → cell_at new n ≡ Some r → (o : Option Row) → cell_at old n ≡ o → (has (elements_in old order) r.element || has items r.element) ≡ true
      by n r e None f = or_right (has (elements_in old order) r.element) (has items r.element) (among n r f e)
      by n r e (Some q) f =
          let both : Some q ≡ Some r = sym (grows.kept n q f) ∙ e in
          let is : q ≡ r = cc in
          or_left (has (elements_in old order) r.element) (has items r.element) (ap (λ (z : Row). has (elements_in old order) z.element) (sym is) ∙ listed.all n q f)
