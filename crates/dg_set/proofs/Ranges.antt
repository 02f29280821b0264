-- Where the items of a set that come before an element end, and where those that come after it begin.
--     narrowed_front, narrowed_back      the indices between which that is
--     range_none, range_one      where it is found
use Rattle.std.proofs.Common.{◌≡◌, ℕ, zero, suc, ◌+◌, ◌<◌, ◌≤◌, Bool, true, false, cond, List, [], ◌∷◌, length, take, drop, get_or, filter, refl, sym, ap, ◌∙◌, subst, IsTrue, arith, inl, inr}
use Rattle.std.specs.declared.cmp.Ordering.TheVariants.{Equal}
use Rattle.std.specs.Ordering.{is_lt}
use Rattle.std.proofs.lemmas.Bool.{cases_lt}
use Rattle.std.proofs.lemmas.Cmp.{tied_itself}
use Rattle.std.proofs.lemmas.List.{get_or_default}
use Rattle.dg_graph.specs.declared.element.Element.{Element}
use Rattle.dg_graph.specs.Elements.{element_cmp, before, IsSet}
use Rattle.dg_graph.proofs.Sets.{element_total, before_trans, Greater_from_before, tied_exact}
use Rattle.dg_set.specs.Indices.{IsWithin, IsRange}
use Rattle.dg_set.proofs.Indices.{before_at}

ordered : (xs : List Element) (i j : ℕ) (d : Element) → IsSet xs → i < j → j < length xs → IsTrue (before (get_or xs i d) (get_or xs j d))
ordered [] i j d s lt h = absurd (omega arith)
ordered (x ∷ xs) i zero d s lt h = absurd (omega arith)
ordered (x ∷ xs) zero (suc j) d s lt h = before_at x xs j d s.0 s.1 (omega arith)
ordered (x ∷ xs) (suc i) (suc j) d s lt h = ordered xs i j d s.1 (omega arith) (omega arith)

-- ---- between two indices

module _ (x : Element) (xs : List Element) (low high m : ℕ) (d : Element) (s : IsSet xs) (w : IsWithin x xs low high) (low_in : low ≤ m) (high_in : m < high) where
  abbrev in_list : m < length xs
  in_list = let h = w.within in omega arith

  -- the item at the index, whatever stands for one past the end
  same_item : (e : Element) → get_or xs m e ≡ get_or xs m d
  same_item e = get_or_default xs m e d in_list

  earlier : (k : ℕ) (e : Element) → k < m → IsTrue (before (get_or xs k e) (get_or xs m d))
  earlier k e lt = subst (λ z. IsTrue (before (get_or xs k e) z)) (same_item e) (ordered xs k m e s lt in_list)

  later : (k : ℕ) (e : Element) → m < k → k < length xs → IsTrue (before (get_or xs m d) (get_or xs k e))
  later k e lt h = subst (λ z. IsTrue (before z (get_or xs k e))) (same_item e) (ordered xs m k e s lt h)

  pub narrowed_front : IsTrue (before (get_or xs m d) x) → IsWithin x xs (m + 1) high
  narrowed_front h = record {
    order = omega arith;
    within = w.within;
    front = λ k e lt. elim (cases_lt k m) [
      | inl less ↦ before_trans (get_or xs k e) (get_or xs m d) x (earlier k e less) h
      | inr at ↦
          let is : m ≡ k = omega arith in
          subst (λ n. IsTrue (before (get_or xs n e) x)) is (subst (λ z. IsTrue (before z x)) (sym (same_item e)) h)
    ];
    back = w.back;
  }

  pub narrowed_back : IsTrue (before x (get_or xs m d)) → IsWithin x xs low m
  narrowed_back h = record {
    order = low_in;
    within = let h = w.within in omega arith;
    front = w.front;
    back = λ k e le lt. elim (cases_lt m k) [
      | inl less ↦ before_trans x (get_or xs m d) (get_or xs k e) h (later k e less lt)
      | inr at ↦
          let is : m ≡ k = omega arith in
          subst (λ n. IsTrue (before x (get_or xs n e))) is (subst (λ z. IsTrue (before x z)) (sym (same_item e)) h)
    ];
  }

-- ---- the range

filter_front : (p : Element → Bool) (xs : List Element) (n : ℕ) → n ≤ length xs → ((k : ℕ) (d : Element) → k < n → p (get_or xs k d) ≡ true) → ((k : ℕ) (d : Element) → n ≤ k → k < length xs → p (get_or xs k d) ≡ false) → take n xs ≡ filter p xs
filter_front p [] zero le pass fail = refl
filter_front p [] (suc n) le pass fail = refl
filter_front p (x ∷ xs) zero le pass fail =
    filter_front p xs zero (omega arith) (λ k d h. absurd (omega arith)) (λ k d h lt. fail (suc k) d (omega arith) (omega arith))
    ∙ ap (λ b. cond b (x ∷ filter p xs) (filter p xs)) (sym (fail 0 x (omega arith) (omega arith)))
filter_front p (x ∷ xs) (suc n) le pass fail =
    ap (λ l. x ∷ l) (filter_front p xs n (omega arith) (λ k d h. pass (suc k) d (omega arith)) (λ k d h lt. fail (suc k) d (omega arith) (omega arith)))
    ∙ ap (λ b. cond b (x ∷ filter p xs) (filter p xs)) (sym (pass 0 x (omega arith)))

filter_back : (p : Element → Bool) (xs : List Element) (n : ℕ) → n ≤ length xs → ((k : ℕ) (d : Element) → k < n → p (get_or xs k d) ≡ false) → ((k : ℕ) (d : Element) → n ≤ k → k < length xs → p (get_or xs k d) ≡ true) → drop n xs ≡ filter p xs
filter_back p [] zero le fail pass = refl
filter_back p [] (suc n) le fail pass = refl
filter_back p (x ∷ xs) zero le fail pass =
    ap (λ l. x ∷ l) (filter_back p xs zero (omega arith) (λ k d h. absurd (omega arith)) (λ k d h lt. pass (suc k) d (omega arith) (omega arith)))
    ∙ ap (λ b. cond b (x ∷ filter p xs) (filter p xs)) (sym (pass 0 x (omega arith) (omega arith)))
filter_back p (x ∷ xs) (suc n) le fail pass =
    filter_back p xs n (omega arith) (λ k d h. fail (suc k) d (omega arith)) (λ k d h lt. pass (suc k) d (omega arith) (omega arith))
    ∙ ap (λ b. cond b (x ∷ filter p xs) (filter p xs)) (sym (fail 0 x (omega arith)))

not_after : (x y : Element) → IsTrue (before x y) → before y x ≡ false
not_after x y h = ap is_lt (Greater_from_before x y h)

-- the element is not there
pub range_none : (x : Element) (xs : List Element) (low high : ℕ) → IsWithin x xs low high → high ≤ low → IsRange x xs low low
range_none x xs low high w le =
    let within = w.within in
    let behind : (k : ℕ) (d : Element) → low ≤ k → k < length xs → IsTrue (before x (get_or xs k d)) = λ k d h lt. w.back k d (omega arith) lt in
    record {
      order = omega arith;
      within = let h = w.order in omega arith;
      front = filter_front (λ y. before y x) xs low (let h = w.order in omega arith) w.front (λ k d h lt. not_after x (get_or xs k d) (behind k d h lt));
      back = filter_back (λ y. before x y) xs low (let h = w.order in omega arith) (λ k d h. not_after (get_or xs k d) x (w.front k d h)) behind;
    }

-- it is there
pub range_one : (x : Element) (xs : List Element) (low high m : ℕ) (d : Element) → IsSet xs → IsWithin x xs low high → low ≤ m → m < high → element_cmp (get_or xs m d) x ≡ Equal → IsRange x xs m (m + 1)
range_one x xs low high m d s w low_in high_in e =
    let within = w.within in
    let lt : m < length xs = omega arith in
    let at : (k : ℕ) (f : Element) → m ≤ k → k ≤ m → get_or xs k f ≡ x = λ k f le ge.
    let is : k ≡ m = omega arith in
    ap (λ n. get_or xs n f) is ∙ get_or_default xs m f d lt ∙ tied_exact (get_or xs m d) x e
    in
    let itself : before x x ≡ false = ap is_lt (tied_itself element_total x) in
    let front : (k : ℕ) (f : Element) → k < m → IsTrue (before (get_or xs k f) x) = λ k f h.
    subst (λ z. IsTrue (before (get_or xs k f) z)) (at m f (omega arith) (omega arith)) (ordered xs k m f s h lt)
    in
    let back : (k : ℕ) (f : Element) → m + 1 ≤ k → k < length xs → IsTrue (before x (get_or xs k f)) = λ k f h l.
    subst (λ z. IsTrue (before z (get_or xs k f))) (at m f (omega arith) (omega arith)) (ordered xs m k f s (omega arith) l)
    in
    record {
      order = omega arith;
      within = omega arith;
      front = filter_front (λ y. before y x) xs m (omega arith) front (λ k f h l. elim (cases_lt m k) [
        | inl more ↦ not_after x (get_or xs k f) (back k f (omega arith) l)
        | inr le ↦ ap (λ z. before z x) (at k f h le) ∙ itself
      ]);
      back = filter_back (λ y. before x y) xs (m + 1) (omega arith) (λ k f h. elim (cases_lt k m) [
        | inl less ↦ not_after (get_or xs k f) x (front k f less)
        | inr ge ↦ ap (before x) (at k f ge (omega arith)) ∙ itself
      ]) back;
    }
