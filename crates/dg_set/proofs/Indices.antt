-- Indices in a rising list: where an element stands or belongs, and where the list stops rising.
use Rattle.std.proofs.Common.{◌≡◌, ℕ, suc, zero, ◌+◌, ◌-◌, ◌<◌, ◌≤◌, true, false, cond, not, List, [], ◌∷◌, ◌++◌, length, take, drop, get_or, refl, sym, ap, ◌∙◌, subst, IsTrue, Result, Ok, Err, IfOk, IfErr, arith, add-one}
use Rattle.std.specs.List.Sorted.{IsBinarySearchResult, IsSearchInRange, IsSortedBy}
use Rattle.std.specs.declared.cmp.Ordering.{Ordering}
use Rattle.std.specs.declared.cmp.Ordering.TheVariants.{Less, Equal, Greater}
use Rattle.std.specs.Ordering.{is_lt, is_ge}
use Rattle.std.proofs.lemmas.Bool.{true≢false, or_from}
use Rattle.std.proofs.lemmas.List.{get_or_default}
use Rattle.std.proofs.lemmas.List.Folds.{list_any_at}
use Rattle.std.proofs.lemmas.List.Sorted.{searchable_from_sorted}
use Rattle.dg_graph.specs.declared.element.Element.{Element}
use Rattle.dg_graph.specs.declared.element.Element.TheVariants.{Node}
use Rattle.dg_graph.specs.Elements.{element_cmp, same, before, IsBelowFirst, IsSet, has, put, take_out}
use Rattle.dg_set.specs.Indices.{StandsAt, BelongsAt, IsFirstFault}
use Rattle.dg_graph.proofs.Sets.{element_total, same_itself, before_from_Greater, Greater_from_before, Less_from_test, differs_back, IsBelowFirst-trans, lacks_below, put_by, put-there, take_out-absent, IsSet-put, IsSet-take_out, tied_exact}

-- what the code's comparison has answered
pub compared : (x y : Element) (o r : Ordering) → r ≡ element_cmp x y → r ≡ o → element_cmp x y ≡ o
compared x y o r e h = sym e ∙ h

-- ---- indices

pub adjacent : (xs : List Element) (k : ℕ) (d : Element) → IsSet xs → suc k < length xs → IsTrue (before (get_or xs k d) (get_or xs (suc k) d))
adjacent [] k d s h = absurd (omega arith)
adjacent (x ∷ []) k d s h = absurd (omega arith)
adjacent (x ∷ y ∷ xs) zero d s h = s.0
adjacent (x ∷ y ∷ xs) (suc k) d s h = adjacent (y ∷ xs) k d s.1 (omega arith)

pub before_at : (x : Element) (xs : List Element) (k : ℕ) (d : Element) → IsBelowFirst x xs → IsSet xs → k < length xs → IsTrue (before x (get_or xs k d))
before_at x [] k d b s h = absurd (omega arith)
before_at x (y ∷ xs) zero d b s h = b
before_at x (y ∷ xs) (suc k) d b s h = before_at x xs k d (IsBelowFirst-trans x y xs b s.0) s.1 (omega arith)

-- what the test `<` says of neighbours is false the other way round
pub rises_by : (xs : List Element) → IsSet xs → IsSortedBy (λ a b. is_lt (element_cmp a b)) xs
rises_by xs s k d low h =
    rw add-one (ap is_lt (Greater_from_before (get_or xs k d) (get_or xs (suc k) d) (adjacent xs k d s (omega arith))))

-- ---- the index of an element that is there

take_out_at : (xs : List Element) (at : ℕ) (d : Element) → IsSet xs → at < length xs → take_out (get_or xs at d) xs ≡ take at xs ++ drop (suc at) xs
take_out_at [] at d s h = absurd (omega arith)
take_out_at (y ∷ xs) zero d s h =
    ap (λ b. cond (not b) (y ∷ take_out y xs) (take_out y xs)) (same_itself y)
    ∙ take_out-absent y xs s.1 (lacks_below y xs s.0 s.1)
take_out_at (y ∷ xs) (suc at) d s h =
    let x = get_or xs at d in
    ap (λ b. cond (not b) (y ∷ take_out x xs) (take_out x xs)) (differs_back y x (before_at y xs at d s.0 s.1 (omega arith)))
    ∙ ap (λ l. y ∷ l) (take_out_at xs at d s.1 (omega arith))

stands : (x : Element) (xs : List Element) (at : ℕ) → IsSet xs → at < length xs → x ≡ get_or xs at x → StandsAt x xs at
stands x xs at s h e =
    let P : Element → Type 0 = λ y. has xs y ≡ true in
    let there = subst P (sym e) (list_any_at (same (get_or xs at x)) xs at x h (same_itself (get_or xs at x))) in
    let out = ap (λ y. take_out y xs) e ∙ take_out_at xs at x s h in
    record {
      within = h;
      there = there;
      kept = put-there x xs s there;
      out = out;
      rises = subst IsSet out (IsSet-take_out x xs s);
    }

-- ---- the index of an element that is not there

IsBelowFirst-from_index : (x : Element) (xs : List Element) → ((k : ℕ) (d : Element) → k < length xs → IsTrue (before x (get_or xs k d))) → IsBelowFirst x xs
IsBelowFirst-from_index x [] f = tt
IsBelowFirst-from_index x (y ∷ xs) f = f 0 y (omega arith)

pub put-first : (x : Element) (xs : List Element) → IsBelowFirst x xs → put x xs ≡ x ∷ xs
put-first x [] h = refl
put-first x (y ∷ xs) h = ap (λ o. put_by o x y xs) (Less_from_test (element_cmp x y) h)

pub put-past : (x y : Element) (xs : List Element) → IsTrue (before y x) → put x (y ∷ xs) ≡ y ∷ put x xs
put-past x y xs h = ap (λ o. put_by o x y xs) (Greater_from_before y x h)

abbrev IsIndex : Element → List Element → ℕ → Type 0
IsIndex x xs at = (at ≤ length xs) × ((k : ℕ) (d : Element) → k < at → IsTrue (before (get_or xs k d) x)) × ((k : ℕ) (d : Element) → at ≤ k → k < length xs → IsTrue (before x (get_or xs k d)))

IsIndex-tail : (x y : Element) (xs : List Element) (at : ℕ) → IsIndex x (y ∷ xs) (suc at) → IsIndex x xs at
IsIndex-tail x y xs at p =
    (omega arith, λ k d h. p.1 (suc k) d (omega arith), λ k d h g. p.2 (suc k) d (omega arith) (omega arith))

put_at : (x : Element) (xs : List Element) (at : ℕ) → IsIndex x xs at → put x xs ≡ take at xs ++ x ∷ drop at xs
put_at x xs zero p =
    put-first x xs (IsBelowFirst-from_index x xs (λ k d h. p.2 k d (omega arith) h))
put_at x [] (suc at) p = absurd (omega arith)
put_at x (y ∷ xs) (suc at) p =
    put-past x y xs (p.1 0 y (omega arith)) ∙ ap (λ l. y ∷ l) (put_at x xs at (IsIndex-tail x y xs at p))

lacks_at : (x : Element) (xs : List Element) (at : ℕ) → IsSet xs → IsIndex x xs at → has xs x ≡ false
lacks_at x xs zero s p =
    lacks_below x xs (IsBelowFirst-from_index x xs (λ k d h. p.2 k d (omega arith) h)) s
lacks_at x [] (suc at) s p = refl
lacks_at x (y ∷ xs) (suc at) s p =
    or_from (same x y) (has xs x) (differs_back y x (p.1 0 y (omega arith))) (lacks_at x xs at s.1 (IsIndex-tail x y xs at p))

belongs : (x : Element) (xs : List Element) (at : ℕ) → IsSet xs → IsIndex x xs at → BelongsAt x xs at
belongs x xs at s p =
    let added = put_at x xs at p in
    let absent = lacks_at x xs at s p in
    record {
      within = p.0;
      absent = absent;
      kept = take_out-absent x xs s absent;
      added = added;
      rises = subst IsSet added (IsSet-put x xs s);
    }

-- ---- what a binary search over a set has found

pub searched_found : (x : Element) (xs : List Element) (r : Result ℕ ℕ) → IsSet xs → IsSearchInRange r (length xs) → IsBinarySearchResult (λ y. element_cmp y x) xs r → IfOk r (λ at. StandsAt x xs at)
searched_found x xs (Ok at) s h p = stands x xs at s h (sym (tied_exact (get_or xs at x) x (p x)))
searched_found x xs (Err at) s h p = tt

pub searched_lacks : (x : Element) (xs : List Element) (r : Result ℕ ℕ) → IsSet xs → IsSearchInRange r (length xs) → IsBinarySearchResult (λ y. element_cmp y x) xs r → IfErr r (λ at. BelongsAt x xs at)
searched_lacks x xs (Ok at) s h p = tt
searched_lacks x xs (Err at) s h p =
    let parts = p (searchable_from_sorted element_total (λ (y : Element). y) xs x (rises_by xs s)) in
    belongs x xs at s
    (h, λ k d g. ap is_lt (parts.0 k d (omega arith) g), λ k d g e. before_from_Greater (get_or xs k d) x (parts.1 k d g e))

-- ---- a list that rises as far as an index

before_from_test : (o : Ordering) → is_ge o ≡ false → is_lt o ≡ true
before_from_test Less e = refl
before_from_test Equal e = cc
before_from_test Greater e = cc

not_before_from_test : (o : Ordering) → is_ge o ≡ true → is_lt o ≡ false
not_before_from_test Less e = cc
not_before_from_test Equal e = refl
not_before_from_test Greater e = refl

pub rises_more : (xs : List Element) (k : ℕ) (d : Element) → suc k < length xs → IsSet (take (suc k) xs) → IsTrue (before (get_or xs k d) (get_or xs (suc k) d)) → IsSet (take (suc (suc k)) xs)
rises_more [] k d h s e = absurd (omega arith)
rises_more (x ∷ []) k d h s e = absurd (omega arith)
rises_more (x ∷ y ∷ xs) zero d h s e = (e, (tt, tt))
rises_more (x ∷ y ∷ xs) (suc k) d h s e = (s.0, rises_more (y ∷ xs) k d (omega arith) s.1 e)

pub IsSet-take_one : (xs : List Element) → IsSet (take 1 xs)
IsSet-take_one [] = tt
IsSet-take_one (x ∷ xs) = (tt, tt)

-- one more item, where the code's comparison says that it is greater
pub rises_past : (xs : List Element) (at : ℕ) (d : Element) → 1 ≤ at → at < length xs → IsSet (take at xs) → is_ge (element_cmp (get_or xs (at - 1) d) (get_or xs at d)) ≡ false → IsSet (take (at + 1) xs)
rises_past xs zero d low h s e = absurd (omega arith)
rises_past xs (suc k) d low h s e =
    let p : suc k - 1 ≡ k = omega arith in
    let test = ap (λ n. is_ge (element_cmp (get_or xs n d) (get_or xs (suc k) d))) (sym p) ∙ e in
    rw add-one (rises_more xs k d h s (before_from_test (element_cmp (get_or xs k d) (get_or xs (suc k) d)) test))

-- the first item that is not greater than the one before it
pub fault_at : (xs : List Element) (at : ℕ) (d : Element) → 1 ≤ at → at < length xs → IsSet (take at xs) → is_ge (element_cmp (get_or xs (at - 1) d) (get_or xs at d)) ≡ true → IsFirstFault xs at
fault_at xs at d low h s e =
    record {
      past_first = omega arith;
      within = h;
      rises = s;
      fault = λ z.
          (λ i. before (get_or_default xs (at - 1) z d (omega arith) i) (get_or_default xs at z d h i))
          ∙ not_before_from_test (element_cmp (get_or xs (at - 1) d) (get_or xs at d)) e;
    }

-- a list with a fault is no set
pub no_set_at : (xs : List Element) (at : ℕ) → IsFirstFault xs at → ¬ (IsSet xs)
no_set_at xs zero f s = absurd (let h = f.past_first in omega arith)
no_set_at xs (suc k) f s =
    let e : k ≡ suc k - 1 = omega arith in
    true≢false (
    sym (adjacent xs k (Node 0) s f.within)
    ∙ ap (λ n. before (get_or xs n (Node 0)) (get_or xs (suc k) (Node 0))) e
    ∙ f.fault (Node 0)
    )
