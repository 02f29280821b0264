-- One walk over several sets: what its next step takes, and what is then left.
use Rattle.std.proofs.Common.{◌≡◌, ℕ, suc, ◌+◌, ◌<◌, ◌≤◌, Bool, true, false, cond, not, ◌||◌, ◌&&◌, List, [], ◌∷◌, ◌++◌, length, map, filter, take, drop, set, get_or, refl, sym, ap, ◌∙◌, subst, IsTrue, arith, Option, Some, None, ◌⊎◌, inl, inr}
use Rattle.std.specs.declared.cmp.Ordering.{Ordering}
use Rattle.std.specs.declared.cmp.Ordering.TheVariants.{Less, Equal, Greater}
use Rattle.std.specs.Ordering.{is_lt, is_eq}
use Rattle.std.specs.List.{AllByRecursion, list_any}
use Rattle.std.proofs.lemmas.Bool.{true≢false, false≢true, or_left, or_right, or_from}
use Rattle.std.proofs.lemmas.Cmp.{tied_itself}
use Rattle.std.proofs.lemmas.List.{length-map, length-take, drop_more, get_or_at, take_more_set, map_more, append_assoc}
use Rattle.dg_graph.specs.declared.element.Element.{Element}
use Rattle.dg_graph.specs.Elements.{element_cmp, same, before, IsBelowFirst, IsSet, has}
use Rattle.dg_graph.specs.Sets.{unioned}
use Rattle.dg_graph.proofs.Sets.{element_total, element_exact, tied_exact, same_itself, same_back, before_from_Greater, before_trans, IsBelowFirst-trans, IsBelowFirst-filter, IsSet-filter, lacks_below, same_members, has-filter, has-unioned, IsSet-unioned}
use Rattle.dg_set.proofs.SetMerges.{IsBelowFirst-unioned}
use Rattle.dg_expr.specs.declared.expression.Word.{Word}
use Rattle.dg_expr.specs.Chosen.{all_of}
use Rattle.dg_expr.specs.Rests.{begins, past, IsNotPast, is_chosen, selected, left_in, first_in, lesser, IsLeast}

abbrev Sets : List (List Element) → Type 0
Sets sets = AllByRecursion IsSet sets

abbrev NotPast : Element → List (List Element) → Type 0
NotPast x sets = AllByRecursion (IsNotPast x) sets

-- ---- one set

-- the element is first, or below all
pub first_or_below : (x : Element) (set : List Element) → IsNotPast x set → (begins x set ≡ false → IsBelowFirst x set)
first_or_below x [] n b = tt
first_or_below x (y ∷ set) n b =
    elim (element_cmp x y) as (λ o. element_cmp x y ≡ o → IsTrue (before x y)) [
      | Less ↦ λ p. ap is_lt p
      | Equal ↦ λ p. absurd (true≢false (sym (ap is_eq p) ∙ b))
      | Greater ↦ λ p. absurd (true≢false (sym (before_from_Greater x y p) ∙ n))
    ] refl

pub begins_has : (x : Element) (set : List Element) → IsSet set → IsNotPast x set → has set x ≡ begins x set
begins_has x set s n = by (begins x set) refl
  where
    by : (b : Bool) → begins x set ≡ b → has set x ≡ b
    by true e = there set e
      where
        there : (set : List Element) → begins x set ≡ true → has set x ≡ true
        there [] e = absurd (false≢true e)
        there (y ∷ set) e = or_left (same x y) (has set x) e
    by false e = lacks_below x set (first_or_below x set n e) s

pub IsSet-past : (x : Element) (set : List Element) → IsSet set → IsSet (past x set)
IsSet-past x [] s = tt
IsSet-past x (y ∷ set) s = elim (same x y) as (λ b. IsSet (cond b set (y ∷ set))) [ true ↦ s.1 | false ↦ s ]

pub below_past : (x : Element) (set : List Element) → IsSet set → IsNotPast x set → IsBelowFirst x (past x set)
below_past x [] s n = tt
below_past x (y ∷ set) s n = by (same x y) refl
  where
    by : (b : Bool) → same x y ≡ b → IsBelowFirst x (cond b set (y ∷ set))
    by true e = subst (λ z. IsBelowFirst z set) (sym (element_exact x y e)) s.0
    by false e = first_or_below x (y ∷ set) n e

pub lacks_past : (x : Element) (set : List Element) → IsSet set → IsNotPast x set → has (past x set) x ≡ false
lacks_past x set s n = lacks_below x (past x set) (below_past x set s n) (IsSet-past x set s)

-- other elements stay
pub has-past : (x q : Element) (set : List Element) → same q x ≡ false → has (past x set) q ≡ has set q
has-past x q [] e = refl
has-past x q (y ∷ set) e = by (same x y) refl
  where
    by : (b : Bool) → same x y ≡ b → has (cond b set (y ∷ set)) q ≡ (same q y || has set q)
    by true is =
        let at = element_exact x y is in
        sym (ap (λ z. same q z || has set q) (sym at) ∙ ap (λ b. b || has set q) e)
    by false is = refl

-- ---- all sets

pub has-all_of : (sets : List (List Element)) (q : Element) → has (all_of sets) q ≡ list_any (λ set. has set q) sets
has-all_of [] q = refl
has-all_of (set ∷ sets) q = has-unioned set (all_of sets) q ∙ ap (λ b. has set q || b) (has-all_of sets q)

pub IsSet-all_of : (sets : List (List Element)) → Sets sets → IsSet (all_of sets)
IsSet-all_of [] s = tt
IsSet-all_of (set ∷ sets) s = IsSet-unioned set (all_of sets) s.0

pub Sets-past : (x : Element) (sets : List (List Element)) → Sets sets → Sets (map (past x) sets)
Sets-past x [] s = tt
Sets-past x (set ∷ sets) s = (IsSet-past x set s.0, Sets-past x sets s.1)

below_all : (x : Element) (sets : List (List Element)) → Sets sets → NotPast x sets → IsBelowFirst x (all_of (map (past x) sets))
below_all x [] s n = tt
below_all x (set ∷ sets) s n =
    IsBelowFirst-unioned x (past x set) (all_of (map (past x) sets)) (below_past x set s.0 n.0) (below_all x sets s.1 n.1)
    (IsSet-all_of (map (past x) sets) (Sets-past x sets s.1))

all_begin : (x : Element) (sets : List (List Element)) → Sets sets → NotPast x sets → map (λ set. has set x) sets ≡ map (begins x) sets
all_begin x [] s n = refl
all_begin x (set ∷ sets) s n = let e = begins_has x set s.0 n.0 in let rest = all_begin x sets s.1 n.1 in λ i. e i ∷ rest i

all_stay : (x q : Element) (sets : List (List Element)) → same q x ≡ false → map (λ set. has set q) (map (past x) sets) ≡ map (λ set. has set q) sets
all_stay x q [] e = refl
all_stay x q (set ∷ sets) e = let f = has-past x q set e in let rest = all_stay x q sets e in λ i. f i ∷ rest i

any_map : (sets : List (List Element)) (q : Element) → list_any (λ set. has set q) sets ≡ list_any (λ b. b) (map (λ set. has set q) sets)
any_map [] q = refl
any_map (set ∷ sets) q = ap (λ b. has set q || b) (any_map sets q)

none_past : (x : Element) (sets : List (List Element)) → Sets sets → NotPast x sets → list_any (λ set. has set x) (map (past x) sets) ≡ false
none_past x [] s n = refl
none_past x (set ∷ sets) s n =
    or_from (has (past x set) x) (list_any (λ set. has set x) (map (past x) sets)) (lacks_past x set s.0 n.0) (none_past x sets s.1 n.1)

some_begins : (x : Element) (sets : List (List Element)) → Sets sets → NotPast x sets → list_any (begins x) sets ≡ true
    → list_any (λ set. has set x) sets ≡ true
some_begins x [] s n e = absurd (false≢true e)
some_begins x (set ∷ sets) s n e =
    let at = begins_has x set s.0 n.0 in
    elim (begins x set) as (λ b. begins x set ≡ b → (has set x || list_any (λ set. has set x) sets) ≡ true) [
      | true ↦ λ is. or_left (has set x) (list_any (λ set. has set x) sets) (at ∙ is)
      | false ↦ λ is. or_right (has set x) (list_any (λ set. has set x) sets)
          (some_begins x sets s.1 n.1 (sym (ap (λ b. b || list_any (begins x) sets) is) ∙ e))
    ] refl

-- ---- what is selected

module _ (ws : List Word) where
  abbrev test : List (List Element) → Element → Bool
  test sets q = is_chosen ws (map (λ set. has set q) sets)

  has-selected : (sets : List (List Element)) (q : Element) → has (selected ws sets) q ≡ (test sets q && list_any (λ set. has set q) sets)
  has-selected sets q = has-filter (test sets) (all_of sets) q ∙ ap (λ b. test sets q && b) (has-all_of sets q)

  pub IsSet-selected : (sets : List (List Element)) → Sets sets → IsSet (selected ws sets)
  IsSet-selected sets s = IsSet-filter (test sets) (all_of sets) (IsSet-all_of sets s)

  and_true : (a : Bool) → (a && true) ≡ a
  and_true true = refl
  and_true false = refl

  and_false : (a : Bool) → (a && false) ≡ false
  and_false true = refl
  and_false false = refl

  abbrev after : Bool → Element → List (List Element) → List Element
  after b x sets = cond b (x ∷ selected ws (map (past x) sets)) (selected ws (map (past x) sets))

  -- the least element that is left is taken where the words hold of it, and then the rest is selected
  pub selected_step : (x : Element) (sets : List (List Element)) → Sets sets → NotPast x sets → list_any (begins x) sets ≡ true
      → selected ws sets ≡ after (is_chosen ws (map (begins x) sets)) x sets
  selected_step x sets s n some =
      let t = is_chosen ws (map (begins x) sets) in
      same_members (selected ws sets) (after t x sets) (IsSet-selected sets s) (is_set t) (λ q. by q (same q x) refl)
    where
      rest : List (List Element)
      rest = map (past x) sets

      rest_sets : Sets rest
      rest_sets = Sets-past x sets s

      below : IsBelowFirst x (selected ws rest)
      below = IsBelowFirst-filter (test rest) x (all_of rest) (below_all x sets s n) (IsSet-all_of rest rest_sets)

      is_set : (b : Bool) → IsSet (after b x sets)
      is_set true = (below, IsSet-selected rest rest_sets)
      is_set false = IsSet-selected rest rest_sets

      lacks : has (selected ws rest) x ≡ false
      lacks = has-selected rest x ∙ ap (λ b. test rest x && b) (none_past x sets s n) ∙ and_false (test rest x)

      whether : (b : Bool) → has (after b x sets) x ≡ b
      whether true = or_left (same x x) (has (selected ws rest) x) (same_itself x)
      whether false = lacks

      other : (q : Element) (b : Bool) → same q x ≡ false → has (after b x sets) q ≡ has (selected ws rest) q
      other q true e = ap (λ c. c || has (selected ws rest) q) e
      other q false e = refl

      by : (q : Element) (b : Bool) → same q x ≡ b → has (selected ws sets) q ≡ has (after (is_chosen ws (map (begins x) sets)) x sets) q
      by q true e =
          let t = is_chosen ws (map (begins x) sets) in
          let at = element_exact q x e in
          ap (has (selected ws sets)) at
          ∙ has-selected sets x
          ∙ ap (λ b. test sets x && b) (some_begins x sets s n some)
          ∙ and_true (test sets x)
          ∙ ap (is_chosen ws) (all_begin x sets s n)
          ∙ sym (ap (has (after t x sets)) at ∙ whether t)
      by q false e =
          let t = is_chosen ws (map (begins x) sets) in
          let stay = all_stay x q sets e in
          has-selected sets q
          ∙ ap (λ b. test sets q && b) (any_map sets q)
          ∙ sym (
          other q t e
          ∙ has-selected rest q
          ∙ ap (λ b. test rest q && b) (any_map rest q)
          ∙ ap (λ l. is_chosen ws l && list_any (λ b. b) l) stay
          )

  -- where nothing is left, nothing is selected
  pub selected_none : (sets : List (List Element)) → AllByRecursion (λ set. set ≡ []) sets → selected ws sets ≡ []
  selected_none sets e = ap (filter (test sets)) (empty sets e)
    where
      empty : (sets : List (List Element)) → AllByRecursion (λ set. set ≡ []) sets → all_of sets ≡ []
      empty [] e = refl
      empty (set ∷ sets) e = (λ i. unioned (e.0 i) (empty sets e.1 i))

-- ---- the walk ends

shorter : (x : Element) (set : List Element) → length (past x set) ≤ length set
shorter x [] = omega arith
shorter x (y ∷ set) = elim (same x y) as (λ b. length (cond b set (y ∷ set)) ≤ suc (length set)) [ true ↦ omega arith | false ↦ omega arith ]

all_shorter : (x : Element) (sets : List (List Element)) → left_in (map (past x) sets) ≤ left_in sets
all_shorter x [] = omega arith
all_shorter x (set ∷ sets) = omega (arith, shorter x set, all_shorter x sets)

one_shorter : (x : Element) (set : List Element) → begins x set ≡ true → length (past x set) < length set
one_shorter x [] e = absurd (false≢true e)
one_shorter x (y ∷ set) e = subst (λ b. length (cond b set (y ∷ set)) < suc (length set)) (sym e) (omega arith)

pub left_less : (x : Element) (sets : List (List Element)) → list_any (begins x) sets ≡ true → left_in (map (past x) sets) < left_in sets
left_less x [] e = absurd (false≢true e)
left_less x (set ∷ sets) e =
    elim (begins x set) as (λ b. begins x set ≡ b → left_in (map (past x) (set ∷ sets)) < left_in (set ∷ sets)) [
      | true ↦ λ is. omega (arith, one_shorter x set is, all_shorter x sets)
      | false ↦ λ is. omega (arith, shorter x set, left_less x sets (sym (ap (λ b. b || list_any (begins x) sets) is) ∙ e))
    ] refl

-- ---- the least first element

pub every-push : (P : List Element → Type 0) (sets : List (List Element)) (set : List Element) → AllByRecursion P sets → P set
    → AllByRecursion P (sets ++ set ∷ [])
every-push P [] set h p = (p, tt)
every-push P (s ∷ sets) set h p = (h.0, every-push P sets set h.1 p)

any-push : (p : List Element → Bool) (sets : List (List Element)) (set : List Element) → (list_any p sets ≡ true) ⊎ (p set ≡ true)
    → list_any p (sets ++ set ∷ []) ≡ true
any-push p [] set (inl e) = absurd (false≢true e)
any-push p [] set (inr e) = or_left (p set) false e
any-push p (s ∷ sets) set (inl e) =
    elim (p s) as (λ b. p s ≡ b → (p s || list_any p (sets ++ set ∷ [])) ≡ true) [
      | true ↦ λ is. or_left (p s) (list_any p (sets ++ set ∷ [])) is
      | false ↦ λ is. or_right (p s) (list_any p (sets ++ set ∷ [])) (any-push p sets set (inl (sym (ap (λ b. b || list_any p sets) is) ∙ e)))
    ] refl
any-push p (s ∷ sets) set (inr e) = or_right (p s) (list_any p (sets ++ set ∷ [])) (any-push p sets set (inr e))

not_past_empty : (x : Element) (set : List Element) → set ≡ [] → IsNotPast x set
not_past_empty x [] e = tt
not_past_empty x (y ∷ set) e = cc

none_past_empty : (x : Element) (sets : List (List Element)) → AllByRecursion (λ set. set ≡ []) sets → NotPast x sets
none_past_empty x [] e = tt
none_past_empty x (set ∷ sets) e = (not_past_empty x set e.0, none_past_empty x sets e.1)

not_past_lesser : (x y : Element) (set : List Element) → before y x ≡ true → IsNotPast x set → IsNotPast y set
not_past_lesser x y [] e n = tt
not_past_lesser x y (z ∷ set) e n = by (before z y) refl
  where
    by : (b : Bool) → before z y ≡ b → before z y ≡ false
    by true f = absurd (true≢false (sym (before_trans z y x f e) ∙ n))
    by false f = f

none_past_lesser : (x y : Element) (sets : List (List Element)) → before y x ≡ true → NotPast x sets → NotPast y sets
none_past_lesser x y [] e n = tt
none_past_lesser x y (set ∷ sets) e n = (not_past_lesser x y set e n.0, none_past_lesser x y sets e n.1)

-- an element is not before itself
not_before_itself : (x : Element) → before x x ≡ false
not_before_itself x = ap is_lt (tied_itself element_total x)

pub least-push : (o : Option Element) (sets : List (List Element)) (set : List Element) → IsLeast o sets → IsLeast (lesser o (first_in set)) (sets ++ set ∷ [])
least-push None sets [] h = every-push (λ s. s ≡ []) sets [] h refl
least-push None sets (y ∷ set) h = (
  every-push (IsNotPast y) sets (y ∷ set) (none_past_empty y sets h) (not_before_itself y),
  any-push (begins y) sets (y ∷ set) (inr (same_itself y)),
)
least-push (Some x) sets [] h = (every-push (IsNotPast x) sets [] h.0 tt, any-push (begins x) sets [] (inl h.1))
least-push (Some x) sets (y ∷ set) h = by (before y x) refl
  where
    by : (b : Bool) → before y x ≡ b → IsLeast (cond b (Some y) (Some x)) (sets ++ (y ∷ set) ∷ [])
    by true e = (
      every-push (IsNotPast y) sets (y ∷ set) (none_past_lesser x y sets e h.0) (not_before_itself y),
      any-push (begins y) sets (y ∷ set) (inr (same_itself y)),
    )
    by false e = (every-push (IsNotPast x) sets (y ∷ set) h.0 e, any-push (begins x) sets (y ∷ set) (inl h.1))

-- ---- a loop that writes over each element

-- what stands at the place of the loop is as it was
pub read_over : {X : Type 0} (f : X → X) (xs ys : List X) (i : ℕ) (x : X) → i < length xs → ys ≡ map f (take i xs) ++ drop i xs → x ≡ get_or ys i x → x ≡ get_or xs i x
read_over f xs ys i x lt h is =
    let front = map f (take i xs) in
    let long : length front ≡ i = length-map (take i xs) f ∙ omega (arith, length-take i xs) in
    is ∙ ap (λ l. get_or l i x) (h ∙ ap (λ l. front ++ l) (drop_more xs i x lt)) ∙ get_or_at front _ _ x i long

-- what a loop has written to an array beside the list
pub written_more : {X Y : Type 0} (f : X → Y) (xs : List X) (ys : List Y) (i : ℕ) (x : X) → i < length xs → i < length ys → x ≡ get_or xs i x
    → take i ys ≡ map f (take i xs) → take (i + 1) (set ys i (f x)) ≡ map f (take (i + 1) xs)
written_more f xs ys i x lt room is h =
    take_more_set ys i (f x) room ∙ ap (λ l. l ++ f x ∷ []) h ∙ ap (λ y. map f (take i xs) ++ f y ∷ []) is ∙ sym (map_more f xs i x lt)

-- one element more, where it is taken
pub pushed_if : (h : Bool) (x : Element) (out new rest to_come whole : List Element) → new ≡ cond h (out ++ x ∷ []) out → out ++ to_come ≡ whole
    → to_come ≡ cond h (x ∷ rest) rest → new ++ rest ≡ whole
pushed_if true x out new rest to_come whole push written next =
    ap (λ l. l ++ rest) push ∙ append_assoc out (x ∷ []) rest ∙ ap (λ l. out ++ l) (sym next) ∙ written
pushed_if false x out new rest to_come whole push written next =
    ap (λ l. l ++ rest) push ∙ ap (λ l. out ++ l) (sym next) ∙ written
