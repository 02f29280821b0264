-- What the turns of one value say of a node, and which nodes a walk over them gives.
use Rattle.std.proofs.Common.{◌≡◌, ℕ, suc, ◌+◌, ◌<◌, ◌≤◌, Bool, true, false, cond, not, ◌||◌, ◌&&◌, eqb, List, [], ◌∷◌, ◌++◌, drop, filter, get_or, length, take, nat_eq, nat_le, refl, sym, ap, subst, ◌∙◌, arith}
use Rattle.std.proofs.lemmas.Bool.{true≢false, false≢true, eqb-true, eq-eqb, or_left}
use Rattle.std.proofs.lemmas.Bool.Decides.{nat_tests}
use Rattle.std.proofs.lemmas.List.{take-append-drop}
use Rattle.std.proofs.lemmas.List.Elements.{filter-append}
use Rattle.std.specs.List.{list_any}
use Rattle.std.specs.List.Sorted.{IsNonDecreasingBy, ties}
use Rattle.std.specs.Ordering.{is_lt, nat_cmp}
use Rattle.dg_aux.specs.declared.turns.Turn.{Turn}
use Rattle.dg_aux.specs.Turns.{is_about, says_from, says, is_told, told_from, begins_with, lasts, IsUnder, IsRising}

-- ---- the turns of one value

told_step : (p q r c b : Bool) → cond (p && r) (cond q c b) b ≡ cond ((p && q) && r) c b
told_step true true true c b = refl
told_step true true false c b = refl
told_step true false true c b = refl
told_step true false false c b = refl
told_step false q r c b = refl

-- the turns of the value up to the instant say what all say
pub told_is : (b : Bool) (turns : List Turn) (v i t : ℕ) → told_from b (filter (is_told v t) turns) i ≡ says_from b turns v i t
told_is b [] v i t = refl
told_is b (m ∷ ms) v i t =
    let rest = filter (is_told v t) ms in
    let q = nat_eq m.id i in
    elim (is_told v t m) as (λ s. told_from b (cond s (m ∷ rest) rest) i ≡ told_from (cond s (cond q m.comes b) b) rest i) [ true ↦ refl | false ↦ refl ]
    ∙ ap (λ x. told_from x rest i) (told_step (nat_eq m.value v) q (nat_le m.time t) m.comes b)
    ∙ told_is (cond (is_about v i t m) m.comes b) ms v i t

told_of : (p r : Bool) → (p ≡ false) → (p && r) ≡ false
told_of p r e = ap (λ x. x && r) e

-- of the turns of a value, those up to the instant
pub told_among : (v t : ℕ) (turns : List Turn) → filter (is_told v t) (filter (λ (m : Turn). nat_eq m.value v) turns) ≡ filter (is_told v t) turns
told_among v t [] = refl
told_among v t (m ∷ ms) =
    let of = filter (λ (m : Turn). nat_eq m.value v) ms in
    let rest = filter (is_told v t) ms in
    elim (nat_eq m.value v) as (λ s. filter (is_told v t) of ≡ rest → nat_eq m.value v ≡ s
    → filter (is_told v t) (cond s (m ∷ of) of) ≡ cond (s && nat_le m.time t) (m ∷ rest) rest) [
      | true ↦ λ h e.
          ap (λ s. cond (s && nat_le m.time t) (m ∷ filter (is_told v t) of) (filter (is_told v t) of)) e
          ∙ ap (λ l. cond (nat_le m.time t) (m ∷ l) l) h
      | false ↦ λ h e. h
    ] (told_among v t ms) refl

-- the turns of the value among the first, and those up to the instant among all
pub found_all : (v i t n : ℕ) (ms range rest first all : List Turn) → range ≡ filter (λ (m : Turn). nat_eq m.value v) (take n ms) → rest ≡ drop n ms
    → first ≡ filter (is_told v t) range → all ≡ first ++ filter (is_told v t) rest → told_from false all i ≡ says ms v i t
found_all v i t n ms range rest first all range_is rest_is first_is all_is =
    let told = filter (is_told v t) in
    let firsts : first ≡ told (take n ms) = first_is ∙ ap told range_is ∙ told_among v t (take n ms) in
    ap (λ l. told_from false l i)
    (all_is
    ∙ (λ j. firsts j ++ told (rest_is j))
    ∙ sym (filter-append (is_told v t) (take n ms) (drop n ms))
    ∙ ap told (take-append-drop n ms))
    ∙ told_is false ms v i t

-- ---- a stable sort by node

tied : (m n : ℕ) → (not (is_lt (nat_cmp n m)) && not (is_lt (nat_cmp m n))) ≡ eqb m n
tied m n = grind (arith, nat_tests)

only : (b : Bool) (ms : List Turn) (i : ℕ) → told_from b (filter (λ (m : Turn). eqb m.id i) ms) i ≡ told_from b ms i
only b [] i = refl
only b (m ∷ ms) i =
    let rest = filter (λ (m : Turn). eqb m.id i) ms in
    elim (eqb m.id i) as (λ s. eqb m.id i ≡ s → told_from b (cond s (m ∷ rest) rest) i ≡ told_from (cond s m.comes b) ms i) [
      | true ↦ λ e. ap (λ s. told_from (cond s m.comes b) rest i) e ∙ only m.comes ms i
      | false ↦ λ e. only b ms i
    ] refl

pub still_told : (xs ys : List Turn) (i : ℕ)
    → ((x : Turn) → filter (ties (λ a b. is_lt (nat_cmp a.id b.id)) x) ys ≡ filter (ties (λ a b. is_lt (nat_cmp a.id b.id)) x) xs)
    → told_from false ys i ≡ told_from false xs i
still_told xs ys i stable =
    sym (only false ys i)
    ∙ ap (λ l. told_from false l i)
    (subst (λ (t : Turn → Bool). filter t ys ≡ filter t xs) (λ j turn. tied turn.id i j) (stable (record { value = 0; comes = false; id = i; time = 0 })))
    ∙ only false xs i

-- ---- the last turn at each node

abbrev NotAbove : ℕ → List Turn → Type 0
NotAbove id [] = Unit {0}
NotAbove id (m ∷ ms) = id ≤ m.id

-- no node is less than the one before it
abbrev pub Rises : List Turn → Type 0
Rises [] = Unit {0}
Rises (m ∷ ms) = NotAbove m.id ms × Rises ms

pub rises : (ms : List Turn) → IsNonDecreasingBy (λ (m : Turn). m.id) ms → Rises ms
rises [] h = tt
rises (m ∷ []) h = (tt, tt)
rises (m ∷ n ∷ rest) h = (
  h 0 1 m (omega arith) (omega arith),
  rises (n ∷ rest) (λ i j d le lt. h (suc i) (suc j) d (omega arith) (omega arith)),
)

-- a turn is at the node
abbrev names : ℕ → List Turn → Bool
names i ms = list_any (λ (m : Turn). nat_eq m.id i) ms

-- the node is below the first turn's
abbrev IsBelow : ℕ → List Turn → Type 0
IsBelow id [] = Unit {0}
IsBelow id (m ∷ ms) = id < m.id

ne_less : (a b : ℕ) → a < b → nat_eq b a ≡ false
ne_less a b lt = grind (arith, nat_tests)

past_next : (id : ℕ) (m : Turn) (ms : List Turn) → id < m.id → NotAbove m.id ms → IsBelow id ms
past_next id m [] lt h = tt
past_next id m (n ∷ ms) lt h = omega (arith, lt, h)

unnamed : (id : ℕ) (ms : List Turn) → Rises ms → IsBelow id ms → names id ms ≡ false
unnamed id [] r h = refl
unnamed id (m ∷ ms) r h = ap (λ b. b || names id ms) (ne_less id m.id h) ∙ unnamed id ms r.1 (past_next id m ms h r.0)

strictly : (id : ℕ) (ms : List Turn) → NotAbove id ms → begins_with id ms ≡ false → IsBelow id ms
strictly id [] h e = tt
strictly id (m ∷ ms) h e = grind (arith, nat_tests, h, e)

-- nodes that no turn is at are not among the last ones
not_last : (i : ℕ) (ms : List Turn) → names i ms ≡ false → list_any (nat_eq i) (lasts ms) ≡ false
not_last i [] e = refl
not_last i (m ∷ ms) e =
    let parts = neither (nat_eq m.id i) (names i ms) e in
    elim (m.comes && not (begins_with m.id ms)) as (λ s. list_any (nat_eq i) (cond s (m.id ∷ lasts ms) (lasts ms)) ≡ false) [
      | true ↦ ap (λ b. b || list_any (nat_eq i) (lasts ms)) (other m.id i parts.0) ∙ not_last i ms parts.1
      | false ↦ not_last i ms parts.1
    ]
  where
    neither : (a b : Bool) → (a || b) ≡ false → (a ≡ false) × (b ≡ false)
    neither true b e = absurd (true≢false e)
    neither false b e = (refl, e)

    other : (a b : ℕ) → nat_eq a b ≡ false → nat_eq b a ≡ false
    other a b e = grind (arith, nat_tests, e)

itself : (a b : ℕ) → nat_eq a b ≡ true → nat_eq b a ≡ true
itself a b e = grind (arith, nat_tests, e)

other : (a b : ℕ) → nat_eq a b ≡ false → nat_eq b a ≡ false
other a b e = grind (arith, nat_tests, e)

-- what the last turns say of a node that is named; of another nothing is said
abbrev last_word : ℕ → List Turn → Bool → Bool
last_word i ms b = cond (names i ms) (list_any (nat_eq i) (lasts ms)) b

begins_named : (id : ℕ) (ms : List Turn) → begins_with id ms ≡ true → names id ms ≡ true
begins_named id [] e = absurd (false≢true e)
begins_named id (m ∷ ms) e = or_left (nat_eq m.id id) (names id ms) e

at_node : (m : Turn) (ms : List Turn) (i : ℕ) → Rises (m ∷ ms) → nat_eq m.id i ≡ true → last_word i ms m.comes ≡ list_any (nat_eq i) (lasts (m ∷ ms))
at_node m ms i r at = by (begins_with m.id ms) refl m.comes
  where
    is : m.id ≡ i
    is = eqb-true m.id i at

    by : (s : Bool) → begins_with m.id ms ≡ s → (c : Bool) → last_word i ms c ≡ list_any (nat_eq i) (cond (c && not s) (m.id ∷ lasts ms) (lasts ms))
    by true e true = ap (λ s. cond s (list_any (nat_eq i) (lasts ms)) true) (ap (λ n. names n ms) (sym is) ∙ begins_named m.id ms e)
    by true e false = ap (λ s. cond s (list_any (nat_eq i) (lasts ms)) false) (ap (λ n. names n ms) (sym is) ∙ begins_named m.id ms e)
    by false e true =
        ap (λ s. cond s (list_any (nat_eq i) (lasts ms)) true) (ap (λ n. names n ms) (sym is) ∙ unnamed m.id ms r.1 (strictly m.id ms r.0 e))
        ∙ sym (ap (λ s. s || list_any (nat_eq i) (lasts ms)) (itself m.id i at))
    by false e false =
        let none = ap (λ n. names n ms) (sym is) ∙ unnamed m.id ms r.1 (strictly m.id ms r.0 e) in
        ap (λ s. cond s (list_any (nat_eq i) (lasts ms)) false) none
        ∙ sym (not_last i ms none)

past_node : (m : Turn) (ms : List Turn) (i : ℕ) → nat_eq m.id i ≡ false → list_any (nat_eq i) (lasts ms) ≡ list_any (nat_eq i) (lasts (m ∷ ms))
past_node m ms i e =
    elim (m.comes && not (begins_with m.id ms)) as (λ s. list_any (nat_eq i) (lasts ms) ≡ list_any (nat_eq i) (cond s (m.id ∷ lasts ms) (lasts ms))) [
      | true ↦ sym (ap (λ b. b || list_any (nat_eq i) (lasts ms)) (other m.id i e))
      | false ↦ refl
    ]

told_last : (ms : List Turn) (i : ℕ) (b : Bool) → Rises ms → told_from b ms i ≡ last_word i ms b
told_last [] i b r = refl
told_last (m ∷ ms) i b r =
    elim (nat_eq m.id i) as (λ s. nat_eq m.id i ≡ s → told_from (cond s m.comes b) ms i ≡ cond (s || names i ms) (list_any (nat_eq i) (lasts (m ∷ ms))) b) [
      | true ↦ λ e. told_last ms i m.comes r.1 ∙ at_node m ms i r e
      | false ↦ λ e. told_last ms i b r.1 ∙ ap (λ x. cond (names i ms) x b) (past_node m ms i e)
    ] refl

-- the nodes of the last turns are those that have the value
pub lasts_told : (ms : List Turn) (i : ℕ) → Rises ms → list_any (nat_eq i) (lasts ms) ≡ told_from false ms i
lasts_told ms i r = sym (told_last ms i false r ∙ by (names i ms) refl)
  where
    by : (s : Bool) → names i ms ≡ s → cond s (list_any (nat_eq i) (lasts ms)) false ≡ list_any (nat_eq i) (lasts ms)
    by true e = refl
    by false e = sym (not_last i ms e)

under_lasts : (id : ℕ) (ms : List Turn) → Rises ms → IsBelow id ms → IsUnder id (lasts ms)
under_lasts id [] r h = tt
under_lasts id (m ∷ ms) r h =
    elim (m.comes && not (begins_with m.id ms)) as (λ s. IsUnder id (cond s (m.id ∷ lasts ms) (lasts ms))) [
      | true ↦ h
      | false ↦ under_lasts id ms r.1 (past_next id m ms h r.0)
    ]

both : (a b : Bool) → (a && b) ≡ true → b ≡ true
both true b e = e
both false b e = absurd (false≢true e)

not_true : (a : Bool) → not a ≡ true → a ≡ false
not_true true e = absurd (false≢true e)
not_true false e = refl

pub lasts_rise : (ms : List Turn) → Rises ms → IsRising (lasts ms)
lasts_rise [] r = tt
lasts_rise (m ∷ ms) r =
    elim (m.comes && not (begins_with m.id ms)) as (λ s. (m.comes && not (begins_with m.id ms)) ≡ s → IsRising (cond s (m.id ∷ lasts ms) (lasts ms))) [
      | true ↦ λ e.
          (under_lasts m.id ms r.1 (strictly m.id ms r.0 (not_true (begins_with m.id ms) (both m.comes (not (begins_with m.id ms)) e))), lasts_rise ms r.1)
      | false ↦ λ e. lasts_rise ms r.1
    ] refl
