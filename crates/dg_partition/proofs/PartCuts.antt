-- How events are cut: each cut has an event, where no instant has more events than a batch may have.
--     IsCut, next_cut      the first batch of events
--     Uncrowded      no instant has more events than a batch may have
use Rattle.std.proofs.Common.{◌≡◌, ℕ, zero, suc, ◌+◌, ◌≤◌, ◌<◌, ◌⊎◌, inl, inr, Bool, true, false, cond, ◌==◌, List, [], ◌∷◌, filter, length, drop, refl, sym, ap, subst, arith}
use Rattle.std.specs.Prelude.{min}
use Rattle.std.proofs.lemmas.Bool.{eq-eqb, ltb-false, ltb-true}
use Rattle.dg_graph.specs.declared.event.Event.{Event}
use Rattle.dg_history.specs.declared.limits.TheConstants.{BATCH_LINES_MAX}
use Rattle.dg_history.specs.EventTimes.{RisesFrom}
use Rattle.dg_partition.specs.Cuts.{cut_of, greatest, may_end, starts_later}

-- ---- the greatest number that passes a test

pub record IsGreatest (t : ℕ → Bool) (n g : ℕ) : Type 0 where
  pub least : g ≤ n
  pub passes : 1 ≤ g → t g ≡ true
  pub above : (k : ℕ) → g < k → k ≤ n → t k ≡ false

-- a number is at most another, or above it
pub split : (a b : ℕ) → (a ≤ b) ⊎ (b < a)
split zero b = inl (omega arith)
split (suc a) zero = inr (omega arith)
split (suc a) (suc b) = next (split a b)
  where
    next : (a ≤ b) ⊎ (b < a) → (suc a ≤ suc b) ⊎ (suc b < suc a)
    next (inl l) = inl (omega (arith, l))
    next (inr l) = inr (omega (arith, l))

last_or_less : (k n : ℕ) → k ≤ suc n → (k ≤ n) ⊎ (suc n ≡ k)
last_or_less zero n le = inl (omega arith)
last_or_less (suc k) zero le = inr (omega (arith, le))
last_or_less (suc k) (suc n) le = by (last_or_less k n (omega (arith, le)))
  where
    by : (k ≤ n) ⊎ (suc n ≡ k) → (suc k ≤ suc n) ⊎ (suc (suc n) ≡ suc k)
    by (inl a) = inl (omega (arith, a))
    by (inr a) = inr (ap suc a)

greatest_is : (t : ℕ → Bool) (n : ℕ) → IsGreatest t n (greatest t n)
greatest_is t zero = record { least = omega arith; passes = λ some. absurd (omega (arith, some)); above = λ k a b. absurd (omega (arith, a, b)) }
greatest_is t (suc n) = by (t (suc n)) refl (greatest_is t n)
  where
    by : (b : Bool) → t (suc n) ≡ b → IsGreatest t n (greatest t n) → IsGreatest t (suc n) (cond (t (suc n)) (suc n) (greatest t n))
    by true is g =
        subst (λ b. IsGreatest t (suc n) (cond b (suc n) (greatest t n))) (sym is)
        (record { least = omega arith; passes = λ some. is; above = λ k a b. absurd (omega (arith, a, b)) })
    by false is g =
        subst (λ b. IsGreatest t (suc n) (cond b (suc n) (greatest t n))) (sym is)
        (record { least = omega (arith, g.least); passes = g.passes; above = λ k a b. late k a (last_or_less k n b) })
      where
        late : (k : ℕ) → greatest t n < k → (k ≤ n) ⊎ (suc n ≡ k) → t k ≡ false
        late k a (inl b) = g.above k a b
        late k a (inr b) = subst (λ m. t m ≡ false) b is

-- ---- the events of one instant

abbrev pub at_time : ℕ → List Event → List Event
at_time t events = filter (λ (e : Event). e.time == t) events

abbrev pub Uncrowded : List Event → Type 0
Uncrowded events = (t : ℕ) → length (at_time t events) ≤ BATCH_LINES_MAX

pub filter_less : {X : Type 0} (t : X → Bool) (xs : List X) → length (filter t xs) ≤ length xs
filter_less t [] = omega arith
filter_less t (x ∷ xs) = by (t x) (filter_less t xs)
  where
    by : (b : Bool) → length (filter t xs) ≤ length xs → length (cond b (x ∷ filter t xs) (filter t xs)) ≤ length (x ∷ xs)
    by true le = omega (arith, le)
    by false le = omega (arith, le)

pub filter_both_less : {X : Type 0} (s t : X → Bool) (xs : List X) → length (filter s (filter t xs)) ≤ length (filter s xs)
filter_both_less s t [] = omega arith
filter_both_less s t (x ∷ xs) = by (t x) (s x) refl (filter_both_less s t xs)
  where
    by : (a b : Bool) → s x ≡ b → length (filter s (filter t xs)) ≤ length (filter s xs)
        → length (filter s (cond a (x ∷ filter t xs) (filter t xs))) ≤ length (cond (s x) (x ∷ filter s xs) (filter s xs))
    by true true is le =
        subst (λ c. length (cond c (x ∷ filter s (filter t xs)) (filter s (filter t xs))) ≤ length (cond c (x ∷ filter s xs) (filter s xs))) (sym is) (omega (arith, le))
    by true false is le =
        subst (λ c. length (cond c (x ∷ filter s (filter t xs)) (filter s (filter t xs))) ≤ length (cond c (x ∷ filter s xs) (filter s xs))) (sym is) le
    by false true is le = subst (λ c. length (filter s (filter t xs)) ≤ length (cond c (x ∷ filter s xs) (filter s xs))) (sym is) (omega (arith, le))
    by false false is le = subst (λ c. length (filter s (filter t xs)) ≤ length (cond c (x ∷ filter s xs) (filter s xs))) (sym is) le

pub filter_drop_less : {X : Type 0} (t : X → Bool) (n : ℕ) (xs : List X) → length (filter t (drop n xs)) ≤ length (filter t xs)
filter_drop_less t zero xs = omega arith
filter_drop_less t (suc n) [] = omega arith
filter_drop_less t (suc n) (x ∷ xs) = by (t x) (filter_drop_less t n xs)
  where
    by : (b : Bool) → length (filter t (drop n xs)) ≤ length (filter t xs) → length (filter t (drop n xs)) ≤ length (cond b (x ∷ filter t xs) (filter t xs))
    by true le = omega (arith, le)
    by false le = le

first_counts : {X : Type 0} (t : X → Bool) (x : X) (xs : List X) → t x ≡ true → length (filter t (x ∷ xs)) ≡ suc (length (filter t xs))
first_counts t x xs is = ap (λ b. length (cond b (x ∷ filter t xs) (filter t xs))) is

-- where no batch may end behind the first n events, these and the next are of one instant
crowd : (n : ℕ) (e : Event) (events : List Event) → RisesFrom e.time events → ((k : ℕ) → 1 ≤ k → k ≤ n → may_end (e ∷ events) k ≡ false)
    → n + 1 ≤ length (at_time e.time (e ∷ events))
crowd zero e events rises f = omega (arith, first_counts (λ (x : Event). x.time == e.time) e events (eq-eqb e.time e.time refl))
crowd (suc n) e [] rises f = absurd (let no : true ≡ false = f 1 (omega arith) (omega arith) in cc)
crowd (suc n) e (x ∷ events) rises f =
    let early : x.time ≤ e.time = ltb-false e.time x.time (f 1 (omega arith) (omega arith)) in
    let one : x.time ≡ e.time = omega (arith, early, rises.0) in
    let rest = crowd n x events rises.1 next in
    let rest_here : n + 1 ≤ length (at_time e.time (x ∷ events)) = subst (λ t. n + 1 ≤ length (at_time t (x ∷ events))) one rest in
    omega (arith, rest_here, first_counts (λ (y : Event). y.time == e.time) e (x ∷ events) (eq-eqb e.time e.time refl))
  where
    next : (k : ℕ) → 1 ≤ k → k ≤ n → may_end (x ∷ events) k ≡ false
    next zero some le = absurd (omega (arith, some))
    next (suc k) some le = f (suc (suc k)) (omega arith) (omega (arith, le))

-- ---- a cut

pub record IsCut (events : List Event) (n : ℕ) : Type 0 where
  pub some : 1 ≤ n
  pub few : n ≤ BATCH_LINES_MAX
  pub within : n ≤ length events
  pub ends : may_end events n ≡ true

pub next_cut : (e : Event) (events : List Event) → RisesFrom e.time events → Uncrowded (e ∷ events) → IsCut (e ∷ events) (cut_of (e ∷ events))
next_cut e events rises uncrowded = by (cut_of (e ∷ events)) (greatest_is (may_end (e ∷ events)) (min (length (e ∷ events)) BATCH_LINES_MAX))
  where
    by : (g : ℕ) → IsGreatest (may_end (e ∷ events)) (min (length (e ∷ events)) BATCH_LINES_MAX) g → IsCut (e ∷ events) g
    by zero g =
        let many = crowd (min (length (e ∷ events)) BATCH_LINES_MAX) e events rises (λ k some le. g.above k (omega (arith, some)) le) in
        absurd (omega (arith, many, uncrowded e.time, filter_less (λ (x : Event). x.time == e.time) (e ∷ events)))
    by (suc n) g = record {
      some = omega arith;
      few = omega (arith, g.least);
      within = omega (arith, g.least);
      ends = g.passes (omega arith);
    }

-- what is left begins later
pub later_rises : (t : ℕ) (events : List Event) → RisesFrom t events → starts_later t events ≡ true → RisesFrom (t + 1) events
later_rises t [] rises later = tt
later_rises t (e ∷ events) rises later = (omega (arith, ltb-true t e.time later), rises.1)
