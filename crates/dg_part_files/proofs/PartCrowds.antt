-- Where no batch may be cut, more events than a batch may have are of one time.
--     crowded      the event that is one too many
use Rattle.std.proofs.Common.{◌≡◌, ℕ, zero, suc, ◌+◌, ◌-◌, ◌<◌, ◌≤◌, ◌==◌, ◌≢◌, nat_le, Bool, true, false, cond, List, [], ◌∷◌, ◌++◌, Some, filter, length, take, drop, min, refl, sym, ap, subst, ◌∙◌, arith, length-drop, take-add}
use Rattle.std.specs.Prelude.{slice_get}
use Rattle.std.proofs.lemmas.Bool.{eq-eqb, eqb-true, false≢true, leb-false, leb-true, ltb-false}
use Rattle.dg_graph.specs.declared.event.Event.{Event}
use Rattle.dg_history.specs.declared.limits.TheConstants.{BATCH_LINES_MAX}
use Rattle.dg_history.specs.EventTimes.{RisesFrom}
use Rattle.dg_partition.specs.Cuts.{cut_of, greatest, may_end}
use Rattle.dg_part_files.specs.PartFaults.{IsCrowded}
use Rattle.dg_split.proofs.CutEvents.{may_end_last}

-- where none is the greatest, none up to it passes
none_passes : (t : ℕ → Bool) (n : ℕ) → greatest t n ≡ 0 → (k : ℕ) → 1 ≤ k → k ≤ n → t k ≡ false
none_passes t zero is k some le = absurd (omega (arith, some, le))
none_passes t (suc n) is k some le = by (t (suc n)) refl is (none_passes t n)
  where
    by : (b : Bool) → t (suc n) ≡ b → cond (t (suc n)) (suc n) (greatest t n) ≡ 0 → (greatest t n ≡ 0 → (k : ℕ) → 1 ≤ k → k ≤ n → t k ≡ false) → t k ≡ false
    by true e zero_is rest = absurd (let no : suc n ≡ 0 = sym (ap (λ b. cond b (suc n) (greatest t n)) e) ∙ zero_is in omega (arith, no))
    by false e zero_is rest = here (rest (sym (ap (λ b. cond b (suc n) (greatest t n)) e) ∙ zero_is)) (k == suc n) refl
      where
        here : ((k : ℕ) → 1 ≤ k → k ≤ n → t k ≡ false) → (b : Bool) → (k == suc n) ≡ b → t k ≡ false
        here each true same = ap t (eqb-true k (suc n) same) ∙ e
        here each false other = each k some (let no : k ≢ suc n = λ same. false≢true (sym other ∙ eq-eqb k (suc n) same) in omega (arith, le, no))

-- the event behind the first n, which has the time of the first as they have
record IsOfTime (t : ℕ) (events : List Event) (n : ℕ) : Type 0 where
  event : Event
  there : slice_get events n ≡ Some event
  same : event.time ≡ t
  crowd : length (filter (λ (x : Event). x.time == t) (take n events)) ≡ n

first_counts : (t : ℕ) (e : Event) (events : List Event) → e.time ≡ t → length (filter (λ (x : Event). x.time == t) (e ∷ events)) ≡ suc (length (filter (λ (x : Event). x.time == t) events))
first_counts t e events is = ap (λ b. length (cond b (e ∷ filter (λ (x : Event). x.time == t) events) (filter (λ (x : Event). x.time == t) events))) (eq-eqb e.time t is)

crowd_at : (n : ℕ) (e : Event) (events : List Event) → RisesFrom e.time events → ((k : ℕ) → 1 ≤ k → k ≤ n → may_end (e ∷ events) k ≡ false) → IsOfTime e.time (e ∷ events) n
crowd_at zero e events rises f = record { event = e; there = refl; same = refl; crowd = refl }
crowd_at (suc n) e [] rises f = absurd (let no : true ≡ false = f 1 (omega arith) (omega arith) in cc)
crowd_at (suc n) e (x ∷ events) rises f =
    let early : x.time ≤ e.time = ltb-false e.time x.time (f 1 (omega arith) (omega arith)) in
    let one : x.time ≡ e.time = omega (arith, early, rises.0) in
    let rest = crowd_at n x events rises.1 next in
    let here = subst (λ (t : ℕ). IsOfTime t (x ∷ events) n) one rest in
    record { event = here.event; there = here.there; same = here.same; crowd = first_counts e.time e (take n (x ∷ events)) refl ∙ ap suc here.crowd }
  where
    next : (k : ℕ) → 1 ≤ k → k ≤ n → may_end (x ∷ events) k ≡ false
    next zero some le = absurd (omega (arith, some))
    next (suc k) some le = f (suc (suc k)) (omega arith) (omega (arith, le))

-- where nothing is cut there are more events than a batch may have
many : (events : List Event) → 1 ≤ length events → cut_of events ≡ 0 → BATCH_LINES_MAX < length events
many events some none = by (nat_le (length events) BATCH_LINES_MAX) refl
  where
    by : (b : Bool) → nat_le (length events) BATCH_LINES_MAX ≡ b → BATCH_LINES_MAX < length events
    by true le =
        let within : length events ≤ BATCH_LINES_MAX = leb-true (length events) BATCH_LINES_MAX le in
        absurd (false≢true (sym (none_passes (may_end events) (min (length events) BATCH_LINES_MAX) none (length events) some (omega (arith, within))) ∙ may_end_last events (length events) refl))
    by false gt = leb-false (length events) BATCH_LINES_MAX gt

get_behind : (n m : ℕ) (events : List Event) → slice_get (drop n events) m ≡ slice_get events (n + m)
get_behind zero m events = ap (slice_get events) (let e : m ≡ 0 + m = omega arith in e)
get_behind (suc n) m [] = refl
get_behind (suc n) m (e ∷ events) = get_behind n m events ∙ ap (slice_get (e ∷ events)) (let e : suc (n + m) ≡ suc n + m = omega arith in e)

filter_both : (t : Event → Bool) (xs ys : List Event) → length (filter t ys) ≤ length (filter t (xs ++ ys))
filter_both t [] ys = omega arith
filter_both t (x ∷ xs) ys = by (t x) (filter_both t xs ys)
  where
    by : (b : Bool) → length (filter t ys) ≤ length (filter t (xs ++ ys)) → length (filter t ys) ≤ length (cond b (x ∷ filter t (xs ++ ys)) (filter t (xs ++ ys)))
    by true le = omega (arith, le)
    by false le = le

crowd_here : (rest : List Event) (floor : ℕ) → RisesFrom floor rest → 1 ≤ length rest → cut_of rest ≡ 0 → (t : ℕ) × IsOfTime t rest BATCH_LINES_MAX
crowd_here [] floor rises some none = absurd (omega (arith, some))
crowd_here (e ∷ events) floor rises some none =
    let over = many (e ∷ events) some none in
    (e.time, crowd_at BATCH_LINES_MAX e events rises.1 (λ k one le. none_passes (may_end (e ∷ events)) (min (length (e ∷ events)) BATCH_LINES_MAX) none k one (omega (arith, le, over))))

pub crowded : (events : List Event) (done floor : ℕ) → RisesFrom floor (drop done events) → done < length events → cut_of (drop done events) ≡ 0 → IsCrowded events (done + BATCH_LINES_MAX + 1)
crowded events done floor rises left none =
    let rest : List Event = drop done events in
    let found = crowd_here rest floor rises (omega (arith, length-drop done events, left)) none in
    let at = found.1 in
    let number : (done + BATCH_LINES_MAX + 1) - 1 ≡ done + BATCH_LINES_MAX = omega arith in
    let taken : take ((done + BATCH_LINES_MAX + 1) - 1) events ≡ take done events ++ take BATCH_LINES_MAX rest = ap (λ (n : ℕ). take n events) number ∙ take-add done BATCH_LINES_MAX events in
    record {
      event = at.event;
      from_one = omega arith;
      there = ap (slice_get events) number ∙ sym (get_behind done BATCH_LINES_MAX events) ∙ at.there;
      crowd =
          let count = subst (λ (t : ℕ). length (filter (λ (x : Event). x.time == t) (take BATCH_LINES_MAX rest)) ≡ BATCH_LINES_MAX) (sym at.same) at.crowd in
          let more = filter_both (λ (x : Event). x.time == at.event.time) (take done events) (take BATCH_LINES_MAX rest) in
          omega (arith, count, more, ap (λ (l : List Event). length (filter (λ (x : Event). x.time == at.event.time) l)) taken);
    }
