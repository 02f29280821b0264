-- Which events of one instant are too many, where times do not fall.
--     count      how many of the events are of an instant
--     first_few, one_more      no instant has too many events among the first, and among one more
--     crowd_here      all events from one to another of its instant are of the instant
use Rattle.std.proofs.Common.{◌≡◌, ℕ, zero, suc, ◌+◌, ◌-◌, ◌<◌, ◌≤◌, Bool, true, false, cond, ◌==◌, List, [], ◌∷◌, ◌++◌, get_or, length, take, drop, refl, sym, ap, subst, ◌∙◌, arith, length-append, length-drop}
use Rattle.std.specs.Prelude.{Some, filter, slice_get}
use Rattle.std.proofs.Math.Seq.{take-add}
use Rattle.std.proofs.lemmas.Bool.{eq-eqb, eqb-true, ne_eqb}
use Rattle.std.proofs.lemmas.List.{get_or-drop}
use Rattle.std.proofs.lemmas.List.Elements.{filter-append}
use Rattle.std.proofs.lemmas.List.Filters.{length-filter_more}
use Rattle.std.proofs.lemmas.Option.{slice_get-get_or}
use Rattle.dg_graph.specs.declared.event.Event.{Event}
use Rattle.dg_history.specs.declared.limits.TheConstants.{BATCH_LINES_MAX}
use Rattle.dg_splitting.specs.WholeHistory.{AreApart, IsFirstCrowded}
use Rattle.dg_history.specs.EventTimes.{RisesFrom}

abbrev pub count : ℕ → List Event → ℕ
count t events = length (filter (λ (e : Event). e.time == t) events)

-- ---- one event, and some behind others

count_here : (t : ℕ) (e : Event) (events : List Event) → e.time ≡ t → count t (e ∷ events) ≡ suc (count t events)
count_here t e events is =
    ap (λ b. length (cond b (e ∷ filter (λ (x : Event). x.time == t) events) (filter (λ (x : Event). x.time == t) events))) (eq-eqb e.time t is)

count_other : (t : ℕ) (e : Event) (events : List Event) → (e.time ≡ t → ⊥) → count t (e ∷ events) ≡ count t events
count_other t e events other =
    ap (λ b. length (cond b (e ∷ filter (λ (x : Event). x.time == t) events) (filter (λ (x : Event). x.time == t) events))) (ne_eqb e.time t other)

pub count_both : (t : ℕ) (xs ys : List Event) → count t (xs ++ ys) ≡ count t xs + count t ys
count_both t xs ys = ap (λ (l : List Event). length l) (filter-append (λ (e : Event). e.time == t) xs ys) ∙ length-append (filter (λ (e : Event). e.time == t) xs) (filter (λ (e : Event). e.time == t) ys)

count_less : (t : ℕ) (events : List Event) → count t events ≤ length events
count_less t [] = omega arith
count_less t (e ∷ events) = by (e.time == t) (count_less t events)
  where
    by : (b : Bool) → count t events ≤ length events
        → length (cond b (e ∷ filter (λ (x : Event). x.time == t) events) (filter (λ (x : Event). x.time == t) events)) ≤ length (e ∷ events)
    by true le = omega (arith, le)
    by false le = omega (arith, le)

-- ---- times that do not fall

floor_le : (f n : ℕ) (events : List Event) (d : Event) → RisesFrom f events → n < length events → f ≤ (get_or events n d).time
floor_le f n [] d rises lt = absurd (omega (arith, lt))
floor_le f zero (e ∷ events) d rises lt = rises.0
floor_le f (suc n) (e ∷ events) d rises lt = omega (arith, rises.0, floor_le e.time n events d rises.1 (omega (arith, lt)))

rises_at : (f n : ℕ) (events : List Event) (d : Event) → RisesFrom f events → n < length events → RisesFrom (get_or events n d).time (drop n events)
rises_at f n [] d rises lt = absurd (omega (arith, lt))
rises_at f zero (e ∷ events) d rises lt = (omega arith, rises.1)
rises_at f (suc n) (e ∷ events) d rises lt = rises_at e.time n events d rises.1 (omega (arith, lt))

-- none of the first events is of a later instant
none_before : (t f n : ℕ) (events : List Event) (d : Event) → RisesFrom f events → n < length events → (get_or events n d).time < t → count t (take (suc n) events) ≡ 0
none_before t f n [] d rises lt early = absurd (omega (arith, lt))
none_before t f zero (e ∷ events) d rises lt early = count_other t e [] (λ is. absurd (omega (arith, is, early)))
none_before t f (suc n) (e ∷ events) d rises lt early =
    let le = floor_le e.time n events d rises.1 (omega (arith, lt)) in
    count_other t e (take (suc n) events) (λ is. absurd (omega (arith, is, early, le))) ∙ none_before t e.time n events d rises.1 (omega (arith, lt)) early

-- all events before one of the least instant are of it
same_run : (t k : ℕ) (events : List Event) (d : Event) → RisesFrom t events → k < length events → (get_or events k d).time ≡ t → k ≤ count t (take k events)
same_run t k [] d rises lt is = absurd (omega (arith, lt))
same_run t zero (e ∷ events) d rises lt is = omega arith
same_run t (suc k) (e ∷ events) d rises lt is =
    let le = floor_le e.time k events d rises.1 (omega (arith, lt)) in
    let one : e.time ≡ t = omega (arith, le, is, rises.0) in
    let rest = same_run t k events d (subst (λ m. RisesFrom m events) one rises.1) (omega (arith, lt)) is in
    omega (arith, rest, count_here t e (take k events) one)

-- ---- the events of one instant

pub first_few : (most : ℕ) (events : List Event) (t : ℕ) → count t (take most events) ≤ most
first_few most events t = omega (arith, count_less t (take most events), short most events)
  where
    short : (n : ℕ) (xs : List Event) → length (take n xs) ≤ n
    short zero xs = omega arith
    short (suc n) [] = omega arith
    short (suc n) (x ∷ xs) = omega (arith, short n xs)

module _ (most f i : ℕ) (events : List Event) (d : Event) (rises : RisesFrom f events) (enough : most ≤ i) (within : i < length events) where
  -- the event so many before it
  start : i - most < length events
  start = omega (arith, within)

  behind : (get_or (drop (i - most) events) most d).time ≡ (get_or events i d).time
  behind = let same : i - most + most ≡ i = omega (arith, enough) in ap (λ (e : Event). e.time) (get_or-drop (i - most) events most d) ∙ ap (λ k. (get_or events k d).time) same

  long : most < length (drop (i - most) events)
  long = omega (arith, length-drop (i - most) events, within, enough)

  pub crowd_here : (get_or events (i - most) d).time ≡ (get_or events i d).time → most ≤ count (get_or events i d).time (take i events)
  crowd_here is =
      let t = (get_or events i d).time in
      let same : i - most + most ≡ i = omega (arith, enough) in
      let run = same_run t most (drop (i - most) events) d (subst (λ m. RisesFrom m (drop (i - most) events)) is (rises_at f (i - most) events d rises start)) long behind in
      let parts : take i events ≡ take (i - most) events ++ take most (drop (i - most) events) = ap (λ k. take k events) (sym same) ∙ take-add (i - most) most events in
      omega (arith, run, ap (count t) parts, count_both t (take (i - most) events) (take most (drop (i - most) events)))

  later : ((get_or events (i - most) d).time ≡ (get_or events i d).time → ⊥) → (get_or events (i - most) d).time < (get_or events i d).time
  later other =
      let le = floor_le (get_or events (i - most) d).time most (drop (i - most) events) d (rises_at f (i - most) events d rises start) long in
      omega (arith, le, behind, other)

  pub one_more : ((get_or events (i - most) d).time ≡ (get_or events i d).time → ⊥) → ((t : ℕ) → count t (take i events) ≤ most) → (t : ℕ) → count t (take (i + 1) events) ≤ most
  one_more other few t = by ((get_or events i d).time == t) refl
    where
      by : (b : Bool) → ((get_or events i d).time == t) ≡ b → count t (take (i + 1) events) ≤ most
      by false is =
          omega (arith, length-filter_more (λ (e : Event). e.time == t) events i d within, ap {B = ℕ} (λ b. cond b 1 0) is, few t)
      by true is =
          let now : (get_or events i d).time ≡ t = eqb-true (get_or events i d).time t is in
          let n = i - most in
          let same : suc (i - most) + most ≡ i + 1 = omega (arith, enough) in
          let none = none_before t f (i - most) events d rises start (omega (arith, later other, now)) in
          let parts : take (i + 1) events ≡ take (suc (i - most)) events ++ take most (drop (suc (i - most)) events) = ap (λ k. take k events) (sym same) ∙ take-add (suc (i - most)) most events in
          omega (arith, none, ap (count t) parts, count_both t (take (suc (i - most)) events) (take most (drop (suc (i - most)) events)), first_few most (drop (suc (i - most)) events) t)

-- the event of this index is the first that is crowded
pub first_crowd : (i : ℕ) (events : List Event) (d : Event) → RisesFrom 0 events → BATCH_LINES_MAX ≤ i → i < length events → (get_or events (i - BATCH_LINES_MAX) d).time ≡ (get_or events i d).time
    → AreApart (take i events) → IsFirstCrowded events (i + 1)
first_crowd i events d rises enough within is apart =
    let one : i ≡ i + 1 - 1 = omega arith in
    record {
      crowded = record {
        event = get_or events i d;
        from_one = omega arith;
        there = subst (λ k. slice_get events k ≡ Some (get_or events i d)) one (slice_get-get_or events i d within);
        crowd = subst (λ k. BATCH_LINES_MAX ≤ count (get_or events i d).time (take k events)) one (crowd_here BATCH_LINES_MAX 0 i events d rises enough within is);
      };
      before = subst (λ k. AreApart (take k events)) one apart;
    }
