-- Of events whose times do not fall, those up to an instant are the first ones.
use Rattle.std.proofs.Common.{◌≡◌, ℕ, zero, suc, ◌<◌, ◌≤◌, Bool, true, false, cond, List, [], ◌∷◌, length, take, drop, Some, None, refl, sym, ap, ◌∙◌, arith, ⊎_elim}
use Rattle.std.specs.Prelude.{nat_le, nat_lt}
use Rattle.std.proofs.lemmas.Bool.{leb-true, leb-false, lt-leb, le-leb, le-ltb, ltb-true, ltb-false, cases_lt}
use Rattle.dg_graph.specs.declared.event.Event.{Event}
use Rattle.dg_graph.specs.Replay.{events_until}
use Rattle.dg_history.specs.EventTimes.{RisesFrom}
use Rattle.dg_history.specs.History.{first_time_of, last_time_from}
use Rattle.dg_catalogue.specs.Points.{has_come}
use Rattle.dg_planner.specs.HistoryLaws.{first_time_in}

-- the time of the event with this number
abbrev pub time_at : List Event → ℕ → ℕ
time_at events i = first_time_of (drop i events)

-- none is up to an instant before the first
none_until : (s t : ℕ) (events : List Event) → RisesFrom s events → t < s → length (events_until events t) ≡ 0
none_until s t [] rises late = refl
none_until s t (e ∷ events) rises late =
    let later : t < e.time = omega (arith, rises.0, late) in
    ap (λ b. length (cond b (e ∷ events_until events t) (events_until events t))) (lt-leb e.time t later) ∙ none_until e.time t events rises.1 later

-- as many events are up to the instant as there are numbers of events up to it
pub counted : (s t : ℕ) (events : List Event) → RisesFrom s events → (i : ℕ) → i < length events
    → (time_at events i ≤ t → i < length (events_until events t)) × (i < length (events_until events t) → time_at events i ≤ t)
counted s t [] rises i lt = absurd (omega (arith, lt))
counted s t (e ∷ events) rises i lt = by i lt (nat_le e.time t) refl (counted e.time t events rises.1)
  where
    none : nat_le e.time t ≡ false → length (events_until events t) ≡ 0
    none is = none_until e.time t events rises.1 (leb-false e.time t is)

    by : (i : ℕ) → i < length (e ∷ events) → (b : Bool) → nat_le e.time t ≡ b
        → ((i : ℕ) → i < length events → (time_at events i ≤ t → i < length (events_until events t)) × (i < length (events_until events t) → time_at events i ≤ t))
        → (time_at (e ∷ events) i ≤ t → i < length (cond b (e ∷ events_until events t) (events_until events t)))
        × (i < length (cond b (e ∷ events_until events t) (events_until events t)) → time_at (e ∷ events) i ≤ t)
    by zero lt true is more = ((λ le. omega arith), (λ low. leb-true e.time t is))
    by zero lt false is more = ((λ le. absurd (let late = leb-false e.time t is in omega (arith, le, late))), (λ low. absurd (let n = none is in omega (arith, low, n))))
    by (suc i) lt true is more =
        let m = more i (omega (arith, lt)) in
        ((λ le. let r = m.0 le in omega (arith, r)), (λ low. m.1 (omega (arith, low))))
    by (suc i) lt false is more =
        let m = more i (omega (arith, lt)) in
        ((λ le. absurd (let r = m.0 le in let n = none is in omega (arith, r, n))), (λ low. absurd (let n = none is in omega (arith, low, n))))

pub until_few : (t : ℕ) (events : List Event) → length (events_until events t) ≤ length events
until_few t [] = omega arith
until_few t (e ∷ events) = by (nat_le e.time t) (until_few t events)
  where
    by : (b : Bool) → length (events_until events t) ≤ length events → length (cond b (e ∷ events_until events t) (events_until events t)) ≤ length (e ∷ events)
    by true le = omega (arith, le)
    by false le = omega (arith, le)

-- a later event has no earlier time
pub times_rise : (s : ℕ) (events : List Event) → RisesFrom s events → (i j : ℕ) → i ≤ j → j < length events → time_at events i ≤ time_at events j
times_rise s events rises i j le lt =
    let t : ℕ = time_at events j in
    let here : j < length (events_until events t) = (counted s t events rises j lt).0 (let e : time_at events j ≤ time_at events j = omega arith in e) in
    (counted s t events rises i (omega (arith, le, lt))).1 (omega (arith, le, here))

-- the last time of the first events, and of all
pub last_at : (events : List Event) (i : ℕ) → i < length events → last_time_from 0 (take (suc i) events) ≡ time_at events i
last_at [] i lt = absurd (omega (arith, lt))
last_at (e ∷ events) zero lt = refl
last_at (e ∷ []) (suc i) lt = absurd (omega (arith, lt))
last_at (e ∷ x ∷ events) (suc i) lt = last_at (x ∷ events) i (omega (arith, lt))

pub last_is : (e : Event) (events : List Event) → last_time_from e.time events ≡ time_at (e ∷ events) (length events)
last_is e [] = refl
last_is e (x ∷ events) = last_is x events

-- the first time of the first events
pub first_taken : (n : ℕ) (events : List Event) → 1 ≤ n → first_time_of (take n events) ≡ first_time_of events
first_taken zero events some = absurd (omega (arith, some))
first_taken (suc n) [] some = refl
first_taken (suc n) (e ∷ events) some = refl

-- ---- whether an event has come

there : (events : List Event) (i : ℕ) → i < length events → first_time_in (drop i events) ≡ Some (time_at events i)
there [] i lt = absurd (omega (arith, lt))
there (e ∷ events) zero lt = refl
there (e ∷ events) (suc i) lt = there events i (omega (arith, lt))

not_there : (events : List Event) (i : ℕ) → length events ≤ i → first_time_in (drop i events) ≡ None
not_there [] zero le = refl
not_there [] (suc i) le = refl
not_there (e ∷ events) zero le = absurd (omega (arith, le))
not_there (e ∷ events) (suc i) le = not_there events i (omega (arith, le))

module _ (s t : ℕ) (events : List Event) (rises : RisesFrom s events) where
  -- the event with this number is up to the instant exactly where it is one of as many as are up to it
  pub by_then : (i : ℕ) → i < length events → nat_le (time_at events i) t ≡ nat_lt i (length (events_until events t))
  by_then i lt = by (nat_lt i (length (events_until events t))) refl
    where
      by : (b : Bool) → nat_lt i (length (events_until events t)) ≡ b → nat_le (time_at events i) t ≡ b
      by true is = le-leb (time_at events i) t ((counted s t events rises i lt).1 (ltb-true i (length (events_until events t)) is))
      by false is =
          lt-leb (time_at events i) t
          (⊎_elim (λ (later : t < time_at events i). later)
          (λ (le : time_at events i ≤ t). absurd (let c = (counted s t events rises i lt).0 le in let f = ltb-false i (length (events_until events t)) is in omega (arith, c, f)))
          (cases_lt t (time_at events i)))

  pub has_come_is : (i : ℕ) → has_come t (first_time_in (drop i events)) ≡ nat_lt i (length (events_until events t))
  has_come_is i =
      ⊎_elim (λ (lt : i < length events). ap (has_come t) (there events i lt) ∙ by_then i lt)
      (λ (le : length events ≤ i). ap (has_come t) (not_there events i le) ∙ sym (le-ltb i (length (events_until events t)) (omega (arith, le, until_few t events))))
      (cases_lt i (length events))
