-- Where an instant parts the events of a history.
use Rattle.std.proofs.Common.{◌≡◌, ◌<◌, ◌≤◌, ℕ, zero, suc, Bool, true, false, cond, List, [], ◌∷◌, length, take, drop, nat_le, refl, sym, ap, subst, ◌∙◌, arith}
use Rattle.std.specs.List.{All}
use Rattle.std.proofs.lemmas.Bool.{and_parts}
use Rattle.std.proofs.lemmas.Bool.Decides.{nat_tests}
use Rattle.std.proofs.lemmas.List.Elements.{All-nil, All-cons}
use Rattle.dg_graph.specs.declared.event.Event.{Event}
use Rattle.dg_graph.specs.ColumnMerge.{never_fall}
use Rattle.dg_graph.specs.Replay.{events_until}
use Rattle.dg_fold.specs.PathIndependence.{InstantsPart}

at_most : (m n : ℕ) → nat_le m n ≡ true → m ≤ n
at_most m n e = grind (arith, nat_tests)

above : (m n : ℕ) → nat_le m n ≡ false → n < m
above m n e = grind (arith, nat_tests)

Later : ℕ → Event → Type 0
Later t e = t < e.time

-- events behind a later time are later
all_later : (t m : ℕ) (events : List Event) → t < m → never_fall m events ≡ true → All (λ e. t < e.time) events
all_later t m [] h rise = All-nil (λ (e : Event). t < e.time)
all_later t m (e ∷ events) h rise =
    let parts = and_parts (nat_le m e.time) (never_fall e.time events) rise in
    let here : t < e.time = (let le = at_most m e.time parts.0 in omega arith) in
    All-cons (λ (x : Event). t < x.time) e events here (all_later t e.time events here parts.1)

none_until : (t m : ℕ) (events : List Event) → t < m → never_fall m events ≡ true → length (events_until events t) ≡ 0
none_until t m [] h rise = refl
none_until t m (e ∷ events) h rise =
    let parts = and_parts (nat_le m e.time) (never_fall e.time events) rise in
    let here : t < e.time = (let le = at_most m e.time parts.0 in omega arith) in
    ap (λ b. length (cond b (e ∷ events_until events t) (events_until events t))) (not_le e.time here) ∙ none_until t e.time events here parts.1
  where
    not_le : (n : ℕ) → t < n → nat_le n t ≡ false
    not_le n k = grind (arith, nat_tests)

count_by : (b : Bool) (e : Event) (events : List Event) (t : ℕ) → nat_le e.time t ≡ b → length (events_until (e ∷ events) t) ≡ length (cond b (e ∷ events_until events t) (events_until events t))
count_by b e events t is = ap (λ c. length (cond c (e ∷ events_until events t) (events_until events t))) is

front : (t m n : ℕ) (events : List Event) → never_fall m events ≡ true → n ≤ length (events_until events t) → All (λ e. nat_le e.time t ≡ true) (take n events)
front t m zero events rise few = All-nil (λ (e : Event). nat_le e.time t ≡ true)
front t m (suc n) [] rise few = absurd (omega arith)
front t m (suc n) (e ∷ events) rise few =
    let parts = and_parts (nat_le m e.time) (never_fall e.time events) rise in
    by (nat_le e.time t) refl parts.1 (front t e.time n events parts.1)
  where
    by : (b : Bool) → nat_le e.time t ≡ b → never_fall e.time events ≡ true
        → (n ≤ length (events_until events t) → All (λ x. nat_le x.time t ≡ true) (take n events))
        → All (λ x. nat_le x.time t ≡ true) (e ∷ take n events)
    by true is rest again =
        All-cons (λ (x : Event). nat_le x.time t ≡ true) e (take n events) is (again (let c = count_by true e events t is in omega arith))
    by false is rest again =
        absurd (let c = count_by false e events t is in let z = none_until t e.time events (above e.time t is) rest in omega arith)

behind : (t m n : ℕ) (events : List Event) → never_fall m events ≡ true → length (events_until events t) ≤ n → All (λ e. t < e.time) (drop n events)
behind t m n [] rise many = subst (All (λ (e : Event). t < e.time)) (sym (nothing n)) (All-nil (λ (e : Event). t < e.time))
  where
    nothing : (k : ℕ) → drop {A = Event} k [] ≡ []
    nothing zero = refl
    nothing (suc k) = refl
behind t m zero (e ∷ events) rise many =
    let parts = and_parts (nat_le m e.time) (never_fall e.time events) rise in
    by (nat_le e.time t) refl parts.1
  where
    by : (b : Bool) → nat_le e.time t ≡ b → never_fall e.time events ≡ true → All (λ x. t < x.time) (e ∷ events)
    by true is rest = absurd (let c = count_by true e events t is in omega arith)
    by false is rest =
        All-cons (λ (x : Event). t < x.time) e events (above e.time t is) (all_later t e.time events (above e.time t is) rest)
behind t m (suc n) (e ∷ events) rise many =
    let parts = and_parts (nat_le m e.time) (never_fall e.time events) rise in
    by (nat_le e.time t) refl parts.1 (behind t e.time n events parts.1)
  where
    by : (b : Bool) → nat_le e.time t ≡ b → never_fall e.time events ≡ true
        → (length (events_until events t) ≤ n → All (λ x. t < x.time) (drop n events)) → All (λ x. t < x.time) (drop n events)
    by true is rest again = again (let c = count_by true e events t is in omega arith)
    by false is rest again = again (let z = none_until t e.time events (above e.time t is) rest in omega arith)

pub instants_part : InstantsPart
instants_part events t n rise = (front t 0 n events rise, behind t 0 n events rise)
