-- Where events may be cut, by the times on both sides; and the greatest such cut.
use Rattle.std.proofs.Common.{◌≡◌, ℕ, zero, suc, ◌-◌, ◌<◌, ◌≤◌, Bool, true, false, cond, List, [], ◌∷◌, length, take, drop, refl, sym, ap, ◌∙◌, arith}
use Rattle.std.specs.Prelude.{nat_lt, slice_index_or}
use Rattle.dg_graph.specs.declared.event.Event.{Event}
use Rattle.dg_history.specs.History.{last_time_from}
use Rattle.dg_partition.specs.Cuts.{greatest, may_end, starts_later}

last_at : (e : Event) (events : List Event) (n : ℕ) (d : Event) → n ≤ length events → last_time_from e.time (take n events) ≡ (slice_index_or (e ∷ events) n d).time
last_at e events zero d le = refl
last_at e [] (suc n) d le = absurd (omega (arith, le))
last_at e (x ∷ events) (suc n) d le = last_at x events n d (omega (arith, le))

later_at : (last : ℕ) (events : List Event) (n : ℕ) (d : Event) → n < length events → starts_later last (drop n events) ≡ nat_lt last (slice_index_or events n d).time
later_at last [] n d le = absurd (omega (arith, le))
later_at last (e ∷ events) zero d le = refl
later_at last (e ∷ events) (suc n) d le = later_at last events n d (omega (arith, le))

pub may_end_at : (events : List Event) (n : ℕ) (d : Event) → 1 ≤ n → n < length events
    → nat_lt (slice_index_or events (n - 1) d).time (slice_index_or events n d).time ≡ may_end events n
may_end_at events zero d some le = absurd (omega (arith, some))
may_end_at [] (suc n) d some le = absurd (omega (arith, le))
may_end_at (e ∷ events) (suc n) d some le =
    let one : suc n - 1 ≡ n = omega arith in
    (λ i. nat_lt (slice_index_or (e ∷ events) (one i) d).time (slice_index_or events n d).time)
    ∙ ap (λ t. nat_lt t (slice_index_or events n d).time) (sym (last_at e events n d (omega (arith, le))))
    ∙ sym (later_at (last_time_from e.time (take n events)) events n d (omega (arith, le)))

-- none is left
pub may_end_last : (events : List Event) (n : ℕ) → n ≡ length events → may_end events n ≡ true
may_end_last [] n is = ap (may_end []) is
may_end_last (e ∷ events) n is = ap (may_end (e ∷ events)) is ∙ ap (starts_later (last_time_from e.time (take (length events) events))) (none events)
  where
    none : (events : List Event) → drop (length events) events ≡ []
    none [] = refl
    none (x ∷ events) = none events

-- ---- the greatest cut

pub greatest_here : (t : ℕ → Bool) (n : ℕ) → t n ≡ true → 0 < n → greatest t n ≡ n
greatest_here t zero is some = absurd (omega (arith, some))
greatest_here t (suc n) is some = ap (λ b. cond b (suc n) (greatest t n)) is

pub greatest_less : (t : ℕ → Bool) (n : ℕ) → t n ≡ false → 0 < n → greatest t (n - 1) ≡ greatest t n
greatest_less t zero is some = absurd (omega (arith, some))
greatest_less t (suc n) is some = ap (greatest t) (let one : suc n - 1 ≡ n = omega arith in one) ∙ sym (ap (λ b. cond b (suc n) (greatest t n)) is)
