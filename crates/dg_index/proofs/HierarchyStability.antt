-- What later events leave as it is, and leaves by the events behind the last one.
use Rattle.std.proofs.Common.{◌≡◌, ℕ, zero, suc, ◌+◌, ◌-◌, ◌*◌, ◌/◌, ◌^◌, ◌<◌, ◌≤◌, List, [], ◌∷◌, ◌++◌, length, map, take, drop, refl, sym, ap, subst, ◌∙◌, arith, length-append, le-div_iff_mul-le, pow-suc, mul_comm, mul_assoc, add-mul, mul-le-mul_right, div-mul-le_self, take-add, drop-drop}
use lib.Seq.{take-append-le, drop-append-le}
use native.Mathlib.Nat.{pow-zero}
use Rattle.dg_graph.specs.declared.event.Event.{Event}
use Rattle.dg_history.specs.declared.params.Params.{Params}
use Rattle.dg_history.specs.History.{Batch}
use Rattle.dg_graph.specs.Replay.{replay, replay_from}
use Rattle.dg_graph.proofs.ExactEvents.{replay_append}
use Rattle.dg_index.specs.Hierarchy.{numbers, leaves, set_at}
use Rattle.dg_graph.specs.DifferentialFunction.{combined}
use Rattle.dg_index.specs.IndexRecords.{closed_list, recent_of, piece_of}

-- ---- the events of the leaves

pub leaf_within : (l n j : ℕ) → 0 < l → j ≤ n / l → j * l ≤ n
leaf_within l n j pos le = (le-div_iff_mul-le pos).0 le

pub leaves_more : (l n more : ℕ) → 0 < l → n / l ≤ (n + more) / l
leaves_more l n more pos = (le-div_iff_mul-le pos).1 (omega (arith, div-mul-le_self n l))

pub map_numbers : {A : Type 0} (f g : ℕ → A) (a n : ℕ) → ((c : ℕ) → a ≤ c → c < a + n → f c ≡ g c) → map f (numbers a n) ≡ map g (numbers a n)
map_numbers f g a zero same = refl
map_numbers f g a (suc n) same =
    λ i. same a (omega arith) (omega arith) i ∷ map_numbers f g (a + 1) n (λ c le lt. same c (omega (arith, le)) (omega (arith, lt))) i

-- a child's last leaf is not behind that of its node
pub child_within : (k h j c p m : ℕ) → 1 ≤ j → c < (j - 1) * k + 1 + k → p ≡ k ^ h → j * k ^ suc h ≤ m → c * p ≤ m
child_within k h j c p m some lt e le =
    let all : (j - 1) * k + k ≡ j * k = sym (add_one (j - 1) k) ∙ ap (λ n. n * k) (let z : j - 1 + 1 ≡ j = omega (arith, some) in z) in
    let few : c ≤ j * k = omega (arith, lt, all) in
    let wide : c * p ≤ j * k * p = mul-le-mul_right p few in
    let same : j * k * p ≡ j * k ^ suc h = ap (λ n. j * k * n) e ∙ mul_assoc j k (k ^ h) ∙ ap (λ n. j * n) (mul_comm k (k ^ h) ∙ sym (pow-suc k h)) in
    omega (arith, wide, same, le)
  where
    add_one : (q k : ℕ) → (q + 1) * k ≡ q * k + k
    add_one q k = omega (arith, add-mul q 1 k)

-- later events do not change the set of a node that is there
pub stable : (p : Params) (events more : List Event) → 0 < p.l → (h j : ℕ) → 1 ≤ j → j * p.k ^ h ≤ leaves p (length events) → set_at p (events ++ more) h j ≡ set_at p events h j
stable p events more pos zero j some le =
    let here : j * 1 ≤ leaves p (length events) = subst (λ n. j * n ≤ leaves p (length events)) (pow_zero p.k) le in
    ap replay (take-append-le (j * p.l) events more (leaf_within p.l (length events) j pos (omega (arith, here))))
  where
    pow_zero : (k : ℕ) → k ^ 0 ≡ 1
    pow_zero k = pow-zero k
stable p events more pos (suc h) j some le =
    ap (combined p.function) (map_numbers (set_at p (events ++ more) h) (set_at p events h) ((j - 1) * p.k + 1) p.k
    (λ c from to. stable p events more pos h c (omega (arith, from)) (child_within p.k h j c (p.k ^ h) (leaves p (length events)) some to refl le)))

-- ---- leaves by the events behind an earlier one

-- a leaf by one before it and the events between them
pub leaf_on : (p : Params) (events : List Event) (m i : ℕ) → set_at p events 0 (m + i) ≡ replay_from (set_at p events 0 m) (take (i * p.l) (drop (m * p.l) events))
leaf_on p events m i =
    ap (λ n. replay (take n events)) (add-mul m i p.l)
    ∙ ap replay (take-add (m * p.l) (i * p.l) events)
    ∙ replay_append [] (take (m * p.l) events) (take (i * p.l) (drop (m * p.l) events))

-- the next leaf by its list
pub leaf_next : (p : Params) (events : List Event) (m : ℕ) → set_at p events 0 (m + 1) ≡ replay_from (set_at p events 0 m) (closed_list p events m)
leaf_next p events m = leaf_on p events m 1 ∙ ap (λ n. replay_from (set_at p events 0 m) (take n (drop (m * p.l) events))) (let e : 1 * p.l ≡ p.l = omega arith in e)

-- the events behind the last leaf, with those of a batch
pub recent_more : (p : Params) (before events : List Event) → 0 < p.l → drop (leaves p (length before) * p.l) (before ++ events) ≡ recent_of p before ++ events
recent_more p before events pos = drop-append-le (leaves p (length before) * p.l) before events (div-mul-le_self (length before) p.l)

-- a new list is cut from them
pub list_cut : (p : Params) (before events : List Event) (i : ℕ) → 0 < p.l → closed_list p (before ++ events) (leaves p (length before) + i) ≡ take p.l (drop (i * p.l) (recent_of p before ++ events))
list_cut p before events i pos =
    ap (take p.l) (ap (λ n. drop n (before ++ events)) (add-mul (leaves p (length before)) i p.l)
    ∙ sym (drop-drop (i * p.l) (leaves p (length before) * p.l) (before ++ events))
    ∙ ap (drop (i * p.l)) (recent_more p before events pos))

-- the events behind the last leaf, once the batch is there: its piece, behind the recent ones where it closes no list
pub recent_closed : (p : Params) (before : List Event) (b : Batch) → 0 < p.l → length before ≤ leaves p (length before + length b.events) * p.l → recent_of p (before ++ b.events) ≡ piece_of p before b
recent_closed p before b pos le =
    let n : ℕ = leaves p (length before + length b.events) * p.l in
    ap (λ c. drop (leaves p c * p.l) (before ++ b.events)) (length-append before b.events)
    ∙ ap (λ c. drop c (before ++ b.events)) (let e : n ≡ length before + (n - length before) = omega (arith, le) in e)
    ∙ sym (drop-drop (n - length before) (length before) (before ++ b.events))
    ∙ ap (drop (n - length before)) (drop_front before b.events)
  where
    drop_front : (xs ys : List Event) → drop (length xs) (xs ++ ys) ≡ ys
    drop_front xs ys = drop-append-le (length xs) xs ys (omega arith) ∙ ap (λ l. l ++ ys) (none xs)
      where
        none : (xs : List Event) → drop (length xs) xs ≡ []
        none [] = refl
        none (x ∷ xs) = none xs

pub recent_kept : (p : Params) (before : List Event) (b : Batch) → 0 < p.l → leaves p (length before + length b.events) ≡ leaves p (length before) → (recent_of p (before ++ b.events) ≡ recent_of p before ++ b.events) × (piece_of p before b ≡ b.events)
recent_kept p before b pos e =
    let le : leaves p (length before) * p.l ≤ length before = div-mul-le_self (length before) p.l in (
      ap (λ c. drop (leaves p c * p.l) (before ++ b.events)) (length-append before b.events) ∙ ap (λ m. drop (m * p.l) (before ++ b.events)) e ∙ recent_more p before b.events pos,
      ap (λ m. drop (m * p.l - length before) b.events) e ∙ ap (λ n. drop n b.events) (let z : leaves p (length before) * p.l - length before ≡ 0 = omega (arith, le) in z),
    )
