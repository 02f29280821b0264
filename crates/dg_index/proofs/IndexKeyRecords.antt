-- Each record that exists is held.
use Rattle.std.proofs.Common.{◌≡◌, ℕ, zero, suc, ◌+◌, ◌-◌, ◌*◌, ◌/◌, ◌^◌, ◌<◌, ◌≤◌, Bool, true, false, cond, ◌&&◌, ◌||◌, ◌==◌, List, [], ◌∷◌, ◌++◌, map, Some, is_some, refl, sym, ap, subst, ◌∙◌, arith, append_assoc, add-mul, pow-suc, mul_comm, div-mul-le_self, div-lt_iff_lt-mul, mul-le-mul_right, eq-or-lt_of_le, ⊎_elim}
use Rattle.std.specs.Prelude.{nat_lt, nat_le}
use Rattle.std.specs.List.{flat_map}
use Rattle.std.specs.Map.{lookup}
use Rattle.std.proofs.lemmas.Bool.{eq-eqb, ltb-true, ltb-false, le-ltb, lt-leb, leb-true, leb-false, or_right, or_left, and_parts}
use Rattle.std.proofs.lemmas.List.Sums.{sum_by-cons}
use native.Mathlib.Nat.{pow-zero}
use Rattle.dg_history.specs.declared.node.Key.{Key}
use Rattle.dg_history.specs.declared.node.Key.TheVariants as key
use Rattle.dg_history.specs.declared.params.Params.{Params}
use Rattle.dg_history.specs.Keys.{same_key}
use Rattle.dg_index.specs.Hierarchy.{numbers, leaves, children, parent}
use Rattle.dg_index.specs.IndexRecords.{lists_due, deltas_of, deltas_due_at, deltas_due}
use Rattle.dg_index.specs.declared.entry.BatchEntry.{BatchEntry}
use Rattle.dg_index.specs.declared.entry.Entry.{Entry}
use Rattle.dg_index.specs.OpenedIndex.{event_total}
use Rattle.dg_index.specs.IndexKeys.{keys_among, key_exists, among}
use Rattle.dg_index.proofs.HierarchyCounts.{due_from}
use Rattle.dg_index.proofs.IndexRecordColumns.{power_some}

or_assoc : (a b c : Bool) → ((a || b) || c) ≡ (a || (b || c))
or_assoc true b c = refl
or_assoc false b c = refl

pub among_append : (k : Key) (xs ys : List Key) → among k (xs ++ ys) ≡ (among k xs || among k ys)
among_append k [] ys = refl
among_append k (x ∷ xs) ys = ap (λ b. same_key k x || b) (among_append k xs ys) ∙ sym (or_assoc (same_key k x) (among k xs) (among k ys))

among_left : (k : Key) (xs ys : List Key) → among k xs ≡ true → among k (xs ++ ys) ≡ true
among_left k xs ys e = among_append k xs ys ∙ or_left (among k xs) (among k ys) e

among_right : (k : Key) (xs ys : List Key) → among k ys ≡ true → among k (xs ++ ys) ≡ true
among_right k xs ys e = among_append k xs ys ∙ or_right (among k xs) (among k ys) e

-- it is among those of one of the numbers
among_flat : (k : Key) (f : ℕ → List Key) (a n c : ℕ) → a ≤ c → c < a + n → among k (f c) ≡ true → among k (flat_map f (numbers a n)) ≡ true
among_flat k f a zero c le lt e = absurd (omega (arith, le, lt))
among_flat k f a (suc n) c le lt e =
    ⊎_elim (λ (is : a ≡ c). among_left k (f a) (flat_map f (numbers (a + 1) n)) (ap (λ c. among k (f c)) is ∙ e))
    (λ (less : a < c). among_right k (f a) (flat_map f (numbers (a + 1) n)) (among_flat k f (a + 1) n c (omega (arith, less)) (omega (arith, lt)) e)) (eq-or-lt_of_le le)

among_map : (k : Key) (make : ℕ → Key) (a n c : ℕ) → a ≤ c → c < a + n → same_key k (make c) ≡ true → among k (map make (numbers a n)) ≡ true
among_map k make a zero c le lt e = absurd (omega (arith, le, lt))
among_map k make a (suc n) c le lt e =
    ⊎_elim (λ (is : a ≡ c). or_left (same_key k (make a)) (among k (map make (numbers (a + 1) n))) (ap (λ c. same_key k (make c)) is ∙ e))
    (λ (less : a < c). or_right (same_key k (make a)) (among k (map make (numbers (a + 1) n))) (among_map k make (a + 1) n c (omega (arith, less)) (omega (arith, lt)) e)) (eq-or-lt_of_le le)

same_itself : (k : Key) → same_key k k ≡ true
same_itself (key.List m) = eq-eqb m m refl
same_itself (key.Piece m) = eq-eqb m m refl
same_itself (key.Top m) = eq-eqb m m refl
same_itself (key.Down m c) = λ i. eq-eqb m m refl i && eq-eqb c c refl i

-- a height at which there is a node is at most the number of leaves
pub height_low : (k h : ℕ) → 2 ≤ k → h + 1 ≤ k ^ h
height_low k zero le = omega (arith, pow-zero k)
height_low k (suc h) le =
    let below = height_low k h le in
    let twice : k ^ h * 2 ≤ k ^ h * k = subst (λ n. n ≤ k ^ h * k) (mul_comm 2 (k ^ h)) (subst (λ n. 2 * k ^ h ≤ n) (mul_comm k (k ^ h)) (mul-le-mul_right (k ^ h) le)) in
    omega (arith, below, twice, pow-suc k h)

-- the deltas of a node are among those that are due
node_due : (k m after h j : ℕ) (x : Key) → 2 ≤ k → 1 ≤ h → 1 ≤ j → m < j * k ^ h → j * k ^ h ≤ after → among x (deltas_of k h j) ≡ true → among x (deltas_due k m after) ≡ true
node_due k m after h j x two low some lt le e =
    let pos = power_some k h (omega (arith, two)) in
    let due = due_from k m after h j pos lt le in
    let wide : 1 * k ^ h ≤ j * k ^ h = mul-le-mul_right (k ^ h) some in
    among_flat x (deltas_due_at k m after) 1 after h low (omega (arith, height_low k h two, wide, le))
    (among_flat x (deltas_of k h) (m / k ^ h + 1) (after / k ^ h - m / k ^ h) j due.0 (omega (arith, due.0, due.1)) e)

module _ (p : Params) (pos : 0 < p.l) (two : 2 ≤ p.k) where
  -- what is due of one of the batches is held
  held_by : (x : Key) (batches : List BatchEntry) (number count : ℕ) (low : ℕ → Bool)
      → ((m after : ℕ) → low m ≡ false → low after ≡ true → among x (map (λ i. key.List i) (numbers m (after - m)) ++ deltas_due p.k m after) ≡ true)
      → low (leaves p count) ≡ false → low (leaves p (count + event_total batches)) ≡ true → among x (keys_among p number count batches) ≡ true
  held_by x [] number count low due before reached = absurd (let same : false ≡ true = sym before ∙ ap (λ n. low (leaves p n)) (let e : count ≡ count + 0 = omega arith in e) ∙ reached in cc)
  held_by x (b ∷ more) number count low due before reached =
      by (held_by x more (number + 1) (count + b.events) low due) (low (leaves p (count + b.events))) refl
    where
      here : List Key
      here = lists_due p count (count + b.events) ++ (deltas_due p.k (leaves p count) (leaves p (count + b.events)) ++ key.Piece number ∷ [])

      all : count + event_total (b ∷ more) ≡ count + b.events + event_total more
      all = omega (arith, sum_by-cons (λ (b : BatchEntry). b.events) b more)

      by : (low (leaves p (count + b.events)) ≡ false → low (leaves p (count + b.events + event_total more)) ≡ true → among x (keys_among p (number + 1) (count + b.events) more) ≡ true)
          → (t : Bool) → low (leaves p (count + b.events)) ≡ t → among x (keys_among p number count (b ∷ more)) ≡ true
      by later true e =
          among_left x (lists_due p count (count + b.events) ++ (deltas_due p.k (leaves p count) (leaves p (count + b.events)) ++ key.Piece number ∷ [])) (keys_among p (number + 1) (count + b.events) more)
          (ap (among x) (sym (append_assoc (lists_due p count (count + b.events)) (deltas_due p.k (leaves p count) (leaves p (count + b.events))) (key.Piece number ∷ [])))
          ∙ among_left x (lists_due p count (count + b.events) ++ deltas_due p.k (leaves p count) (leaves p (count + b.events))) (key.Piece number ∷ []) (due (leaves p count) (leaves p (count + b.events)) before e))
      by later false e =
          among_right x (lists_due p count (count + b.events) ++ (deltas_due p.k (leaves p count) (leaves p (count + b.events)) ++ key.Piece number ∷ [])) (keys_among p (number + 1) (count + b.events) more)
          (later e (ap (λ n. low (leaves p n)) (sym all) ∙ reached))

  -- a test that numbers of leaves pass from a number on
  none_first : (x : ℕ) → 1 ≤ x → nat_le x (leaves p 0) ≡ false
  none_first x some = lt-leb x (leaves p 0) (omega (arith, zero_leaves))
    where
      zero_leaves : leaves p 0 ≡ 0
      zero_leaves = omega arith

  -- each record of an index of so many events is held
  pub exists_held : (batches : List BatchEntry) (k : Key) → key_exists p (event_total batches) k ≡ true → among k (keys_among p 0 0 batches) ≡ true
  exists_held batches (key.List i) e =
      held_by (key.List i) batches 0 0 (λ n. nat_lt i n)
      (λ m after low high.
      let from : m ≤ i = ltb-false i m low in
      let to : i < after = ltb-true i after high in
      among_left (key.List i) (map (λ i. key.List i) (numbers m (after - m))) (deltas_due p.k m after) (among_map (key.List i) (λ i. key.List i) m (after - m) i from (omega (arith, from, to)) (same_itself (key.List i))))
      (le-ltb i (leaves p 0) (let z : leaves p 0 ≤ i = omega arith in z)) (ap (λ n. nat_lt i (leaves p n)) (let z : 0 + event_total batches ≡ event_total batches = omega arith in z) ∙ e)
  exists_held batches (key.Piece s) e = absurd cc
  exists_held batches (key.Top h) e =
      let parts = and_parts (nat_le 1 h) _ e in
      let low : 1 ≤ h = leb-true 1 h parts.0 in
      held_by (key.Top h) batches 0 0 (λ n. nat_le (p.k ^ h) n)
      (λ m after below high.
      among_right (key.Top h) (map (λ i. key.List i) (numbers m (after - m))) (deltas_due p.k m after)
      (node_due p.k m after h 1 (key.Top h) two low (omega arith) (omega (arith, leb-false (p.k ^ h) m below)) (omega (arith, leb-true (p.k ^ h) after high))
      (or_left (same_key (key.Top h) (key.Top h)) _ (same_itself (key.Top h)))))
      (none_first (p.k ^ h) (power_some p.k h (omega (arith, two)))) (ap (λ n. nat_le (p.k ^ h) (leaves p n)) (let z : 0 + event_total batches ≡ event_total batches = omega arith in z) ∙ parts.1)
  exists_held batches (key.Down h c) e =
      let parts = and_parts (nat_le 1 h) _ e in
      let more = and_parts (nat_le 1 c) _ parts.1 in
      let low : 1 ≤ h = leb-true 1 h parts.0 in
      let some : 1 ≤ c = leb-true 1 c more.0 in
      let j : ℕ = parent p.k c in
      let wide : 0 < p.k = omega (arith, two) in
      let under : (c - 1) / p.k * p.k ≤ c - 1 = div-mul-le_self (c - 1) p.k in
      let over : c - 1 < ((c - 1) / p.k + 1) * p.k = (div-lt_iff_lt-mul wide).0 (let z : (c - 1) / p.k < (c - 1) / p.k + 1 = omega arith in z) in
      let start : (j - 1) * p.k ≡ (c - 1) / p.k * p.k = ap (λ n. n * p.k) (let z : (c - 1) / p.k + 1 - 1 ≡ (c - 1) / p.k = omega arith in z) in
      let pos_node : 1 ≤ j * p.k ^ h = omega (arith, power_some p.k h wide, mul-le-mul_right (p.k ^ h) (let z : 1 ≤ j = omega arith in z)) in
      held_by (key.Down h c) batches 0 0 (λ n. nat_le (j * p.k ^ h) n)
      (λ m after below high.
      among_right (key.Down h c) (map (λ i. key.List i) (numbers m (after - m))) (deltas_due p.k m after)
      (node_due p.k m after h j (key.Down h c) two low (omega arith) (omega (arith, leb-false (j * p.k ^ h) m below)) (leb-true (j * p.k ^ h) after high)
      (among_right (key.Down h c) (cond (j == 1) (key.Top h ∷ []) []) (map (λ c. key.Down h c) (children p.k j))
      (among_map (key.Down h c) (λ c. key.Down h c) ((j - 1) * p.k + 1) p.k c (omega (arith, start, under, some)) (omega (arith, start, over, add-mul ((c - 1) / p.k) 1 p.k)) (same_itself (key.Down h c))))))
      (none_first (j * p.k ^ h) pos_node) (ap (λ n. nat_le (j * p.k ^ h) (leaves p n)) (let z : 0 + event_total batches ≡ event_total batches = omega arith in z) ∙ more.1)

-- where the keys of the records are these, what is held at one of them is something
pub found : (records : List (Key × Entry)) (k : Key) → among k (map (λ (r : Key × Entry). r.0) records) ≡ true → is_some (lookup (same_key k) records) ≡ true
found [] k e = absurd cc
found (r ∷ records) k e = by (found records k) (same_key k r.0) e
  where
    by : (among k (map (λ (r : Key × Entry). r.0) records) ≡ true → is_some (lookup (same_key k) records) ≡ true) → (b : Bool) → (b || among k (map (λ (r : Key × Entry). r.0) records)) ≡ true → is_some (cond b (Some r.1) (lookup (same_key k) records)) ≡ true
    by more true e = refl
    by more false e = more e
