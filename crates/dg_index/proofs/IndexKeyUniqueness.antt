-- The keys of a new segment are held by no earlier one, and each stands once.
use Rattle.std.proofs.Common.{◌≡◌, ℕ, zero, suc, ◌+◌, ◌-◌, ◌*◌, ◌/◌, ◌^◌, ◌<◌, ◌≤◌, Bool, true, false, cond, ◌||◌, ◌==◌, List, [], ◌∷◌, ◌++◌, length, map, refl, sym, ap, subst, ◌∙◌, arith, append_assoc, append-nil, add-mul, pow-suc, mul_comm, div-mul-le_self, mul-le-mul_right, min, le-div_iff_mul-le}
use Rattle.std.specs.List.{flat_map}
use Rattle.std.proofs.lemmas.Bool.{eqb-true}
use Rattle.std.proofs.lemmas.List.Sums.{sum_by-cons}
use Rattle.dg_history.specs.declared.node.Key.{Key}
use Rattle.dg_history.specs.declared.node.Key.TheVariants as key
use Rattle.dg_history.specs.declared.params.Params.{Params}
use Rattle.dg_history.specs.Keys.{same_key}
use Rattle.dg_index.specs.Hierarchy.{numbers, leaves, children, parent}
use Rattle.dg_index.specs.IndexRecords.{lists_due, deltas_of, inner_due, deltas_due_at, deltas_due}
use Rattle.dg_index.specs.declared.entry.BatchEntry.{BatchEntry}
use Rattle.dg_index.specs.OpenedIndex.{event_total}
use Rattle.dg_index.specs.IndexKeys.{keys_among, among, Fresh}
use Rattle.dg_index.proofs.HierarchyCounts.{due_to}
use Rattle.dg_index.proofs.IndexRecordColumns.{Each, each_append, each_flat, each_number, each_map, power_some, parent_is, same_key_exact}
use Rattle.dg_index.proofs.HierarchyStability.{leaves_more}
use Rattle.dg_index.proofs.IndexKeyRecords.{among_append}

-- ---- in one segment: by numbers that rise

module _ (d b e : ℕ) where
  abbrev pub code : Key → ℕ
  code (key.List i) = i
  code (key.Top h) = d + h * b
  code (key.Down h c) = d + h * b + c
  code (key.Piece s) = e

  abbrev pub RisesIn : ℕ → ℕ → List Key → Type 0
  RisesIn low high [] = low ≤ high
  RisesIn low high (k ∷ keys) = (low ≤ code k) × RisesIn (code k + 1) high keys

  rises_from : (low start high : ℕ) (keys : List Key) → low ≤ start → RisesIn start high keys → RisesIn low high keys
  rises_from low start high [] le r = omega (arith, le, r)
  rises_from low start high (k ∷ keys) le r = (omega (arith, le, r.0), r.1)

  rises_to : (low high top : ℕ) (keys : List Key) → high ≤ top → RisesIn low high keys → RisesIn low top keys
  rises_to low high top [] le r = omega (arith, le, r)
  rises_to low high top (k ∷ keys) le r = (r.0, rises_to (code k + 1) high top keys le r.1)

  pub rises_join : (low mid high : ℕ) (xs ys : List Key) → RisesIn low mid xs → RisesIn mid high ys → RisesIn low high (xs ++ ys)
  rises_join low mid high [] ys a r = rises_from low mid high ys a r
  rises_join low mid high (x ∷ xs) ys a r = (a.0, rises_join (code x + 1) mid high xs ys a.1 r)

  rises_flat : (f : ℕ → List Key) (at : ℕ → ℕ) (a n : ℕ) → ((c : ℕ) → a ≤ c → c < a + n → RisesIn (at c) (at (c + 1)) (f c)) → RisesIn (at a) (at (a + n)) (flat_map f (numbers a n))
  rises_flat f at a zero r = subst (λ m. at a ≤ at m) (let z : a ≡ a + 0 = omega arith in z) (omega arith)
  rises_flat f at a (suc n) r =
      subst (λ m. RisesIn (at a) (at m) (flat_map f (numbers a (suc n)))) (let z : a + 1 + n ≡ a + suc n = omega arith in z)
      (rises_join (at a) (at (a + 1)) (at (a + 1 + n)) (f a) (flat_map f (numbers (a + 1) n)) (r a (omega arith) (omega arith)) (rises_flat f at (a + 1) n (λ c le lt. r c (omega (arith, le)) (omega (arith, lt)))))

  rises_map : (make : ℕ → Key) (start : ℕ) (a n : ℕ) → ((c : ℕ) → code (make c) ≡ start + c) → RisesIn (start + a) (start + (a + n)) (map make (numbers a n))
  rises_map make start a zero is = omega arith
  rises_map make start a (suc n) is = (
    omega (arith, is a),
    subst (λ m. RisesIn m (start + (a + suc n)) (map make (numbers (a + 1) n))) (let z : start + (a + 1) ≡ code (make a) + 1 = omega (arith, is a) in z)
        (subst (λ m. RisesIn (start + (a + 1)) m (map make (numbers (a + 1) n))) (let z : start + (a + 1 + n) ≡ start + (a + suc n) = omega arith in z) (rises_map make start (a + 1) n is)),
  )

  -- keys before a number are none of those from it on
  abbrev Under : ℕ → Key → Type 0
  Under n k = code k < n

  not_under : (k : Key) (front : List Key) → Each (Under (code k)) front → among k front ≡ false
  not_under k [] all = refl
  not_under k (x ∷ front) all = by (not_under k front all.1) (same_key k x) refl
    where
      by : among k front ≡ false → (t : Bool) → same_key k x ≡ t → (t || among k front) ≡ false
      by more true is = absurd (omega (arith, all.0, ap code (same_key_exact k x is)))
      by more false is = more

  under_more : (m n : ℕ) (front : List Key) → m ≤ n → Each (Under m) front → Each (Under n) front
  under_more m n [] le all = tt
  under_more m n (x ∷ front) le all = (omega (arith, all.0, le), under_more m n front le all.1)

  pub fresh_rising : (old front keys : List Key) (low high : ℕ) → RisesIn low high keys → Each (Under low) front → Each (λ k. among k old ≡ false) keys → Fresh (old ++ front) keys
  fresh_rising old front [] low high r under new = tt
  fresh_rising old front (k ∷ keys) low high r under new =
      let all = under_more low (code k) front r.0 under in
      let here : among k (old ++ front) ≡ false = among_append k old front ∙ (λ i. new.0 i || not_under k front all i) in
      let next = fresh_rising old (front ++ k ∷ []) keys (code k + 1) high r.1 (each_append (Under (code k + 1)) front (k ∷ []) (under_more (code k) (code k + 1) front (omega arith) all) (omega arith, tt)) new.1 in
      (here, subst (λ (l : List Key). Fresh l keys) (sym (append_assoc old front (k ∷ []))) next)

-- ---- the keys of a segment rise

module _ (k m after : ℕ) (wide : 0 < k) (up : m ≤ after) where
  -- the offset of the deltas of a height, and of the piece
  last_code : ℕ
  last_code = after + (after + 1) * (after + 1)

  index_in_keys : ℕ → ℕ → ℕ
  index_in_keys h j = after + h * (after + 1) + ((j - 1) * k + min (j - 1) 1)

  -- the deltas of one node
  node_rises : (h j : ℕ) → 1 ≤ j → RisesIn after (after + 1) (after + (after + 1) * (after + 1)) (after + h * (after + 1) + ((j - 1) * k + min (j - 1) 1)) (after + h * (after + 1) + ((j + 1 - 1) * k + min (j + 1 - 1) 1)) (deltas_of k h j)
  node_rises h j some = by (j == 1) refl
    where
      start : ℕ
      start = after + h * (after + 1)

      end : after + h * (after + 1) + ((j - 1) * k + 1 + k) ≡ after + h * (after + 1) + ((j + 1 - 1) * k + min (j + 1 - 1) 1)
      end = omega (arith, some, sym (add_one (j - 1)) ∙ ap (λ n. n * k) (let z : j - 1 + 1 ≡ j + 1 - 1 = omega (arith, some) in z))
        where
          add_one : (q : ℕ) → (q + 1) * k ≡ q * k + k
          add_one q = omega (arith, add-mul q 1 k)

      downs : RisesIn after (after + 1) (after + (after + 1) * (after + 1)) (after + h * (after + 1) + ((j - 1) * k + 1)) (after + h * (after + 1) + ((j + 1 - 1) * k + min (j + 1 - 1) 1)) (map (λ c. key.Down h c) (children k j))
      downs = subst (λ n. RisesIn after (after + 1) (after + (after + 1) * (after + 1)) (after + h * (after + 1) + ((j - 1) * k + 1)) n (map (λ c. key.Down h c) (children k j))) end
          (rises_map after (after + 1) (after + (after + 1) * (after + 1)) (λ c. key.Down h c) (after + h * (after + 1)) ((j - 1) * k + 1) k (λ c. refl))

      by : (b : Bool) → (j == 1) ≡ b → RisesIn after (after + 1) (after + (after + 1) * (after + 1)) (after + h * (after + 1) + ((j - 1) * k + min (j - 1) 1)) (after + h * (after + 1) + ((j + 1 - 1) * k + min (j + 1 - 1) 1)) (cond b (key.Top h ∷ []) [] ++ map (λ c. key.Down h c) (children k j))
      by true e =
          let one : j ≡ 1 = eqb-true j 1 e in
          let zero_here : (j - 1) * k ≡ 0 = ap (λ n. (n - 1) * k) one ∙ (let z : 0 * k ≡ 0 = omega arith in z) in
          (omega (arith, zero_here, one), rises_from after (after + 1) (after + (after + 1) * (after + 1)) (after + h * (after + 1) + 1) (after + h * (after + 1) + ((j - 1) * k + 1)) _ (map (λ c. key.Down h c) (children k j)) (omega arith) downs)
      by false e = rises_from after (after + 1) (after + (after + 1) * (after + 1)) (after + h * (after + 1) + ((j - 1) * k + min (j - 1) 1)) (after + h * (after + 1) + ((j - 1) * k + 1)) _ (map (λ c. key.Down h c) (children k j)) (omega arith) downs

  height_rises : (h : ℕ) → 1 ≤ h → RisesIn after (after + 1) (after + (after + 1) * (after + 1)) (after + h * (after + 1)) (after + (h + 1) * (after + 1)) (deltas_due_at k m after h)
  height_rises h low =
      let q : ℕ = m / k ^ h in
      let n : ℕ = after / k ^ h - q in
      let pos = power_some k h wide in
      let power : k ≤ k ^ h = power_wide h low in
      let all : (q + n) * k ≤ after = few (q + n) (sum q (after / k ^ h) (div_up (k ^ h) pos)) power in
      let r = rises_flat after (after + 1) (after + (after + 1) * (after + 1)) (deltas_of k h) (λ j. after + h * (after + 1) + ((j - 1) * k + min (j - 1) 1)) (q + 1) n (λ j from to. node_rises h j (omega (arith, from))) in
      let over : after + h * (after + 1) + ((q + 1 + n - 1) * k + min (q + 1 + n - 1) 1) ≤ after + (h + 1) * (after + 1) = omega (arith, all, ap (λ x. x * k) (let z : q + 1 + n - 1 ≡ q + n = omega arith in z), add-mul h 1 (after + 1)) in
      rises_from after (after + 1) (after + (after + 1) * (after + 1)) (after + h * (after + 1)) (after + h * (after + 1) + ((q + 1 - 1) * k + min (q + 1 - 1) 1)) (after + (h + 1) * (after + 1)) (deltas_due_at k m after h) (omega arith)
      (rises_to after (after + 1) (after + (after + 1) * (after + 1)) _ _ (after + (h + 1) * (after + 1)) (deltas_due_at k m after h) over r)
    where
      power_wide : (h : ℕ) → 1 ≤ h → k ≤ k ^ h
      power_wide zero low = absurd (omega (arith, low))
      power_wide (suc h) low =
          let one : 1 * k ≤ k ^ h * k = mul-le-mul_right k (power_some k h wide) in
          omega (arith, one, pow-suc k h)

      div_up : (x : ℕ) → 0 < x → m / x ≤ after / x
      div_up x pos = (le-div_iff_mul-le pos).1 (omega (arith, div-mul-le_self m x, up))

      sum : (q r : ℕ) → q ≤ r → q + (r - q) ≡ r
      sum q r le = omega (arith, le)

      few : (x : ℕ) → x ≡ after / k ^ h → k ≤ k ^ h → x * k ≤ after
      few x is power =
          let a : x * k ≤ x * k ^ h = subst (λ n. n ≤ x * k ^ h) (mul_comm k x) (subst (λ n. k * x ≤ n) (mul_comm (k ^ h) x) (mul-le-mul_right x power)) in
          omega (arith, a, ap (λ n. n * k ^ h) is, div-mul-le_self after (k ^ h))

  deltas_rise : RisesIn after (after + 1) (after + (after + 1) * (after + 1)) (after + 1 * (after + 1)) (after + (1 + after) * (after + 1)) (deltas_due k m after)
  deltas_rise =
      rises_flat after (after + 1) (after + (after + 1) * (after + 1)) (deltas_due_at k m after) (λ h. after + h * (after + 1)) 1 after (λ h from to. height_rises h from)

  -- the lists, the deltas and the piece
  pub segment_rises : (number : ℕ) → RisesIn after (after + 1) (after + (after + 1) * (after + 1)) 0 (after + (after + 1) * (after + 1) + 1) (map (λ i. key.List i) (numbers m (after - m)) ++ (deltas_due k m after ++ key.Piece number ∷ []))
  segment_rises number =
      let b : ℕ = after + 1 in
      let e : ℕ = after + (after + 1) * (after + 1) in
      let lists = rises_map after b e (λ i. key.List i) 0 m (after - m) (λ c. let z : c ≡ 0 + c = omega arith in z) in
      let upto : 0 + (m + (after - m)) ≡ after = omega (arith, up) in
      rises_join after b e 0 after (e + 1) (map (λ i. key.List i) (numbers m (after - m))) (deltas_due k m after ++ key.Piece number ∷ [])
      (rises_from after b e 0 (0 + m) after (map (λ i. key.List i) (numbers m (after - m))) (omega arith) (subst (λ x. RisesIn after b e (0 + m) x (map (λ i. key.List i) (numbers m (after - m)))) upto lists))
      (rises_from after b e after (after + 1 * b) (e + 1) (deltas_due k m after ++ key.Piece number ∷ []) (omega arith)
      (rises_join after b e (after + 1 * b) e (e + 1) (deltas_due k m after) (key.Piece number ∷ []) (subst (λ x. RisesIn after b e (after + 1 * b) (after + x * b) (deltas_due k m after)) (let z : 1 + after ≡ after + 1 = omega arith in z) deltas_rise) (omega arith, omega arith)))

-- ---- against earlier segments: by the leaves at which a record is made

-- the record is made with so many leaves and segments, or before
abbrev IsMade : ℕ → ℕ → ℕ → Key → Type 0
IsMade k number m (key.List i) = i < m
IsMade k number m (key.Piece s) = s < number
IsMade k number m (key.Top h) = k ^ h ≤ m
IsMade k number m (key.Down h c) = parent k c * k ^ h ≤ m

abbrev IsLater : ℕ → ℕ → ℕ → Key → Type 0
IsLater k number m (key.List i) = m ≤ i
IsLater k number m (key.Piece s) = number ≤ s
IsLater k number m (key.Top h) = m < k ^ h
IsLater k number m (key.Down h c) = m < parent k c * k ^ h

clash : (k number m : ℕ) (x : Key) → IsMade k number m x → IsLater k number m x → ⊥
clash k number m (key.List i) a b = absurd (omega (arith, a, b))
clash k number m (key.Piece i) a b = absurd (omega (arith, a, b))
clash k number m (key.Top i) a b = absurd (omega (arith, a, b))
clash k number m (key.Down h c) a b = absurd (omega (arith, a, b))

later_new : (k number m : ℕ) (x : Key) (old : List Key) → IsLater k number m x → Each (IsMade k number m) old → among x old ≡ false
later_new k number m x [] late all = refl
later_new k number m x (y ∷ old) late all = by (later_new k number m x old late all.1) (same_key x y) refl
  where
    by : among x old ≡ false → (t : Bool) → same_key x y ≡ t → (t || among x old) ≡ false
    by more true is = absurd (clash k number m y all.0 (subst (IsLater k number m) (same_key_exact x y is) late))
    by more false is = more

all_later_new : (k number m : ℕ) (keys old : List Key) → Each (IsLater k number m) keys → Each (IsMade k number m) old → Each (λ x. among x old ≡ false) keys
all_later_new k number m [] old late all = tt
all_later_new k number m (x ∷ keys) old late all = (later_new k number m x old late.0 all, all_later_new k number m keys old late.1 all)

made_more : (k a b m n : ℕ) (keys : List Key) → a ≤ b → m ≤ n → Each (IsMade k a m) keys → Each (IsMade k b n) keys
made_more k a b m n [] le up all = tt
made_more k a b m n (x ∷ keys) le up all = (one x all.0, made_more k a b m n keys le up all.1)
  where
    one : (x : Key) → IsMade k a m x → IsMade k b n x
    one (key.List i) h = omega (arith, h, up)
    one (key.Piece i) h = omega (arith, h, le)
    one (key.Top i) h = omega (arith, h, up)
    one (key.Down i c) h = omega (arith, h, up)

module _ (k m after number : ℕ) (wide : 0 < k) where
  -- what holds of the deltas of each node that is due holds of all deltas that are due
  each_due : (P : Key → Type 0) → ((h j : ℕ) → 1 ≤ j → m < j * k ^ h → j * k ^ h ≤ after → Each P (deltas_of k h j)) → Each P (deltas_due k m after)
  each_due P f =
      each_flat P (deltas_due_at k m after) (numbers 1 after) (each_number (λ h. Each P (deltas_due_at k m after h)) 1 after (λ h from to. at h))
    where
      node : (h j : ℕ) → m / k ^ h + 1 ≤ j → j < m / k ^ h + 1 + (after / k ^ h - m / k ^ h) → Each P (deltas_of k h j)
      node h j low high =
          let due = due_to k m after h j (power_some k h wide) low (omega (arith, low, high)) in
          f h j (omega (arith, low)) due.0 due.1

      at : (h : ℕ) → Each P (deltas_due_at k m after h)
      at h = each_flat P (deltas_of k h) (inner_due k m after h) (each_number (λ j. Each P (deltas_of k h j)) (m / k ^ h + 1) (after / k ^ h - m / k ^ h) (λ j low high. node h j low high))

  node_each : (P : Key → Type 0) (h j : ℕ) → (j ≡ 1 → P (key.Top h)) → ((c : ℕ) → parent k c ≡ j → P (key.Down h c)) → 1 ≤ j → Each P (deltas_of k h j)
  node_each P h j top down some =
      each_append P (cond (j == 1) (key.Top h ∷ []) []) (map (λ c. key.Down h c) (children k j)) (by (j == 1) refl)
      (each_map P (λ c. key.Down h c) (children k j) (each_number (λ c. P (key.Down h c)) ((j - 1) * k + 1) k (λ c from to. down c (parent_is k j c wide some from to))))
    where
      by : (b : Bool) → (j == 1) ≡ b → Each P (cond b (key.Top h ∷ []) [])
      by true e = (top (eqb-true j 1 e), tt)
      by false e = tt

  later_all : m ≤ after → Each (IsLater k number m) (map (λ i. key.List i) (numbers m (after - m)) ++ (deltas_due k m after ++ key.Piece number ∷ []))
  later_all up =
      each_append (IsLater k number m) (map (λ i. key.List i) (numbers m (after - m))) (deltas_due k m after ++ key.Piece number ∷ [])
      (each_map (IsLater k number m) (λ i. key.List i) (numbers m (after - m)) (each_number (λ i. m ≤ i) m (after - m) (λ c from to. from)))
      (each_append (IsLater k number m) (deltas_due k m after) (key.Piece number ∷ [])
      (each_due (IsLater k number m) (λ h j some low high. node_each (IsLater k number m) h j (λ one. omega (arith, low, ap (λ n. n * k ^ h) one)) (λ c is. omega (arith, low, ap (λ n. n * k ^ h) is)) some))
      (omega arith, tt))

  made_all : m ≤ after → Each (IsMade k (number + 1) after) (map (λ i. key.List i) (numbers m (after - m)) ++ (deltas_due k m after ++ key.Piece number ∷ []))
  made_all up =
      each_append (IsMade k (number + 1) after) (map (λ i. key.List i) (numbers m (after - m))) (deltas_due k m after ++ key.Piece number ∷ [])
      (each_map (IsMade k (number + 1) after) (λ i. key.List i) (numbers m (after - m)) (each_number (λ i. i < after) m (after - m) (λ c from to. omega (arith, to, up))))
      (each_append (IsMade k (number + 1) after) (deltas_due k m after) (key.Piece number ∷ [])
      (each_due (IsMade k (number + 1) after) (λ h j some low high. node_each (IsMade k (number + 1) after) h j (λ one. omega (arith, high, ap (λ n. n * k ^ h) one)) (λ c is. omega (arith, high, ap (λ n. n * k ^ h) is)) some))
      (omega arith, tt))

module _ (p : Params) (pos : 0 < p.l) (wide : 0 < p.k) where
  keys_made : (batches : List BatchEntry) (number count : ℕ) → Each (IsMade p.k (number + length batches) (leaves p (count + event_total batches))) (keys_among p number count batches)
  keys_made [] number count = tt
  keys_made (b ∷ more) number count =
      let m : ℕ = leaves p count in
      let after : ℕ = leaves p (count + b.events) in
      let total : count + event_total (b ∷ more) ≡ count + b.events + event_total more = omega (arith, sum_by-cons (λ (b : BatchEntry). b.events) b more) in
      let later : after ≤ leaves p (count + event_total (b ∷ more)) = subst (λ n. after ≤ leaves p n) (sym total) (leaves_more p.l (count + b.events) (event_total more) pos) in
      let one = made_more p.k (number + 1) (number + length (b ∷ more)) after (leaves p (count + event_total (b ∷ more))) (lists_due p count (count + b.events) ++ (deltas_due p.k m after ++ key.Piece number ∷ [])) (omega arith) later
      (made_all p.k m after number wide (leaves_more p.l count b.events pos)) in
      let rest = made_more p.k (number + 1 + length more) (number + length (b ∷ more)) (leaves p (count + b.events + event_total more)) (leaves p (count + event_total (b ∷ more))) (keys_among p (number + 1) (count + b.events) more) (omega arith)
      (subst (λ n. leaves p (count + b.events + event_total more) ≤ leaves p n) (sym total) (omega arith)) (keys_made more (number + 1) (count + b.events)) in
      each_append (IsMade p.k (number + length (b ∷ more)) (leaves p (count + event_total (b ∷ more)))) (lists_due p count (count + b.events) ++ (deltas_due p.k m after ++ key.Piece number ∷ [])) (keys_among p (number + 1) (count + b.events) more) one rest

  -- the keys of the next segment are new, each of them
  pub fresh_next : (batches : List BatchEntry) (events : ℕ)
      → Fresh (keys_among p 0 0 batches) (lists_due p (event_total batches) (event_total batches + events) ++ (deltas_due p.k (leaves p (event_total batches)) (leaves p (event_total batches + events)) ++ key.Piece (length batches) ∷ []))
  fresh_next batches events =
      let n : ℕ = event_total batches in
      let m : ℕ = leaves p n in
      let after : ℕ = leaves p (n + events) in
      let up : m ≤ after = leaves_more p.l n events pos in
      let keys : List Key = lists_due p n (n + events) ++ (deltas_due p.k m after ++ key.Piece (length batches) ∷ []) in
      let old : List Key = keys_among p 0 0 batches in
      let made = made_more p.k (0 + length batches) (length batches) (leaves p (0 + n)) m old (omega arith) (subst (λ c. leaves p (0 + n) ≤ leaves p c) (let z : 0 + n ≡ n = omega arith in z) (omega arith)) (keys_made batches 0 0) in
      let new = all_later_new p.k (length batches) m keys old (later_all p.k m after (length batches) wide up) made in
      subst (λ (l : List Key). Fresh l keys) (append-nil old)
      (fresh_rising after (after + 1) (after + (after + 1) * (after + 1)) old [] keys 0 (after + (after + 1) * (after + 1) + 1) (segment_rises p.k m after wide up (length batches)) tt new)
