-- The tops and downs of an index, kind by kind, are those in the order of keys.
use Rattle.std.proofs.Common.{◌≡◌, ℕ, zero, suc, ◌+◌, ◌-◌, ◌*◌, ◌/◌, ◌^◌, ◌<◌, ◌≤◌, Bool, true, false, cond, ◌==◌, List, [], ◌∷◌, ◌++◌, Option, Some, None, length, map, filter, nat_le, refl, sym, ◌∙◌, ap, arith, length-append, div-lt_iff_lt-mul, le-div_iff_mul-le}
use Rattle.std.specs.List.{flat_map}
use Rattle.std.proofs.lemmas.Bool.{ne_eqb, leb-true, leb-false, le-leb, lt-leb}
use Rattle.std.proofs.lemmas.List.{length-map, map-append}
use Rattle.std.proofs.lemmas.List.Elements.{filter-append}
use Rattle.dg_graph.specs.declared.element.Column.{Column}
use Rattle.dg_graph.specs.declared.event.Event.{Event}
use Rattle.dg_history.specs.declared.node.Key.{Key}
use Rattle.dg_history.specs.declared.node.Key.TheVariants as key
use Rattle.dg_history.specs.declared.params.Params.{Params}
use Rattle.dg_index.specs.FileOfHistory.{stored}
use Rattle.dg_index.specs.Hierarchy.{children, leaves, numbers}
use Rattle.dg_index.specs.IndexRecords.{deltas_due, deltas_due_at, deltas_of, heights, inner_due, lists_due, record_among}
use Rattle.dg_index.specs.OpenedIndex.{Opened}
use Rattle.dg_index.proofs.HierarchyCounts.{children_follow, numbers_length}
use Rattle.dg_index.proofs.IndexRecordColumns.{power_some}
use Rattle.dg_sound.specs.Soundness.{delta_keys, first_wrong, or_later, record_total, wrong_column}
use Rattle.dg_verify.specs.declared.deltas.DeltaKind.{DeltaKind}
use Rattle.dg_verify.specs.declared.deltas.DeltaKind.TheVariants as delta
use Rattle.dg_verify.specs.Deltas.{first_unlike, has_kind}

filter_flat : (t : Key → Bool) (f : ℕ → List Key) (xs : List ℕ) → filter t (flat_map f xs) ≡ flat_map (λ x. filter t (f x)) xs
filter_flat t f [] = refl
filter_flat t f (x ∷ xs) = filter-append t (f x) (flat_map f xs) ∙ ap (λ (l : List Key). filter t (f x) ++ l) (filter_flat t f xs)

alike : (f g : ℕ → List Key) → ((x : ℕ) → f x ≡ g x) → (xs : List ℕ) → flat_map f xs ≡ flat_map g xs
alike f g same [] = refl
alike f g same (x ∷ xs) = λ i. same x i ++ alike f g same xs i

-- ---- the deltas of one node

no_tops : (h : ℕ) (cs : List ℕ) → filter (has_kind delta.Top) (map (λ c. key.Down h c) cs) ≡ []
no_tops h [] = refl
no_tops h (c ∷ cs) = no_tops h cs

all_downs : (h : ℕ) (cs : List ℕ) → filter (has_kind delta.Down) (map (λ c. key.Down h c) cs) ≡ map (λ c. key.Down h c) cs
all_downs h [] = refl
all_downs h (c ∷ cs) = ap (λ (l : List Key). key.Down h c ∷ l) (all_downs h cs)

tops_of : (k h j : ℕ) → filter (has_kind delta.Top) (deltas_of k h j) ≡ cond (j == 1) (key.Top h ∷ []) []
tops_of k h j =
    filter-append (has_kind delta.Top) (cond (j == 1) (key.Top h ∷ []) []) (map (λ c. key.Down h c) (children k j))
    ∙ (λ i. by (j == 1) i ++ no_tops h (children k j) i) ∙ none (j == 1)
  where
    by : (b : Bool) → filter (has_kind delta.Top) (cond b (key.Top h ∷ []) []) ≡ cond b (key.Top h ∷ []) []
    by true = refl
    by false = refl

    none : (b : Bool) → cond b (key.Top h ∷ []) [] ++ [] ≡ cond b (key.Top h ∷ []) []
    none true = refl
    none false = refl

downs_of : (k h j : ℕ) → filter (has_kind delta.Down) (deltas_of k h j) ≡ map (λ c. key.Down h c) (children k j)
downs_of k h j =
    filter-append (has_kind delta.Down) (cond (j == 1) (key.Top h ∷ []) []) (map (λ c. key.Down h c) (children k j))
    ∙ (λ i. by (j == 1) i ++ all_downs h (children k j) i)
  where
    by : (b : Bool) → filter (has_kind delta.Down) (cond b (key.Top h ∷ []) []) ≡ []
    by true = refl
    by false = refl

-- ---- the deltas of one height

later_tops : (h a n : ℕ) → 2 ≤ a → flat_map (λ j. cond (j == 1) (key.Top h ∷ []) []) (numbers a n) ≡ []
later_tops h a zero le = refl
later_tops h a (suc n) le =
    λ i. cond (ne_eqb a 1 (λ e. absurd (omega (arith, e, le))) i) (key.Top h ∷ []) [] ++ later_tops h (a + 1) n (omega (arith, le)) i

tops_at : (k h n : ℕ) → filter (has_kind delta.Top) (flat_map (deltas_of k h) (numbers 1 n)) ≡ cond (nat_le 1 n) (key.Top h ∷ []) []
tops_at k h zero = refl
tops_at k h (suc n) =
    filter_flat (has_kind delta.Top) (deltas_of k h) (numbers 1 (suc n))
    ∙ alike (λ j. filter (has_kind delta.Top) (deltas_of k h j)) (λ j. cond (j == 1) (key.Top h ∷ []) []) (tops_of k h) (numbers 1 (suc n))
    ∙ ap (λ (l : List Key). key.Top h ∷ l) (later_tops h 2 n (omega arith))
    ∙ ap (λ b. cond b (key.Top h ∷ []) []) (sym (le-leb 1 (suc n) (omega arith)))

flat_of_map : (h : ℕ) (f : ℕ → List ℕ) (xs : List ℕ) → flat_map (λ j. map (λ c. key.Down h c) (f j)) xs ≡ map (λ c. key.Down h c) (flat_map f xs)
flat_of_map h f [] = refl
flat_of_map h f (x ∷ xs) = ap (λ (l : List Key). map (λ c. key.Down h c) (f x) ++ l) (flat_of_map h f xs) ∙ sym (map-append (λ c. key.Down h c) (f x) (flat_map f xs))

downs_at : (k h n : ℕ) → filter (has_kind delta.Down) (flat_map (deltas_of k h) (numbers 1 n)) ≡ map (λ c. key.Down h c) (numbers 1 (n * k))
downs_at k h n =
    filter_flat (has_kind delta.Down) (deltas_of k h) (numbers 1 n)
    ∙ alike (λ j. filter (has_kind delta.Down) (deltas_of k h j)) (λ j. map (λ c. key.Down h c) (children k j)) (downs_of k h) (numbers 1 n)
    ∙ flat_of_map h (children k) (numbers 1 n)
    ∙ ap (map (λ c. key.Down h c)) (children_follow k 0 n ∙ ap (λ a. numbers a (n * k)) (let e : 0 * k + 1 ≡ 1 = omega arith in e))

from_none : (k m h : ℕ) → inner_due k 0 m h ≡ numbers 1 (m / k ^ h)
from_none k m h =
    let none : 0 / k ^ h ≡ 0 = omega arith in
    let few : m / k ^ h - 0 / k ^ h ≡ m / k ^ h = omega (arith, none) in
    let start : 0 / k ^ h + 1 ≡ 1 = omega (arith, none) in
    λ i. numbers (start i) (few i)

-- ---- the deltas of all heights

module _ (k m : ℕ) (wide : 0 < k) where
  same_test : (h : ℕ) → nat_le 1 (m / k ^ h) ≡ nat_le (k ^ h) m
  same_test h = by (nat_le (k ^ h) m) refl
    where
      pos : 0 < k ^ h
      pos = power_some k h wide

      by : (b : Bool) → nat_le (k ^ h) m ≡ b → nat_le 1 (m / k ^ h) ≡ b
      by true e =
          le-leb 1 (m / k ^ h) ((le-div_iff_mul-le pos).1 (let z : 1 * k ^ h ≤ m = omega (arith, leb-true (k ^ h) m e) in z))
      by false e =
          let lt : m / k ^ h < 1 = (div-lt_iff_lt-mul pos).1 (let z : m < 1 * k ^ h = omega (arith, leb-false (k ^ h) m e) in z) in
          lt-leb 1 (m / k ^ h) lt

  kept_tops : (hs : List ℕ) → flat_map (λ h. cond (nat_le 1 (m / k ^ h)) (key.Top h ∷ []) []) hs ≡ map (λ h. key.Top h) (filter (λ h. nat_le (k ^ h) m) hs)
  kept_tops [] = refl
  kept_tops (h ∷ hs) =
      (λ i. cond (same_test h i) (key.Top h ∷ []) [] ++ kept_tops hs i) ∙ by (nat_le (k ^ h) m)
    where
      by : (b : Bool) → cond b (key.Top h ∷ []) [] ++ map (λ h. key.Top h) (filter (λ h. nat_le (k ^ h) m) hs)
          ≡ map (λ h. key.Top h) (cond b (h ∷ filter (λ h. nat_le (k ^ h) m) hs) (filter (λ h. nat_le (k ^ h) m) hs))
      by true = refl
      by false = refl

  kept_downs : (hs : List ℕ) → flat_map (λ h. map (λ c. key.Down h c) (numbers 1 (m / k ^ h * k))) hs
      ≡ flat_map (λ h. map (λ c. key.Down h c) (numbers 1 (m / k ^ h * k))) (filter (λ h. nat_le (k ^ h) m) hs)
  kept_downs [] = refl
  kept_downs (h ∷ hs) = by (nat_le (k ^ h) m) refl (kept_downs hs)
    where
      by : (b : Bool) → nat_le (k ^ h) m ≡ b
          → flat_map (λ h. map (λ c. key.Down h c) (numbers 1 (m / k ^ h * k))) hs
          ≡ flat_map (λ h. map (λ c. key.Down h c) (numbers 1 (m / k ^ h * k))) (filter (λ h. nat_le (k ^ h) m) hs)
          → map (λ c. key.Down h c) (numbers 1 (m / k ^ h * k)) ++ flat_map (λ h. map (λ c. key.Down h c) (numbers 1 (m / k ^ h * k))) hs
          ≡ flat_map (λ h. map (λ c. key.Down h c) (numbers 1 (m / k ^ h * k))) (cond b (h ∷ filter (λ h. nat_le (k ^ h) m) hs) (filter (λ h. nat_le (k ^ h) m) hs))
      by true e later = ap (λ (l : List Key). map (λ c. key.Down h c) (numbers 1 (m / k ^ h * k)) ++ l) later
      by false e later =
          let lt : m / k ^ h < 1 = (div-lt_iff_lt-mul (power_some k h wide)).1 (let z : m < 1 * k ^ h = omega (arith, leb-false (k ^ h) m e) in z) in
          let none : m / k ^ h ≡ 0 = omega (arith, lt) in
          let zero_times : 0 * k ≡ 0 = omega arith in
          (λ i. map (λ c. key.Down h c) (numbers 1 ((ap (λ q. q * k) none ∙ zero_times) i)) ++ later i)

  pub tops_are : filter (has_kind delta.Top) (deltas_due k 0 m) ≡ map (λ h. key.Top h) (heights k m)
  tops_are =
      filter_flat (has_kind delta.Top) (deltas_due_at k 0 m) (numbers 1 m)
      ∙ alike (λ h. filter (has_kind delta.Top) (deltas_due_at k 0 m h)) (λ h. cond (nat_le 1 (m / k ^ h)) (key.Top h ∷ []) [])
      (λ h. ap (λ (l : List ℕ). filter (has_kind delta.Top) (flat_map (deltas_of k h) l)) (from_none k m h) ∙ tops_at k h (m / k ^ h)) (numbers 1 m)
      ∙ kept_tops (numbers 1 m)

  pub downs_are : filter (has_kind delta.Down) (deltas_due k 0 m) ≡ flat_map (λ h. map (λ c. key.Down h c) (numbers 1 (m / k ^ h * k))) (heights k m)
  downs_are =
      filter_flat (has_kind delta.Down) (deltas_due_at k 0 m) (numbers 1 m)
      ∙ alike (λ h. filter (has_kind delta.Down) (deltas_due_at k 0 m h)) (λ h. map (λ c. key.Down h c) (numbers 1 (m / k ^ h * k)))
      (λ h. ap (λ (l : List ℕ). filter (has_kind delta.Down) (flat_map (deltas_of k h) l)) (from_none k m h) ∙ downs_at k h (m / k ^ h)) (numbers 1 m)
      ∙ kept_downs (numbers 1 m)

-- ---- how many they are

abbrev AreOfTwoKinds : List Key → Type 0
AreOfTwoKinds keys = length keys ≡ length (filter (has_kind delta.Top) keys) + length (filter (has_kind delta.Down) keys)

two_kinds_more : (a b : List Key) → AreOfTwoKinds a → AreOfTwoKinds b → AreOfTwoKinds (a ++ b)
two_kinds_more a b ha hb =
    let tops : length (filter (has_kind delta.Top) (a ++ b)) ≡ length (filter (has_kind delta.Top) a) + length (filter (has_kind delta.Top) b) =
    ap length (filter-append (has_kind delta.Top) a b) ∙ length-append (filter (has_kind delta.Top) a) (filter (has_kind delta.Top) b) in
    let downs : length (filter (has_kind delta.Down) (a ++ b)) ≡ length (filter (has_kind delta.Down) a) + length (filter (has_kind delta.Down) b) =
    ap length (filter-append (has_kind delta.Down) a b) ∙ length-append (filter (has_kind delta.Down) a) (filter (has_kind delta.Down) b) in
    omega (arith, ha, hb, tops, downs, length-append a b)

two_kinds_flat : (f : ℕ → List Key) → ((x : ℕ) → AreOfTwoKinds (f x)) → (xs : List ℕ) → AreOfTwoKinds (flat_map f xs)
two_kinds_flat f each [] = refl
two_kinds_flat f each (x ∷ xs) = two_kinds_more (f x) (flat_map f xs) (each x) (two_kinds_flat f each xs)

two_kinds_of : (k h j : ℕ) → AreOfTwoKinds (deltas_of k h j)
two_kinds_of k h j = two_kinds_more (cond (j == 1) (key.Top h ∷ []) []) (map (λ c. key.Down h c) (children k j)) (by (j == 1)) (downs (children k j))
  where
    by : (b : Bool) → AreOfTwoKinds (cond b (key.Top h ∷ []) [])
    by true = refl
    by false = refl

    downs : (cs : List ℕ) → AreOfTwoKinds (map (λ c. key.Down h c) cs)
    downs cs = omega (arith, ap length (no_tops h cs), ap length (all_downs h cs))

two_kinds : (k m : ℕ) → AreOfTwoKinds (deltas_due k 0 m)
two_kinds k m = two_kinds_flat (deltas_due_at k 0 m) (λ h. two_kinds_flat (deltas_of k h) (two_kinds_of k h) (inner_due k 0 m h)) (numbers 1 m)

-- the tops and downs that are due are as many as there are
pub as_many : (p : Params) (n : ℕ) → 0 < p.k → length (deltas_due p.k 0 (leaves p n)) ≡ length (delta_keys p n)
as_many p n wide =
    two_kinds p.k (leaves p n)
    ∙ (λ i. length (tops_are p.k (leaves p n) wide i) + length (downs_are p.k (leaves p n) wide i))
    ∙ sym (length-append (map (λ h. key.Top h) (heights p.k (leaves p n))) (flat_map (λ h. map (λ c. key.Down h c) (numbers 1 (leaves p n / p.k ^ h * p.k))) (heights p.k (leaves p n))))

pub lists_many : (p : Params) (n : ℕ) → length (lists_due p 0 n) ≡ leaves p n
lists_many p n =
    let none : leaves p 0 ≡ 0 = omega arith in
    length-map (numbers (leaves p 0) (leaves p n - leaves p 0)) (λ i. key.List i) ∙ numbers_length (leaves p 0) (leaves p n - leaves p 0) ∙ omega (arith, none)

-- how many records there are, by the keys that are due
pub total_is : (p : Params) (n count : ℕ) → 0 < p.k → count ≡ leaves p n + length (deltas_due p.k 0 (leaves p n)) → count ≡ record_total p n
total_is p n count wide is = is ∙ (λ i. sym (lists_many p n) i + as_many p n wide i)

-- ---- the first that is not right

-- the first wrong one of the front, or else of those behind it
abbrev pub or_behind : Option (Key × Column) → Option (Key × Column) → Option (Key × Column)
or_behind None later = later
or_behind (Some wrong) later = Some wrong

module _ (image : List ℕ) (x : Opened) (events : List Event) where
  pub wrong_of_kind : (kind : DeltaKind) (keys : List Key)
      → first_unlike image x.index kind keys (map (λ k. stored (record_among x.index.params events [] k)) keys) ≡ first_wrong image x events (filter (has_kind kind) keys)
  wrong_of_kind kind [] = refl
  wrong_of_kind kind (k ∷ keys) = by (has_kind kind k) (wrong_of_kind kind keys)
    where
      by : (b : Bool) → first_unlike image x.index kind keys (map (λ k. stored (record_among x.index.params events [] k)) keys) ≡ first_wrong image x events (filter (has_kind kind) keys)
          → or_later k (cond b (wrong_column image x events k) None) (first_unlike image x.index kind keys (map (λ k. stored (record_among x.index.params events [] k)) keys))
          ≡ first_wrong image x events (cond b (k ∷ filter (has_kind kind) keys) (filter (has_kind kind) keys))
      by true later = ap (or_later k (wrong_column image x events k)) later
      by false later = later

  wrong_append : (a b : List Key) → first_wrong image x events (a ++ b) ≡ or_behind (first_wrong image x events a) (first_wrong image x events b)
  wrong_append [] b = refl
  wrong_append (k ∷ a) b = by (wrong_column image x events k) (wrong_append a b)
    where
      by : (o : Option Column) → first_wrong image x events (a ++ b) ≡ or_behind (first_wrong image x events a) (first_wrong image x events b)
          → or_later k o (first_wrong image x events (a ++ b)) ≡ or_behind (or_later k o (first_wrong image x events a)) (first_wrong image x events b)
      by None later = later
      by (Some col) later = refl

  -- of all deltas, by those of each kind
  pub wrong_by_kinds : (n : ℕ) → 0 < x.index.params.k → first_wrong image x events (delta_keys x.index.params n)
      ≡ or_behind (first_wrong image x events (filter (has_kind delta.Top) (deltas_due x.index.params.k 0 (leaves x.index.params n))))
      (first_wrong image x events (filter (has_kind delta.Down) (deltas_due x.index.params.k 0 (leaves x.index.params n))))
  wrong_by_kinds n wide =
      wrong_append (map (λ h. key.Top h) (heights x.index.params.k (leaves x.index.params n)))
      (flat_map (λ h. map (λ c. key.Down h c) (numbers 1 (leaves x.index.params n / x.index.params.k ^ h * x.index.params.k))) (heights x.index.params.k (leaves x.index.params n)))
      ∙ (λ i. or_behind (first_wrong image x events (sym (tops_are x.index.params.k (leaves x.index.params n) wide) i))
      (first_wrong image x events (sym (downs_are x.index.params.k (leaves x.index.params n) wide) i)))
