-- The tops and the downs of an image of a history are those that its events determine.
use Rattle.std.proofs.Common.{◌≡◌, ℕ, ◌+◌, ◌-◌, ◌*◌, ◌/◌, ◌^◌, ◌<◌, ◌≤◌, Bool, true, false, List, [], ◌∷◌, Option, Some, None, if◌then◌else◌, length, map, filter, nat_le, refl, sym, ◌∙◌, ap, arith, div-lt_iff_lt-mul, le-div_iff_mul-le}
use Rattle.std.specs.List.{flat_map}
use Rattle.std.proofs.lemmas.Bool.{and_from, le-leb, leb-true}
use Rattle.std.proofs.lemmas.Slice.Eq.{bytes_eq-Decides}
use Rattle.dg_graph.specs.declared.element.Column.{Column}
use Rattle.dg_graph.specs.declared.element.Column.TheVariants as column
use Rattle.dg_history.specs.declared.node.Key.{Key}
use Rattle.dg_history.specs.declared.node.Key.TheVariants as key
use Rattle.dg_history.specs.History.{History, events_of}
use Rattle.dg_index.specs.FileLaws.{ColumnsAreKept}
use Rattle.dg_index.specs.Hierarchy.{leaves, numbers, parent}
use Rattle.dg_index.specs.ImageOfHistory.{IsImageOf}
use Rattle.dg_index.specs.IndexKeys.{key_exists}
use Rattle.dg_index.specs.IndexRecords.{column_of_record, heights, record_among}
use Rattle.dg_index.specs.OpenedIndex.{column_at, entry_at, opened_of}
use Rattle.dg_index.proofs.OpenedIndexRecords.{record_held}
use Rattle.dg_index.proofs.IndexRecordColumns.{Each, each_append, each_flat, each_map, each_number, power_some}
use Rattle.dg_index.proofs.OpenedIndexHistories.{large_parameters}
use Rattle.dg_sound.specs.Soundness.{delta_keys, first_wrong, is_delta_column, or_later, wrong_column}
use Rattle.dg_sound_files.proofs.EachParts.{each_then}
use Rattle.dg_sound_files.proofs.OpenedIndexRecords.{columns_there, params_are}

-- ---- facts of each of a list

each_filter : {A : Type 0} (P Q : A → Type 0) (test : A → Bool) (xs : List A) → ((x : A) → P x → test x ≡ true → Q x) → Each P xs → Each Q (filter test xs)
each_filter P Q test [] f all = tt
each_filter P Q test (x ∷ xs) f all = by (test x) refl (each_filter P Q test xs f all.1)
  where
    by : (t : Bool) → test x ≡ t → Each Q (filter test xs) → Each Q (if t then x ∷ filter test xs else filter test xs)
    by true is more = (f x all.0 is, more)
    by false is more = more

-- ---- the keys

-- a record that exists, and that the batches do not bear upon
abbrev IsDelta : History → Key → Type 0
IsDelta z k = (key_exists z.params (length (events_of z)) k ≡ true) × (record_among z.params (events_of z) z.batches k ≡ record_among z.params (events_of z) [] k)

-- there is an interior node of the height
abbrev IsHeight : ℕ → ℕ → ℕ → Type 0
IsHeight k m h = (1 ≤ h) × (k ^ h ≤ m)

each_height : (k m : ℕ) → Each (IsHeight k m) (heights k m)
each_height k m =
    each_filter (λ h. 1 ≤ h) (IsHeight k m) (λ h. nat_le (k ^ h) m) (numbers 1 m) (λ h low is. (low, leb-true (k ^ h) m is)) (each_number (λ h. 1 ≤ h) 1 m (λ h low high. low))

-- the node of a child is there
parent_there : (k m h c : ℕ) → 0 < k → 1 ≤ c → c < 1 + m / k ^ h * k → parent k c * k ^ h ≤ m
parent_there k m h c pos some lt =
    let below : (c - 1) / k < m / k ^ h = (div-lt_iff_lt-mul pos).1 (omega (arith, some, lt)) in
    (le-div_iff_mul-le (power_some k h pos)).0 (let le : (c - 1) / k + 1 ≤ m / k ^ h = omega (arith, below) in le)

module _ (z : History) (pos : 0 < z.params.k) where
  tops_are : (h : ℕ) → IsHeight z.params.k (leaves z.params (length (events_of z))) h → IsDelta z (key.Top h)
  tops_are h there = (and_from (nat_le 1 h) _ (le-leb 1 h there.0) (le-leb (z.params.k ^ h) (leaves z.params (length (events_of z))) there.1), refl)

  downs_are : (h : ℕ) → IsHeight z.params.k (leaves z.params (length (events_of z))) h
      → Each (IsDelta z) (map (λ c. key.Down h c) (numbers 1 (leaves z.params (length (events_of z)) / z.params.k ^ h * z.params.k)))
  downs_are h there =
      let k : ℕ = z.params.k in
      let m : ℕ = leaves z.params (length (events_of z)) in
      each_map (IsDelta z) (λ c. key.Down h c) (numbers 1 (m / k ^ h * k)) (each_number (λ c. IsDelta z (key.Down h c)) 1 (m / k ^ h * k)
      (λ c low high. (and_from (nat_le 1 h) _ (le-leb 1 h there.0) (and_from (nat_le 1 c) _ (le-leb 1 c low) (le-leb (parent k c * k ^ h) m (parent_there k m h c pos low high))), refl)))

  deltas_are : Each (IsDelta z) (delta_keys z.params (length (events_of z)))
  deltas_are =
      let k : ℕ = z.params.k in
      let m : ℕ = leaves z.params (length (events_of z)) in
      let all = each_height k m in
      each_append (IsDelta z) (map (λ h. key.Top h) (heights k m)) (flat_map (λ h. map (λ c. key.Down h c) (numbers 1 (m / k ^ h * k))) (heights k m))
      (each_map (IsDelta z) (λ h. key.Top h) (heights k m) (each_then (IsHeight k m) (λ h. IsDelta z (key.Top h)) (heights k m) tops_are all))
      (each_flat (IsDelta z) (λ h. map (λ c. key.Down h c) (numbers 1 (m / k ^ h * k))) (heights k m)
      (each_then (IsHeight k m) (λ h. Each (IsDelta z) (map (λ c. key.Down h c) (numbers 1 (m / k ^ h * k)))) (heights k m) downs_are all))

-- ---- each of them is right

module _ (kept : ColumnsAreKept) (z : History) (image : List ℕ) (h : IsImageOf z image) where
  none_wrong : (k : Key) → IsDelta z k → wrong_column image (opened_of z) (events_of z) k ≡ None
  none_wrong k is =
      let right : (col : Column) → is_delta_column image (opened_of z) (events_of z) k col ≡ true =
      λ col. (bytes_eq-Decides (column_at image (entry_at (opened_of z).index k) col) (column_of_record col (record_among (opened_of z).index.params (events_of z) [] k))).1
      (columns_there kept z image h k (record_held z h.legal k is.0) col ∙ ap (column_of_record col) (is.1 ∙ (λ i. record_among (sym (params_are z) i) (events_of z) [] k))) in
      λ i. chosen (right column.Structure i) (right column.NodeAttr i) (right column.EdgeAttr i)
    where
      chosen : Bool → Bool → Bool → Option Column
      chosen a b c = if a then (if b then (if c then None else Some column.EdgeAttr) else Some column.NodeAttr) else Some column.Structure

  none_first : (keys : List Key) → Each (IsDelta z) keys → first_wrong image (opened_of z) (events_of z) keys ≡ None
  none_first [] all = refl
  none_first (k ∷ keys) all =
      ap (λ o. or_later k o (first_wrong image (opened_of z) (events_of z) keys)) (none_wrong k all.0) ∙ none_first keys all.1

  pub deltas_right : first_wrong image (opened_of z) (events_of z) (delta_keys z.params (length (events_of z))) ≡ None
  deltas_right =
      let large = large_parameters z.params.l z.params.k h.legal.parameters in
      none_first (delta_keys z.params (length (events_of z))) (deltas_are z (omega (arith, large.1)))
