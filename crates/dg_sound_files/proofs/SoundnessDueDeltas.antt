-- Where no delta's record is wrong, each that is due is the one that the events determine.
use Rattle.std.proofs.Common.{◌≡◌, ℕ, ◌+◌, ◌-◌, ◌*◌, ◌/◌, ◌^◌, ◌≤◌, Bool, true, false, cond, List, [], ◌∷◌, map, filter, Option, Some, None, refl, sym, ap, ◌∙◌, arith, mul-le-mul_right, le-div_iff_mul-le, add-mul}
use Rattle.std.specs.Prelude.{◌==◌, nat_le}
use Rattle.std.specs.List.{flat_map}
use Rattle.std.proofs.lemmas.Bool.{false≢true, le-leb}
use Rattle.std.proofs.lemmas.Slice.Eq.{bytes_eq-Decides}
use Rattle.dg_graph.specs.declared.element.Column.{Column}
use Rattle.dg_graph.specs.declared.element.Column.TheVariants as column
use Rattle.dg_graph.specs.declared.event.Event.{Event}
use Rattle.dg_graph.specs.ColumnGrammar.{may_change}
use Rattle.dg_history.specs.declared.node.Key.{Key}
use Rattle.dg_history.specs.declared.node.Key.TheVariants as key
use Rattle.dg_history.specs.declared.params.Params.{Params}
use Rattle.dg_index.specs.Hierarchy.{leaves, numbers, children}
use Rattle.dg_index.specs.IndexRecords.{column_of_record, deltas_of, deltas_due, deltas_due_at, heights, inner_due, record_among}
use Rattle.dg_index.specs.OpenedIndex.{Opened, column_at, entry_at}
use Rattle.dg_index.proofs.HierarchyCounts.{due_to}
use Rattle.dg_index.proofs.IndexKeyRecords.{height_low}
use Rattle.dg_index.proofs.IndexRecordColumns.{Each, each_append, each_flat, each_map, each_number, power_some}
use Rattle.dg_sound.specs.Soundness.{delta_keys, first_wrong, is_delta_column, or_later, wrong_column}
use Rattle.dg_sound_files.proofs.EachParts.{each_parts, each_unflat, each_unmap, of_number}

-- ---- what holds of each of a list

each_passing : {A : Type 0} (P : A → Type 0) (q : A → Bool) (xs : List A) → Each P (filter q xs) → Each (λ x. q x ≡ true → P x) xs
each_passing P q [] all = tt
each_passing P q (x ∷ xs) all = by (λ all. each_passing P q xs all) (q x) refl all
  where
    by : (Each P (filter q xs) → Each (λ x. q x ≡ true → P x) xs) → (b : Bool) → q x ≡ b → Each P (cond b (x ∷ filter q xs) (filter q xs)) → (q x ≡ true → P x) × Each (λ x. q x ≡ true → P x) xs
    by more true is all = (λ e. all.0, more all.1)
    by more false is all = (λ e. absurd (let no : false ≡ true = sym is ∙ e in cc), more all)

-- ---- no record is wrong

-- the record has the columns that the events determine, in which a delta may have elements
abbrev pub IsRightDelta : List ℕ → Opened → List Event → Key → Type 0
IsRightDelta image x events k = (col : Column) → may_change col ≡ true → column_at image (entry_at x.index k) col ≡ column_of_record col (record_among x.index.params events [] k)

none_wrong : (image : List ℕ) (x : Opened) (events : List Event) (k : Key) → wrong_column image x events k ≡ None → IsRightDelta image x events k
none_wrong image x events k e = by (is_delta_column image x events k column.Structure) refl (is_delta_column image x events k column.NodeAttr) refl (is_delta_column image x events k column.EdgeAttr) refl e
  where
    by : (s : Bool) → is_delta_column image x events k column.Structure ≡ s → (n : Bool) → is_delta_column image x events k column.NodeAttr ≡ n → (e : Bool) → is_delta_column image x events k column.EdgeAttr ≡ e
        → cond s (cond n (cond e None (Some column.EdgeAttr)) (Some column.NodeAttr)) (Some column.Structure) ≡ None → (col : Column) → may_change col ≡ true → column_at image (entry_at x.index k) col ≡ column_of_record col (record_among x.index.params events [] k)
    by true s true n true e is column.Structure may = (bytes_eq-Decides (column_at image (entry_at x.index k) column.Structure) (column_of_record column.Structure (record_among x.index.params events [] k))).0 s
    by true s true n true e is column.NodeAttr may = (bytes_eq-Decides (column_at image (entry_at x.index k) column.NodeAttr) (column_of_record column.NodeAttr (record_among x.index.params events [] k))).0 n
    by true s true n true e is column.Transient may = absurd (false≢true may)
    by true s true n true e is column.EdgeAttr may = (bytes_eq-Decides (column_at image (entry_at x.index k) column.EdgeAttr) (column_of_record column.EdgeAttr (record_among x.index.params events [] k))).0 e
    by true s true n false e is col may = absurd cc
    by true s false n b e is col may = absurd cc
    by false s a n b e is col may = absurd cc

none_later : (k : Key) (wrong : Option Column) (later : Option (Key × Column)) → or_later k wrong later ≡ None → (wrong ≡ None) × (later ≡ None)
none_later k None later e = (refl, e)
none_later k (Some col) later e = absurd cc

pub all_right : (image : List ℕ) (x : Opened) (events : List Event) (keys : List Key) → first_wrong image x events keys ≡ None → Each (IsRightDelta image x events) keys
all_right image x events [] e = tt
all_right image x events (k ∷ keys) e =
    let a = none_later k (wrong_column image x events k) (first_wrong image x events keys) e in
    (none_wrong image x events k a.0, all_right image x events keys a.1)

-- ---- the deltas that are due are among those that are tested

module _ (P : Key → Type 0) (p : Params) (n : ℕ) (two : 2 ≤ p.k) (all : Each P (delta_keys p n)) where
  at_height : (Q : ℕ → Type 0) → Each Q (heights p.k (leaves p n)) → (h : ℕ) → 1 ≤ h → p.k ^ h ≤ leaves p n → Q h
  at_height Q each h some le =
      of_number (λ h. nat_le (p.k ^ h) (leaves p n) ≡ true → Q h) 1 (leaves p n) h some (omega (arith, height_low p.k h two, le)) (each_passing Q (λ h. nat_le (p.k ^ h) (leaves p n)) (numbers 1 (leaves p n)) each) (le-leb (p.k ^ h) (leaves p n) le)

  top_tested : (h : ℕ) → 1 ≤ h → p.k ^ h ≤ leaves p n → P (key.Top h)
  top_tested h some le =
      let parts = each_parts P (map (λ h. key.Top h) (heights p.k (leaves p n))) (flat_map (λ h. map (λ c. key.Down h c) (numbers 1 (leaves p n / p.k ^ h * p.k))) (heights p.k (leaves p n))) all in
      at_height (λ h. P (key.Top h)) (each_unmap P (λ h. key.Top h) (heights p.k (leaves p n)) parts.0) h some le

  down_tested : (h c : ℕ) → 1 ≤ h → p.k ^ h ≤ leaves p n → 1 ≤ c → c ≤ leaves p n / p.k ^ h * p.k → P (key.Down h c)
  down_tested h c some le low high =
      let parts = each_parts P (map (λ h. key.Top h) (heights p.k (leaves p n))) (flat_map (λ h. map (λ c. key.Down h c) (numbers 1 (leaves p n / p.k ^ h * p.k))) (heights p.k (leaves p n))) all in
      let row = at_height (λ h. Each P (map (λ c. key.Down h c) (numbers 1 (leaves p n / p.k ^ h * p.k)))) (each_unflat P (λ h. map (λ c. key.Down h c) (numbers 1 (leaves p n / p.k ^ h * p.k))) (heights p.k (leaves p n)) parts.1) h some le in
      of_number (λ c. P (key.Down h c)) 1 (leaves p n / p.k ^ h * p.k) c low (omega (arith, high)) (each_unmap P (λ c. key.Down h c) (numbers 1 (leaves p n / p.k ^ h * p.k)) row)

  node_tested : (h j : ℕ) → 1 ≤ h → 1 ≤ j → j * p.k ^ h ≤ leaves p n → Each P (deltas_of p.k h j)
  node_tested h j low some le =
      let pos = power_some p.k h (omega (arith, two)) in
      let one : 1 * p.k ^ h ≤ j * p.k ^ h = mul-le-mul_right (p.k ^ h) some in
      let there : p.k ^ h ≤ leaves p n = omega (arith, one, le) in
      let under : j ≤ leaves p n / p.k ^ h = (le-div_iff_mul-le pos).1 le in
      let wide : j * p.k ≤ leaves p n / p.k ^ h * p.k = mul-le-mul_right p.k under in
      let whole : (j - 1) * p.k + p.k ≡ j * p.k = omega (arith, add-mul (j - 1) 1 p.k, ap (λ n. n * p.k) (let z : j - 1 + 1 ≡ j = omega (arith, some) in z)) in
      each_append P (cond (j == 1) (key.Top h ∷ []) []) (map (λ c. key.Down h c) (children p.k j)) (top (j == 1) (top_tested h low there))
      (each_map P (λ c. key.Down h c) (children p.k j) (each_number (λ c. P (key.Down h c)) ((j - 1) * p.k + 1) p.k (λ c from to. down_tested h c low there (omega (arith, from)) (omega (arith, to, whole, wide)))))
    where
      top : (b : Bool) → P (key.Top h) → Each P (cond b (key.Top h ∷ []) [])
      top true here = (here, tt)
      top false here = tt

  pub due_tested : (m after : ℕ) → after ≤ leaves p n → Each P (deltas_due p.k m after)
  due_tested m after up =
      each_flat P (deltas_due_at p.k m after) (numbers 1 after) (each_number (λ h. Each P (deltas_due_at p.k m after h)) 1 after (λ h from to.
      each_flat P (deltas_of p.k h) (inner_due p.k m after h) (each_number (λ j. Each P (deltas_of p.k h j)) (m / p.k ^ h + 1) (after / p.k ^ h - m / p.k ^ h) (λ j low high.
      let due = due_to p.k m after h j (power_some p.k h (omega (arith, two))) low (omega (arith, low, high)) in
      node_tested h j from (omega (arith, low)) (omega (arith, due.1, up))))))
