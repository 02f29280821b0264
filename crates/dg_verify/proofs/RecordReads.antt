-- How many bytes are read, one record after another.
use Rattle.std.proofs.Common.{◌≡◌, ℕ, ◌+◌, ◌-◌, ◌*◌, ◌/◌, ◌^◌, ◌<◌, ◌≤◌, Bool, true, false, cond, List, [], ◌∷◌, ◌++◌, Option, Result, Ok, Err, drop, filter, get_or, length, map, take, refl, sym, ◌∙◌, ap, subst, arith}
use Rattle.std.specs.Prelude.{IfSome, bytes_eq, is_some}
use Rattle.std.specs.List.{flat_map}
use Rattle.std.specs.Map.{lookup}
use Rattle.std.proofs.lemmas.Slice.Eq.{bytes_eq-Decides}
use Rattle.std.proofs.lemmas.List.{length-take, map-append, take-append-drop}
use Rattle.std.proofs.lemmas.List.Elements.{filter-append, filter_more}
use Rattle.std.proofs.lemmas.List.Sums.{sum_by-append}
use Rattle.dg_catalogue.specs.Entries.{column_length_in}
use Rattle.dg_file.specs.Images.{IsOpenedAs, taken_after}
use Rattle.dg_graph.specs.declared.element.Column.{Column}
use Rattle.dg_graph.specs.declared.element.Column.TheVariants as column
use Rattle.dg_history.specs.declared.node.Key.{Key}
use Rattle.dg_history.specs.declared.node.Key.TheVariants as key
use Rattle.dg_history.specs.Keys.{same_key}
use Rattle.dg_index.specs.declared.entry.Entry.{Entry}
use Rattle.dg_index.specs.Hierarchy.{leaves, numbers}
use Rattle.dg_index.specs.IndexRecords.{deltas_due, heights, lists_due}
use Rattle.dg_index.specs.OpenedIndex.{Opening, column_at, entry_at, event_total, total}
use Rattle.dg_index.proofs.HierarchyCounts.{numbers_append}
use Rattle.dg_plan.specs.HistoryGraph.{all_columns}
use Rattle.dg_records.specs.ColumnReads.{Takes, TakesAtMost, TakesOrFails, asked_length, kept_in}
use Rattle.dg_records.proofs.KeptColumns.{at_entry, column_long, read_short}
use Rattle.dg_start.specs.EventSources.{WhereTold}
use Rattle.dg_start.proofs.EventSourceBytes.{takes_after, takes_less, takes_part}
use Rattle.dg_start.proofs.EventSourceOutcomes.{said_before}
use Rattle.dg_verify.specs.declared.deltas.DeltaKind.{DeltaKind}
use Rattle.dg_verify.specs.declared.deltas.DeltaKind.TheVariants as delta
use Rattle.dg_verify.specs.Deltas.{has_kind}
use Rattle.dg_verify.specs.RecordBytes.{columns_bytes, length_at, piece_keys, records_bytes}
use Rattle.dg_verify.proofs.DeltaKeys.{downs_are, tops_are}

-- some bytes, and then some more
pub read_both : (m n a b c : ℕ) → TakesAtMost m a b → TakesAtMost n b c → TakesAtMost (m + n) a c
read_both m n a b c f g = omega (arith, f, g)

-- the same of a disk that tells its image, which is as it was
pub told_then : (told mid : Option (List ℕ)) (n m a b c : ℕ) → mid ≡ told → WhereTold told (λ image. TakesAtMost m a b) → WhereTold mid (λ image. TakesAtMost n b c)
    → WhereTold told (λ image. TakesAtMost (m + n) a c)
told_then told mid n m a b c same_image first then image h = read_both m n a b c (first image h) (said_before mid told (λ image. TakesAtMost n b c) same_image then image h)

pub told_part : (told : Option (List ℕ)) (m n a b : ℕ) → m ≤ n → WhereTold told (λ image. TakesAtMost m a b) → WhereTold told (λ image. TakesAtMost n a b)
told_part told m n a b le reads image h = takes_part m n a b le (reads image h)

-- ---- one record

-- a column has no more bytes than the index tells
column_short : (image : List ℕ) (e : Entry) (col : Column) → length (column_at image e col) ≤ length_at e.lengths col
column_short image e column.Structure =
    let is = length-take e.lengths.structure (drop e.offset image) in omega (arith, is)
column_short image e column.NodeAttr =
    let is = length-take e.lengths.node_attrs (drop (e.offset + e.lengths.structure) image) in omega (arith, is)
column_short image e column.EdgeAttr =
    let is = length-take e.lengths.edge_attrs (drop (e.offset + e.lengths.structure + e.lengths.node_attrs) image) in omega (arith, is)
column_short image e column.Transient =
    let is = length-take e.lengths.transient (drop (e.offset + e.lengths.structure + e.lengths.node_attrs + e.lengths.edge_attrs) image) in omega (arith, is)

-- the bytes that were fetched are those of the column
pub fetched_is : (told : Option (List ℕ)) (o : Opening) (k : Key) (col : Column) (bytes : List ℕ) → is_some (lookup (same_key k) o.records) ≡ true
    → IfSome told (λ image. IfSome (lookup (same_key k) o.records) (λ e. bytes ≡ column_at image e col)) → WhereTold told (λ image. bytes ≡ column_at image (entry_at o k) col)
fetched_is told o k col bytes held is image h =
    at_entry o k (λ e. bytes ≡ column_at image e col) held
    (subst (λ (t : Option (List ℕ)). IfSome t (λ image. IfSome (lookup (same_key k) o.records) (λ e. bytes ≡ column_at image e col))) h is)

pub column_read : (told : Option (List ℕ)) (o : Opening) (k : Key) (col : Column) (bytes : List ℕ) (before after : ℕ) → is_some (lookup (same_key k) o.records) ≡ true
    → IfSome told (λ image. IfSome (lookup (same_key k) o.records) (λ e. bytes ≡ column_at image e col)) → after ≡ taken_after (length bytes) before
    → WhereTold told (λ image. TakesAtMost (length_at (entry_at o k).lengths col) before after)
column_read told o k col bytes before after held is taken image h =
    let kept : List ℕ = column_at image (entry_at o k) col in
    let all = subst (λ n. Takes n before after) (ap length (fetched_is told o k col bytes held is image h)) (takes_after (length bytes) before after taken) in
    takes_part (length kept) (length_at (entry_at o k).lengths col) before after (column_short image (entry_at o k) col) (takes_less (length kept) before after all)

-- a column of another length is another
pub other_length : (told : Option (List ℕ)) (o : Opening) (k : Key) (col : Column) (due : List ℕ) (n : ℕ) → is_some (lookup (same_key k) o.records) ≡ true → IfSome told (λ image. IsOpenedAs image o)
    → n ≡ column_length_in (entry_at o k) col → (n ≡ length due → ⊥) → WhereTold told (λ image. false ≡ bytes_eq (column_at image (entry_at o k) col) due)
other_length told o k col due n held opened long other image h =
    let here : IsOpenedAs image o = subst (λ (t : Option (List ℕ)). IfSome t (λ image. IsOpenedAs image o)) h opened in
    by (bytes_eq (column_at image (entry_at o k) col) due) refl
    (λ same. other (long ∙ sym (column_long o k col image held here) ∙ ap length ((bytes_eq-Decides (column_at image (entry_at o k) col) due).0 same)))
  where
    by : (b : Bool) → bytes_eq (column_at image (entry_at o k) col) due ≡ b → (bytes_eq (column_at image (entry_at o k) col) due ≡ true → ⊥) → false ≡ b
    by true is not_same = absurd (not_same is)
    by false is not_same = refl

kept_short : (image : List ℕ) (o : Opening) (k : Key) (col : Column) → length (kept_in image o k col) ≤ length_at (entry_at o k).lengths col
kept_short image o k col = omega (arith, read_short k (column_at image (entry_at o k) col), column_short image (entry_at o k) col)

record_short : (image : List ℕ) (o : Opening) (k : Key) → asked_length (kept_in image o) all_columns k ≤ total (entry_at o k).lengths
record_short image o k =
    omega (arith, kept_short image o k column.Structure, kept_short image o k column.NodeAttr, kept_short image o k column.EdgeAttr, kept_short image o k column.Transient)

pub record_read : {A E : Type 0} (r : Result A E) (image : List ℕ) (o : Opening) (k : Key) (a b : ℕ) → TakesOrFails r (asked_length (kept_in image o) all_columns k) a b
    → TakesAtMost (total (entry_at o k).lengths) a b
record_read (Ok x) image o k a b takes =
    takes_part (asked_length (kept_in image o) all_columns k) (total (entry_at o k).lengths) a b (record_short image o k) (takes_less (asked_length (kept_in image o) all_columns k) a b takes)
record_read (Err e) image o k a b takes =
    takes_part (asked_length (kept_in image o) all_columns k) (total (entry_at o k).lengths) a b (record_short image o k) takes

-- ---- records by number

module _ (o : Opening) (f : ℕ → Key) where
  -- the bytes of the first of these records
  abbrev pub first_bytes : ℕ → ℕ
  first_bytes n = columns_bytes o (map f (numbers 0 n))

  later : (m n : ℕ) → first_bytes (m + n) ≡ first_bytes m + columns_bytes o (map f (numbers m n))
  later m n =
      ap (λ (ns : List ℕ). columns_bytes o (map f ns)) (numbers_append 0 m n ∙ ap (λ a. numbers 0 m ++ numbers a n) (let e : 0 + m ≡ m = omega arith in e))
      ∙ ap (columns_bytes o) (map-append f (numbers 0 m) (numbers m n))
      ∙ sum_by-append (λ k. total (entry_at o k).lengths) (map f (numbers 0 m)) (map f (numbers m n))

  pub next_bytes : (i : ℕ) → first_bytes (i + 1) ≡ first_bytes i + total (entry_at o (f i)).lengths
  next_bytes i =
      let one : columns_bytes o (map f (numbers i 1)) ≡ total (entry_at o (f i)).lengths = omega arith in
      later i 1 ∙ ap (λ n. first_bytes i + n) one

  pub bytes_within : (i n : ℕ) → i ≤ n → first_bytes i ≤ first_bytes n
  bytes_within i n le =
      let e : n ≡ i + (n - i) = omega (arith, le) in
      let more = later i (n - i) in
      omega (arith, ap first_bytes e, more)

  -- the first records were read, and then the next
  pub next_read : (i a b c : ℕ) → TakesAtMost (first_bytes i) a b → TakesAtMost (total (entry_at o (f i)).lengths) b c → TakesAtMost (first_bytes (i + 1)) a c
  next_read i a b c first then = omega (arith, first, then, next_bytes i)

  pub all_read : (i n a b : ℕ) → i ≤ n → TakesAtMost (first_bytes i) a b → TakesAtMost (first_bytes n) a b
  all_read i n a b le = takes_part (first_bytes i) (first_bytes n) a b (bytes_within i n le)

-- all lists
pub lists_bytes : (o : Opening) (n : ℕ) → first_bytes o (λ i. key.List i) (leaves o.params n) ≡ columns_bytes o (lists_due o.params 0 n)
lists_bytes o n =
    let none : 0 ≡ leaves o.params 0 = omega arith in
    let many : leaves o.params n ≡ leaves o.params n - leaves o.params 0 = omega (arith, none) in
    λ j. columns_bytes o (map (λ i. key.List i) (numbers (none j) (many j)))

-- ---- records of a kind

module _ (o : Opening) (kind : DeltaKind) (keys : List Key) where
  -- the bytes of those of the kind among the first of these records
  abbrev pub kind_bytes : ℕ → ℕ
  kind_bytes i = columns_bytes o (filter (has_kind kind) (take i keys))

  next_kind : (i : ℕ) (k : Key) → i < length keys → k ≡ get_or keys i k → kind_bytes (i + 1) ≡ kind_bytes i + cond (has_kind kind k) (total (entry_at o k).lengths) 0
  next_kind i k lt there =
      ap (columns_bytes o) (filter_more (has_kind kind) keys i k lt ∙ ap (λ (x : Key). filter (has_kind kind) (take i keys) ++ cond (has_kind kind x) (x ∷ []) []) (sym there))
      ∙ sum_by-append (λ k. total (entry_at o k).lengths) (filter (has_kind kind) (take i keys)) (cond (has_kind kind k) (k ∷ []) [])
      ∙ ap (λ n. kind_bytes i + n) (by (has_kind kind k))
    where
      by : (b : Bool) → columns_bytes o (cond b (k ∷ []) []) ≡ cond b (total (entry_at o k).lengths) 0
      by true = omega arith
      by false = omega arith

  -- those of the kind among the first were read, and the next, where it is of the kind
  pub next_compared : (i : ℕ) (k : Key) (a b c : ℕ) → i < length keys → k ≡ get_or keys i k → TakesAtMost (kind_bytes i) a b
      → TakesAtMost (cond (has_kind kind k) (total (entry_at o k).lengths) 0) b c → TakesAtMost (kind_bytes (i + 1)) a c
  next_compared i k a b c lt there first then = omega (arith, first, then, next_kind i k lt there)

  kind_within : (i : ℕ) → kind_bytes i ≤ columns_bytes o (filter (has_kind kind) keys)
  kind_within i =
      let parts : columns_bytes o (filter (has_kind kind) keys) ≡ kind_bytes i + columns_bytes o (filter (has_kind kind) (drop i keys)) =
      ap (λ (ks : List Key). columns_bytes o (filter (has_kind kind) ks)) (sym (take-append-drop i keys))
      ∙ ap (columns_bytes o) (filter-append (has_kind kind) (take i keys) (drop i keys))
      ∙ sum_by-append (λ k. total (entry_at o k).lengths) (filter (has_kind kind) (take i keys)) (filter (has_kind kind) (drop i keys)) in
      omega (arith, parts)

  pub all_compared : (i a b : ℕ) → TakesAtMost (kind_bytes i) a b → TakesAtMost (columns_bytes o (filter (has_kind kind) keys)) a b
  all_compared i a b = takes_part (kind_bytes i) (columns_bytes o (filter (has_kind kind) keys)) a b (kind_within i)

-- ---- all records

-- the lists and the pieces, which are read first
abbrev pub events_bytes : Opening → ℕ
events_bytes o = columns_bytes o (lists_due o.params 0 (event_total o.batches) ++ piece_keys o)

pub events_parted : (o : Opening) → events_bytes o ≡ columns_bytes o (lists_due o.params 0 (event_total o.batches)) + columns_bytes o (piece_keys o)
events_parted o = sum_by-append (λ k. total (entry_at o k).lengths) (lists_due o.params 0 (event_total o.batches)) (piece_keys o)

abbrev due_in : Opening → List Key
due_in o = deltas_due o.params.k 0 (leaves o.params (event_total o.batches))

-- all bytes are those of the lists and pieces, of the tops and of the downs
pub records_parted : (o : Opening) → 0 < o.params.k
    → records_bytes o ≡ events_bytes o + columns_bytes o (filter (has_kind delta.Top) (due_in o)) + columns_bytes o (filter (has_kind delta.Down) (due_in o))
records_parted o wide =
    let lists = lists_due o.params 0 (event_total o.batches) in
    let tops = map (λ h. key.Top h) (heights o.params.k (leaves o.params (event_total o.batches))) in
    let downs = flat_map (λ h. map (λ c. key.Down h c) (numbers 1 (leaves o.params (event_total o.batches) / o.params.k ^ h * o.params.k))) (heights o.params.k (leaves o.params (event_total o.batches))) in
    let each : Key → ℕ = λ k. total (entry_at o k).lengths in
    let whole = sum_by-append each (lists ++ (tops ++ downs)) (piece_keys o) in
    let front = sum_by-append each lists (tops ++ downs) in
    let deltas = sum_by-append each tops downs in
    let top = ap (columns_bytes o) (tops_are o.params.k (leaves o.params (event_total o.batches)) wide) in
    let down = ap (columns_bytes o) (downs_are o.params.k (leaves o.params (event_total o.batches)) wide) in
    omega (arith, whole, front, deltas, top, down, events_parted o)

pub events_within : (o : Opening) → 0 < o.params.k → events_bytes o ≤ records_bytes o
events_within o wide = omega (arith, records_parted o wide)

-- where these are the keys of all tops and downs
module _ (o : Opening) (wide : 0 < o.params.k) (keys : List Key) (are : keys ≡ deltas_due o.params.k 0 (leaves o.params (event_total o.batches))) where
  tops_are_due : columns_bytes o (filter (has_kind delta.Top) keys) ≡ columns_bytes o (filter (has_kind delta.Top) (due_in o))
  tops_are_due = ap (λ (ks : List Key). columns_bytes o (filter (has_kind delta.Top) ks)) are

  downs_are_due : columns_bytes o (filter (has_kind delta.Down) keys) ≡ columns_bytes o (filter (has_kind delta.Down) (due_in o))
  downs_are_due = ap (λ (ks : List Key). columns_bytes o (filter (has_kind delta.Down) ks)) are

  pub tops_within : events_bytes o + columns_bytes o (filter (has_kind delta.Top) keys) ≤ records_bytes o
  tops_within = omega (arith, records_parted o wide, tops_are_due)

  pub downs_within : events_bytes o + columns_bytes o (filter (has_kind delta.Top) keys) + columns_bytes o (filter (has_kind delta.Down) keys) ≤ records_bytes o
  downs_within = omega (arith, records_parted o wide, tops_are_due, downs_are_due)
