-- What an index of a history tells of each record that it holds: its lengths, and the times of a list.
use Rattle.std.proofs.Common.{◌≡◌, ℕ, zero, suc, ◌+◌, ◌-◌, ◌*◌, ◌/◌, ◌<◌, ◌≤◌, ◌^◌, Bool, true, false, cond, List, [], ◌∷◌, ◌++◌, length, map, take, drop, Some, None, Option, is_some, refl, sym, ap, subst, ◌∙◌, append_assoc, append-nil, arith, length-append, add-mul, div-mul-le_self, take-append-drop}
use Rattle.std.specs.Prelude.{◌==◌}
use Rattle.std.specs.Map.{lookup}
use Rattle.std.proofs.lemmas.List.{length-map}
use Rattle.std.proofs.lemmas.List.Concat.{flat_map-append}
use Rattle.std.proofs.lemmas.List.Sums.{sum_by_push}
use Rattle.dg_graph.specs.declared.element.Column.TheVariants as column
use Rattle.dg_graph.specs.declared.event.Event.{Event}
use Rattle.dg_history.specs.declared.node.Key.{Key}
use Rattle.dg_history.specs.declared.node.Key.TheVariants as key
use Rattle.dg_history.specs.declared.params.Params.{Params}
use Rattle.dg_history.specs.Keys.{same_key}
use Rattle.dg_history.specs.History.{History, Batch, events_of, first_time_of, is_wide, last_time_from}
use Rattle.dg_history.specs.declared.form.Form.{Form}
use Rattle.dg_history.specs.declared.form.Form.TheVariants as form
use Rattle.dg_history.specs.LegalHistory.{IsLegal}
use Rattle.dg_history.proofs.LegalHistories.{events_among}
use Rattle.dg_index.specs.FileOfHistory.{Stored, Segment, directory, stored_in, segment_bytes, segment_of, stored_list, stored}
use Rattle.dg_index.specs.Hierarchy.{numbers, leaves, children}
use Rattle.dg_index.specs.IndexRecords.{closed_list, record_among, column_in, deltas_of, inner_due, deltas_due_at, deltas_due, lists_due}
use Rattle.dg_index.specs.IndexKeys.{AreKept, among, key_exists, keys_among}
use Rattle.dg_index.specs.declared.entry.Ends.{Ends}
use Rattle.dg_index.specs.declared.entry.Entry.{Entry}
use Rattle.dg_index.specs.declared.entry.Row.{Row}
use Rattle.dg_index.specs.declared.entry.BatchEntry.{BatchEntry}
use Rattle.dg_index.specs.OpenedIndex.{Opened, bare, opened_in, opened_of, opened_onto, with_marker, with_segment, directory_of, rows_in, list_row, record_row, lengths_of, laid, total, keys_next, event_total}
use Rattle.dg_index.proofs.OpenedIndexDirectories.{map_last}
use Rattle.dg_index.proofs.HierarchyCounts.{numbers_length}
use Rattle.dg_index.proofs.IndexKeyRecords.{exists_held, found}
use Rattle.dg_index.proofs.IndexRecordColumns.{Each, at_key, each_append, each_flat, each_number, each_map, Match, Tell, tell, segment_matches, list_right}
use Rattle.dg_index.proofs.EverAddedBounds.{kept_more}
use Rattle.dg_index.proofs.OpenedIndexHistories.{large_parameters}
use Rattle.dg_index.proofs.HierarchyStability.{leaves_more}
use Rattle.dg_index.specs.declared.per_column.PerColumn.{PerColumn}

-- ---- what is told of a record

-- the bytes of each column of a record of the history
abbrev pub lengths_in : History → Key → PerColumn ℕ
lengths_in z k = record {
  structure = length (column_in z k column.Structure);
  node_attrs = length (column_in z k column.NodeAttr);
  edge_attrs = length (column_in z k column.EdgeAttr);
  transient = length (column_in z k column.Transient);
}

-- the times of a list of the history; another record has none
abbrev pub ends_in : History → Key → Option Ends
ends_in z (key.List i) = Some (record { first = first_time_of (closed_list z.params (events_of z) i); last = last_time_from 0 (closed_list z.params (events_of z) i) })
ends_in z (key.Piece s) = None
ends_in z (key.Top h) = None
ends_in z (key.Down h c) = None

-- a list has all its events
abbrev pub IsFull : History → Key → Type 0
IsFull z (key.List i) = (i + 1) * z.params.l ≤ length (events_of z)
IsFull z (key.Piece s) = Unit {0}
IsFull z (key.Top h) = Unit {0}
IsFull z (key.Down h c) = Unit {0}

abbrev pub IsTold : History → Key × Entry → Type 0
IsTold z r = (r.1.lengths ≡ lengths_in z r.0) × (r.1.ends ≡ ends_in z r.0) × IsFull z r.0

-- the rows tell the times of the records of the keys
abbrev Timed : History → List Key → List Row → Type 0
Timed z [] rows = Unit {0}
Timed z (k ∷ keys) [] = Unit {0}
Timed z (k ∷ keys) (r ∷ rows) = (r.ends ≡ ends_in z k) × IsFull z k × Timed z keys rows

laid_told : (z : History) (offset : ℕ) (keys : List Key) (rows : List Row) (all : List Stored) → Match z keys all → Tell rows all → Timed z keys rows → Each (IsTold z) (laid offset keys rows)
laid_told z offset [] rows all m t times = tt
laid_told z offset (k ∷ keys) [] all m t times = tt
laid_told z offset (k ∷ keys) (r ∷ rows) [] m t times = absurd t
laid_told z offset (k ∷ keys) (r ∷ rows) (s ∷ all) m t times =
    let lengths : lengths_of s ≡ lengths_in z k = λ i. record { structure = length (m.0 column.Structure i); node_attrs = length (m.0 column.NodeAttr i); edge_attrs = length (m.0 column.EdgeAttr i); transient = length (m.0 column.Transient i) } in
    ((t.0 ∙ lengths, times.0, times.1), laid_told z (offset + total r.lengths) keys rows all m.1 t.1 times.2)

-- ---- the times of a segment

-- a record that is no list
abbrev IsPlain : History → Key → Type 0
IsPlain z k = (None ≡ ends_in z k) × IsFull z k

timed_plain : (z : History) (keys : List Key) (others : List Stored) → Each (IsPlain z) keys → Timed z keys (map record_row others)
timed_plain z [] others all = tt
timed_plain z (k ∷ keys) [] all = tt
timed_plain z (k ∷ keys) (s ∷ others) all = (all.0.0, all.0.1, timed_plain z keys others all.1)

plain_deltas : (z : History) (k m after : ℕ) → Each (IsPlain z) (deltas_due k m after)
plain_deltas z k m after = each_flat (IsPlain z) (deltas_due_at k m after) (numbers 1 after) (each_number (λ h. Each (IsPlain z) (deltas_due_at k m after h)) 1 after (λ h from to. at h))
  where
    top : (h : ℕ) (b : Bool) → Each (IsPlain z) (cond b (key.Top h ∷ []) [])
    top h true = ((refl, tt), tt)
    top h false = tt

    node : (h j : ℕ) → Each (IsPlain z) (deltas_of k h j)
    node h j =
        each_append (IsPlain z) (cond (j == 1) (key.Top h ∷ []) []) (map (λ c. key.Down h c) (children k j)) (top h (j == 1))
        (each_map (IsPlain z) (λ c. key.Down h c) (children k j) (each_number (λ c. IsPlain z (key.Down h c)) ((j - 1) * k + 1) k (λ c from to. (refl, tt))))

    at : (h : ℕ) → Each (IsPlain z) (deltas_due_at k m after h)
    at h = each_flat (IsPlain z) (deltas_of k h) (inner_due k m after h) (each_number (λ j. Each (IsPlain z) (deltas_of k h j)) (m / k ^ h + 1) (after / k ^ h - m / k ^ h) (λ j low high. node h j))

-- what is known of what is opened with the segments of these batches
pub record IsToldSoFar (z : History) (x : Opened) (front : List Batch) : Type 0 where
  pub params : x.index.params ≡ z.params
  pub count : event_total x.index.batches ≡ length (events_among front)
  pub number : length x.index.batches ≡ length front
  pub keys : AreKept x.index
  pub told : Each (IsTold z) x.index.records

module _ (z : History) (pos : 0 < z.params.l) (wide : 0 < z.params.k) where
  timed_lists : (all later : List Event) → events_of z ≡ all ++ later → (i n : ℕ) (others : List Key) (rows : List Row) → (i + n) * z.params.l ≤ length all → Timed z others rows
      → Timed z (map (λ i. key.List i) (numbers i n) ++ others) (map list_row (map (stored_list z.params all) (numbers i n)) ++ rows)
  timed_lists all later is i zero others rows le more = more
  timed_lists all later is i (suc n) others rows le more =
      let l : ℕ = z.params.l in
      let sum : (i + suc n) * l ≡ (i + 1) * l + n * l = omega (arith, add-mul i (suc n) l, add-mul i 1 l, add-mul n 1 l) in
      let here : (i + 1) * l ≤ length all = omega (arith, le, sum) in
      let long : length (events_of z) ≡ length all + length later = ap length is ∙ length-append all later in
      let same = list_right z all later pos wide is i here in (
        ap (λ (e : List Event). Some (record { first = first_time_of e; last = last_time_from 0 e })) same,
        omega (arith, here, long),
        timed_lists all later is (i + 1) n others rows (subst (λ c. c * l ≤ length all) (let e : i + suc n ≡ i + 1 + n = omega arith in e) le) more,
      )

  -- and of what is opened with one more
  told_next : (x : Opened) (front : List Batch) (b : Batch) (more : List Batch) → z.batches ≡ front ++ b ∷ more → IsToldSoFar z x front
      → IsToldSoFar z (with_segment x (segment_of z.params (events_among front) b)) (front ++ b ∷ [])
  told_next x front b more is so =
      let p : Params = z.params in
      let before : List Event = events_among front in
      let s : Segment = segment_of p before b in
      let all : List Event = before ++ b.events in
      let m : ℕ = leaves p (length before) in
      let after : ℕ = leaves p (length before + length b.events) in
      let up : m ≤ after = leaves_more p.l (length before) (length b.events) pos in
      let wide_here : Bool = is_wide x.index.form in
      let offset : ℕ = x.index.used + 16 + length (directory wide_here s) in
      let keys : List Key = deltas_due p.k m after ++ key.Piece (length front) ∷ [] in
      let whole : events_of z ≡ all ++ events_among more = ap events_among is ∙ flat_map-append (λ (b : Batch). b.events) front (b ∷ more) ∙ sym (append_assoc before b.events (events_among more)) in
      let upto : (m + (after - m)) * p.l ≤ length all =
      subst (λ c. c * p.l ≤ length all) (let e : after ≡ m + (after - m) = omega (arith, up) in e)
      (subst (λ c. leaves p (length before + length b.events) * p.l ≤ c) (sym (length-append before b.events)) (div-mul-le_self (length before + length b.events) p.l)) in
      let keys_are : map (λ i. key.List i) (numbers m (after - m)) ++ keys ≡ keys_next x.index (length b.events) =
      λ i. lists_due (sym so.params i) (sym so.count i) (sym so.count i + length b.events) ++ (deltas_due (sym so.params i).k (leaves (sym so.params i) (sym so.count i)) (leaves (sym so.params i) (sym so.count i + length b.events)) ++ key.Piece (sym so.number i) ∷ []) in
      let plain : Each (IsPlain z) keys = each_append (IsPlain z) (deltas_due p.k m after) (key.Piece (length front) ∷ []) (plain_deltas z p.k m after) ((refl, tt), tt) in
      let rest : Timed z keys (map record_row s.deltas ++ record_row s.piece ∷ []) = subst (λ (l : List Row). Timed z keys l) (sym (map_last s.deltas s.piece)) (timed_plain z keys (s.deltas ++ s.piece ∷ []) plain) in
      let times : Timed z (keys_next x.index (length b.events)) (rows_in (directory_of s)) =
      subst (λ (l : List Key). Timed z l (rows_in (directory_of s))) keys_are
      (timed_lists all (events_among more) whole m (after - m) keys (map record_row s.deltas ++ record_row s.piece ∷ []) upto rest) in
      let bare_x : Opened = record { index = record { params = x.index.params; form = x.index.form; batches = x.index.batches; records = []; used = 0 }; names = [] } in
      let match : Match z (keys_next x.index (length b.events)) (stored_in s) =
      segment_matches z [] pos wide front b more is bare_x (record { params = so.params; count = so.count; number = so.number; kept = tt }) in
      let events_are : events_among (front ++ b ∷ []) ≡ before ++ b.events = flat_map-append (λ (b : Batch). b.events) front (b ∷ []) ∙ ap (λ (l : List Event). before ++ l) (append-nil b.events) in
      let lists : length s.lists ≡ after - m = length-map (numbers m (after - m)) (stored_list p all) ∙ numbers_length m (after - m) in
      let deltas : length s.deltas ≡ length (deltas_due p.k m after) = length-map (deltas_due p.k m after) (λ k. stored (record_among p all [] k)) in
      record {
        params = so.params;
        count = sum_by_push (λ (b : BatchEntry). b.events) x.index.batches (directory_of s).batch ∙ ap (λ c. c + length b.events) so.count ∙ sym (length-append before b.events) ∙ ap length (sym events_are);
        number = length-append x.index.batches ((directory_of s).batch ∷ []) ∙ ap (λ c. c + 1) so.number ∙ sym (length-append front (b ∷ []));
        keys = kept_more x (directory_of s) offset (x.index.used + length (segment_bytes wide_here s) + 1) so.keys
            (length-map s.lists list_row ∙ lists ∙ (λ i. leaves (sym so.params i) (sym so.count i + length b.events) - leaves (sym so.params i) (sym so.count i)))
            (length-map s.deltas record_row ∙ deltas ∙ (λ i. length (deltas_due (sym so.params i).k (leaves (sym so.params i) (sym so.count i)) (leaves (sym so.params i) (sym so.count i + length b.events)))));
        told = each_append (IsTold z) x.index.records (laid offset (keys_next x.index (length b.events)) (rows_in (directory_of s))) so.told
            (laid_told z offset (keys_next x.index (length b.events)) (rows_in (directory_of s)) (stored_in s) match (tell s) times);
      }

  all_told : (front batches later : List Batch) (x : Opened) → z.batches ≡ front ++ (batches ++ later) → IsToldSoFar z x front → IsToldSoFar z (opened_onto z.params x (events_among front) batches) (front ++ batches)
  all_told front [] later x is so = subst (IsToldSoFar z x) (sym (append-nil front)) so
  all_told front (b ∷ more) later x is so =
      let s : Segment = segment_of z.params (events_among front) b in
      let events_are : events_among (front ++ b ∷ []) ≡ events_among front ++ b.events = flat_map-append (λ (b : Batch). b.events) front (b ∷ []) ∙ ap (λ (l : List Event). events_among front ++ l) (append-nil b.events) in
      subst (λ (l : List Event). IsToldSoFar z (opened_onto z.params (with_segment x s) l more) (front ++ b ∷ more)) events_are
      (subst (λ (l : List Batch). IsToldSoFar z (opened_onto z.params (with_segment x s) (events_among (front ++ b ∷ [])) more) l) (append_assoc front (b ∷ []) more)
      (all_told (front ++ b ∷ []) more later (with_segment x s) (is ∙ sym (append_assoc front (b ∷ []) (more ++ later))) (told_next x front b (more ++ later) is so)))

  form_told : (f : Form) → IsToldSoFar z (opened_in f z.params z.batches) z.batches
  form_told form.One = all_told [] z.batches [] (bare form.One z.params) (sym (append-nil z.batches)) (record { params = refl; count = refl; number = refl; keys = refl; told = tt })
  form_told form.Two = all_told [] z.batches [] (bare form.Two z.params) (sym (append-nil z.batches)) (record { params = refl; count = refl; number = refl; keys = refl; told = tt })
  form_told (form.Upgraded n) =
      let p : Params = z.params in
      let xs : List Batch = take n z.batches in
      let ys : List Batch = drop n z.batches in
      let whole : z.batches ≡ xs ++ ys = sym (take-append-drop n z.batches) in
      let so = all_told [] xs ys (bare form.One p) whole (record { params = refl; count = refl; number = refl; keys = refl; told = tt }) in
      let y : Opened = opened_onto p (bare form.One p) [] xs in
      subst (IsToldSoFar z (opened_onto p (with_marker y) (events_among xs) ys)) (sym whole)
      (all_told xs ys [] (with_marker y) (whole ∙ ap (λ (l : List Batch). xs ++ l) (sym (append-nil ys))) (record { params = so.params; count = so.count; number = so.number; keys = so.keys; told = so.told }))

-- ---- what is held at a key

module _ (z : History) (legal : IsLegal z) where
  opened_told : IsToldSoFar z (opened_of z) z.batches
  opened_told =
      let large = large_parameters z.params.l z.params.k legal.parameters in
      form_told z (omega (arith, large.0)) (omega (arith, large.1)) z.form

  -- what is told of a record that is held
  pub told_at : (k : Key) (e : Entry) → lookup (same_key k) (opened_of z).index.records ≡ Some e → IsTold z (k, e)
  told_at k e is = at_key (IsTold z) k e (opened_of z).index.records opened_told.told is

  -- each record that exists is held
  pub record_held : (k : Key) → key_exists z.params (length (events_of z)) k ≡ true → is_some (lookup (same_key k) (opened_of z).index.records) ≡ true
  record_held k there =
      let large = large_parameters z.params.l z.params.k legal.parameters in
      let so = opened_told in
      let batches : List BatchEntry = (opened_of z).index.batches in
      let among_all : among k (keys_among z.params 0 0 batches) ≡ true = exists_held z.params (omega (arith, large.0)) large.1 batches k (ap (λ n. key_exists z.params n k) so.count ∙ there) in
      found (opened_of z).index.records k (ap (among k) (so.keys ∙ ap (λ (p : Params). keys_among p 0 0 batches) so.params) ∙ among_all)
