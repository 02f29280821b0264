-- Which records an opened index holds, and what is kept at their keys.
use Rattle.std.proofs.Common.{◌≡◌, ℕ, zero, suc, ◌+◌, ◌-◌, ◌<◌, true, List, [], ◌∷◌, ◌++◌, Option, Some, None, length, take, drop, map, refl, sym, ap, subst, ◌∙◌, arith, append_assoc, append-nil, length-append}
use Rattle.std.specs.Prelude.{is_some}
use Rattle.std.specs.Map.{lookup}
use Rattle.std.proofs.lemmas.Bool.{eq-eqb, or_left, or_right}
use Rattle.std.proofs.lemmas.List.{length-map, take-append-drop}
use Rattle.std.proofs.lemmas.List.Concat.{flat_map-append}
use Rattle.std.proofs.lemmas.List.Sums.{sum_by_push}
use Rattle.dg_graph.specs.declared.element.Column.{Column}
use Rattle.dg_graph.specs.declared.event.Event.{Event}
use Rattle.dg_history.specs.declared.node.Key.{Key}
use Rattle.dg_history.specs.declared.node.Key.TheVariants as key
use Rattle.dg_history.specs.declared.form.Form.{Form}
use Rattle.dg_history.specs.declared.form.Form.TheVariants as form
use Rattle.dg_history.specs.declared.params.Params.{Params}
use Rattle.dg_history.specs.History.{Batch, History, events_of, is_wide}
use Rattle.dg_history.specs.Keys.{same_key}
use Rattle.dg_history.proofs.LegalHistories.{events_among}
use Rattle.dg_index.specs.declared.entry.BatchEntry.{BatchEntry}
use Rattle.dg_index.specs.declared.entry.Entry.{Entry}
use Rattle.dg_index.specs.FileOfHistory.{Segment, directory, segment_bytes, segment_of, stored_list}
use Rattle.dg_index.specs.Hierarchy.{leaves, numbers}
use Rattle.dg_index.specs.ImageOfHistory.{IsImageOf}
use Rattle.dg_index.specs.IndexKeys.{AreKept, among, keys_among}
use Rattle.dg_index.specs.IndexRecords.{column_in, deltas_due, lists_due}
use Rattle.dg_index.specs.OpenedIndex.{Opened, Opening, bare, column_at, directory_of, entry_at, entry_or_none, event_total, list_row, opened_in, opened_of, opened_onto, record_row, with_marker, with_segment}
use Rattle.dg_index.proofs.EverAddedBounds.{kept_more}
use Rattle.dg_index.proofs.HierarchyCounts.{numbers_length}
use Rattle.dg_index.proofs.IndexKeyRecords.{among_append, found}
use Rattle.dg_index.proofs.IndexRecordColumns.{columns_are_kept}

-- ---- the index of a history

-- what is known of what is opened so far, behind these events
pub record AreKnown (p : Params) (x : Opened) (before : List Event) : Type 0 where
  pub params : x.index.params ≡ p
  pub count : event_total x.index.batches ≡ length before
  pub kept : AreKept x.index

known_more : (p : Params) (x : Opened) (before : List Event) (b : Batch) → AreKnown p x before → AreKnown p (with_segment x (segment_of p before b)) (before ++ b.events)
known_more p x before b a =
    let s : Segment = segment_of p before b in
    let m : ℕ = leaves p (length before) in
    let after : ℕ = leaves p (length before + length b.events) in
    let offset : ℕ = x.index.used + 16 + length (directory (is_wide x.index.form) s) in
    let lists : length (map list_row s.lists) ≡ leaves x.index.params (event_total x.index.batches + length b.events) - leaves x.index.params (event_total x.index.batches) =
    length-map s.lists list_row ∙ length-map (numbers m (after - m)) (stored_list p (before ++ b.events)) ∙ numbers_length m (after - m)
    ∙ (λ i. leaves (sym a.params i) (sym a.count i + length b.events) - leaves (sym a.params i) (sym a.count i)) in
    let deltas : length (map record_row s.deltas)
    ≡ length (deltas_due x.index.params.k (leaves x.index.params (event_total x.index.batches)) (leaves x.index.params (event_total x.index.batches + length b.events))) =
    length-map s.deltas record_row ∙ length-map (deltas_due p.k m after) _
    ∙ (λ i. length (deltas_due (sym a.params i).k (leaves (sym a.params i) (sym a.count i)) (leaves (sym a.params i) (sym a.count i + length b.events)))) in
    record {
      params = a.params;
      count = sum_by_push (λ (b : BatchEntry). b.events) x.index.batches (directory_of s).batch ∙ ap (λ c. c + length b.events) a.count ∙ sym (length-append before b.events);
      kept = kept_more x (directory_of s) offset (x.index.used + length (segment_bytes (is_wide x.index.form) s) + 1) a.kept lists deltas;
    }

known_all : (p : Params) (batches : List Batch) (x : Opened) (before : List Event) → AreKnown p x before → AreKnown p (opened_onto p x before batches) (before ++ events_among batches)
known_all p [] x before a = subst (λ (l : List Event). AreKnown p x l) (sym (append-nil before)) a
known_all p (b ∷ batches) x before a =
    subst (λ (l : List Event). AreKnown p (opened_onto p x before (b ∷ batches)) l) (append_assoc before b.events (events_among batches))
    (known_all p batches (with_segment x (segment_of p before b)) (before ++ b.events) (known_more p x before b a))

-- a marker changes the form and the offset alone
known_marker : (p : Params) (x : Opened) (before : List Event) → AreKnown p x before → AreKnown p (with_marker x) before
known_marker p x before a = record { params = a.params; count = a.count; kept = a.kept }

known_form : (f : Form) (p : Params) (batches : List Batch) → AreKnown p (opened_in f p batches) (events_among batches)
known_form form.One p batches = known_all p batches (bare form.One p) [] (record { params = refl; count = refl; kept = refl })
known_form form.Two p batches = known_all p batches (bare form.Two p) [] (record { params = refl; count = refl; kept = refl })
known_form (form.Upgraded b) p batches =
    let xs : List Batch = take b batches in
    let ys : List Batch = drop b batches in
    let events : events_among batches ≡ events_among xs ++ events_among ys = ap events_among (sym (take-append-drop b batches)) ∙ flat_map-append (λ (b : Batch). b.events) xs ys in
    let y : Opened = opened_onto p (bare form.One p) [] xs in
    let first = known_all p xs (bare form.One p) [] (record { params = refl; count = refl; kept = refl }) in
    subst (λ (es : List Event). AreKnown p (opened_in (form.Upgraded b) p batches) es) (sym events)
    (known_all p ys (with_marker y) (events_among xs) (known_marker p y (events_among xs) first))

pub known : (z : History) → AreKnown z.params (opened_of z) (events_of z)
known z = known_form z.form z.params z.batches

-- ---- what is held

pub key_held : (o : Opening) (k : Key) → AreKept o → among k (keys_among o.params 0 0 o.batches) ≡ true → is_some (lookup (same_key k) o.records) ≡ true
key_held o k kept there = found o.records k (ap (among k) kept ∙ there)

piece_among : (p : Params) (batches : List BatchEntry) (number count i : ℕ) → i < length batches → among (key.Piece (number + i)) (keys_among p number count batches) ≡ true
piece_among p [] number count i lt = absurd (omega (arith, lt))
piece_among p (b ∷ batches) number count i lt = by i refl (λ j le. piece_among p batches (number + 1) (count + b.events) j le)
  where
    by : (j : ℕ) → i ≡ j → ((j : ℕ) → j < length batches → among (key.Piece (number + 1 + j)) (keys_among p (number + 1) (count + b.events) batches) ≡ true)
        → among (key.Piece (number + i)) (keys_among p number count (b ∷ batches)) ≡ true
    by zero e later =
        let k : Key = key.Piece (number + i) in
        let same : same_key k (key.Piece number) ≡ true = eq-eqb (number + i) number (omega (arith, e)) in
        among_append k (lists_due p count (count + b.events) ++ (deltas_due p.k (leaves p count) (leaves p (count + b.events)) ++ key.Piece number ∷ [])) (keys_among p (number + 1) (count + b.events) batches)
        ∙ or_left _ _ (among_append k (lists_due p count (count + b.events)) (deltas_due p.k (leaves p count) (leaves p (count + b.events)) ++ key.Piece number ∷ [])
        ∙ or_right _ _ (among_append k (deltas_due p.k (leaves p count) (leaves p (count + b.events))) (key.Piece number ∷ []) ∙ or_right _ _ (or_left _ _ same)))
    by (suc j) e later =
        let k : Key = key.Piece (number + i) in
        among_append k (lists_due p count (count + b.events) ++ (deltas_due p.k (leaves p count) (leaves p (count + b.events)) ++ key.Piece number ∷ [])) (keys_among p (number + 1) (count + b.events) batches)
        ∙ or_right _ _ (ap (λ (n : ℕ). among (key.Piece n) (keys_among p (number + 1) (count + b.events) batches)) (let z : number + i ≡ number + 1 + j = omega (arith, e) in z)
        ∙ later j (omega (arith, lt, e)))

-- the piece of each batch is held
pub piece_held : (o : Opening) (i : ℕ) → AreKept o → i < length o.batches → is_some (lookup (same_key (key.Piece i)) o.records) ≡ true
piece_held o i kept lt =
    key_held o (key.Piece i) kept (ap (λ (n : ℕ). among (key.Piece n) (keys_among o.params 0 0 o.batches)) (let z : i ≡ 0 + i = omega arith in z) ∙ piece_among o.params o.batches 0 0 i lt)

-- what is kept at a key that is held
pub record IsHeld (o : Opening) (k : Key) : Type 0 where
  pub entry : Entry
  pub found : lookup (same_key k) o.records ≡ Some entry
  pub is : entry_at o k ≡ entry

pub held_at : (o : Opening) (k : Key) → is_some (lookup (same_key k) o.records) ≡ true → IsHeld o k
held_at o k h = by (lookup (same_key k) o.records) refl h
  where
    by : (e : Option Entry) → lookup (same_key k) o.records ≡ e → is_some e ≡ true → IsHeld o k
    by None is h = cc
    by (Some e) is h = record { entry = e; found = is; is = ap entry_or_none is }

-- the columns of a record that is held are those of the history's record
pub columns_there : (z : History) (image : List ℕ) → IsImageOf z image → (k : Key) → is_some (lookup (same_key k) (opened_of z).index.records) ≡ true
    → (col : Column) → column_at image (entry_at (opened_of z).index k) col ≡ column_in z k col
columns_there z image h k held col =
    let e : IsHeld (opened_of z).index k = held_at (opened_of z).index k held in
    ap (λ (x : Entry). column_at image x col) e.is ∙ columns_are_kept z image h k e.entry e.found col
