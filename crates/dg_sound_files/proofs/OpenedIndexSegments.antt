-- An image whose records are those of a history has the bytes of the history's file, and a form that the history may have.
use Rattle.std.proofs.Common.{◌≡◌, ℕ, suc, ◌+◌, ◌-◌, ◌*◌, ◌<◌, ◌≤◌, Bool, true, false, not, List, [], ◌∷◌, ◌++◌, length, get_or, take, drop, map, Option, Some, refl, sym, ap, subst, ◌∙◌, append_assoc, append-nil, arith, add-mul, div-mul-le_self}
use lib.Seq.{take-append-le}
use Rattle.std.specs.Prelude.{◌==◌}
use Rattle.std.proofs.lemmas.Bool.{eqb-true, and_from, and_parts, false≢true, le-leb, leb-true}
use Rattle.std.proofs.lemmas.List.{take_all, take-append-drop, drop-drop, drop_more, length-take-le, length-drop, length-append, length-map}
use Rattle.std.proofs.lemmas.List.Concat.{flat_map-append}
use Rattle.std.proofs.lemmas.List.Sums.{sum_by_push}
use Rattle.dg_graph.specs.declared.event.Event.{Event}
use Rattle.dg_graph.specs.declared.function.Function.{Function}
use Rattle.dg_graph.specs.Columns.{eight}
use Rattle.dg_history.specs.declared.node.Key.{Key}
use Rattle.dg_history.specs.declared.node.Key.TheVariants as key
use Rattle.dg_history.specs.declared.params.Params.{Params}
use Rattle.dg_history.specs.declared.form.Form.{Form}
use Rattle.dg_history.specs.declared.form.Form.TheVariants as form
use Rattle.dg_history.specs.History.{History, Batch, events_of, first_time_of, is_form, is_skewed, is_wide, last_time_from, narrow_batches}
use Rattle.dg_history.specs.LegalHistory.{are_silent}
use Rattle.dg_index.specs.FileOfHistory.{Stored, StoredList, Segment, directory, blobs, file, marker, stored_in, segment_bytes, segment_of, stored_list, stored}
use Rattle.dg_index.specs.Hierarchy.{numbers, leaves}
use Rattle.dg_index.specs.ImageText.{eight_at, gate_behind}
use Rattle.dg_index.specs.IndexRecords.{closed_list, record_among, deltas_due, lists_due}
use Rattle.dg_index.specs.OpenedIndex.{Opened, Directory, directory_of, list_row, record_row, rows_in, laid, total, keys_next, event_total, with_marker}
use Rattle.dg_index.specs.declared.entry.BatchEntry.{BatchEntry}
use Rattle.dg_index.specs.declared.entry.Ends.{Ends}
use Rattle.dg_index.specs.declared.entry.Entry.{Entry}
use Rattle.dg_index.specs.declared.entry.Row.{Row}
use Rattle.dg_index.proofs.OpenedIndexDirectories.{map_last, measures}
use Rattle.dg_index.proofs.HierarchyCounts.{numbers_length}
use Rattle.dg_history.proofs.LegalHistories.{events_among}
use Rattle.dg_index.proofs.IndexRecordColumns.{Each, Match, IsKept, tell, segment_matches, list_right}
use Rattle.dg_index.proofs.OpenedIndexGrowth.{file_more, file_upgraded}
use Rattle.dg_index.proofs.OpenedSoFar.{one_more}
use Rattle.dg_index.proofs.HierarchyStability.{leaves_more}
use Rattle.dg_columns.proofs.Fields.{IsBytes, IsBytes-drop, IsBytes-take, Stands, stands_then}
use Rattle.dg_sound_files.proofs.EachParts.{each_parts, each_unmap, of_number}
use Rattle.dg_sound_files.proofs.ImageTextNumbers.{eight_stands}
use Rattle.dg_sound_files.proofs.ImageTextDirectories.{IsSpelt, IsUntimed, directory_text, segment_text, directories_are_spelt}
use Rattle.dg_sound_files.proofs.OpenedIndexColumns.{sum_of, laid_stands, SameEnds, same_ends_join, same_rows}
use Rattle.dg_sound_files.proofs.OpenedIndexDirectories.{Chain, OfBatch, OfUpgrade, StandsMarked, StandsNext, Turn, chain_records, directories_in, text_next}
use Rattle.dg_sound_files.proofs.SilentBatches.{IsSilent, batch_silent, laid_unheard}

parts_same : {A : Type 0} (xs ys : List A) (us vs : List A) → length xs ≡ length us → xs ++ ys ≡ us ++ vs → (xs ≡ us) × (ys ≡ vs)
parts_same [] ys [] vs len e = (refl, e)
parts_same [] ys (u ∷ us) vs len e = absurd (omega (arith, len))
parts_same (x ∷ xs) ys [] vs len e = absurd (omega (arith, len))
parts_same {A} (x ∷ xs) ys (u ∷ us) vs len e =
    let first : x ≡ u = cc in
    let rest : xs ++ ys ≡ us ++ vs = cc in
    let more = parts_same xs ys us vs (omega (arith, len)) rest in
    ((λ i. first i ∷ more.0 i), more.1)

-- ---- times

-- the times of a list are those of its events
abbrev pub ListTimes : History → Key → Option Ends → Type 0
ListTimes z (key.List i) ends = ends ≡ Some (record { first = first_time_of (closed_list z.params (events_of z) i); last = last_time_from 0 (closed_list z.params (events_of z) i) })
ListTimes z (key.Piece s) ends = Unit {0}
ListTimes z (key.Top h) ends = Unit {0}
ListTimes z (key.Down h c) ends = Unit {0}

abbrev pub IsListTimed : History → Key × Entry → Type 0
IsListTimed z r = ListTimes z r.0 r.1.ends

untimed_same : (rows : List Row) (all : List Stored) → length rows ≡ length all → Each IsUntimed rows → SameEnds rows (map record_row all)
untimed_same [] [] len e = tt
untimed_same [] (s ∷ all) len e = absurd (omega (arith, len))
untimed_same (r ∷ rows) [] len e = absurd (omega (arith, len))
untimed_same (r ∷ rows) (s ∷ all) len e = (e.0, untimed_same rows all (omega (arith, len)) e.1)

module _ (z : History) (pos : 0 < z.params.l) (arity : 0 < z.params.k) (all later : List Event) (whole : events_of z ≡ all ++ later) where
  lists_same : (offset i n : ℕ) (keys : List Key) (rows others : List Row) → length rows ≡ n → (i + n) * z.params.l ≤ length all
      → Each (IsListTimed z) (laid offset (map (λ i. key.List i) (numbers i n) ++ keys) (rows ++ others)) → SameEnds rows (map list_row (map (stored_list z.params all) (numbers i n)))
  lists_same offset i n keys [] others len le e = subst (λ m. SameEnds [] (map list_row (map (stored_list z.params all) (numbers i m)))) len tt
  lists_same offset i n keys (r ∷ rows) others len le e =
      subst (λ m. (i + m) * z.params.l ≤ length all → Each (IsListTimed z) (laid offset (map (λ i. key.List i) (numbers i m) ++ keys) (r ∷ (rows ++ others))) → SameEnds (r ∷ rows) (map list_row (map (stored_list z.params all) (numbers i m)))) len
      (λ le e.
      let l : ℕ = z.params.l in
      let sum : (i + suc (length rows)) * l ≡ (i + 1) * l + length rows * l = omega (arith, add-mul i (suc (length rows)) l, add-mul i 1 l, add-mul (length rows) 1 l) in
      let right = list_right z all later pos arity whole i (omega (arith, le, sum)) in (
        e.0 ∙ ap (λ (events : List Event). Some (record { first = first_time_of events; last = last_time_from 0 events })) (sym right),
        lists_same (offset + total r.lengths) (i + 1) (length rows) keys rows others refl (subst (λ c. c * z.params.l ≤ length all) (let z : i + suc (length rows) ≡ i + 1 + length rows = omega arith in z) le) e.1,
      ))
      le e

-- ---- one segment

-- the index is that of these batches
pub record IsFront (z : History) (y : Opened) (front : List Batch) : Type 0 where
  pub params : y.index.params ≡ z.params
  pub count : event_total y.index.batches ≡ length (events_among front)
  pub number : length y.index.batches ≡ length front

-- the directory counts this batch, and tells its times and names
pub record Counts (d : Directory) (b : Batch) : Type 0 where
  pub events : d.batch.events ≡ length b.events
  pub first : d.batch.ends.first ≡ first_time_of b.events
  pub last : d.batch.ends.last ≡ last_time_from 0 b.events
  pub names : d.names ≡ b.names

module _ (z : History) (image : List ℕ) (fits : IsBytes image) (pos : 0 < z.params.l) (arity : 0 < z.params.k)
    (y : Opened) (d : Directory) (front : List Batch) (b : Batch) (more : List Batch) (is : z.batches ≡ front ++ b ∷ more) (so : IsFront z y front)
    (next : StandsNext y image d) (counts : Counts d b)
    (kept : Each (IsKept z image) (laid (y.index.used + 16 + eight_at image y.index.used) (keys_next y.index d.batch.events) (rows_in d)))
    (timed : Each (IsListTimed z) (laid (y.index.used + 16 + eight_at image y.index.used) (keys_next y.index d.batch.events) (rows_in d))) where
  -- the directory that stands there
  spelt : IsSpelt y.index (text_next y image) d
  spelt = directories_are_spelt y.index (text_next y image) d (IsBytes-take (eight_at image y.index.used) (drop (y.index.used + 16) image) (IsBytes-drop (y.index.used + 16) image fits)) next.read

  abbrev before : List Event
  before = events_among front

  abbrev m : ℕ
  m = leaves z.params (length (events_among front))

  abbrev after : ℕ
  after = leaves z.params (length (events_among front) + length b.events)

  abbrev others : List Key
  others = deltas_due z.params.k m after ++ key.Piece (length front) ∷ []

  keys_are : keys_next y.index d.batch.events ≡ map (λ i. key.List i) (numbers m (after - m)) ++ others
  keys_are = λ i. lists_due (so.params i) (so.count i) (so.count i + counts.events i) ++ (deltas_due (so.params i).k (leaves (so.params i) (so.count i)) (leaves (so.params i) (so.count i + counts.events i)) ++ key.Piece (so.number i) ∷ [])

  -- how many there are
  lists_here : length d.lists ≡ after - m
  lists_here = spelt.lists ∙ (λ i. leaves (so.params i) (so.count i + counts.events i) - leaves (so.params i) (so.count i))

  deltas_here : length d.deltas ≡ length (deltas_due z.params.k m after)
  deltas_here = spelt.deltas ∙ (λ i. length (deltas_due (so.params i).k (leaves (so.params i) (so.count i)) (leaves (so.params i) (so.count i + counts.events i))))

  rows_long : length (rows_in d) ≡ after - m + length (deltas_due z.params.k m after) + 1
  rows_long = omega (arith, length-append d.lists (d.deltas ++ d.piece ∷ []), length-append d.deltas (d.piece ∷ []), lists_here, deltas_here)

  keys_long : length (keys_next y.index d.batch.events) ≡ after - m + length (deltas_due z.params.k m after) + 1
  keys_long =
      ap length keys_are ∙ omega (arith, length-append (map (λ i. key.List i) (numbers m (after - m))) others, length-append (deltas_due z.params.k m after) (key.Piece (length front) ∷ []), length-map (numbers m (after - m)) (λ i. key.List i), numbers_length m (after - m))

  -- in the first form its batch has no message
  pub segment_silent : is_wide y.index.form ≡ false → are_silent (events_among front) ≡ true → are_silent (events_among (front ++ b ∷ [])) ≡ true
  segment_silent narrow silent =
      let heard : Each (IsSilent z) (keys_next y.index d.batch.events) = laid_unheard z image (y.index.used + 16 + eight_at image y.index.used) (keys_next y.index d.batch.events) (rows_in d) (keys_long ∙ sym rows_long) (spelt.unheard narrow) kept in
      let parts = each_parts (IsSilent z) (map (λ i. key.List i) (numbers m (after - m))) others (subst (Each (IsSilent z)) keys_are heard) in
      let last = each_parts (IsSilent z) (deltas_due z.params.k m after) (key.Piece (length front) ∷ []) parts.1 in
      ap are_silent (flat_map-append (λ (b : Batch). b.events) front (b ∷ []) ∙ ap (λ (l : List Event). before ++ l) (append-nil b.events))
      ∙ batch_silent z pos arity front b more is silent (λ j from to. of_number (λ j. IsSilent z (key.List j)) m (after - m) j from (omega (arith, from, to)) (each_unmap (IsSilent z) (λ i. key.List i) (numbers m (after - m)) parts.0)) last.1.0

  pub segment_stands : Stands image y.index.used (segment_bytes (is_wide y.index.form) (segment_of z.params (events_among front) b)) (gate_behind image y.index.used)
  segment_stands =
      let wide : Bool = is_wide y.index.form in
      let p : Params = z.params in
      let all : List Event = before ++ b.events in
      let s : Segment = segment_of p before b in
      let up : m ≤ after = leaves_more p.l (length before) (length b.events) pos in
      let used : ℕ = y.index.used in
      let offset : ℕ = used + 16 + eight_at image y.index.used in
      let whole : events_of z ≡ all ++ events_among more = ap events_among is ∙ flat_map-append (λ (b : Batch). b.events) front (b ∷ more) ∙ sym (append_assoc before b.events (events_among more)) in
      let upto : (m + (after - m)) * p.l ≤ length all =
      subst (λ c. c * p.l ≤ length all) (let e : after ≡ m + (after - m) = omega (arith, up) in e)
      (subst (λ c. leaves p (length before + length b.events) * p.l ≤ c) (sym (length-append before b.events)) (div-mul-le_self (length before + length b.events) p.l)) in
      let lists_due_here : length s.lists ≡ after - m = length-map (numbers m (after - m)) (stored_list p all) ∙ numbers_length m (after - m) in
      let deltas_due_here : length s.deltas ≡ length (deltas_due p.k m after) = length-map (deltas_due p.k m after) (λ k. stored (record_among p all [] k)) in
      let columns : List Stored = map (λ (x : StoredList). x.columns) s.lists in
      let stored_long : length (stored_in s) ≡ after - m + length (deltas_due p.k m after) + 1 =
      omega (arith, length-append columns (s.deltas ++ s.piece ∷ []), length-append s.deltas (s.piece ∷ []), length-map s.lists (λ (x : StoredList). x.columns), lists_due_here, deltas_due_here) in
      -- the columns
      let bare_y : Opened = record { index = record { params = y.index.params; form = y.index.form; batches = y.index.batches; records = []; used = 0 }; names = [] } in
      let match : Match z (keys_next y.index d.batch.events) (stored_in s) =
      subst (λ n. Match z (keys_next y.index n) (stored_in s)) (sym counts.events) (segment_matches z [] pos arity front b more is bare_y (record { params = so.params; count = so.count; number = so.number; kept = tt })) in
      let may = and_parts (sum_of (rows_in d) == eight_at image (y.index.used + 8)) _ next.may in
      let measured : sum_of (rows_in d) ≡ eight_at image (y.index.used + 8) = eqb-true _ _ may.0 in
      let laid_here = laid_stands z image offset (keys_next y.index d.batch.events) (rows_in d) (stored_in s) (keys_long ∙ sym rows_long) (stored_long ∙ sym rows_long) match kept (omega (arith, measured, next.ends)) in
      -- the rows
      let lists_same_here : SameEnds d.lists (map list_row s.lists) =
      lists_same z pos arity all (events_among more) whole offset m (after - m) others d.lists (d.deltas ++ d.piece ∷ []) lists_here upto (subst (λ (l : List Key). Each (IsListTimed z) (laid offset l (rows_in d))) keys_are timed) in
      let others_same : SameEnds (d.deltas ++ d.piece ∷ []) (map record_row s.deltas ++ record_row s.piece ∷ []) =
      subst (SameEnds (d.deltas ++ d.piece ∷ [])) (sym (map_last s.deltas s.piece))
      (untimed_same (d.deltas ++ d.piece ∷ []) (s.deltas ++ s.piece ∷ []) (omega (arith, length-append d.deltas (d.piece ∷ []), length-append s.deltas (s.piece ∷ []), deltas_here, deltas_due_here)) spelt.untimed) in
      let rows_are : rows_in d ≡ rows_in (directory_of s) =
      same_rows (rows_in d) (rows_in (directory_of s)) (stored_in s) laid_here.tell (tell s) (same_ends_join d.lists (map list_row s.lists) (d.deltas ++ d.piece ∷ []) (map record_row s.deltas ++ record_row s.piece ∷ []) lists_same_here others_same) in
      let split = parts_same d.lists (d.deltas ++ d.piece ∷ []) (map list_row s.lists) (map record_row s.deltas ++ record_row s.piece ∷ []) (lists_here ∙ sym (length-map s.lists list_row ∙ lists_due_here)) rows_are in
      let split_more = parts_same d.deltas (d.piece ∷ []) (map record_row s.deltas) (record_row s.piece ∷ []) (deltas_here ∙ sym (length-map s.deltas record_row ∙ deltas_due_here)) split.1 in
      let piece_is : d.piece ≡ record_row s.piece = first_same d.piece (record_row s.piece) split_more.1 in
      let names_are : d.batch.names ≡ length b.names = spelt.names ∙ ap length counts.names in
      let d_is : d ≡ directory_of s = λ i. record {
        batch = record { events = counts.events i; ends = record { first = counts.first i; last = counts.last i }; names = names_are i };
        names = counts.names i;
        lists = split.0 i;
        deltas = split_more.0 i;
        piece = piece_is i;
      } in
      -- the bytes
      let text : List ℕ = directory wide s in
      let text_is : text_next y image ≡ text = spelt.text ∙ ap (directory_text wide) d_is ∙ segment_text wide s in
      let long : eight_at image y.index.used ≡ length text = sym (length-take-le (eight_at image y.index.used) (drop (y.index.used + 16) image) (omega (arith, length-drop (y.index.used + 16) image, next.ends))) ∙ ap length text_is in
      let wide_is : eight_at image (y.index.used + 8) ≡ length (blobs s) = sym measured ∙ ap sum_of rows_are ∙ measures s in
      let s1 = eight_stands image y.index.used (y.index.used + 8) fits refl (omega (arith, next.begins)) in
      let s2 = eight_stands image (y.index.used + 8) (y.index.used + 16) fits (omega arith) (omega (arith, next.begins)) in
      let s3 : Stands image (y.index.used + 16) text offset = sym (take-append-drop (eight_at image y.index.used) (drop (y.index.used + 16) image)) ∙ (λ i. text_is i ++ drop-drop (eight_at image y.index.used) (y.index.used + 16) image i) in
      let s4 : Stands image offset (blobs s) (gate_behind image y.index.used) = laid_here.stands ∙ ap (λ n. blobs s ++ drop n image) (ap (λ n. offset + n) measured) in
      let s34 = stands_then image (y.index.used + 16) text offset (blobs s) (gate_behind image y.index.used) s3 s4 in
      let s2' : Stands image (y.index.used + 8) (eight (length (blobs s))) (y.index.used + 16) = s2 ∙ ap (λ n. eight n ++ drop (y.index.used + 16) image) wide_is in
      let s1' : Stands image y.index.used (eight (length text)) (y.index.used + 8) = s1 ∙ ap (λ n. eight n ++ drop (y.index.used + 8) image) long in
      stands_then image y.index.used (eight (length text)) (y.index.used + 8) (eight (length (blobs s)) ++ (text ++ blobs s)) (gate_behind image y.index.used) s1'
      (stands_then image (y.index.used + 8) (eight (length (blobs s))) (y.index.used + 16) (text ++ blobs s) (gate_behind image y.index.used) s2' s34)
    where
      first_same : (r q : Row) → r ∷ [] ≡ q ∷ [] → r ≡ q
      first_same r q e = cc

-- ---- the marker

pub marker_stands : (image : List ℕ) (y : Opened) → IsBytes image → StandsMarked y image → Stands image y.index.used marker (y.index.used + 24)
marker_stands image y fits next =
    let s1 = eight_stands image y.index.used (y.index.used + 8) fits refl (omega (arith, next.ends)) in
    let s2 = eight_stands image (y.index.used + 8) (y.index.used + 16) fits (omega arith) (omega (arith, next.ends)) in
    let s3 = eight_stands image (y.index.used + 16) (y.index.used + 24) fits (omega arith) (omega (arith, next.ends)) in
    let t1 : Stands image y.index.used (eight 8) (y.index.used + 8) = s1 ∙ ap (λ n. eight n ++ drop (y.index.used + 8) image) next.size in
    let t2 : Stands image (y.index.used + 8) (eight 0) (y.index.used + 16) = s2 ∙ ap (λ n. eight n ++ drop (y.index.used + 16) image) next.columns in
    let t3 : Stands image (y.index.used + 16) (eight 0) (y.index.used + 24) = s3 ∙ ap (λ n. eight n ++ drop (y.index.used + 24) image) next.events in
    stands_then image y.index.used (eight 8) (y.index.used + 8) (eight 0 ++ eight 0) (y.index.used + 24) t1
    (stands_then image (y.index.used + 8) (eight 0) (y.index.used + 16) (eight 0) (y.index.used + 24) t2 t3)

-- ---- all of them

abbrev pub Agree : List Directory → List Batch → Type 0
Agree [] [] = Unit {0}
Agree [] (b ∷ batches) = ⊥
Agree (d ∷ ds) [] = ⊥
Agree (d ∷ ds) (b ∷ batches) = Counts d b × Agree ds batches

-- the history with these of its batches, in the form that is opened so far
abbrev pub so_far : History → Opened → List Batch → History
so_far z y front = record { params = z.params; form = y.index.form; batches = front }

-- the image begins with the file of this history, whose form is one that it may have
pub record IsWritten (z : History) (image : List ℕ) (y : Opened) (front : List Batch) : Type 0 where
  pub stands : Stands image 0 (file (so_far z y front)) (y.index.used - 1)
  pub form : is_form y.index.form z.params.function (length front) ≡ true
  pub silent : are_silent (events_among (narrow_batches y.index.form front)) ≡ true

-- with one batch more
form_more : (f : Form) (function : Function) (front : List Batch) (b : Batch) → is_form f function (length front) ≡ true → is_form f function (length (front ++ b ∷ [])) ≡ true
form_more form.One function front b is = is
form_more form.Two function front b is = refl
form_more (form.Upgraded n) function front b is =
    let a = and_parts (not (is_skewed function)) _ is in
    and_from (not (is_skewed function)) _ a.0 (le-leb n (length (front ++ b ∷ [])) (omega (arith, leb-true n (length front) a.1, length-append front (b ∷ []))))

-- the batch is one of those in the first form, or leaves them as they are
silent_more : (f : Form) (function : Function) (front : List Batch) (b : Batch) → is_form f function (length front) ≡ true → are_silent (events_among (narrow_batches f front)) ≡ true
    → (is_wide f ≡ false → are_silent (events_among front) ≡ true → are_silent (events_among (front ++ b ∷ [])) ≡ true) → are_silent (events_among (narrow_batches f (front ++ b ∷ []))) ≡ true
silent_more form.One function front b is silent more = more refl silent
silent_more form.Two function front b is silent more = refl
silent_more (form.Upgraded n) function front b is silent more =
    let within : n ≤ length front = leb-true n (length front) (and_parts (not (is_skewed function)) _ is).1 in
    ap (λ (l : List Batch). are_silent (events_among l)) (take-append-le n front (b ∷ []) within) ∙ silent

-- the form in front of a marker is the first
narrow_is : (f : Form) (function : Function) (n : ℕ) → is_form f function n ≡ true → is_wide f ≡ false → (f ≡ form.One) × (not (is_skewed function) ≡ true)
narrow_is form.One function n is narrow = (refl, is)
narrow_is form.Two function n is narrow = absurd (false≢true (sym narrow))
narrow_is (form.Upgraded b) function n is narrow = absurd (false≢true (sym narrow))

module _ (z : History) (image : List ℕ) (fits : IsBytes image) (pos : 0 < z.params.l) (arity : 0 < z.params.k) (x : Opened) (kept : Each (IsKept z image) x.index.records) (timed : Each (IsListTimed z) x.index.records) where
  gate_stands : (y : Opened) → 1 ≤ y.index.used → y.index.used ≤ length image → get_or image (y.index.used - 1) 0 ≡ 1 → Stands image (y.index.used - 1) (1 ∷ []) y.index.used
  gate_stands y some within opens = drop_more image (y.index.used - 1) 0 (omega (arith, some, within)) ∙ (λ i. opens i ∷ drop (let e : y.index.used - 1 + 1 ≡ y.index.used = omega (arith, some) in e i) image)

  pub all_written : (ts : List Turn) (y : Opened) (front left : List Batch) → z.batches ≡ front ++ left → IsFront z y front → 1 ≤ y.index.used → y.index.used ≤ length image → Agree (directories_in ts) left → Chain image y ts x
      → IsWritten z image y front → IsWritten z image x z.batches
  all_written [] y front [] is so some within agree c written =
      subst (λ (y : Opened). IsWritten z image y z.batches) c.0 (subst (IsWritten z image y) (sym (append-nil front) ∙ sym is) written)
  all_written [] y front (b ∷ left) is so some within agree c written = absurd agree
  all_written (OfUpgrade ∷ ts) y front left is so some within agree c written =
      let narrow = narrow_is y.index.form z.params.function (length front) written.form c.1.narrow in
      let here : History = so_far z y front in
      let gate = gate_stands y some within c.0 in
      let one = stands_then image (y.index.used - 1) (1 ∷ []) y.index.used marker (y.index.used + 24) gate (marker_stands image y fits c.1) in
      let text : file (so_far z (with_marker y) front) ≡ file here ++ (1 ∷ marker) = ap (λ n. file (record { params = z.params; form = form.Upgraded n; batches = front })) so.number ∙ file_upgraded here narrow.0 in
      let both : Stands image 0 (file here ++ (1 ∷ marker)) (y.index.used + 24) = stands_then image 0 (file here) (y.index.used - 1) (1 ∷ marker) (y.index.used + 24) written.stands one in
      all_written ts (with_marker y) front left is (record { params = so.params; count = so.count; number = so.number }) (omega arith) c.1.ends agree c.2 (record {
        stands = both ∙ (λ i. sym text i ++ drop (let e : y.index.used + 24 ≡ y.index.used + 24 + 1 - 1 = omega arith in e i) image);
        form = and_from (not (is_skewed z.params.function)) _ narrow.1 (le-leb (length y.index.batches) (length front) (omega (arith, so.number)));
        silent = ap (λ (l : List Batch). are_silent (events_among l)) (ap (λ n. take n front) so.number ∙ take_all (length front) front (omega arith)) ∙ ap (λ (f : Form). are_silent (events_among (narrow_batches f front))) (sym narrow.0) ∙ written.silent;
      })
  all_written (OfBatch d ∷ ts) y front [] is so some within agree c written = absurd agree
  all_written (OfBatch d ∷ ts) y front (b ∷ left) is so some within agree c written =
      let counts = agree.0 in
      let wide : Bool = is_wide y.index.form in
      let before : List Event = events_among front in
      let s : Segment = segment_of z.params before b in
      let y1 : Opened = one_more image y d in
      let here : List (Key × Entry) = laid (y.index.used + 16 + eight_at image y.index.used) (keys_next y.index d.batch.events) (rows_in d) in
      let later = chain_records image ts y1 x c.2 in
      let kept_here = (each_parts (IsKept z image) y.index.records here (each_parts (IsKept z image) (y.index.records ++ here) later.0 (subst (λ (l : List (Key × Entry)). Each (IsKept z image) l) later.1 kept)).0).1 in
      let timed_here = (each_parts (IsListTimed z) y.index.records here (each_parts (IsListTimed z) (y.index.records ++ here) later.0 (subst (λ (l : List (Key × Entry)). Each (IsListTimed z) l) later.1 timed)).0).1 in
      let one = segment_stands z image fits pos arity y d front b left is so c.1 counts kept_here timed_here in
      let quiet = segment_silent z image fits pos arity y d front b left is so c.1 counts kept_here timed_here in
      let gate = gate_stands y some within c.0 in
      let events_are : events_among (front ++ b ∷ []) ≡ before ++ b.events = flat_map-append (λ (b : Batch). b.events) front (b ∷ []) ∙ ap (λ (l : List Event). before ++ l) (append-nil b.events) in
      let so_next : IsFront z y1 (front ++ b ∷ []) = record {
        params = so.params;
        count = sum_by_push (λ (b : BatchEntry). b.events) y.index.batches d.batch ∙ (λ i. so.count i + counts.events i) ∙ sym (length-append before b.events) ∙ ap length (sym events_are);
        number = length-append y.index.batches (d.batch ∷ []) ∙ ap (λ c. c + 1) so.number ∙ sym (length-append front (b ∷ []));
      } in
      let last : List ℕ = 1 ∷ segment_bytes wide s in
      let text : file (so_far z y1 (front ++ b ∷ [])) ≡ file (so_far z y front) ++ last = file_more (so_far z y front) b written.form in
      let end : ℕ = gate_behind image y.index.used in
      let both : Stands image 0 (file (so_far z y front) ++ last) end =
      stands_then image 0 (file (so_far z y front)) (y.index.used - 1) last end written.stands (stands_then image (y.index.used - 1) (1 ∷ []) y.index.used (segment_bytes wide s) end gate one) in
      all_written ts y1 (front ++ b ∷ []) left (is ∙ sym (append_assoc front (b ∷ []) left)) so_next (omega arith) c.1.ends agree.1 c.2 (record {
        stands = both ∙ (λ i. sym text i ++ drop (let e : end ≡ end + 1 - 1 = omega arith in e i) image);
        form = form_more y.index.form z.params.function front b written.form;
        silent = silent_more y.index.form z.params.function front b written.form written.silent quiet;
      })
