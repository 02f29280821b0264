-- The records of a sound image are those of the history of its own events.
use Rattle.std.proofs.Common.{◌≡◌, ℕ, ◌+◌, ◌-◌, ◌*◌, ◌≤◌, ◌<◌, Bool, true, false, cond, ◌||◌, List, [], ◌∷◌, ◌++◌, length, take, drop, map, max, Option, Some, None, refl, sym, ap, subst, ◌∙◌, append_assoc, append-nil, arith, length-append, div-mul-le_self}
use Rattle.std.specs.Prelude.{◌==◌, ◌&&◌, ◌/◌, ◌^◌}
use Rattle.std.specs.List.{flat_map}
use Rattle.std.specs.Map.{lookup}
use Rattle.std.proofs.lemmas.Bool.{eqb-true, eq-eqb, and_parts}
use Rattle.std.proofs.lemmas.List.{drop-drop, drop-take, map-append}
use Rattle.std.proofs.lemmas.List.Concat.{flat_map-append}
use Rattle.std.proofs.lemmas.List.Sums.{sum_by_push, sum_by-cons}
use Rattle.dg_graph.specs.declared.element.Column.{Column}
use Rattle.dg_graph.specs.declared.element.Column.TheVariants as column
use Rattle.dg_graph.specs.declared.event.Event.{Event}
use Rattle.dg_graph.specs.ColumnGrammar.{may_change}
use Rattle.dg_graph.specs.Columns.{events_column}
use Rattle.dg_graph.specs.Composition.{Delta, between}
use Rattle.dg_history.specs.declared.node.Key.{Key}
use Rattle.dg_history.specs.declared.node.Key.TheVariants as key
use Rattle.dg_history.specs.declared.params.Params.{Params}
use Rattle.dg_history.specs.History.{History, Batch, events_of, first_time_of, last_time_from}
use Rattle.dg_history.specs.Keys.{same_key}
use Rattle.dg_index.specs.Hierarchy.{leaves, numbers, parent, set_at}
use Rattle.dg_index.specs.ImageText.{eight_at, gate_behind}
use Rattle.dg_index.specs.IndexKeys.{AreKept, Fresh, among}
use Rattle.dg_index.specs.IndexRecords.{Exact, closed_list, column_in, column_of_record, deltas_due, heights, lists_due, piece_at, piece_of}
use Rattle.dg_index.specs.OpenedIndex.{Opened, Directory, are_unheard, column_at, delta_count, entry_at, entry_or_none, event_total, keys_next, laid, list_count, rows_in, total, with_marker}
use Rattle.dg_index.specs.declared.entry.BatchEntry.{BatchEntry}
use Rattle.dg_index.specs.declared.entry.Ends.{Ends}
use Rattle.dg_index.specs.declared.entry.Entry.{Entry}
use Rattle.dg_index.specs.declared.entry.Row.{Row}
use Rattle.dg_index.proofs.HierarchyCounts.{numbers_length}
use Rattle.dg_index.proofs.IndexKeyUniqueness.{fresh_next}
use Rattle.dg_history.proofs.LegalHistories.{events_among}
use Rattle.dg_index.proofs.IndexRecordColumns.{Each, each_append, each_flat, each_map, each_number, IsKept, piece_there}
use Rattle.dg_index.proofs.EverAddedBounds.{kept_more}
use Rattle.dg_index.proofs.OpenedSoFar.{one_more}
use Rattle.dg_index.proofs.HierarchyStability.{leaves_more}
use Rattle.dg_columns.proofs.Fields.{IsBytes}
use Rattle.dg_sound.specs.OwnEvents.{have_ends, list_total, piece_length, piece_start}
use Rattle.dg_sound.specs.Soundness.{delta_keys, history_of}
use Rattle.dg_sound_files.proofs.EachParts.{each_parts, each_then, each_unflat, each_unmap}
use Rattle.dg_sound_files.proofs.ImageTextDirectories.{IsUnheard}
use Rattle.dg_sound_files.proofs.OpenedIndexBatches.{next_spelt, next_unheard}
use Rattle.dg_sound_files.proofs.SoundnessDueDeltas.{IsRightDelta, due_tested}
use Rattle.dg_sound_files.proofs.OwnEventsRead.{range_behind}
use Rattle.dg_sound_files.proofs.OpenedIndexDirectories.{Chain, OfBatch, OfUpgrade, Turn, batch_entries, chain_records, directories_in}
use Rattle.dg_sound_files.proofs.OpenedIndexSegments.{Agree, IsFront, IsListTimed, ListTimes}

-- ---- what is found at a key

same_itself : (k : Key) → same_key k k ≡ true
same_itself (key.List m) = let e : (m == m) ≡ true = eq-eqb m m refl in e
same_itself (key.Piece m) = let e : (m == m) ≡ true = eq-eqb m m refl in e
same_itself (key.Top m) = let e : (m == m) ≡ true = eq-eqb m m refl in e
same_itself (key.Down m c) = λ i. eq-eqb m m refl i && eq-eqb c c refl i

-- a key that none of these records has is looked up behind them
found_behind : (k : Key) (records later : List (Key × Entry)) → among k (map (λ (r : Key × Entry). r.0) records) ≡ false → lookup (same_key k) (records ++ later) ≡ lookup (same_key k) later
found_behind k [] later none = refl
found_behind k (r ∷ records) later none = by (found_behind k records later) (same_key k r.0) none
  where
    by : (among k (map (λ (r : Key × Entry). r.0) records) ≡ false → lookup (same_key k) (records ++ later) ≡ lookup (same_key k) later) → (b : Bool) → (b || among k (map (λ (r : Key × Entry). r.0) records)) ≡ false
        → cond b (Some r.1) (lookup (same_key k) (records ++ later)) ≡ lookup (same_key k) later
    by more true none = absurd cc
    by more false none = more none

-- ---- messages

-- the column of the record is compared with what the events determine: of a delta those in which it may have elements
abbrev pub is_told : Key → Column → Bool
is_told (key.List i) col = true
is_told (key.Piece s) col = true
is_told (key.Top h) col = may_change col
is_told (key.Down h c) col = may_change col

-- the row of a delta tells of no messages
abbrev TellsNone : Key → Row → Type 0
TellsNone (key.List i) r = Unit {0}
TellsNone (key.Piece s) r = Unit {0}
TellsNone (key.Top h) r = IsUnheard r
TellsNone (key.Down h c) r = IsUnheard r

abbrev TellNone : List Key → List Row → Type 0
TellNone [] rows = Unit {0}
TellNone (k ∷ keys) [] = Unit {0}
TellNone (k ∷ keys) (r ∷ rows) = TellsNone k r × TellNone keys rows

tells_none : (k : Key) (r : Row) → IsUnheard r → TellsNone k r
tells_none (key.List i) r e = tt
tells_none (key.Piece s) r e = tt
tells_none (key.Top h) r e = e
tells_none (key.Down h c) r e = e

lists_tell : (is : List ℕ) (keys : List Key) (rows others : List Row) → length rows ≡ length is → TellNone keys others → TellNone (map (λ i. key.List i) is ++ keys) (rows ++ others)
lists_tell [] keys [] others long more = more
lists_tell [] keys (r ∷ rows) others long more = absurd (omega (arith, long))
lists_tell (i ∷ is) keys [] others long more = absurd (omega (arith, long))
lists_tell (i ∷ is) keys (r ∷ rows) others long more = (tt, lists_tell is keys rows others (omega (arith, long)) more)

deltas_tell : (keys : List Key) (number : ℕ) (rows : List Row) (piece : Row) → length rows ≡ length keys → are_unheard rows ≡ true → TellNone (keys ++ key.Piece number ∷ []) (rows ++ piece ∷ [])
deltas_tell [] number [] piece long e = (tt, tt)
deltas_tell [] number (r ∷ rows) piece long e = absurd (omega (arith, long))
deltas_tell (k ∷ keys) number [] piece long e = absurd (omega (arith, long))
deltas_tell (k ∷ keys) number (r ∷ rows) piece long e =
    let a = and_parts (r.lengths.transient == 0) _ e in
    (tells_none k r (eqb-true _ _ a.0), deltas_tell keys number rows piece (omega (arith, long)) a.1)

-- nor do the rows of a directory
next_tell : (y : Opened) (d : Directory) → length d.lists ≡ list_count y.index d.batch.events → length d.deltas ≡ delta_count y.index d.batch.events → are_unheard d.deltas ≡ true → TellNone (keys_next y.index d.batch.events) (rows_in d)
next_tell y d lists deltas unheard =
    let p : Params = y.index.params in
    let n : ℕ = event_total y.index.batches in
    let m : ℕ = leaves p n in
    let after : ℕ = leaves p (n + d.batch.events) in
    lists_tell (numbers m (after - m)) (deltas_due p.k m after ++ key.Piece (length y.index.batches) ∷ []) d.lists (d.deltas ++ d.piece ∷ []) (lists ∙ sym (numbers_length m (after - m)))
    (deltas_tell (deltas_due p.k m after) (length y.index.batches) d.deltas d.piece deltas unheard)

-- ---- the history

module _ (image : List ℕ) (x : Opened) (events : List Event) (pos : 0 < x.index.params.l) (two : 2 ≤ x.index.params.k) (whole : events_of (history_of x events) ≡ events) where
  -- the columns of the record that are compared are those of the history, and a list has its times
  abbrev pub IsGood : Key → Type 0
  IsGood k = ((col : Column) → is_told k col ≡ true → column_at image (entry_at x.index k) col ≡ column_in (history_of x events) k col) × ListTimes (history_of x events) k (entry_at x.index k).ends

  pub good_list : (j : ℕ) → ((col : Column) → column_at image (entry_at x.index (key.List j)) col ≡ events_column col (closed_list x.index.params events j)) → have_ends (entry_at x.index (key.List j)).ends (closed_list x.index.params events j) ≡ true → IsGood (key.List j)
  good_list j columns ends = (
    λ col told. columns col ∙ ap (λ (l : List Event). events_column col (closed_list x.index.params l j)) (sym whole),
    ends_are (entry_at x.index (key.List j)).ends (closed_list x.index.params events j) ends ∙ ap (λ (l : List Event). Some (record { first = first_time_of (closed_list x.index.params l j); last = last_time_from 0 (closed_list x.index.params l j) })) (sym whole),
  )
    where
      ends_are : (o : Option Ends) (list : List Event) → have_ends o list ≡ true → o ≡ Some (record { first = first_time_of list; last = last_time_from 0 list })
      ends_are None list e = absurd cc
      ends_are (Some ends) list e =
          let t = and_parts (ends.first == first_time_of list) _ e in
          λ i. Some (record { first = eqb-true ends.first (first_time_of list) t.0 i; last = eqb-true ends.last (last_time_from 0 list) t.1 i })

  good_top : (h : ℕ) → IsRightDelta image x events (key.Top h) → IsGood (key.Top h)
  good_top h right = (λ col told. right col told ∙ ap (λ (l : List Event). column_of_record col (Exact (between [] (set_at x.index.params l h 1)))) (sym whole), tt)

  good_down : (h c : ℕ) → IsRightDelta image x events (key.Down h c) → IsGood (key.Down h c)
  good_down h c right =
      (λ col told. right col told ∙ ap (λ (l : List Event). column_of_record col (Exact (between (set_at x.index.params l h (parent x.index.params.k c)) (set_at x.index.params l (h - 1) c)))) (sym whole), tt)

  pub good_deltas : (n : ℕ) → Each (IsRightDelta image x events) (delta_keys x.index.params n) → Each IsGood (delta_keys x.index.params n)
  good_deltas n all =
      let p : Params = x.index.params in
      let right : Key → Type 0 = IsRightDelta image x events in
      let hs : List ℕ = heights p.k (leaves p n) in
      let downs : ℕ → List Key = λ h. map (λ c. key.Down h c) (numbers 1 (leaves p n / p.k ^ h * p.k)) in
      let parts = each_parts right (map (λ h. key.Top h) hs) (flat_map downs hs) all in
      each_append IsGood (map (λ h. key.Top h) hs) (flat_map downs hs)
      (each_map IsGood (λ h. key.Top h) hs (each_then (λ h. right (key.Top h)) (λ h. IsGood (key.Top h)) hs (λ h e. good_top h e) (each_unmap right (λ h. key.Top h) hs parts.0)))
      (each_flat IsGood downs hs (each_then (λ h. Each right (downs h)) (λ h. Each IsGood (downs h)) hs (λ h row. each_map IsGood (λ c. key.Down h c) (numbers 1 (leaves p n / p.k ^ h * p.k)) (each_then (λ c. right (key.Down h c)) (λ c. IsGood (key.Down h c)) (numbers 1 (leaves p n / p.k ^ h * p.k)) (λ c e. good_down h c e) (each_unmap right (λ c. key.Down h c) (numbers 1 (leaves p n / p.k ^ h * p.k)) row)))
      (each_unflat right downs hs parts.1)))

  -- the piece of a batch, cut out of all events
  piece_cut : (count n : ℕ) → (let reach : ℕ = leaves x.index.params (count + n) * x.index.params.l in take (n - (reach - count)) (drop (max count reach) events)) ≡ drop (leaves x.index.params (count + n) * x.index.params.l - count) (take n (drop count events))
  piece_cut count n =
      let reach : ℕ = leaves x.index.params (count + n) * x.index.params.l in
      let under : reach ≤ count + n = div-mul-le_self (count + n) x.index.params.l in
      let start : max count reach ≡ count + (reach - count) = omega arith in
      let sum : reach - count + (n - (reach - count)) ≡ n = omega (arith, under) in
      ap (λ a. take (n - (reach - count)) (drop a events)) start ∙ ap (take (n - (reach - count))) (sym (drop-drop (reach - count) count events))
      ∙ sym (drop-take (reach - count) (n - (reach - count)) (drop count events)) ∙ ap (λ a. drop (reach - count) (take a (drop count events))) sum

  -- the columns of each piece are those of its events among all
  abbrev pub PieceColumns : ℕ → ℕ → List BatchEntry → Type 0
  PieceColumns number count [] = Unit {0}
  PieceColumns number count (b ∷ more) =
      ((col : Column) → column_at image (entry_at x.index (key.Piece number)) col ≡ events_column col (take (piece_length x.index count b) (drop (piece_start x.index count b) events))) × PieceColumns (number + 1) (count + b.events) more

  module _ (fits : IsBytes image) (lists : (j : ℕ) → j < list_total x.index → IsGood (key.List j)) (deltas : Each IsGood (delta_keys x.index.params (event_total x.index.batches))) where
    -- the records that are laid next are right, where their keys are new
    laid_good : (offset : ℕ) (records later : List (Key × Entry)) (keys : List Key) (rows : List Row) → Fresh (map (λ (r : Key × Entry). r.0) records) keys → x.index.records ≡ records ++ (laid offset keys rows ++ later) → Each IsGood keys → TellNone keys rows
        → Each (IsKept (history_of x events) image) (laid offset keys rows) × Each (IsListTimed (history_of x events)) (laid offset keys rows)
    laid_good offset records later [] rows fresh is good tell = (tt, tt)
    laid_good offset records later (k ∷ keys) [] fresh is good tell = (tt, tt)
    laid_good offset records later (k ∷ keys) (r ∷ rows) fresh is good tell =
        let e : Entry = record { lengths = r.lengths; offset = offset; ends = r.ends } in
        let one : Key × Entry = (k, e) in
        let rest : List (Key × Entry) = laid (offset + total r.lengths) keys rows ++ later in
        let found : lookup (same_key k) x.index.records ≡ Some e = ap (lookup (same_key k)) is ∙ found_behind k records (one ∷ rest) fresh.0 ∙ ap (λ b. cond b (Some e) (lookup (same_key k) rest)) (same_itself k) in
        let here : entry_at x.index k ≡ e = ap entry_or_none found in
        let keys_are : map (λ (r : Key × Entry). r.0) (records ++ one ∷ []) ≡ map (λ (r : Key × Entry). r.0) records ++ k ∷ [] = map-append (λ (r : Key × Entry). r.0) records (one ∷ []) in
        let more = laid_good (offset + total r.lengths) (records ++ one ∷ []) later keys rows (subst (λ (l : List Key). Fresh l keys) (sym keys_are) fresh.1) (is ∙ sym (append_assoc records (one ∷ []) rest)) good.1 tell.1 in (
          (all_told k r offset tell.0 (λ col told. ap (λ (e : Entry). column_at image e col) (sym here) ∙ good.0.0 col told), more.0),
          (subst (λ (e : Entry). ListTimes (history_of x events) k e.ends) here good.0.1, more.1),
        )
      where
        -- and the column of messages is that by its row
        by_row : (d : Delta) (offset : ℕ) (r : Row) (col : Column) → IsUnheard r → (may_change col ≡ true → column_at image (record { lengths = r.lengths; offset = offset; ends = r.ends }) col ≡ column_of_record col (Exact d))
            → column_at image (record { lengths = r.lengths; offset = offset; ends = r.ends }) col ≡ column_of_record col (Exact d)
        by_row d offset r column.Structure unheard told = told refl
        by_row d offset r column.NodeAttr unheard told = told refl
        by_row d offset r column.EdgeAttr unheard told = told refl
        by_row d offset r column.Transient unheard told = ap (λ n. take n (drop (offset + r.lengths.structure + r.lengths.node_attrs + r.lengths.edge_attrs) image)) unheard

        all_told : (k : Key) (r : Row) (offset : ℕ) → TellsNone k r
            → ((col : Column) → is_told k col ≡ true → column_at image (record { lengths = r.lengths; offset = offset; ends = r.ends }) col ≡ column_in (history_of x events) k col)
            → (col : Column) → column_at image (record { lengths = r.lengths; offset = offset; ends = r.ends }) col ≡ column_in (history_of x events) k col
        all_told (key.List i) r offset unheard told col = told col refl
        all_told (key.Piece s) r offset unheard told col = told col refl
        all_told (key.Top h) r offset unheard told col = by_row (between [] (set_at x.index.params (events_of (history_of x events)) h 1)) offset r col unheard (told col)
        all_told (key.Down h c) r offset unheard told col =
            by_row (between (set_at x.index.params (events_of (history_of x events)) h (parent x.index.params.k c)) (set_at x.index.params (events_of (history_of x events)) (h - 1) c)) offset r col unheard (told col)

    -- the keys of a segment are right
    keys_good : (count n number : ℕ) → leaves x.index.params (count + n) ≤ list_total x.index → IsGood (key.Piece number)
        → Each IsGood (lists_due x.index.params count (count + n) ++ (deltas_due x.index.params.k (leaves x.index.params count) (leaves x.index.params (count + n)) ++ key.Piece number ∷ []))
    keys_good count n number up piece =
        let p : Params = x.index.params in
        let m : ℕ = leaves p count in
        let after : ℕ = leaves p (count + n) in
        let rise : m ≤ after = leaves_more p.l count n pos in
        each_append IsGood (lists_due p count (count + n)) (deltas_due p.k m after ++ key.Piece number ∷ [])
        (each_map IsGood (λ i. key.List i) (numbers m (after - m)) (each_number (λ i. IsGood (key.List i)) m (after - m) (λ j from to. lists j (omega (arith, to, rise, up)))))
        (each_append IsGood (deltas_due p.k m after) (key.Piece number ∷ []) (due_tested IsGood p (event_total x.index.batches) two deltas m after up) (piece, tt))

    pub all_kept : (ts : List Turn) (y : Opened) (front left : List Batch) → (history_of x events).batches ≡ front ++ left → IsFront (history_of x events) y front → AreKept y.index
        → event_total y.index.batches + event_total (batch_entries (directories_in ts)) ≡ event_total x.index.batches → Agree (directories_in ts) left → PieceColumns (length y.index.batches) (event_total y.index.batches) (batch_entries (directories_in ts)) → Chain image y ts x
        → Each (IsKept (history_of x events) image) y.index.records → Each (IsListTimed (history_of x events)) y.index.records → Each (IsKept (history_of x events) image) x.index.records × Each (IsListTimed (history_of x events)) x.index.records
    all_kept [] y front left is so keys total agree pieces c kept timed =
        (subst (λ (x' : Opened). Each (IsKept (history_of x events) image) x'.index.records) c.0 kept, subst (λ (x' : Opened). Each (IsListTimed (history_of x events)) x'.index.records) c.0 timed)
    all_kept (OfUpgrade ∷ ts) y front left is so keys total agree pieces c kept timed =
        all_kept ts (with_marker y) front left is (record { params = so.params; count = so.count; number = so.number }) keys total agree pieces c.2 kept timed
    all_kept (OfBatch d ∷ ts) y front [] is so keys total agree pieces c kept timed = absurd agree
    all_kept (OfBatch d ∷ ts) y front (b ∷ left) is so keys total agree pieces c kept timed =
        let ds : List Directory = directories_in ts in
        let z : History = history_of x events in
        let p : Params = x.index.params in
        let counts = agree.0 in
        let y1 : Opened = one_more image y d in
        let n : ℕ = d.batch.events in
        let before : List Event = events_among front in
        let sum : event_total (batch_entries (d ∷ ds)) ≡ d.batch.events + event_total (batch_entries ds) = sum_by-cons (λ (b : BatchEntry). b.events) d.batch (batch_entries ds) in
        let offset : ℕ = y.index.used + 16 + eight_at image y.index.used in
        let here : List (Key × Entry) = laid offset (keys_next y.index d.batch.events) (rows_in d) in
        let later = chain_records image ts y1 x c.2 in
        let cut : events ≡ (before ++ b.events) ++ events_among left = sym whole ∙ ap events_among is ∙ flat_map-append (λ (b : Batch). b.events) front (b ∷ left) ∙ sym (append_assoc before b.events (events_among left)) in
        let own_part : take d.batch.events (drop (event_total y.index.batches) events) ≡ b.events = ap (λ (l : List Event). take d.batch.events (drop (event_total y.index.batches) l)) cut ∙ range_behind d.batch.events (event_total y.index.batches) before b.events (events_among left) (sym so.count) (sym counts.events) in
        let piece_is : take (piece_length x.index (event_total y.index.batches) d.batch) (drop (piece_start x.index (event_total y.index.batches) d.batch) events) ≡ piece_of p before b =
        piece_cut (event_total y.index.batches) d.batch.events ∙ (λ i. drop (leaves x.index.params (so.count i + counts.events i) * x.index.params.l - so.count i) (own_part i)) in
        let piece_there_is : piece_at p [] z.batches (length y.index.batches) ≡ piece_of p before b = (λ i. piece_at p [] (is i) (so.number i)) ∙ piece_there p [] front b left in
        let piece : IsGood (key.Piece (length y.index.batches)) = (λ col told. pieces.0 col ∙ ap (events_column col) (piece_is ∙ sym piece_there_is), tt) in
        let up : leaves p (event_total y.index.batches + d.batch.events) ≤ list_total x.index =
        subst (λ n. leaves p (event_total y.index.batches + d.batch.events) ≤ leaves p n) (let e : event_total y.index.batches + d.batch.events + event_total (batch_entries ds) ≡ event_total x.index.batches = omega (arith, total, sum) in e) (leaves_more p.l (event_total y.index.batches + d.batch.events) (event_total (batch_entries ds)) pos) in
        let good : Each IsGood (keys_next y.index d.batch.events) =
        subst (λ (q : Params). Each IsGood (lists_due q (event_total y.index.batches) (event_total y.index.batches + d.batch.events) ++ (deltas_due q.k (leaves q (event_total y.index.batches)) (leaves q (event_total y.index.batches + d.batch.events)) ++ key.Piece (length y.index.batches) ∷ []))) (sym so.params)
        (keys_good (event_total y.index.batches) d.batch.events (length y.index.batches) up piece) in
        let fresh = fresh_next y.index.params (subst (λ (q : Params). 0 < q.l) (sym so.params) pos) (subst (λ (q : Params). 0 < q.k) (sym so.params) (omega (arith, two))) y.index.batches d.batch.events in
        let spelt = next_spelt image y d fits c.1 in
        let new = laid_good offset y.index.records later.0 (keys_next y.index d.batch.events) (rows_in d) (subst (λ (l : List Key). Fresh l (keys_next y.index d.batch.events)) (sym keys) fresh) (later.1 ∙ append_assoc y.index.records here later.0) good (next_tell y d spelt.lists spelt.deltas (next_unheard image y d c.1)) in
        let keys_next_kept : AreKept y1.index = kept_more y d offset (gate_behind image y.index.used + 1) keys spelt.lists spelt.deltas in
        let events_are : events_among (front ++ b ∷ []) ≡ before ++ b.events = flat_map-append (λ (b : Batch). b.events) front (b ∷ []) ∙ ap (λ (l : List Event). before ++ l) (append-nil b.events) in
        let push : event_total (y.index.batches ++ d.batch ∷ []) ≡ event_total y.index.batches + d.batch.events = sum_by_push (λ (b : BatchEntry). b.events) y.index.batches d.batch in
        let longer : length (y.index.batches ++ d.batch ∷ []) ≡ length y.index.batches + 1 = length-append y.index.batches (d.batch ∷ []) in
        let so_next : IsFront z y1 (front ++ b ∷ []) = record {
          params = so.params;
          count = push ∙ (λ i. so.count i + counts.events i) ∙ sym (length-append before b.events) ∙ ap length (sym events_are);
          number = longer ∙ ap (λ c. c + 1) so.number ∙ sym (length-append front (b ∷ []));
        } in
        all_kept ts y1 (front ++ b ∷ []) left (is ∙ sym (append_assoc front (b ∷ []) left)) so_next keys_next_kept (omega (arith, push, total, sum)) agree.1
        (subst (λ m. PieceColumns m (event_total (y.index.batches ++ d.batch ∷ [])) (batch_entries ds)) (sym longer) (subst (λ m. PieceColumns (length y.index.batches + 1) m (batch_entries ds)) (sym push) pieces.1)) c.2
        (each_append (IsKept z image) y.index.records here kept new.0) (each_append (IsListTimed z) y.index.records here timed new.1)
