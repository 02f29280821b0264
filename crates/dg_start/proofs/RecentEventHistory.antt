-- The recent events of an image of a history: they are read, and are right.
use Rattle.std.proofs.Common.{◌≡◌, ℕ, zero, suc, ◌+◌, ◌-◌, ◌*◌, ◌<◌, ◌≤◌, Bool, true, false, ◌&&◌, ◌==◌, List, [], ◌∷◌, ◌++◌, Some, None, Result, Ok, if◌then◌else◌, length, map, take, drop, max, refl, sym, ◌∙◌, ap, subst, nat_le, arith, append_assoc, append-nil, length-append, length-drop}
use Rattle.std.specs.Prelude.{IsTrue, is_some}
use Rattle.std.specs.List.{All}
use Rattle.std.specs.Map.{lookup}
use Rattle.std.proofs.lemmas.Grind.{flat_map-append}
use Rattle.std.proofs.lemmas.List.{length-map, take-append-drop}
use Rattle.std.proofs.lemmas.List.{map-append}
use Rattle.std.proofs.lemmas.List.Elements.{All-drop, All-head, All-tail}
use borrow.Author.Tests.{le-leb}
use Rattle.dg_columns.specs.ColumnLaws.{EventsAreReadBack, EventsAreMergedBack}
use Rattle.dg_columns.specs.Ranges.{EventsFit}
use Rattle.dg_columns.proofs.EventRanges.{fit_drop, fit_earlier, fit_parts, no_fall}
use Rattle.dg_fold.specs.HistoryPaths.{IsIndexed}
use Rattle.dg_fold.proofs.LegalHistories.{legal_is_indexed}
use Rattle.dg_graph.specs.declared.element.Column.{Column}
use Rattle.dg_graph.specs.declared.element.Column.TheVariants as column
use Rattle.dg_graph.specs.declared.element.Element.{Element}
use Rattle.dg_graph.specs.declared.event.Event.{Event}
use Rattle.dg_text.specs.declared.limits.TheConstants.{NAMES_MAX}
use Rattle.dg_graph.specs.declared.placed.Placed.{Placed}
use Rattle.dg_graph.specs.ColumnGrammar.{events_in as read_as_events}
use Rattle.dg_graph.specs.ColumnMerge.{merged}
use Rattle.dg_graph.specs.Columns.{events_column, placed_in}
use Rattle.dg_graph.specs.Completion.{has_key, is_change_of}
use Rattle.dg_graph.specs.Effect.{forwards}
use Rattle.dg_graph.specs.MadeByChanges.{AreMadeByChanges}
use Rattle.dg_graph.specs.Replay.{replay}
use Rattle.dg_graph.proofs.Completions.{made_behind}
use Rattle.dg_history.specs.declared.node.Key.{Key}
use Rattle.dg_history.specs.declared.node.Key.TheVariants as key
use Rattle.dg_history.specs.declared.params.Params.{Params}
use Rattle.dg_history.specs.History.{first_time_of, History, Batch, events_of, names_of, last_time_from}
use Rattle.dg_history.specs.Keys.{same_key}
use Rattle.dg_history.proofs.LegalHistories.{all_keys, events_among, events_made}
use Rattle.dg_index.specs.declared.entry.BatchEntry.{BatchEntry}
use Rattle.dg_index.specs.declared.entry.Ends.{Ends}
use Rattle.dg_index.specs.Hierarchy.{leaves}
use Rattle.dg_index.specs.ImageOfHistory.{IsImageOf}
use Rattle.dg_index.specs.IndexRecords.{piece_at, piece_of, recent_of}
use Rattle.dg_index.specs.OpenedIndex.{Opening, column_at, entry_at, last_list, opened_of}
use Rattle.dg_index.specs.RecentEvents.{RecentPiece, pieces_ahead}
use Rattle.dg_index.proofs.IndexRecordColumns.{Each, each_append, piece_there}
use Rattle.dg_index.proofs.EverAddedBounds.{piece_short}
use Rattle.dg_index.proofs.HeldRecords.{AreKnown, columns_there, known, piece_held}
use Rattle.dg_index.proofs.OpenedIndexHistories.{IsBehind, large_parameters}
use Rattle.dg_index.proofs.OpenedLegalHistories.{behind}
use Rattle.dg_index.proofs.RecentEvents.{together}
use Rattle.dg_index.proofs.RecentEventPieces.{batches_of, noted, recent_read}
use Rattle.dg_start.specs.declared.fault.StartFault.{StartFault}
use Rattle.dg_start.specs.RecentEvents.{Source, and_start, events_in_source, events_in_sources, first_wrong_event, is_right, merged_or_fault, piece_source, placed_in_record, recent_in_image, spelled_or_fault}
use Rattle.dg_start.proofs.EventSourceTimes.{tagged, untag, untagged}
use Rattle.dg_start.proofs.RecentEventTimes.{AreWithin}

-- ---- what is known of the events of a legal history

-- the keys of the events may be keys
abbrev HaveKeys : List (List ℕ) → List Event → Type 0
HaveKeys names events = All (λ (e : Event). IsTrue (has_key names e.body)) events

-- ---- some of the events that fit

fit_back : (n t : ℕ) (xs ys : List Event) → EventsFit n t (xs ++ ys) → EventsFit n (last_time_from t xs) ys
fit_back n t [] ys h = h
fit_back n t (x ∷ xs) ys h = fit_back n x.time xs ys h.1

fit_last : (n t : ℕ) (events : List Event) → EventsFit n t events → t ≤ last_time_from t events
fit_last n t [] h = omega arith
fit_last n t (e ∷ events) h = omega (arith, h.0.not_before, fit_last n e.time events h.1)

-- they lie between their first time and their last
within_from : (n : ℕ) (ends : Ends) (low : ℕ) (events : List Event) → ends.first ≤ low → EventsFit n low events → last_time_from low events ≤ ends.last → AreWithin (tagged ends events)
within_from n ends low [] le h last = tt
within_from n ends low (e ∷ events) le h last =
    (omega (arith, le, h.0.not_before), omega (arith, fit_last n e.time events h.1, last), within_from n ends e.time events (omega (arith, le, h.0.not_before)) h.1 last)

within_own : (n t : ℕ) (events : List Event) → EventsFit n t events → AreWithin (tagged (record { first = first_time_of events; last = last_time_from 0 events }) events)
within_own n t [] h = tt
within_own n t (e ∷ events) h =
    (omega arith, fit_last n e.time events h.1, within_from n (record { first = e.time; last = last_time_from e.time events }) e.time events (omega arith) h.1 (omega arith))

within_drop : (ends : Ends) (k : ℕ) (events : List Event) → AreWithin (tagged ends events) → AreWithin (tagged ends (drop k events))
within_drop ends zero events h = h
within_drop ends (suc k) [] h = tt
within_drop ends (suc k) (e ∷ events) h = within_drop ends k events h.2

-- and those behind others behind their last
within_both : (batch : Ends) (n low : ℕ) (events : List Event) → EventsFit n low events → AreWithin (tagged batch events)
    → AreWithin (tagged (record { first = max batch.first low; last = batch.last }) events)
within_both batch n low [] f h = tt
within_both batch n low (e ∷ events) f h =
    (omega (arith, f.0.not_before, h.0), h.1, within_both batch n low events (fit_earlier n low e.time events f.0.not_before f.1) h.2)

-- ---- events that are right

right_here : (names : List (List ℕ)) (set : List Element) (p : Ends × Event) → IsTrue (has_key names p.1.body) → is_change_of set p.1.body ≡ true → p.0.first ≤ p.1.time → p.1.time ≤ p.0.last
    → is_right names set p ≡ true
right_here names set p k a b c =
    ap (λ x. (x && is_change_of set p.1.body) && (nat_le p.0.first p.1.time && nat_le p.1.time p.0.last)) k
    ∙ ap (λ x. x && (nat_le p.0.first p.1.time && nat_le p.1.time p.0.last)) a ∙ ap (λ x. x && nat_le p.1.time p.0.last) (le-leb p.0.first p.1.time b) ∙ le-leb p.1.time p.0.last c

none_wrong : (names : List (List ℕ)) (n : ℕ) (set : List Element) (pairs : List (Ends × Event)) → AreMadeByChanges set (untag pairs) → HaveKeys names (untag pairs) → AreWithin pairs
    → first_wrong_event names n set pairs ≡ None
none_wrong names n set [] made keys h = refl
none_wrong names n set (p ∷ pairs) made keys h =
    ap (λ x. if x then first_wrong_event names (n + 1) (forwards set p.1) pairs else Some n)
    (right_here names set p (All-head (λ (e : Event). IsTrue (has_key names e.body)) p.1 (untag pairs) keys) made.0 h.0 h.1)
    ∙ none_wrong names (n + 1) (forwards set p.1) pairs made.1 (All-tail (λ (e : Event). IsTrue (has_key names e.body)) p.1 (untag pairs) keys) h.2

within_joined : (xs ys : List (Ends × Event)) → AreWithin xs → AreWithin ys → AreWithin (xs ++ ys)
within_joined [] ys h more = more
within_joined (x ∷ xs) ys h more = (h.0, h.1, within_joined xs ys h.2 more)

-- ---- one source

abbrev by_columns : Key → ℕ → (Column → Result (List Placed) StartFault) → Result (List Event) StartFault
by_columns k count read =
    and_start (read column.Structure) (λ a. and_start (read column.NodeAttr) (λ b. and_start (read column.EdgeAttr) (λ c. and_start (read column.Transient) (λ d. merged_or_fault k (merged a b c d count)))))

-- a source in whose record these events stand, as many as are due, is read as them
source_is : EventsAreReadBack → EventsAreMergedBack → (image : List ℕ) (n : ℕ) → n ≤ NAMES_MAX → (o : Opening) (s : Source) (own : List Event)
    → ((col : Column) → column_at image (entry_at o s.key) col ≡ events_column col own) → s.count ≡ length own → length own ≤ 65536 → EventsFit n 0 own
    → events_in_source image n o s ≡ Ok own
source_is back merge image n few o s own there count short fit =
    let col_is : (col : Column) → placed_in_record image n o s.key col ≡ Ok (placed_in col own) =
    λ col. ap (λ (bytes : List ℕ). spelled_or_fault s.key col (read_as_events col n bytes)) (there col)
    ∙ ap (spelled_or_fault s.key col) (back col n own (omega (arith, few)) short fit) in
    (λ i. by_columns s.key (count i) (λ col. col_is col i))
    ∙ ap (merged_or_fault s.key) (merge own (no_fall n 0 own fit))

-- ---- the sources of an image of a history

module _ (back : EventsAreReadBack) (merge : EventsAreMergedBack) (z : History) (image : List ℕ) (h : IsImageOf z image) where
  pos : 0 < z.params.l
  pos = omega (arith, (large_parameters z.params.l z.params.k h.legal.parameters).0)

  state : IsBehind z.params (opened_of z) (events_of z) (names_of z)
  state = behind z h.legal

  records : AreKnown z.params (opened_of z) (events_of z)
  records = known z

  indexed : IsIndexed (length (names_of z)) z
  indexed = (legal_is_indexed z h.legal).0

  fit : EventsFit (length (names_of z)) 0 (events_of z)
  fit = indexed.fits

  -- ---- recent pieces

  record GoodPiece (a : RecentPiece) : Type 0 where
    held : a.number < length z.batches
    count : a.count ≡ length (piece_at z.params [] z.batches a.number)
    short : length (piece_at z.params [] z.batches a.number) ≤ 65536
    fits : EventsFit (length (names_of z)) 0 (piece_at z.params [] z.batches a.number)
    within : AreWithin (tagged a.batch.ends (piece_at z.params [] z.batches a.number))

  good_piece : (front : List Batch) (b : Batch) (more : List Batch) → z.batches ≡ front ++ b ∷ more
      → GoodPiece (record {
        number = length front;
        count = length b.events - (leaves z.params (length (events_among front) + length b.events) * z.params.l - length (events_among front));
        batch = noted b;
      })
  good_piece front b more is =
      let n : ℕ = length (names_of z) in
      let before : List Event = events_among front in
      let k : ℕ = leaves z.params (length before + length b.events) * z.params.l - length before in
      let piece : piece_at z.params [] z.batches (length front) ≡ piece_of z.params before b =
      ap (λ (l : List Batch). piece_at z.params [] l (length front)) is ∙ piece_there z.params [] front b more in
      let whole : events_of z ≡ before ++ (b.events ++ events_among more) = ap events_among is ∙ flat_map-append (λ (b : Batch). b.events) front (b ∷ more) in
      let own : EventsFit n (last_time_from 0 before) b.events =
      (fit_parts n (last_time_from 0 before) b.events (events_among more) (fit_back n 0 before (b.events ++ events_among more) (subst (EventsFit n 0) whole fit))).0 in
      record {
        held = omega (arith, ap length is, length-append front (b ∷ more));
        count = sym (length-drop k b.events) ∙ ap length (sym piece);
        short = omega (arith, ap length piece, piece_short z.params before b pos, indexed.short);
        fits = subst (EventsFit n 0) (sym piece) (fit_drop n (last_time_from 0 before) k b.events own);
        within = subst (λ (es : List Event). AreWithin (tagged (noted b).ends es)) (sym piece) (within_drop (noted b).ends k b.events (within_own n (last_time_from 0 before) b.events own));
      }

  good_pieces : (front batches : List Batch) (kept : List RecentPiece) → z.batches ≡ front ++ batches → Each GoodPiece kept
      → Each GoodPiece (pieces_ahead z.params (length front) (length (events_among front)) kept (map noted batches))
  good_pieces front [] kept is good = good
  good_pieces front (b ∷ more) kept is good =
      let p : Params = z.params in
      let before : List Event = events_among front in
      let same : Bool = leaves p (length before + length b.events) == leaves p (length before) in
      let one : RecentPiece = record { number = length front; count = length b.events - (leaves p (length before + length b.events) * p.l - length before); batch = noted b } in
      let next : List RecentPiece = (if same then kept else []) ++ one ∷ [] in
      let events : events_among (front ++ b ∷ []) ≡ before ++ b.events = flat_map-append (λ (b : Batch). b.events) front (b ∷ []) ∙ ap (λ (l : List Event). before ++ l) (append-nil b.events) in
      let number : length (front ++ b ∷ []) ≡ length front + 1 = length-append front (b ∷ []) in
      let count : length (events_among (front ++ b ∷ [])) ≡ length before + length b.events = ap length events ∙ length-append before b.events in
      subst (λ (m : ℕ). Each GoodPiece (pieces_ahead p m (length before + length b.events) next (map noted more))) number
      (subst (λ (m : ℕ). Each GoodPiece (pieces_ahead p (length (front ++ b ∷ [])) m next (map noted more))) count
      (good_pieces (front ++ b ∷ []) more next (is ∙ sym (append_assoc front (b ∷ []) more))
      (each_append GoodPiece (if same then kept else []) (one ∷ []) (by same) (good_piece front b more is, tt))))
    where
      by : (same : Bool) → Each GoodPiece (if same then kept else [])
      by true = good
      by false = tt

  abbrev piece_pairs : List RecentPiece → List (Ends × Event)
  piece_pairs [] = []
  piece_pairs (a ∷ pieces) = tagged (piece_source (opened_of z).index a).ends (piece_at z.params [] z.batches a.number) ++ piece_pairs pieces

  pieces_read : (pieces : List RecentPiece) → Each GoodPiece pieces
      → events_in_sources image (length (names_of z)) (opened_of z).index (map (piece_source (opened_of z).index) pieces) ≡ Ok (piece_pairs pieces)
  pieces_read [] good = refl
  pieces_read (a ∷ pieces) good =
      let n : ℕ = length (names_of z) in
      let o : Opening = (opened_of z).index in
      let own : List Event = piece_at z.params [] z.batches a.number in
      let ends : Ends = (piece_source o a).ends in
      let batches : length o.batches ≡ length z.batches = ap length (batches_of z) ∙ length-map z.batches noted in
      let there : is_some (lookup (same_key (key.Piece a.number)) o.records) ≡ true = piece_held o a.number records.kept (omega (arith, batches, good.0.held)) in
      ap (λ r. and_start r (λ events. and_start (events_in_sources image n o (map (piece_source o) pieces)) (λ later. Ok (map (λ (e : Event). (ends, e)) events ++ later))))
      (source_is back merge image n h.legal.few_names o (piece_source o a) own (columns_there z image h (key.Piece a.number) there) good.0.count good.0.short good.0.fits)
      ∙ ap (λ r. and_start r (λ later. Ok (tagged ends own ++ later))) (pieces_read pieces good.1)

  pieces_events : (pieces : List RecentPiece) → untag (piece_pairs pieces) ≡ together (map (λ (a : RecentPiece). piece_at z.params [] z.batches a.number) pieces)
  pieces_events [] = refl
  pieces_events (a ∷ pieces) =
      let own : List Event = piece_at z.params [] z.batches a.number in
      let ends : Ends = (piece_source (opened_of z).index a).ends in
      map-append (λ (e : Ends × Event). e.1) (tagged ends own) (piece_pairs pieces) ∙ (λ i. untagged ends own i ++ pieces_events pieces i)

  pieces_within : (pieces : List RecentPiece) → Each GoodPiece pieces
      → EventsFit (length (names_of z)) (last_list 0 (opened_of z).index.records) (together (map (λ (a : RecentPiece). piece_at z.params [] z.batches a.number) pieces)) → AreWithin (piece_pairs pieces)
  pieces_within [] good f = tt
  pieces_within (a ∷ pieces) good f =
      let n : ℕ = length (names_of z) in
      let low : ℕ = last_list 0 (opened_of z).index.records in
      let own : List Event = piece_at z.params [] z.batches a.number in
      let later : List Event = together (map (λ (a : RecentPiece). piece_at z.params [] z.batches a.number) pieces) in
      let mine : EventsFit n low own = (fit_parts n low own later f).0 in
      within_joined (tagged (piece_source (opened_of z).index a).ends own) (piece_pairs pieces) (within_both a.batch.ends n low own mine good.0.within)
      (pieces_within pieces good.1 (fit_earlier n low (last_time_from low own) later (fit_last n low own mine) (fit_back n low own later f)))

  -- ---- all of them

  all_good : Each GoodPiece (pieces_ahead z.params 0 0 [] (opened_of z).index.batches)
  all_good = subst (λ (l : List BatchEntry). Each GoodPiece (pieces_ahead z.params 0 0 [] l)) (sym (batches_of z)) (good_pieces [] z.batches [] refl tt)

  recent : untag (piece_pairs (pieces_ahead z.params 0 0 [] (opened_of z).index.batches)) ≡ recent_of z.params (events_of z)
  recent = pieces_events (pieces_ahead z.params 0 0 [] (opened_of z).index.batches) ∙ recent_read z pos

  recent_within : AreWithin (piece_pairs (pieces_ahead z.params 0 0 [] (opened_of z).index.batches))
  recent_within =
      let n : ℕ = length (names_of z) in
      let m : ℕ = leaves z.params (length (events_of z)) * z.params.l in
      let parts : EventsFit n (last_time_from 0 (take m (events_of z))) (drop m (events_of z)) =
      fit_back n 0 (take m (events_of z)) (drop m (events_of z)) (subst (EventsFit n 0) (sym (take-append-drop m (events_of z))) fit) in
      pieces_within (pieces_ahead z.params 0 0 [] (opened_of z).index.batches) all_good
      (subst (EventsFit n (last_list 0 (opened_of z).index.records)) (sym (recent_read z pos)) (subst (λ (t : ℕ). EventsFit n t (recent_of z.params (events_of z))) (sym (state.lists 0)) parts))

  -- the recent events with the times of their sources
  abbrev pub recent_pairs : List (Ends × Event)
  recent_pairs = piece_pairs (pieces_ahead z.params 0 0 [] (opened_of z).index.batches)

  -- they are what is read
  pub all_read : recent_in_image image (length (names_of z)) (opened_of z).index ≡ Ok recent_pairs
  all_read =
      let o : Opening = (opened_of z).index in
      ap (λ (p : Params). events_in_sources image (length (names_of z)) o (map (piece_source o) (pieces_ahead p 0 0 [] o.batches))) records.params
      ∙ pieces_read (pieces_ahead z.params 0 0 [] o.batches) all_good

  pub all_recent : untag recent_pairs ≡ recent_of z.params (events_of z)
  all_recent = recent

  -- and each is right behind the last closed list
  pub none_is_wrong : (n : ℕ) → first_wrong_event (names_of z) n (replay (take (leaves z.params (length (events_of z)) * z.params.l) (events_of z))) recent_pairs ≡ None
  none_is_wrong n =
      let m : ℕ = leaves z.params (length (events_of z)) * z.params.l in
      let behind_them : AreMadeByChanges (replay (take m (events_of z))) (drop m (events_of z)) =
      made_behind [] (take m (events_of z)) (drop m (events_of z)) (subst (AreMadeByChanges []) (sym (take-append-drop m (events_of z))) (events_made z h.legal)) in
      let keys : HaveKeys (names_of z) (drop m (events_of z)) =
      All-drop (λ (e : Event). IsTrue (has_key (names_of z) e.body)) m (events_of z) (all_keys (names_of z) [] z.batches h.legal.batches) in
      none_wrong (names_of z) n (replay (take m (events_of z))) recent_pairs
      (subst (AreMadeByChanges (replay (take m (events_of z)))) (sym recent) behind_them)
      (subst (HaveKeys (names_of z)) (sym recent) keys)
      recent_within
