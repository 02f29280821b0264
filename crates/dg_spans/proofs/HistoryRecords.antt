-- Over an image of a history each record of events is read as the history's events from its first on.
use Rattle.std.proofs.Common.{◌≡◌, ℕ, zero, suc, ◌+◌, ◌-◌, ◌*◌, ◌/◌, ◌<◌, ◌≤◌, Bool, true, false, cond, List, [], ◌∷◌, ◌++◌, Option, Some, Result, Ok, Err, is_some, length, map, take, drop, max, refl, sym, ◌∙◌, ap, subst, arith, append_assoc, append-nil, length-append, length-drop, div-lt_iff_lt-mul, le-div_iff_mul-le, add-mul}
use Rattle.std.specs.Prelude.{IfSome, nat_lt, slice_get}
use Rattle.std.specs.Map.{lookup}
use Rattle.std.proofs.Math.Nat.{div-eq_of_lt-le}
use Rattle.std.proofs.Math.Seq.{drop-append-add}
use Rattle.std.proofs.lemmas.Bool.{ltb-true, ltb-false}
use Rattle.std.proofs.lemmas.List.{drop-append-le, drop-drop, length-map, length-take, length-take-le, map-append, take_at}
use Rattle.std.proofs.lemmas.List.Sums.{sum_by-cons, sum_by-take-drop}
use Rattle.std.proofs.lemmas.Grind.{flat_map-append}
use Rattle.dg_columns.specs.ColumnLaws.{EventsAreReadBack, EventsAreMergedBack}
use Rattle.dg_columns.specs.Ranges.{EventsFit}
use Rattle.dg_columns.proofs.EventRanges.{fit_drop, fit_take, no_fall}
use Rattle.dg_fold.specs.HistoryPaths.{IsIndexed}
use Rattle.dg_fold.proofs.LegalHistories.{legal_is_indexed}
use Rattle.dg_graph.specs.declared.element.Column.{Column}
use Rattle.dg_graph.specs.declared.element.Column.TheVariants as column
use Rattle.dg_graph.specs.declared.event.Event.{Event}
use Rattle.dg_graph.specs.declared.placed.Placed.{Placed}
use Rattle.dg_graph.specs.ColumnGrammar.{events_in as read_as_events}
use Rattle.dg_graph.specs.ColumnMerge.{merged}
use Rattle.dg_graph.specs.Columns.{events_column, placed_in}
use Rattle.dg_history.specs.declared.node.Key.{Key}
use Rattle.dg_history.specs.declared.node.Key.TheVariants as key
use Rattle.dg_history.specs.declared.params.Params.{Params}
use Rattle.dg_history.specs.History.{History, Batch, events_of, names_of}
use Rattle.dg_history.specs.Keys.{same_key}
use Rattle.dg_history.proofs.LegalHistories.{events_among}
use Rattle.dg_index.specs.declared.entry.BatchEntry.{BatchEntry}
use Rattle.dg_index.specs.Hierarchy.{leaves}
use Rattle.dg_index.specs.ImageOfHistory.{IsImageOf}
use Rattle.dg_index.specs.IndexRecords.{closed_list, piece_at, piece_of}
use Rattle.dg_index.specs.OpenedIndex.{Opened, Opening, column_at, entry_at, event_total, opened_of, opening}
use Rattle.dg_index.proofs.EverAddedBounds.{piece_short}
use Rattle.dg_index.proofs.HeldRecords.{columns_there, known}
use Rattle.dg_index.proofs.IndexRecordColumns.{piece_there}
use Rattle.dg_index.proofs.OpenedIndexHistories.{images_are_opened}
use Rattle.dg_index.proofs.OpenedLegalHistories.{behind}
use Rattle.dg_index.proofs.RecentEventPieces.{batches_of, noted}
use Rattle.dg_records.specs.declared.fault.RecordFault.{RecordFault}
use Rattle.dg_records.specs.declared.fault.RecordFault.TheVariants as fault
use Rattle.dg_spans.specs.declared.place.BatchPlace.{BatchPlace}
use Rattle.dg_spans.specs.Stretches.{AreEventsFrom, HasEvent, HasNumber, IsOutside, IsPlaced, WhereStands, closed_events, record_of, record_start}
use Rattle.dg_spans.proofs.Places.{closed_under, placed_within}
use Rattle.dg_start.specs.declared.fault.StartFault.{StartFault}
use Rattle.dg_start.specs.Faults.{start_fault_of}
use Rattle.dg_start.specs.EventSources.{CanBeRead, WhereTold}
use Rattle.dg_start.proofs.EventSourceOutcomes.{of_told}
use Rattle.dg_start.specs.RecentEvents.{Source, and_start, events_in_source, merged_or_fault, placed_in_record, spelled_or_fault}
use Rattle.dg_start.specs.Refusals.{IsReason}
use Rattle.dg_text.specs.declared.limits.TheConstants.{NAMES_MAX}

-- ---- one record

abbrev by_columns : Key → ℕ → (Column → Result (List Placed) StartFault) → Result (List Event) StartFault
by_columns k count read =
    and_start (read column.Structure) (λ a. and_start (read column.NodeAttr) (λ b. and_start (read column.EdgeAttr) (λ c. and_start (read column.Transient) (λ d. merged_or_fault k (merged a b c d count)))))

-- a record in which these events stand, as many as are due, is read as them
source_is : EventsAreReadBack → EventsAreMergedBack → (image : List ℕ) (n : ℕ) → n ≤ NAMES_MAX → (o : Opening) (s : Source) (own : List Event)
    → ((col : Column) → column_at image (entry_at o s.key) col ≡ events_column col own) → s.count ≡ length own → length own ≤ 65536 → EventsFit n 0 own
    → events_in_source image n o s ≡ Ok own
source_is back merge image n few o s own there count short fit =
    let col_is : (col : Column) → placed_in_record image n o s.key col ≡ Ok (placed_in col own) =
    λ col. ap (λ (bytes : List ℕ). spelled_or_fault s.key col (read_as_events col n bytes)) (there col)
    ∙ ap (spelled_or_fault s.key col) (back col n own (omega (arith, few)) short fit) in
    (λ i. by_columns s.key (count i) (λ col. col_is col i))
    ∙ ap (merged_or_fault s.key) (merge own (no_fall n 0 own fit))

-- ---- the batch of a place

-- the history has this batch at this place
pub record IsBatchAt (z : History) (p : BatchPlace) : Type 0 where
  pub front : List Batch
  pub b : Batch
  pub more : List Batch
  pub is : z.batches ≡ front ++ b ∷ more
  pub number : length front ≡ p.number
  pub entry : noted b ≡ p.batch
  pub before : length (events_among front) ≡ p.before

record IsCut (xs : List Batch) (n : ℕ) (y : BatchEntry) : Type 0 where
  front : List Batch
  b : Batch
  more : List Batch
  is : xs ≡ front ++ b ∷ more
  number : length front ≡ n
  entry : noted b ≡ y

cut_at : (xs : List Batch) (n : ℕ) (y : BatchEntry) → slice_get (map noted xs) n ≡ Some y → IsCut xs n y
cut_at [] n y there = absurd cc
cut_at (x ∷ xs) zero y there = record { front = []; b = x; more = xs; is = refl; number = refl; entry = cc }
cut_at (x ∷ xs) (suc n) y there =
    let c : IsCut xs n y = cut_at xs n y there in
    record { front = x ∷ c.front; b = c.b; more = c.more; is = ap (λ (l : List Batch). x ∷ l) c.is; number = ap suc c.number; entry = c.entry }

counted : (xs : List Batch) → event_total (map noted xs) ≡ length (events_among xs)
counted [] = refl
counted (b ∷ xs) =
    sum_by-cons (λ (b : BatchEntry). b.events) (noted b) (map noted xs) ∙ ap (λ n. length b.events + n) (counted xs)
    ∙ sym (length-append b.events (events_among xs))

pub batch_at : (z : History) (p : BatchPlace) → IsPlaced (opened_of z).index p → IsBatchAt z p
batch_at z p placed =
    let o : Opening = (opened_of z).index in
    let c : IsCut z.batches p.number p.batch = cut_at z.batches p.number p.batch (ap (λ (l : List BatchEntry). slice_get l p.number) (sym (batches_of z)) ∙ placed.there) in
    let those : o.batches ≡ map noted c.front ++ map noted (c.b ∷ c.more) = batches_of z ∙ ap (map noted) c.is ∙ map-append noted c.front (c.b ∷ c.more) in
    let firsts : take p.number o.batches ≡ map noted c.front =
    ap (take p.number) those ∙ take_at (map noted c.front) (map noted (c.b ∷ c.more)) p.number (length-map c.front noted ∙ c.number) in
    let total : event_total (take p.number o.batches) ≡ length (events_among c.front) = ap event_total firsts ∙ counted c.front in
    record {
      front = c.front;
      b = c.b;
      more = c.more;
      is = c.is;
      number = c.number;
      entry = c.entry;
      before = omega (arith, total, placed.counted, sum_by-take-drop (λ (b : BatchEntry). b.events) o.batches p.number);
    }

-- ---- the records of an image of a history

-- the record is read as the events of the history from its first on
pub record IsReadOf (z : History) (image : List ℕ) (s : Source) (start : ℕ) : Type 0 where
  pub own : List Event
  pub read : events_in_source image (length (names_of z)) (opened_of z).index s ≡ Ok own
  pub from : AreEventsFrom z start own

-- what stands from some event on
cut_out : (xs ys zs : List Event) (n k : ℕ) → length xs ≡ n → k ≤ length ys → take (length (drop k ys)) (drop (n + k) (xs ++ (ys ++ zs))) ≡ drop k ys
cut_out xs ys zs n k is le =
    ap (λ m. take (length (drop k ys)) (drop (m + k) (xs ++ (ys ++ zs)))) (sym is)
    ∙ ap (take (length (drop k ys))) (drop-append-add xs (ys ++ zs) k ∙ drop-append-le k ys zs le)
    ∙ take_at (drop k ys) zs (length (drop k ys)) refl

module _ (back : EventsAreReadBack) (merge : EventsAreMergedBack) (z : History) (image : List ℕ) (h : IsImageOf z image) where
  abbrev o : Opening
  o = (opened_of z).index

  abbrev n : ℕ
  n = length (names_of z)

  indexed : IsIndexed n z
  indexed = (legal_is_indexed z h.legal).0

  params : o.params ≡ z.params
  params = (known z).params

  total : event_total o.batches ≡ length (events_of z)
  total = (known z).count

  abbrev list_source : BatchPlace → ℕ → Source
  list_source p at = record { key = key.List (leaves o.params at); count = o.params.l; ends = p.batch.ends }

  abbrev piece_source : BatchPlace → Source
  piece_source p = record { key = key.Piece p.number; count = p.before + p.batch.events - max p.before (closed_events o); ends = p.batch.ends }

  -- a closed list
  list_read : (p : BatchPlace) (at : ℕ) → at < closed_events o → is_some (lookup (same_key (key.List (leaves o.params at))) o.records) ≡ true
      → IsReadOf z image (record { key = key.List (leaves o.params at); count = o.params.l; ends = p.batch.ends }) (leaves o.params at * o.params.l)
  list_read p at lt held =
      let es : List Event = events_of z in
      let l : ℕ = z.params.l in
      let i : ℕ = leaves o.params at in
      let same : o.params.l ≡ l = ap (λ (q : Params). q.l) params in
      let own : List Event = closed_list z.params es i in
      let below : i + 1 ≤ event_total o.batches / o.params.l =
      (let some : 0 < o.params.l = omega (arith, same, indexed.lists) in
      let lt : i < event_total o.batches / o.params.l = (div-lt_iff_lt-mul some).1 lt in omega (arith, lt)) in
      let room : (i + 1) * o.params.l ≤ event_total o.batches =
      (let some : 0 < o.params.l = omega (arith, same, indexed.lists) in (le-div_iff_mul-le some).0 below) in
      let whole : i * l + l ≤ length es =
      (let split : (i + 1) * o.params.l ≡ i * o.params.l + o.params.l = add-mul i 1 o.params.l ∙ (let one : i * o.params.l + 1 * o.params.l ≡ i * o.params.l + o.params.l = omega arith in one) in
      let moved : i * o.params.l + o.params.l ≡ i * l + l = ap (λ m. i * m + m) same in
      omega (arith, room, split, moved, total)) in
      let many : length own ≡ l = length-take-le l (drop (i * l) es) (omega (arith, whole, length-drop (i * l) es)) in
      record {
        own = own;
        read =
            source_is back merge image n h.legal.few_names o (list_source p at) own (columns_there z image h (key.List i) held) (same ∙ sym many)
            (omega (arith, many, indexed.short)) (fit_take n 0 l (drop (i * l) es) (fit_drop n 0 (i * l) es indexed.fits));
        from = (λ j. take (many j) (drop (i * same j) es));
      }

  -- the piece of a batch, behind all closed lists
  piece_read : (p : BatchPlace) (at : ℕ) → IsPlaced o p → HasEvent p at → closed_events o ≤ at → is_some (lookup (same_key (key.Piece p.number)) o.records) ≡ true
      → IsReadOf z image (record { key = key.Piece p.number; count = p.before + p.batch.events - max p.before (closed_events o); ends = p.batch.ends }) (max p.before (closed_events o))
  piece_read p at placed here past held =
      let c : IsBatchAt z p = batch_at z p placed in
      let es : List Event = events_of z in
      let before : List Event = events_among c.front in
      let l : ℕ = z.params.l in
      let same : o.params.l ≡ l = ap (λ (q : Params). q.l) params in
      let m : ℕ = p.before + p.batch.events in
      let q : ℕ = leaves z.params (length es) in
      let closed : closed_events o ≡ q * l = (λ j. leaves (params j) (total j) * same j) in
      let events : length c.b.events ≡ p.batch.events = ap (λ (e : BatchEntry). e.events) c.entry in
      let all_in : m ≤ length es = omega (arith, placed_within o p placed, total) in
      let low : q * l ≤ m = omega (arith, closed, past, here.within) in
      let high : m < (q + 1) * l =
      (let over : length es < (q + 1) * l = (div-lt_iff_lt-mul indexed.lists).0 (let one : q < q + 1 = omega arith in one) in omega (arith, all_in, over)) in
      let lists : leaves z.params (length before + length c.b.events) ≡ q =
      ap (leaves z.params) (let e : length before + length c.b.events ≡ m = omega (arith, c.before, events) in e) ∙ div-eq_of_lt-le l low high in
      let k : ℕ = leaves z.params (length before + length c.b.events) * l - length before in
      let own : List Event = drop k c.b.events in
      let piece : piece_at z.params [] z.batches p.number ≡ own =
      ap (piece_at z.params [] z.batches) (sym c.number) ∙ ap (λ (bs : List Batch). piece_at z.params [] bs (length c.front)) c.is ∙ piece_there z.params [] c.front c.b c.more in
      let skipped : k ≡ closed_events o - p.before = (λ j. lists j * l - c.before j) ∙ ap (λ x. x - p.before) (sym closed) in
      let whole : es ≡ before ++ (c.b.events ++ events_among c.more) = ap events_among c.is ∙ flat_map-append (λ (b : Batch). b.events) c.front (c.b ∷ c.more) in
      let fewer : k ≤ length c.b.events = omega (arith, skipped, events, here.within, past) in
      let start : max p.before (closed_events o) ≡ p.before + k = omega (arith, skipped) in
      let there : (col : Column) → column_at image (entry_at o (key.Piece p.number)) col ≡ events_column col own =
      λ col. columns_there z image h (key.Piece p.number) held col ∙ ap (events_column col) piece in
      record {
        own = own;
        read =
            source_is back merge image n h.legal.few_names o (piece_source p) own there (omega (arith, length-drop k c.b.events, start, events, fewer, skipped))
            (omega (arith, piece_short z.params before c.b indexed.lists, indexed.short))
            (subst (EventsFit n 0) (cut_out before c.b.events (events_among c.more) p.before k c.before fewer)
            (fit_take n 0 (length own) (drop (p.before + k) (before ++ (c.b.events ++ events_among c.more)))
            (fit_drop n 0 (p.before + k) (before ++ (c.b.events ++ events_among c.more)) (subst (EventsFit n 0) whole indexed.fits))));
        from = (λ j. take (length own) (drop (start j) (whole j))) ∙ cut_out before c.b.events (events_among c.more) p.before k c.before fewer;
      }

  pub record_read : (p : BatchPlace) (at : ℕ) → IsPlaced o p → HasEvent p at → CanBeRead o (record_of o p at) → IsReadOf z image (record_of o p at) (record_start o p at)
  record_read p at placed here can = by (nat_lt at (closed_events o)) refl can.held
    where
      by : (t : Bool) → nat_lt at (closed_events o) ≡ t → is_some (lookup (same_key (cond t (list_source p at) (piece_source p)).key) o.records) ≡ true
          → IsReadOf z image (cond t (list_source p at) (piece_source p)) (cond t (leaves o.params at * o.params.l) (max p.before (closed_events o)))
      by true e held = list_read p at (ltb-true at (closed_events o) e) held
      by false e held = piece_read p at placed here (ltb-false at (closed_events o) e) held

-- ---- over any opening of the image

-- the record is read, with so many names, as the events of the history from its first on
pub record IsReadAs (z : History) (image : List ℕ) (x : Opened) (s : Source) (start : ℕ) : Type 0 where
  pub own : List Event
  pub read : events_in_source image (length x.names) x.index s ≡ Ok own
  pub from : AreEventsFrom z start own

ok_same : {A E : Type 0} (x y : A) (r : Result A E) → r ≡ Ok x → r ≡ Ok y → x ≡ y
ok_same x y r p q = cc

pub read_as : EventsAreReadBack → EventsAreMergedBack → (z : History) (image : List ℕ) → IsImageOf z image → (x : Opened) → opening image ≡ Ok x
    → (p : BatchPlace) (at : ℕ) → IsPlaced x.index p → HasEvent p at → CanBeRead x.index (record_of x.index p at)
    → IsReadAs z image x (record_of x.index p at) (record_start x.index p at)
read_as back merge z image h x is p at placed here can =
    subst (λ (y : Opened). IsPlaced y.index p → CanBeRead y.index (record_of y.index p at) → IsReadAs z image y (record_of y.index p at) (record_start y.index p at))
    (ok_same (opened_of z) x (opening image) (images_are_opened z image h) is) of_history placed can
  where
    names : (opened_of z).names ≡ names_of z
    names = (behind z h.legal).names_are

    of_history : IsPlaced (opened_of z).index p → CanBeRead (opened_of z).index (record_of (opened_of z).index p at)
        → IsReadAs z image (opened_of z) (record_of (opened_of z).index p at) (record_start (opened_of z).index p at)
    of_history placed can =
        let r = record_read back merge z image h p at placed here can in
        record {
          own = r.own;
          read = ap (λ (l : List (List ℕ)). events_in_source image (length l) (opened_of z).index (record_of (opened_of z).index p at)) names ∙ r.read;
          from = r.from;
        }

-- so are the events that were read those of the history
pub own_from : (z : History) (image : List ℕ) (x : Opened) (s : Source) (start : ℕ) (events : List Event) → IsReadAs z image x s start
    → events_in_source image (length x.names) x.index s ≡ Ok events → AreEventsFrom z start events
own_from z image x s start events r is = subst (AreEventsFrom z start) (ok_same r.own events (events_in_source image (length x.names) x.index s) r.read is) r.from

-- and no damage is found
pub no_damage : (z : History) (image : List ℕ) (x : Opened) (s : Source) (start : ℕ) (f : RecordFault) → IsReadAs z image x s start
    → IsReason (start_fault_of f) (events_in_source image (length x.names) x.index s) → IsOutside f
no_damage z image x s start fault.Disk r h = tt
no_damage z image x s start (fault.Damaged k col) r h = absurd (apart r.own (sym r.read ∙ h))
  where
    apart : (own : List Event) {f : StartFault} → Ok own ≡ Err f → ⊥
    apart own e = cc
no_damage z image x s start fault.Memory r h = tt

-- ---- what a read of the record tells

module _ (back : EventsAreReadBack) (merge : EventsAreMergedBack) (told : Option (List ℕ)) (x : Opened) (opened : IfSome told (λ image. opening image ≡ Ok x))
    (p : BatchPlace) (at : ℕ) (placed : IsPlaced x.index p) (here : HasEvent p at)
    (s : Source) (source : s ≡ record_of x.index p at) (can : CanBeRead x.index s) (n : ℕ) (names : n ≡ length x.names) where
  same_read : (image : List ℕ) → events_in_source image n x.index s ≡ events_in_source image (length x.names) x.index (record_of x.index p at)
  same_read image = λ j. events_in_source image (names j) x.index (source j)

  as_history : (image : List ℕ) → told ≡ Some image → (z : History) → IsImageOf z image → IsReadAs z image x (record_of x.index p at) (record_start x.index p at)
  as_history image is z h = read_as back merge z image h x (of_told told (λ image. opening image ≡ Ok x) image opened is) p at placed here (subst (CanBeRead x.index) source can)

  -- they are the events of the history
  pub events_own : (start : ℕ) → start ≡ record_start x.index p at → (events : List Event) → WhereTold told (λ image. events_in_source image n x.index s ≡ Ok events)
      → WhereStands told (λ z. AreEventsFrom z start events)
  events_own start begins events read image is z h =
      subst (λ m. AreEventsFrom z m events) (sym begins)
      (own_from z image x (record_of x.index p at) (record_start x.index p at) events (as_history image is z h) (sym (same_read image) ∙ read image is))

  -- why there are none
  pub why_none : (f : StartFault) → WhereTold told (λ image. IsReason f (events_in_source image n x.index s))
      → WhereTold told (λ image. IsReason f (events_in_source image (length x.names) x.index (record_of x.index p at)))
  why_none f why image is = subst (λ (r : Result (List Event) StartFault). IsReason f r) (same_read image) (why image is)

  -- no damage is found in an image of a history
  pub none_damaged : (f : RecordFault) → WhereTold told (λ image. IsReason (start_fault_of f) (events_in_source image n x.index s)) → WhereStands told (λ z. IsOutside f)
  none_damaged f why image is z h =
      no_damage z image x (record_of x.index p at) (record_start x.index p at) f (as_history image is z h) (why_none (start_fault_of f) why image is)

-- ---- some of the events of a stretch

-- a front of a front of a list is a front of it
front_of_front : (es : List Event) (a : ℕ) (part : List Event) (n : ℕ) → part ≡ take n (take a es) → take (length part) es ≡ part
front_of_front es a part n is =
    let few : length part ≤ a = omega (arith, ap length is, length-take n (take a es), length-take a es) in
    let few_too : length part ≤ n = omega (arith, ap length is, length-take n (take a es)) in
    let same : part ≡ take (length part) part = sym (take_whole part) in
    sym (same ∙ ap (take (length part)) is ∙ take_twice (length part) n (take a es) few_too ∙ take_twice (length part) a es few)
  where
    take_whole : (xs : List Event) → take (length xs) xs ≡ xs
    take_whole [] = refl
    take_whole (x ∷ xs) = ap (λ (l : List Event). x ∷ l) (take_whole xs)

    take_twice : (m n : ℕ) (xs : List Event) → m ≤ n → take m (take n xs) ≡ take m xs
    take_twice zero n xs le = refl
    take_twice (suc m) zero xs le = absurd (omega (arith, le))
    take_twice (suc m) (suc n) [] le = refl
    take_twice (suc m) (suc n) (x ∷ xs) le = ap (λ (l : List Event). x ∷ l) (take_twice m n xs (omega (arith, le)))

abbrev no_events : List Event
no_events = []

take_none : (n : ℕ) → no_events ≡ take n no_events
take_none zero = refl
take_none (suc n) = refl

-- so many of a front, behind some of it
take_behind : (k m : ℕ) (xs : List Event) → drop k (take m xs) ≡ take (m - k) (drop k xs)
take_behind zero m xs = ap (λ n. take n xs) (let e : m ≡ m - 0 = omega arith in e)
take_behind (suc k) zero xs = ap (λ n. take n (drop (suc k) xs)) (let e : 0 ≡ 0 - suc k = omega arith in e)
take_behind (suc k) (suc m) [] = take_none (suc m - suc k)
take_behind (suc k) (suc m) (x ∷ xs) = take_behind k m xs ∙ ap (λ n. take n (drop k xs)) (let e : m - k ≡ suc m - suc k = omega arith in e)

-- those from one number on, up to another
pub part_from : (z : History) (start at end : ℕ) (events part : List Event) → AreEventsFrom z start events → start ≤ at
    → part ≡ take (end - at) (drop (at - start) events) → AreEventsFrom z at part
part_from z start at end events part own le is =
    let es : List Event = events_of z in
    let k : ℕ = at - start in
    let there : start + k ≡ at = omega (arith, le) in
    front_of_front (drop at es) (length events - k) part (end - at)
    (is ∙ ap (λ (l : List Event). take (end - at) (drop k l)) (sym own)
    ∙ ap (take (end - at)) (take_behind k (length events) (drop start es) ∙ ap (take (length events - k)) (drop-drop k start es ∙ ap (λ m. drop m es) there)))
