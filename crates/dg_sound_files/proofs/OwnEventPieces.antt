-- Behind its lists an image of a history is read as all its events: the older pieces are as these are, and the recent
-- ones have the others.
use Rattle.std.proofs.Common.{◌≡◌, ℕ, ◌+◌, ◌-◌, ◌*◌, ◌<◌, ◌≤◌, Bool, true, false, ◌&&◌, List, [], ◌∷◌, ◌++◌, Ok, if◌then◌else◌, length, map, take, drop, max, is_some, refl, sym, ◌∙◌, ap, subst, arith, append_assoc, append-nil, length-append, length-drop, length-take-le, drop-drop, take-add, div-lt_iff_lt-mul, div-mul-le_self, eq-or-lt_of_le, ⊎_elim}
use Rattle.std.specs.Prelude.{bytes_eq}
use Rattle.std.specs.Map.{lookup}
use Rattle.std.proofs.lemmas.Bool.{and_from, eq-eqb, eqb-true}
use Rattle.std.proofs.lemmas.List.{drop_at, drop-take, take_all, take_at, take-take}
use Rattle.std.proofs.lemmas.List.Concat.{flat_map-append}
use Rattle.std.proofs.lemmas.Slice.Eq.{bytes_eq-Decides}
use Rattle.dg_columns.specs.ColumnLaws.{EventsAreReadBack, EventsAreMergedBack}
use Rattle.dg_graph.specs.declared.element.Column.{Column}
use Rattle.dg_graph.specs.declared.element.Column.TheVariants as column
use Rattle.dg_graph.specs.declared.event.Event.{Event}
use Rattle.dg_graph.specs.Columns.{events_column}
use Rattle.dg_history.specs.declared.node.Key.{Key}
use Rattle.dg_history.specs.declared.node.Key.TheVariants as key
use Rattle.dg_history.specs.declared.params.Params.{Params}
use Rattle.dg_history.specs.Keys.{same_key}
use Rattle.dg_history.specs.History.{History, Batch, events_of}
use Rattle.dg_index.specs.FileLaws.{ColumnsAreKept}
use Rattle.dg_index.specs.Hierarchy.{leaves}
use Rattle.dg_index.specs.ImageOfHistory.{IsImageOf}
use Rattle.dg_index.specs.IndexRecords.{piece_at, piece_of}
use Rattle.dg_index.specs.OpenedIndex.{Opened, column_at, entry_at, opened_of}
use Rattle.dg_history.proofs.LegalHistories.{events_among}
use Rattle.dg_index.proofs.IndexRecordColumns.{piece_there}
use Rattle.dg_index.proofs.EverAddedBounds.{piece_short}
use Rattle.dg_index.proofs.RecentEventPieces.{batches_of, noted}
use Rattle.dg_index.proofs.HierarchyStability.{leaves_more}
use Rattle.dg_sound.specs.OwnEvents.{and_own, are_ends, has_batch_ends, if_columns, is_column_of, is_recent, list_total, own_events, piece_length, piece_start, with_older, with_piece_events, with_pieces, with_recent}
use Rattle.dg_sound_files.proofs.OwnEventLists.{all_listed, few_events, few_names, some_events, some_fit, some_follow}
use Rattle.dg_sound_files.proofs.OpenedIndexRecords.{columns_there, count_is, own_piece_held, params_are}
use Rattle.dg_sound_files.proofs.OwnEventRecords.{ends_of, record_read, record_right}

-- some of the first of the events are some of the events
some_of_first : (a k n : ℕ) (events : List Event) → a + k ≤ n → take k (drop a (take n events)) ≡ take k (drop a events)
some_of_first a k n events le =
    ap (λ c. take k (drop a (take c events))) (let e : n ≡ a + (n - a) = omega (arith, le) in e)
    ∙ ap (take k) (drop-take a (n - a) events)
    ∙ take-take k (n - a) (drop a events) (omega (arith, le))

bytes_same : (xs ys : List ℕ) → xs ≡ ys → bytes_eq xs ys ≡ true
bytes_same xs ys e = (bytes_eq-Decides xs ys).1 e

-- ---- a batch among the others

module _ (kept : ColumnsAreKept) (back : EventsAreReadBack) (merge : EventsAreMergedBack) (z : History) (image : List ℕ) (h : IsImageOf z image) where
  -- the events in lists
  abbrev listed : ℕ
  listed = leaves z.params (length (events_of z)) * z.params.l

  listed_within : leaves z.params (length (events_of z)) * z.params.l ≤ length (events_of z)
  listed_within = div-mul-le_self (length (events_of z)) z.params.l

  module _ (front : List Batch) (b : Batch) (more : List Batch) (is : z.batches ≡ front ++ b ∷ more) where
    abbrev count : ℕ
    count = length (events_among front)

    abbrev upto : ℕ
    upto = length (events_among front) + length b.events

    -- the events in lists once the batch is there
    abbrev cut : ℕ
    cut = leaves z.params (length (events_among front) + length b.events) * z.params.l

    whole : events_of z ≡ events_among front ++ (b.events ++ events_among more)
    whole = ap events_among is ∙ flat_map-append (λ (b : Batch). b.events) front (b ∷ more)

    upto_within : upto ≤ length (events_of z)
    upto_within = omega (arith, ap length whole, length-append (events_among front) (b.events ++ events_among more), length-append b.events (events_among more))

    own_is : take (length b.events) (drop count (events_of z)) ≡ b.events
    own_is =
        ap (λ (es : List Event). take (length b.events) (drop count es)) whole
        ∙ ap (take (length b.events)) (drop_at (events_among front) (b.events ++ events_among more) count refl)
        ∙ take_at b.events (events_among more) (length b.events) refl

    cut_within : cut ≤ upto
    cut_within = div-mul-le_self upto z.params.l

    -- the piece is some of the events
    piece_is : piece_at z.params [] z.batches (length front) ≡ take (length b.events - (cut - count)) (drop (max count cut) (events_of z))
    piece_is =
        let k : ℕ = cut - count in
        let n : ℕ = length b.events in
        ap (λ (l : List Batch). piece_at z.params [] l (length front)) is ∙ piece_there z.params [] front b more
        ∙ ap (drop k) (sym own_is)
        ∙ ap (λ c. drop k (take c (drop count (events_of z)))) (let e : n ≡ k + (n - k) = omega (arith, cut_within) in e)
        ∙ drop-take k (n - k) (drop count (events_of z))
        ∙ ap (take (n - k)) (drop-drop k count (events_of z) ∙ ap (λ c. drop c (events_of z)) (let e : count + k ≡ max count cut = omega arith in e))

    held : is_some (lookup (same_key (key.Piece (length front))) (opened_of z).index.records) ≡ true
    held = own_piece_held z (length front) (omega (arith, ap length is, length-append front (b ∷ more)))

    leaves_are : leaves (opened_of z).index.params upto ≡ leaves z.params upto
    leaves_are = ap (λ (p : Params). leaves p upto) (params_are z)

    cut_is : leaves (opened_of z).index.params upto * (opened_of z).index.params.l ≡ cut
    cut_is = ap (λ (p : Params). leaves p upto * p.l) (params_are z)

    length_is : piece_length (opened_of z).index count (noted b) ≡ length b.events - (cut - count)
    length_is = ap (λ c. length b.events - (c - count)) cut_is

    start_is : piece_start (opened_of z).index count (noted b) ≡ max count cut
    start_is = ap (max count) cut_is

    total_is : list_total (opened_of z).index ≡ leaves z.params (length (events_of z))
    total_is = λ i. leaves (params_are z i) (count_is z i)

    -- its columns are those of some of the events
    columns : (col : Column) → column_at image (entry_at (opened_of z).index (key.Piece (length front))) col ≡ events_column col (take (length b.events - (cut - count)) (drop (max count cut) (events_of z)))
    columns col = columns_there kept z image h (key.Piece (length front)) held col ∙ ap (events_column col) piece_is

    -- the batch has the times of its events, where these are among the first ones
    batch_ends : (n : ℕ) → upto ≤ n → has_batch_ends count (noted b) (take n (events_of z)) ≡ true
    batch_ends n le =
        ap (are_ends (noted b).ends) (some_of_first count (length b.events) n (events_of z) le ∙ own_is) ∙ ends_of b.events

    -- ---- an older batch

    older_read : cut ≤ listed → upto ≤ listed → with_older image (opened_of z) (take listed (events_of z)) (length front) count (noted b) ≡ Ok (take listed (events_of z))
    older_read low inside =
        let all : List Event = events_of z in
        let x : Opened = opened_of z in
        let k : Key = key.Piece (length front) in
        let n : ℕ = length b.events - (cut - count) in
        let events : List Event = take (piece_length x.index count (noted b)) (drop (piece_start x.index count (noted b)) (take listed all)) in
        let own : events ≡ take n (drop (max count cut) all) =
        (λ i. take (length_is i) (drop (start_is i) (take listed all))) ∙ some_of_first (max count cut) n listed all (omega (arith, cut_within, inside)) in
        let right : (col : Column) → is_column_of image x k events col ≡ true =
        λ col. bytes_same (column_at image (entry_at x.index k) col) (events_column col events) (columns col ∙ ap (events_column col) (sym own)) in
        let first : (is_column_of image x k events column.Structure && has_batch_ends count (noted b) (take listed all)) ≡ true =
        and_from (is_column_of image x k events column.Structure) _ (right column.Structure) (batch_ends listed inside) in
        λ i. if_columns (first i) (right column.NodeAttr i) (right column.EdgeAttr i) (right column.Transient i) k (take listed all)

    -- ---- a recent batch

    recent_read : cut ≡ listed → with_recent image (opened_of z) (take (max listed count) (events_of z)) (length front) count (noted b) ≡ Ok (take (max listed upto) (events_of z))
    recent_read last =
        let all : List Event = events_of z in
        let x : Opened = opened_of z in
        let k : Key = key.Piece (length front) in
        let n : ℕ = length b.events - (cut - count) in
        let start : ℕ = max listed count in
        let same : max count cut ≡ start = omega (arith, last) in
        let own : List Event = take n (drop start all) in
        let own_columns : (col : Column) → column_at image (entry_at x.index k) col ≡ events_column col own =
        λ col. columns col ∙ ap (λ c. events_column col (take n (drop c all))) same in
        let piece : piece_at z.params [] z.batches (length front) ≡ own = piece_is ∙ ap (λ c. take n (drop c all)) same in
        let of_batch : piece_at z.params [] z.batches (length front) ≡ piece_of z.params (events_among front) b =
        ap (λ (l : List Batch). piece_at z.params [] l (length front)) is ∙ piece_there z.params [] front b more in
        let short : length own < z.params.l = omega (arith, ap length (sym of_batch ∙ piece), piece_short z.params (events_among front) b (some_events z image h)) in
        let end : start + n ≡ max listed upto = omega (arith, last, cut_within) in
        let joined : take start all ++ own ≡ take (max listed upto) all = sym (take-add start n all) ∙ ap (λ c. take c all) end in
        let long : n ≡ length own = sym (length-take-le n (drop start all) (omega (arith, length-drop start all, end, upto_within, listed_within))) in
        let read = record_read back merge image x (few_names z image h) k (piece_length x.index count (noted b)) own own_columns (length_is ∙ long) (omega (arith, short, few_events z image h)) (some_fit z image h start n) in
        let times : has_batch_ends count (noted b) (take start all ++ own) ≡ true = ap (has_batch_ends count (noted b)) joined ∙ batch_ends (max listed upto) (omega arith) in
        record_right x.names k (λ events. has_batch_ends count (noted b) (take start all ++ events)) (take start all) own _ read times (some_follow z image h start n)
        ∙ ap (λ (es : List Event). Ok es) joined

    piece_read : with_piece_events image (opened_of z) (take (max listed count) (events_of z)) (length front) count (noted b) ≡ Ok (take (max listed upto) (events_of z))
    piece_read = by (is_recent (opened_of z).index count (noted b)) refl
      where
        by : (t : Bool) → is_recent (opened_of z).index count (noted b) ≡ t
            → (if t then with_recent image (opened_of z) (take (max listed count) (events_of z)) (length front) count (noted b)
            else with_older image (opened_of z) (take (max listed count) (events_of z)) (length front) count (noted b))
            ≡ Ok (take (max listed upto) (events_of z))
        by true t = recent_read (ap (λ m. m * z.params.l) (sym leaves_are ∙ eqb-true (leaves (opened_of z).index.params upto) (list_total (opened_of z).index) t ∙ total_is))
        by false t =
            let m : ℕ = leaves z.params (length (events_of z)) in
            let le : leaves z.params upto ≤ m = subst (λ c. leaves z.params upto ≤ leaves z.params c) (let e : upto + (length (events_of z) - upto) ≡ length (events_of z) = omega (arith, upto_within) in e) (leaves_more z.params.l upto (length (events_of z) - upto) (some_events z image h)) in
            let lt : leaves z.params upto < m = ⊎_elim (λ (e : leaves z.params upto ≡ m). absurd (unequal (leaves_are ∙ e ∙ sym total_is) t)) (λ (l : leaves z.params upto < m). l) (eq-or-lt_of_le le) in
            let inside : upto < m * z.params.l = (div-lt_iff_lt-mul (some_events z image h)).0 lt in
            ap (λ c. with_older image (opened_of z) (take c (events_of z)) (length front) count (noted b)) (let e : max listed count ≡ listed = omega (arith, inside) in e)
            ∙ older_read (omega (arith, inside, cut_within)) (omega (arith, inside))
            ∙ ap (λ c. Ok (take c (events_of z))) (let e : listed ≡ max listed upto = omega (arith, inside) in e)
          where
            unequal : leaves (opened_of z).index.params upto ≡ list_total (opened_of z).index → is_recent (opened_of z).index count (noted b) ≡ false → ⊥
            unequal e f = let same : true ≡ false = sym (eq-eqb (leaves (opened_of z).index.params upto) (list_total (opened_of z).index) e) ∙ f in absurd cc

  -- ---- all batches

  pieces_read : (front batches : List Batch) → z.batches ≡ front ++ batches
      → with_pieces image (opened_of z) (take (max listed (length (events_among front))) (events_of z)) (length front) (length (events_among front)) (map noted batches) ≡ Ok (events_of z)
  pieces_read front [] is =
      let all : events_of z ≡ events_among front = ap events_among (is ∙ append-nil front) in
      ap (λ (es : List Event). Ok es) (take_all (max listed (length (events_among front))) (events_of z) (omega (arith, ap length all)))
  pieces_read front (b ∷ more) is =
      let x : Opened = opened_of z in
      let n : ℕ = length (events_among front) in
      let events : events_among (front ++ b ∷ []) ≡ events_among front ++ b.events = flat_map-append (λ (b : Batch). b.events) front (b ∷ []) ∙ ap (λ (l : List Event). events_among front ++ l) (append-nil b.events) in
      let number : length (front ++ b ∷ []) ≡ length front + 1 = length-append front (b ∷ []) in
      let count : length (events_among (front ++ b ∷ [])) ≡ n + length b.events = ap length events ∙ length-append (events_among front) b.events in
      ap (λ r. and_own r (λ events. with_pieces image x events (length front + 1) (n + length b.events) (map noted more))) (piece_read front b more is)
      ∙ (λ i. with_pieces image x (take (max listed (sym count i)) (events_of z)) (sym number i) (sym count i) (map noted more))
      ∙ pieces_read (front ++ b ∷ []) more (is ∙ sym (append_assoc front (b ∷ []) more))

  pub all_read : own_events image (opened_of z) ≡ Ok (events_of z)
  all_read =
      let x : Opened = opened_of z in
      ap (λ r. and_own r (λ listed. with_pieces image x listed 0 0 x.index.batches)) (all_listed kept back merge z image h)
      ∙ (λ i. with_pieces image x (take (start i) (events_of z)) 0 0 (batches_of z i))
      ∙ pieces_read [] z.batches refl
    where
      start : listed ≡ max listed 0
      start = omega arith
