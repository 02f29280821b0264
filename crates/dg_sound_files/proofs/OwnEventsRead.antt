-- The events of lists and of pieces, as they are read one record after another.
use Rattle.std.proofs.Common.{◌≡◌, ◌≢◌, ℕ, zero, suc, ◌+◌, ◌*◌, ◌≤◌, ◌<◌, Bool, true, false, cond, List, [], ◌∷◌, ◌++◌, length, take, drop, max, Result, Ok, Err, refl, sym, ap, subst, ◌∙◌, append_assoc, append-nil, arith, length-append, length-drop, add-mul, div-mul-le_self, div-lt_iff_lt-mul}
use lib.Seq.{take-append-le, drop-append-le}
use Rattle.std.specs.Prelude.{◌==◌, ◌&&◌, nat_le}
use Rattle.std.proofs.lemmas.Bool.{eqb-true, eqb-false, and_parts}
use Rattle.std.proofs.lemmas.List.{take_at, drop_at}
use Rattle.std.proofs.lemmas.List.Sums.{sum_by-cons}
use Rattle.std.proofs.lemmas.Slice.Eq.{bytes_eq-Decides}
use Rattle.dg_graph.specs.declared.element.Column.{Column}
use Rattle.dg_graph.specs.declared.element.Column.TheVariants as column
use Rattle.dg_graph.specs.declared.element.Element.{Element}
use Rattle.dg_graph.specs.declared.event.Event.{Event}
use Rattle.dg_graph.specs.Columns.{events_column}
use Rattle.dg_graph.specs.Completion.{completes}
use Rattle.dg_graph.specs.Effect.{forwards}
use Rattle.dg_graph.specs.Replay.{replay_from}
use Rattle.dg_history.specs.LegalHistory.{FitsEvent}
use Rattle.dg_history.specs.declared.node.Key.{Key}
use Rattle.dg_history.specs.declared.node.Key.TheVariants as key
use Rattle.dg_history.specs.History.{last_time_from}
use Rattle.dg_index.specs.Hierarchy.{leaves, numbers}
use Rattle.dg_index.specs.IndexRecords.{closed_list}
use Rattle.dg_index.specs.OpenedIndex.{Opened, column_at, entry_at, event_total}
use Rattle.dg_index.specs.declared.entry.BatchEntry.{BatchEntry}
use Rattle.dg_index.proofs.IndexRecordColumns.{Each, each_append}
use Rattle.dg_index.proofs.HierarchyStability.{leaves_more}
use Rattle.dg_columns.specs.ColumnLaws.{AreBytes, EventsHaveOneSpelling}
use Rattle.dg_columns.specs.ReadFits.{EventsThatAreReadFit}
use Rattle.dg_sound.specs.OwnEvents.{events_of_record, are_completions, events_may_follow, are_ends, have_ends, if_right, with_record, with_list, with_lists, list_total, piece_start, piece_length, is_recent, has_batch_ends, is_column_of, if_columns, with_older, with_recent, with_piece_events, with_pieces}
use Rattle.dg_sound_files.proofs.OwnEventColumns.{ok_same, and_then_is, events_are_of}

-- ---- parts of lists

pub range_front : (n at : ℕ) (xs ys : List Event) → at + n ≤ length xs → take n (drop at (xs ++ ys)) ≡ take n (drop at xs)
range_front n at xs ys le =
    ap (take n) (drop-append-le at xs ys (omega (arith, le))) ∙ take-append-le n (drop at xs) ys (omega (arith, le, length-drop at xs))

-- what stands behind a list, in front of others
pub range_behind : (n at : ℕ) (xs ys zs : List Event) → length xs ≡ at → length ys ≡ n → take n (drop at ((xs ++ ys) ++ zs)) ≡ ys
range_behind n at xs ys zs e f =
    ap (λ (l : List Event). take n (drop at l)) (append_assoc xs ys zs) ∙ ap (take n) (drop_at xs (ys ++ zs) at e) ∙ take_at ys zs n f

-- events behind others, in front of what is read later
behind_one : (n at : ℕ) (before events result later : List Event) → before ++ events ≡ result → length before ≡ at → length events ≡ n → take n (drop at (result ++ later)) ≡ events
behind_one n at before events result later is e f = ap (λ (l : List Event). take n (drop at (l ++ later))) (sym is) ∙ range_behind n at before events later e f

behind_more : (n at : ℕ) (before events next more result later : List Event) → before ++ events ≡ next → next ++ more ≡ result → length before ≡ at → length events ≡ n → take n (drop at (result ++ later)) ≡ events
behind_more n at before events next more result later is on e f =
    ap (λ (l : List Event). take n (drop at (l ++ later))) (sym on) ∙ ap (λ (l : List Event). take n (drop at l)) (append_assoc next more later) ∙ behind_one n at before events next (more ++ later) is e f

joined : (before events next more result : List Event) → before ++ events ≡ next → next ++ more ≡ result → before ++ (events ++ more) ≡ result
joined before events next more result is on = sym (append_assoc before events more) ∙ ap (λ (l : List Event). l ++ more) is ∙ on

-- ---- completions

and_three : (a b c d : Bool) → (a && (b && (c && d))) ≡ ((a && (b && c)) && d)
and_three true true c d = refl
and_three true false c d = refl
and_three false b c d = refl

pub completions_append : (names : List (List ℕ)) (set : List Element) (t : ℕ) (xs ys : List Event)
    → are_completions names set t (xs ++ ys) ≡ (are_completions names set t xs && are_completions names (replay_from set xs) (last_time_from t xs) ys)
completions_append names set t [] ys = refl
completions_append names set t (e ∷ xs) ys =
    ap (λ b. completes names set e.body && (nat_le t e.time && b)) (completions_append names (forwards set e) e.time xs ys)
    ∙ and_three (completes names set e.body) (nat_le t e.time) (are_completions names (forwards set e) e.time xs) (are_completions names (replay_from (forwards set e) xs) (last_time_from e.time xs) ys)

-- the events so far come of changes one after another, and their numbers are in their ranges
pub record AreSound (x : Opened) (events : List Event) : Type 0 where
  pub follow : are_completions x.names [] 0 events ≡ true
  pub fit : Each (FitsEvent (length x.names)) events

pub no_events : (x : Opened) → AreSound x []
no_events x = record { follow = refl; fit = tt }

more_sound : (x : Opened) (before events : List Event) → AreSound x before → events_may_follow x.names before events ≡ true → Each (FitsEvent (length x.names)) events → AreSound x (before ++ events)
more_sound x before events so follows fit = record {
  follow = completions_append x.names [] 0 before events ∙ (λ i. so.follow i && follows i);
  fit = each_append (FitsEvent (length x.names)) before events so.fit fit;
}

-- ---- a record behind the events so far

if_right_is : (b : Bool) (k : Key) (events result : List Event) → if_right b k events ≡ Ok result → (b ≡ true) × (events ≡ result)
if_right_is true k events result e = (refl, ok_same events result e)
if_right_is false k events result e = absurd cc

record Added (names : List (List ℕ)) (right : List Event → Bool) (before : List Event) (r : Result (List Event) Column) (result : List Event) : Type 0 where
  events : List Event
  read : r ≡ Ok events
  passes : right events ≡ true
  follows : events_may_follow names before events ≡ true
  is : before ++ events ≡ result

added : (names : List (List ℕ)) (k : Key) (right : List Event → Bool) (before : List Event) (r : Result (List Event) Column) (result : List Event) → with_record names k right before r ≡ Ok result → Added names right before r result
added names k right before (Err col) result e = absurd cc
added names k right before (Ok events) result e =
    let a = if_right_is (right events && events_may_follow names before events) k (before ++ events) result e in
    let b = and_parts (right events) _ a.0 in
    record { events = events; read = refl; passes = b.0; follows = b.1; is = a.1 }

module _ (spelled : EventsHaveOneSpelling) (fit : EventsThatAreReadFit) (image : List ℕ) (x : Opened) (all : AreBytes image) (pos : 0 < x.index.params.l) where
  -- ---- lists

  -- of the events, the list has the columns and the times
  pub record IsRightList (i : ℕ) (events : List Event) : Type 0 where
    pub columns : (col : Column) → column_at image (entry_at x.index (key.List i)) col ≡ events_column col (closed_list x.index.params events i)
    pub ends : have_ends (entry_at x.index (key.List i)).ends (closed_list x.index.params events i) ≡ true

  right_list : (i : ℕ) (events list : List Event) → closed_list x.index.params events i ≡ list → ((col : Column) → column_at image (entry_at x.index (key.List i)) col ≡ events_column col list) → have_ends (entry_at x.index (key.List i)).ends list ≡ true → IsRightList i events
  right_list i events list is columns ends = record { columns = λ col. columns col ∙ ap (events_column col) (sym is); ends = ap (have_ends (entry_at x.index (key.List i)).ends) is ∙ ends }

  pub record ListsRead (i n : ℕ) (before result : List Event) : Type 0 where
    pub more : List Event
    pub is : before ++ more ≡ result
    pub count : length result ≡ (i + n) * x.index.params.l
    pub sound : AreSound x result
    pub right : (j : ℕ) → i ≤ j → j < i + n → (later : List Event) → IsRightList j (result ++ later)

  pub lists_read : (i n : ℕ) (before result : List Event) → length before ≡ i * x.index.params.l → AreSound x before → with_lists image x before (numbers i n) ≡ Ok result → ListsRead i n before result
  lists_read i zero before result len so e =
      let same = ok_same before result e in
      record {
        more = [];
        is = append-nil before ∙ same;
        count = ap length (sym same) ∙ len ∙ ap (λ m. m * x.index.params.l) (let z : i ≡ i + 0 = omega arith in z);
        sound = subst (AreSound x) same so;
        right = λ j from to later. absurd (omega (arith, from, to));
      }
  lists_read i (suc n) before result len so e =
      let a = and_then_is (with_list image x before i) (λ events. with_lists image x events (numbers (i + 1) n)) result e in
      let r = added x.names (key.List i) (have_ends (entry_at x.index (key.List i)).ends) before (events_of_record image x (key.List i) x.index.params.l) a.0 a.1 in
      let of = events_are_of spelled fit image x all (key.List i) x.index.params.l r.events r.read in
      let next : AreSound x a.0 = subst (AreSound x) r.is (more_sound x before r.events so r.follows of.fit) in
      let long : length a.0 ≡ (i + 1) * x.index.params.l = ap length (sym r.is) ∙ omega (arith, length-append before r.events, len, of.count, add-mul i 1 x.index.params.l) in
      let m = lists_read (i + 1) n a.0 result long next a.2 in
      record {
        more = r.events ++ m.more;
        is = joined before r.events a.0 m.more result r.is m.is;
        count = m.count ∙ ap (λ m. m * x.index.params.l) (let z : i + 1 + n ≡ i + suc n = omega arith in z);
        sound = m.sound;
        right = λ j from to later. by j from to later
            (right_list i (result ++ later) r.events (behind_more x.index.params.l (i * x.index.params.l) before r.events a.0 m.more result later r.is m.is len of.count) of.columns r.passes) (λ above. m.right j above (omega (arith, to)) later) (j == i) refl;
      }
    where
      by : (j : ℕ) → i ≤ j → j < i + suc n → (later : List Event) → IsRightList i (result ++ later) → (i + 1 ≤ j → IsRightList j (result ++ later)) → (b : Bool) → (j == i) ≡ b → IsRightList j (result ++ later)
      by j from to later here more true e = subst (λ j. IsRightList j (result ++ later)) (sym (eqb-true j i e)) here
      by j from to later here more false e =
          let apart : j ≢ i = eqb-false j i e in
          more (omega (arith, from, apart))

  -- ---- pieces

  -- of the events, the piece of the batch has the columns, and the batch has the times
  pub record IsRightPiece (number count : ℕ) (b : BatchEntry) (events : List Event) : Type 0 where
    pub columns : (col : Column) → column_at image (entry_at x.index (key.Piece number)) col ≡ events_column col (take (piece_length x.index count b) (drop (piece_start x.index count b) events))
    pub ends : has_batch_ends count b events ≡ true

  right_piece : (number count : ℕ) (b : BatchEntry) (events piece : List Event) → take (piece_length x.index count b) (drop (piece_start x.index count b) events) ≡ piece
      → ((col : Column) → column_at image (entry_at x.index (key.Piece number)) col ≡ events_column col piece) → has_batch_ends count b events ≡ true → IsRightPiece number count b events
  right_piece number count b events piece is columns ends = record { columns = λ col. columns col ∙ ap (events_column col) (sym is); ends = ends }

  abbrev pub AreRightPieces : ℕ → ℕ → List BatchEntry → List Event → Type 0
  AreRightPieces number count [] events = Unit {0}
  AreRightPieces number count (b ∷ more) events = IsRightPiece number count b events × AreRightPieces (number + 1) (count + b.events) more events

  pub record PiecesRead (number count : ℕ) (batches : List BatchEntry) (before result : List Event) : Type 0 where
    pub more : List Event
    pub is : before ++ more ≡ result
    pub size : length result ≡ max (list_total x.index * x.index.params.l) (count + event_total batches)
    pub sound : AreSound x result
    pub right : (later : List Event) → AreRightPieces number count batches (result ++ later)

  -- one piece
  record PieceRead (number count : ℕ) (b : BatchEntry) (before result : List Event) : Type 0 where
    more : List Event
    is : before ++ more ≡ result
    size : length result ≡ max (list_total x.index * x.index.params.l) (count + b.events)
    sound : AreSound x result
    right : (later : List Event) → IsRightPiece number count b (result ++ later)

  if_columns_is : (s n e t : Bool) (k : Key) (before result : List Event) → if_columns s n e t k before ≡ Ok result → (s ≡ true) × (n ≡ true) × (e ≡ true) × (t ≡ true) × (before ≡ result)
  if_columns_is true true true true k before result is = (refl, refl, refl, refl, ok_same before result is)
  if_columns_is true true true false k before result is = absurd cc
  if_columns_is true true false t k before result is = absurd cc
  if_columns_is true false e t k before result is = absurd cc
  if_columns_is false n e t k before result is = absurd cc

  ends_front : (count : ℕ) (b : BatchEntry) (xs ys : List Event) → count + b.events ≤ length xs → has_batch_ends count b xs ≡ true → has_batch_ends count b (xs ++ ys) ≡ true
  ends_front count b xs ys le e = ap (are_ends b.ends) (range_front b.events count xs ys le) ∙ e

  ends_behind : (count : ℕ) (b : BatchEntry) (xs result ys : List Event) → xs ≡ result → count + b.events ≤ length xs → has_batch_ends count b xs ≡ true → has_batch_ends count b (result ++ ys) ≡ true
  ends_behind count b xs result ys is le e = ap (λ (l : List Event). has_batch_ends count b (l ++ ys)) (sym is) ∙ ends_front count b xs ys le e

  -- how far a piece reaches
  reach : (count : ℕ) (b : BatchEntry) → piece_start x.index count b + piece_length x.index count b ≡ count + b.events
  reach count b =
      let under : leaves x.index.params (count + b.events) * x.index.params.l ≤ count + b.events = div-mul-le_self (count + b.events) x.index.params.l in
      omega (arith, under)

  older_read : (number count : ℕ) (b : BatchEntry) (before result : List Event) → length before ≡ max (list_total x.index * x.index.params.l) count → AreSound x before → leaves x.index.params (count + b.events) < list_total x.index
      → with_older image x before number count b ≡ Ok result → PieceRead number count b before result
  older_read number count b before result len so less e =
      let events : List Event = take (piece_length x.index count b) (drop (piece_start x.index count b) before) in
      let a = if_columns_is (is_column_of image x (key.Piece number) (take (piece_length x.index count b) (drop (piece_start x.index count b) before)) column.Structure && has_batch_ends count b before)
      (is_column_of image x (key.Piece number) (take (piece_length x.index count b) (drop (piece_start x.index count b) before)) column.NodeAttr)
      (is_column_of image x (key.Piece number) (take (piece_length x.index count b) (drop (piece_start x.index count b) before)) column.EdgeAttr)
      (is_column_of image x (key.Piece number) (take (piece_length x.index count b) (drop (piece_start x.index count b) before)) column.Transient) (key.Piece number) before result e in
      let s = and_parts (is_column_of image x (key.Piece number) (take (piece_length x.index count b) (drop (piece_start x.index count b) before)) column.Structure) _ a.0 in
      let under : count + b.events < list_total x.index * x.index.params.l = (div-lt_iff_lt-mul pos).0 less in
      let same = a.4 in
      let upto : piece_start x.index count b + piece_length x.index count b ≤ length before = omega (arith, reach count b, len, under) in
      let front : (later : List Event) → take (piece_length x.index count b) (drop (piece_start x.index count b) (result ++ later)) ≡ take (piece_length x.index count b) (drop (piece_start x.index count b) before) = λ later.
      ap (λ (l : List Event). take (piece_length x.index count b) (drop (piece_start x.index count b) (l ++ later))) (sym same) ∙ range_front (piece_length x.index count b) (piece_start x.index count b) before later upto in
      record {
        more = [];
        is = append-nil before ∙ same;
        size = ap length (sym same) ∙ omega (arith, len, under);
        sound = subst (AreSound x) same so;
        right = λ later. right_piece number count b (result ++ later) (take (piece_length x.index count b) (drop (piece_start x.index count b) before)) (front later)
            (by_column (take (piece_length x.index count b) (drop (piece_start x.index count b) before)) s.0 a.1 a.2 a.3)
            (ends_behind count b before result later same (omega (arith, len, under)) s.1);
      }
    where
      by_column : (events : List Event) → is_column_of image x (key.Piece number) events column.Structure ≡ true → is_column_of image x (key.Piece number) events column.NodeAttr ≡ true → is_column_of image x (key.Piece number) events column.EdgeAttr ≡ true → is_column_of image x (key.Piece number) events column.Transient ≡ true
          → (col : Column) → column_at image (entry_at x.index (key.Piece number)) col ≡ events_column col events
      by_column events s n e t column.Structure = (bytes_eq-Decides (column_at image (entry_at x.index (key.Piece number)) column.Structure) (events_column column.Structure events)).0 s
      by_column events s n e t column.NodeAttr = (bytes_eq-Decides (column_at image (entry_at x.index (key.Piece number)) column.NodeAttr) (events_column column.NodeAttr events)).0 n
      by_column events s n e t column.EdgeAttr = (bytes_eq-Decides (column_at image (entry_at x.index (key.Piece number)) column.EdgeAttr) (events_column column.EdgeAttr events)).0 e
      by_column events s n e t column.Transient = (bytes_eq-Decides (column_at image (entry_at x.index (key.Piece number)) column.Transient) (events_column column.Transient events)).0 t

  recent_read : (number count : ℕ) (b : BatchEntry) (before result : List Event) → length before ≡ max (list_total x.index * x.index.params.l) count → AreSound x before → leaves x.index.params (count + b.events) ≡ list_total x.index
      → with_recent image x before number count b ≡ Ok result → PieceRead number count b before result
  recent_read number count b before result len so same e =
      let r = added x.names (key.Piece number) (λ events. has_batch_ends count b (before ++ events)) before (events_of_record image x (key.Piece number) (piece_length x.index count b)) result e in
      let of = events_are_of spelled fit image x all (key.Piece number) (piece_length x.index count b) r.events r.read in
      let start : length before ≡ piece_start x.index count b = len ∙ omega (arith, ap (λ n. n * x.index.params.l) same) in
      let size : length (before ++ r.events) ≡ count + b.events = omega (arith, length-append before r.events, start, of.count, reach count b) in
      let under : list_total x.index * x.index.params.l ≤ count + b.events = subst (λ n. n * x.index.params.l ≤ count + b.events) same (div-mul-le_self (count + b.events) x.index.params.l) in
      record {
        more = r.events;
        is = r.is;
        size = ap length (sym r.is) ∙ omega (arith, size, under);
        sound = subst (AreSound x) r.is (more_sound x before r.events so r.follows of.fit);
        right = λ later. right_piece number count b (result ++ later) r.events (behind_one (piece_length x.index count b) (piece_start x.index count b) before r.events result later r.is start of.count) of.columns
            (ends_behind count b (before ++ r.events) result later r.is (omega (arith, size)) r.passes);
      }

  piece_read : (number count : ℕ) (b : BatchEntry) (before result : List Event) → length before ≡ max (list_total x.index * x.index.params.l) count → AreSound x before → leaves x.index.params (count + b.events) ≤ list_total x.index
      → with_piece_events image x before number count b ≡ Ok result → PieceRead number count b before result
  piece_read number count b before result len so le e = by (is_recent x.index count b) refl e
    where
      by : (t : Bool) → is_recent x.index count b ≡ t → cond t (with_recent image x before number count b) (with_older image x before number count b) ≡ Ok result → PieceRead number count b before result
      by true is e = recent_read number count b before result len so (eqb-true (leaves x.index.params (count + b.events)) (list_total x.index) is) e
      by false is e =
          let apart : leaves x.index.params (count + b.events) ≢ list_total x.index = eqb-false (leaves x.index.params (count + b.events)) (list_total x.index) is in
          older_read number count b before result len so (omega (arith, le, apart)) e

  right_later : (number count : ℕ) (b : BatchEntry) (next more result later : List Event) → next ++ more ≡ result → IsRightPiece number count b (next ++ (more ++ later)) → IsRightPiece number count b (result ++ later)
  right_later number count b next more result later on right = subst (IsRightPiece number count b) (sym (append_assoc next more later) ∙ ap (λ (l : List Event). l ++ later) on) right

  pub pieces_read : (number count : ℕ) (batches : List BatchEntry) (before result : List Event) → count + event_total batches ≡ event_total x.index.batches → length before ≡ max (list_total x.index * x.index.params.l) count → AreSound x before
      → with_pieces image x before number count batches ≡ Ok result → PiecesRead number count batches before result
  pieces_read number count [] before result sum len so e =
      let same = ok_same before result e in
      record {
        more = [];
        is = append-nil before ∙ same;
        size = ap length (sym same) ∙ len ∙ ap (max (list_total x.index * x.index.params.l)) (let z : count ≡ count + 0 = omega arith in z);
        sound = subst (AreSound x) same so;
        right = λ later. tt;
      }
  pieces_read number count (b ∷ batches) before result sum len so e =
      let all : event_total (b ∷ batches) ≡ b.events + event_total batches = sum_by-cons (λ (b : BatchEntry). b.events) b batches in
      let up : leaves x.index.params (count + b.events) ≤ list_total x.index =
      subst (λ n. leaves x.index.params (count + b.events) ≤ leaves x.index.params n) (let z : count + b.events + event_total batches ≡ event_total x.index.batches = omega (arith, all, sum) in z) (leaves_more x.index.params.l (count + b.events) (event_total batches) pos) in
      let a = and_then_is (with_piece_events image x before number count b) (λ events. with_pieces image x events (number + 1) (count + b.events) batches) result e in
      let one = piece_read number count b before a.0 len so up a.1 in
      let m = pieces_read (number + 1) (count + b.events) batches a.0 result (omega (arith, all, sum)) one.size one.sound a.2 in
      record {
        more = one.more ++ m.more;
        is = joined before one.more a.0 m.more result one.is m.is;
        size = m.size ∙ ap (max (list_total x.index * x.index.params.l)) (let z : count + b.events + event_total batches ≡ count + event_total (b ∷ batches) = omega (arith, all) in z);
        sound = m.sound;
        right = λ later. (
          right_later number count b a.0 m.more result later m.is (one.right (m.more ++ later)),
          m.right later,
        );
      }
