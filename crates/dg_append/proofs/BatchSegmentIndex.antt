-- What holds of an index once it has the segment of one batch more: it may close lists, and go on.
use Rattle.std.proofs.Common.{◌≡◌, ℕ, ◌+◌, ◌-◌, ◌*◌, ◌≤◌, Bool, true, ◌&&◌, List, [], ◌∷◌, ◌++◌, Some, length, map, take, drop, refl, sym, ◌∙◌, ap, subst, arith, nat_le, length-append, length-drop, div-mul-le_self, mul-le-mul_right}
use Rattle.std.specs.List.{All}
use Rattle.std.proofs.lemmas.List.{length-map}
use Rattle.std.proofs.lemmas.List.Elements.{All-append, All-drop}
use Rattle.std.proofs.lemmas.List.Sums.{sum_by_push}
use Rattle.std.proofs.lemmas.Bool.{and_parts}
use borrow.Author.Tests.{leb-true, le-leb}
use Rattle.dg_append.proofs.HistoryTimes.{begins_first, from_first, last_of_both, rest_begins, rest_ends, rest_rises}
use Rattle.dg_append.specs.AddedBatches.{recent_behind}
use Rattle.dg_append.specs.BatchSegments.{BeginsBehind, IsSegmentBehind, MayFollow}
use Rattle.dg_build.specs.SpelledRecords.{last_in_rows}
use Rattle.dg_graph.specs.declared.event.Event.{Event}
use Rattle.dg_graph.specs.declared.limits.TheConstants.{TIME_MAX}
use Rattle.dg_text.specs.declared.limits.TheConstants.{NAMES_MAX}
use Rattle.dg_history.specs.declared.limits.TheConstants.{BATCH_LINES_MAX, EVENTS_MAX}
use Rattle.dg_history.specs.declared.node.Key.{Key}
use Rattle.dg_history.specs.declared.node.Key.TheVariants as key
use Rattle.dg_history.specs.EventTimes.{RisesFrom}
use Rattle.dg_history.specs.History.{first_time_of, is_wide, last_time_from}
use Rattle.dg_history.proofs.EventTimes.{rises_join, rises_last}
use Rattle.dg_index.specs.declared.entry.BatchEntry.{BatchEntry}
use Rattle.dg_index.specs.declared.entry.Row.{Row}
use Rattle.dg_index.specs.FileOfHistory.{Segment, Stored, StoredList, directory}
use Rattle.dg_index.specs.Hierarchy.{leaves, numbers}
use Rattle.dg_index.specs.IndexGrowth.{IsDue, index_with, name_total}
use Rattle.dg_index.specs.IndexRecords.{deltas_due, lists_due}
use Rattle.dg_index.specs.OpenedIndex.{Opening, delta_count, directory_of, earliest_in, event_total, first_in, keys_next, laid, last_list, last_or, list_count, list_row, may_be_listed, record_row, rows_in, total, within}
use Rattle.dg_index.proofs.HierarchyCounts.{numbers_length}
use Rattle.dg_index.proofs.HierarchyStability.{leaves_more}
use Rattle.dg_index.proofs.OpenedIndexHistories.{earliest_more, first_more, last_list_more}
use Rattle.dg_stored.specs.StoredHistory.{MayGoOn, RiseUpTo, floor_of, recent_count}

-- ---- the last list among the records

last_laid : (t offset : ℕ) (keys : List Key) (rows : List Row) → length rows ≤ length keys → last_list t (laid offset keys rows) ≡ last_in_rows t rows
last_laid t offset [] [] le = refl
last_laid t offset [] (r ∷ rows) le = absurd (omega arith)
last_laid t offset (k ∷ keys) [] le = refl
last_laid t offset (k ∷ keys) (r ∷ rows) le = last_laid (last_or t r.ends) (offset + total r.lengths) keys rows (omega arith)

rows_more : (t : ℕ) (xs ys : List Row) → last_in_rows t (xs ++ ys) ≡ last_in_rows (last_in_rows t xs) ys
rows_more t [] ys = refl
rows_more t (x ∷ xs) ys = rows_more (last_or t x.ends) xs ys

no_times : (t : ℕ) (deltas : List Stored) (piece : Row) → piece.ends ≡ (record_row (record { structure = []; node_attrs = []; edge_attrs = []; transient = [] })).ends → last_in_rows t (map record_row deltas ++ piece ∷ []) ≡ t
no_times t [] piece none = ap (last_or t) none
no_times t (d ∷ deltas) piece none = no_times t deltas piece none

-- lists that may stand end by the last time
listed_ends : (first last : ℕ) (lists : List StoredList) → first ≤ last → may_be_listed first last (map list_row lists) ≡ true → last_in_rows first (map list_row lists) ≤ last
listed_ends first last [] le may = le
listed_ends first last (x ∷ lists) le may =
    let parts = and_parts (within first last (list_row x).ends) (may_be_listed x.last last (map list_row lists)) may in
    let more = and_parts (nat_le first x.first) _ parts.0 in
    let rest = and_parts (nat_le x.first x.last) _ more.1 in
    listed_ends x.last last lists (leb-true x.last last rest.1) parts.1

six_true : (a b c d e f : Bool) → a ≡ true → b ≡ true → c ≡ true → d ≡ true → e ≡ true → f ≡ true → (a && (b && (c && (d && (e && f))))) ≡ true
six_true a b c d e f ta tb tc td te tf =
    ap (λ t. t && (b && (c && (d && (e && f))))) ta ∙ ap (λ t. t && (c && (d && (e && f)))) tb ∙ ap (λ t. t && (d && (e && f))) tc
    ∙ ap (λ t. t && (e && f)) td ∙ ap (λ t. t && f) te ∙ tf

-- what is left behind some of the events, of which lists are cut that the last time ends
left_goes_on : (f last t n : ℕ) (lists : List StoredList) (tail : List Event) → RisesFrom f tail → last_time_from f tail ≡ last → may_be_listed f last (map list_row lists) ≡ true
    → BeginsBehind (last_in_rows 0 (map list_row lists)) (drop n tail) → last + 1 ≤ t
    → RisesFrom (last_in_rows f (map list_row lists)) (drop n tail) × (last_time_from (last_in_rows f (map list_row lists)) (drop n tail) ≤ t)
left_goes_on f last t n lists tail r is may behind late =
    (from_first (last_in_rows f (map list_row lists)) (last_time_from f (take n tail)) (drop n tail) (begins lists behind) (rest_rises f n tail r), ends (drop n tail) refl)
  where
    begins : (lists : List StoredList) → BeginsBehind (last_in_rows 0 (map list_row lists)) (drop n tail) → BeginsBehind (last_in_rows f (map list_row lists)) (drop n tail)
    begins [] b = rest_begins f n tail r
    begins (x ∷ lists) b = b

    ends : (left : List Event) → left ≡ drop n tail → last_time_from (last_in_rows f (map list_row lists)) left ≤ t
    ends [] none = omega (arith, listed_ends f last lists (omega (arith, rises_last f tail r, is)) may, late)
    ends (e ∷ left) some =
        let long : 1 ≤ length (drop n tail) = omega (arith, ap length some) in
        omega (arith, ap (last_time_from (last_in_rows f (map list_row lists))) some, rest_ends f n tail r (last_in_rows f (map list_row lists)) long, is, late)

-- ---- events behind an index

module _ (o : Opening) (recent events : List Event) (m : MayFollow o recent events) where
  -- with the recent events before them they rise from the last list on
  pub tail_rises : RisesFrom (floor_of o (first_time_of events)) (recent ++ events)
  tail_rises =
      let r : RiseUpTo o (first_time_of events) recent = m.goes_on (first_time_of events) m.early in
      rises_join (floor_of o (first_time_of events)) recent events r.rises
      (from_first (last_time_from (floor_of o (first_time_of events)) recent) (earliest_in 0 o.batches) events (begins_first (last_time_from (floor_of o (first_time_of events)) recent) events r.last) m.rises)

  pub tail_last : last_time_from (floor_of o (first_time_of events)) (recent ++ events) ≡ last_time_from 0 events
  tail_last = last_of_both (floor_of o (first_time_of events)) recent events m.some

  module _ (names : List (List ℕ)) (s : Segment) (b : IsSegmentBehind o names recent events s) where
    pub segment_due : name_total o.batches + length names ≤ NAMES_MAX → IsDue o s
    segment_due few = record {
      lists = b.lists ∙ ap (list_count o) (sym b.events_are);
      deltas = b.deltas ∙ ap (delta_count o) (sym b.events_are);
      follows =
          six_true (nat_le 1 s.events) (nat_le s.events BATCH_LINES_MAX) (nat_le (event_total o.batches + s.events) EVENTS_MAX) (nat_le (earliest_in 0 o.batches) s.first)
          (nat_le s.first s.last) (nat_le s.last TIME_MAX)
          (le-leb 1 s.events (omega (arith, b.events_are, m.some))) (le-leb s.events BATCH_LINES_MAX (omega (arith, b.events_are, m.few))) (le-leb (event_total o.batches + s.events) EVENTS_MAX (omega (arith, b.events_are, m.room)))
          (le-leb (earliest_in 0 o.batches) s.first (omega (arith, b.first_is, m.early))) (le-leb s.first s.last (omega (arith, b.first_is, b.last_is, m.later))) (le-leb s.last TIME_MAX (omega (arith, b.last_is, m.last)));
      few_names = omega (arith, few, ap length b.names_are);
      listed = (λ i. may_be_listed (floor_of o (b.first_is i)) (b.last_is i) (map list_row s.lists)) ∙ b.listed;
      deltas_unheard = b.deltas_unheard;
      unheard = b.unheard;
    }

    new_events : event_total (index_with o s).batches ≡ event_total o.batches + length events
    new_events = sum_by_push (λ (x : BatchEntry). x.events) o.batches (directory_of s).batch ∙ ap (λ n. event_total o.batches + n) b.events_are

    up : leaves o.params (event_total o.batches) ≤ leaves o.params (event_total o.batches + length events)
    up = leaves_more o.params.l (event_total o.batches) (length events) m.pos

    keys_long : length (keys_next o s.events) ≡ list_count o s.events + (delta_count o s.events + 1)
    keys_long =
        length-append (lists_due o.params (event_total o.batches) (event_total o.batches + s.events)) _
        ∙ (λ i. lists_long i + length-append (deltas_due o.params.k (leaves o.params (event_total o.batches)) (leaves o.params (event_total o.batches + s.events))) (key.Piece (length o.batches) ∷ []) i)
      where
        lists_long : length (lists_due o.params (event_total o.batches) (event_total o.batches + s.events)) ≡ list_count o s.events
        lists_long = length-map (numbers (leaves o.params (event_total o.batches)) (list_count o s.events)) (λ i. key.List i) ∙ numbers_length (leaves o.params (event_total o.batches)) (list_count o s.events)

    rows_long : length (rows_in (directory_of s)) ≡ length s.lists + (length s.deltas + 1)
    rows_long =
        length-append (map list_row s.lists) (map record_row s.deltas ++ record_row s.piece ∷ [])
        ∙ (λ i. length-map s.lists list_row i + (length-append (map record_row s.deltas) (record_row s.piece ∷ []) ∙ ap (λ n. n + 1) (length-map s.deltas record_row)) i)

    -- the new floor is the end of the last of the lists
    pub new_floor : (t : ℕ) → floor_of (index_with o s) t ≡ last_in_rows (floor_of o (first_time_of events)) (map list_row s.lists)
    new_floor t =
        let offset : ℕ = o.used + 16 + length (directory (is_wide o.form) s) in
        last_list_more (first_in t (o.batches ++ (directory_of s).batch ∷ [])) o.records (laid offset (keys_next o s.events) (rows_in (directory_of s)))
        ∙ (λ i. last_list (last_list ((first_more t o.batches (directory_of s).batch ∙ ap (λ n. first_in n o.batches) b.first_is) i) o.records) (laid offset (keys_next o s.events) (rows_in (directory_of s))))
        ∙ last_laid (floor_of o (first_time_of events)) offset (keys_next o s.events) (rows_in (directory_of s))
        (omega (arith, keys_long, rows_long, b.lists, b.deltas, ap (list_count o) b.events_are, ap (delta_count o) b.events_are))
        ∙ rows_more (floor_of o (first_time_of events)) (map list_row s.lists) (map record_row s.deltas ++ record_row s.piece ∷ [])
        ∙ no_times (last_in_rows (floor_of o (first_time_of events)) (map list_row s.lists)) s.deltas (record_row s.piece) refl

    pub new_goes_on : MayGoOn (Some (index_with o s)) (recent_behind o.params (event_total o.batches) recent events)
    new_goes_on t late =
        let n : ℕ = leaves o.params (event_total o.batches + length events) * o.params.l - leaves o.params (event_total o.batches) * o.params.l in
        let left : List Event = recent_behind o.params (event_total o.batches) recent events in
        let on = left_goes_on (floor_of o (first_time_of events)) (last_time_from 0 events) t n s.lists (recent ++ events) tail_rises tail_last b.listed b.behind
        (omega (arith, earliest_more 0 o.batches (directory_of s).batch, b.last_is, late)) in
        record {
          rises = subst (λ (x : ℕ). RisesFrom x left) (sym (new_floor t)) on.0;
          last = subst (λ (x : ℕ). last_time_from x left ≤ t) (sym (new_floor t)) on.1;
        }

    -- there are as many recent events as the index has behind its last list
    pub new_counted : length (recent_behind o.params (event_total o.batches) recent events) ≡ recent_count (index_with o s)
    new_counted =
        let m : ℕ = leaves o.params (event_total o.batches) * o.params.l in
        let after : ℕ = leaves o.params (event_total o.batches + length events) * o.params.l in
        length-drop (after - m) (recent ++ events) ∙ ap (λ n. n - (after - m)) (length-append recent events)
        ∙ (let e : length recent + length events - (after - m) ≡ event_total o.batches + length events - after =
        omega (arith, m_counted, div-mul-le_self (event_total o.batches) o.params.l, mul-le-mul_right o.params.l up) in e)
        ∙ ap (λ n. n - leaves o.params n * o.params.l) (sym new_events)
      where
        m_counted : length recent ≡ event_total o.batches - leaves o.params (event_total o.batches) * o.params.l
        m_counted = m.counted

    pub new_names : name_total (index_with o s).batches ≡ name_total o.batches + length names
    new_names = sum_by_push (λ (x : BatchEntry). x.names) o.batches (directory_of s).batch ∙ ap (λ n. name_total o.batches + n) (ap length b.names_are)

    pub new_total : event_total (index_with o s).batches ≡ event_total o.batches + length events
    new_total = new_events

-- what holds of the recent events and of those of the batch holds of those that are recent then
pub all_behind : (P : Event → Type 0) (o : Opening) (recent events : List Event) → All P recent → All P events → All P (recent_behind o.params (event_total o.batches) recent events)
all_behind P o recent events first then =
    All-drop P (leaves o.params (event_total o.batches + length events) * o.params.l - leaves o.params (event_total o.batches) * o.params.l) (recent ++ events)
    (All-append P recent events first then)
