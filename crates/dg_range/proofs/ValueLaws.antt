-- What the columns of node attributes have over an image of a history.
use Rattle.std.proofs.Common.{◌≡◌, ℕ, ◌+◌, ◌*◌, ◌≤◌, Bool, true, false, cond, ◌&&◌, List as ListOf, [], ◌∷◌, ◌++◌, Option, Some, length, map, filter, take, drop, Ok, Err, refl, sym, ap, ◌∙◌, arith, add-mul, length-drop, length-take-le}
use Rattle.std.specs.List.{flat_map, list_all, sum}
use Rattle.std.proofs.lemmas.Bool.{and_parts, le-leb}
use Rattle.std.proofs.lemmas.List.Concat.{flat_map-append}
use Rattle.dg_aux.specs.TurnLaws.{ColumnsHaveTurns, is_in_column}
use Rattle.dg_aux.specs.Turns.{turns_by, turns_of}
use Rattle.dg_columns.specs.ColumnLaws.{EventsAreReadBack}
use Rattle.dg_columns.specs.Ranges.{EventsFit}
use Rattle.dg_columns.proofs.EventRanges.{fit_drop, fit_take}
use Rattle.dg_fold.specs.HistoryTrees.{LegalIsIndexed}
use Rattle.dg_fold.specs.HistoryPaths.{IsIndexed}
use Rattle.dg_graph.specs.ColumnGrammar.{events_in}
use Rattle.dg_graph.specs.Columns.{column_of_body, events_column, placed_from, placed_in, same_column}
use Rattle.dg_graph.specs.declared.element.Column.TheVariants.{NodeAttr}
use Rattle.dg_graph.specs.declared.event.Event.{Event}
use Rattle.dg_graph.specs.declared.placed.Placed.{Placed}
use Rattle.dg_heard.proofs.KeptLists.{IsKept, each_list}
use Rattle.dg_heard.proofs.ToldLists.{list_rises, lists_whole}
use Rattle.dg_catalogue.specs.Entries.{column_length_in}
use Rattle.dg_history.specs.declared.node.Key.TheVariants.{List}
use Rattle.dg_history.specs.EventTimes.{RisesFrom}
use Rattle.dg_history.specs.History.{History, events_of, first_time_of, last_time_from, names_of}
use Rattle.dg_history.proofs.EventTimes.{rises_last}
use Rattle.dg_history.proofs.LegalHistories.{events_rise}
use Rattle.dg_index.specs.FileLaws.{ColumnsAreKept}
use Rattle.dg_index.specs.Hierarchy.{leaves, numbers}
use Rattle.dg_index.specs.ImageOfHistory.{IsImageOf}
use Rattle.dg_index.specs.IndexRecords.{closed_list, column_in, recent_of}
use Rattle.dg_index.specs.OpenedIndex.{Opening, column_at, entry_at, opened_of}
use Rattle.dg_index.specs.declared.entry.Ends.{Ends}
use Rattle.dg_index.specs.declared.entry.Entry.{Entry}
use Rattle.dg_index.specs.declared.per_column.PerColumn.{PerColumn}
use Rattle.dg_index.proofs.OpenedIndexRecords.{told_at}
use Rattle.dg_index.proofs.HeldRecords.{IsHeld, held_at, known}
use Rattle.dg_index.proofs.IndexRecordColumns.{Each}
use Rattle.dg_range.specs.ColumnRuns.{and_more, before_more, bytes_along}
use Rattle.dg_heard.specs.ListColumns.{bytes_at, events_at, events_or}
use Rattle.dg_range.specs.ListValues.{all_node_columns, in_time, lies_in, node_columns, values_along, values_at, values_of_lists}
use Rattle.dg_range.proofs.ValueBytes.{bytes_summed}
use Rattle.dg_range.specs.ValueLaw.{ImagesHaveValues}

-- ---- the column of a list

-- the events of the column of node attributes
abbrev values_of : ListOf Event → ListOf Event
values_of events = map (λ (p : Placed). p.event) (placed_in NodeAttr events)

abbrev values_from : ℕ → ListOf Event → ListOf Event
values_from n events = map (λ (p : Placed). p.event) (filter (λ (p : Placed). same_column (column_of_body p.event.body) NodeAttr) (placed_from n events))

values_are : (n : ℕ) (events : ListOf Event) → values_from n events ≡ filter is_in_column events
values_are n [] = refl
values_are n (e ∷ events) = by (is_in_column e) (values_are (n + 1) events)
  where
    by : (b : Bool) → values_from (n + 1) events ≡ filter is_in_column events
        → map (λ (p : Placed). p.event) (cond b (record { at = n; event = e } ∷ filter (λ (p : Placed). same_column (column_of_body p.event.body) NodeAttr) (placed_from (n + 1) events)) (filter (λ (p : Placed). same_column (column_of_body p.event.body) NodeAttr) (placed_from (n + 1) events)))
        ≡ cond b (e ∷ filter is_in_column events) (filter is_in_column events)
    by true more = ap (λ l. e ∷ l) more
    by false more = more

-- ---- the times of a list

-- events whose times do not fall lie between these
all_lie : (first last s : ℕ) (events : ListOf Event) → first ≤ s → last_time_from s events ≤ last → RisesFrom s events → list_all (lies_in (Some (record { first = first; last = last }))) events ≡ true
all_lie first last s [] from to rises = refl
all_lie first last s (e ∷ events) from to rises =
    let above : first ≤ e.time = omega (arith, from, rises.0) in
    let most = rises_last e.time events rises.1 in
    λ i. (le-leb first e.time above i && le-leb e.time last (omega (arith, to, most)) i) && all_lie first last e.time events above to rises.1 i

-- and so do some of them
some_lie : (p q : Event → Bool) (events : ListOf Event) → list_all p events ≡ true → list_all p (filter q events) ≡ true
some_lie p q [] all = refl
some_lie p q (e ∷ events) all = by (q e) (some_lie p q events (both.1))
  where
    both : (p e ≡ true) × (list_all p events ≡ true)
    both = and_parts (p e) (list_all p events) all

    by : (b : Bool) → list_all p (filter q events) ≡ true → list_all p (cond b (e ∷ filter q events) (filter q events)) ≡ true
    by true rest = λ i. both.0 i && rest i
    by false rest = rest

-- ---- lists one behind another

along : (names : ℕ) (image : ListOf ℕ) (o : Opening) (f : ℕ → ListOf Event) (lists : ListOf ℕ) → Each (λ i. values_at names image o i ≡ Ok (f i)) lists
    → values_of_lists names image o lists ≡ Ok (flat_map f lists)
along names image o f [] all = refl
along names image o f (i ∷ lists) all =
    (λ j. before_more (i, NodeAttr) (all.0 j) (values_of_lists names image o lists)) ∙ ap (and_more (f i)) (along names image o f lists all.1)

both_turns : (name : ℕ) (a b c d : ListOf Event) → turns_of name a ≡ turns_of name c → turns_of name b ≡ turns_of name d → turns_of name (a ++ b) ≡ turns_of name (c ++ d)
both_turns name a b c d e f =
    flat_map-append (λ x. turns_by name x) a b ∙ (λ i. e i ++ f i) ∙ sym (flat_map-append (λ x. turns_by name x) c d)

own_lie : (s : ℕ) (events : ListOf Event) → RisesFrom s events → list_all (lies_in (Some (record { first = first_time_of events; last = last_time_from 0 events }))) events ≡ true
own_lie s [] rises = refl
own_lie s (e ∷ events) rises = all_lie e.time (last_time_from e.time events) e.time (e ∷ events) (omega arith) (omega arith) (omega arith, rises.1)

module _ (kept : ColumnsAreKept) (back : EventsAreReadBack) (indexed : LegalIsIndexed) (columns : ColumnsHaveTurns) (z : History) (image : ListOf ℕ) (h : IsImageOf z image) where
  abbrev own : ℕ → ListOf Event
  own i = closed_list z.params (events_of z) i

  abbrev lists : ListOf ℕ
  lists = numbers 0 (leaves z.params (length (events_of z)))

  index_is : IsIndexed (length (names_of z)) z
  index_is = (indexed z h.legal).0

  -- the column of a list is read as the values of the history's list
  list_read : (i : ℕ) → IsKept z h.legal i → events_at (length (names_of z)) image (opened_of z).index i NodeAttr ≡ Ok (values_of (own i))
  list_read i is =
      let names : ℕ = length (names_of z) in
      let l : ℕ = z.params.l in
      let behind : ListOf Event = drop (i * l) (events_of z) in
      let full = is.full in
      let next : (i + 1) * l ≡ i * l + l = omega (arith, add-mul i 1 l) in
      let long : length (own i) ≡ l = length-take-le l behind (omega (arith, length-drop (i * l) (events_of z), full, next)) in
      let short = index_is.short in
      let fit : EventsFit names 0 (own i) = fit_take names 0 l behind (fit_drop names 0 (i * l) (events_of z) index_is.fits) in
      let e : IsHeld (opened_of z).index (List i) = held_at (opened_of z).index (List i) is.held in
      let bytes : column_at image (entry_at (opened_of z).index (List i)) NodeAttr ≡ events_column NodeAttr (own i) =
      ap (λ (x : Entry). column_at image x NodeAttr) e.is ∙ kept z image h (List i) e.entry e.found NodeAttr in
      ap (λ (b : ListOf ℕ). events_or i (events_in NodeAttr names b)) bytes
      ∙ ap (events_or i) (back NodeAttr names (own i) index_is.names_fit (omega (arith, long, short)) fit)

  -- its events lie within the times that the index gives it
  in_times : (i : ℕ) → IsKept z h.legal i → list_all (lies_in (entry_at (opened_of z).index (List i)).ends) (values_of (own i)) ≡ true
  in_times i is =
      let s : ℕ = last_time_from 0 (take (i * z.params.l) (events_of z)) in
      let rises : RisesFrom s (own i) = list_rises z.params (events_of z) i (events_rise z h.legal) in
      ap (λ (x : Option Ends). list_all (lies_in x) (values_of (own i))) is.ends
      ∙ ap (list_all (lies_in (Some (record { first = first_time_of (own i); last = last_time_from 0 (own i) })))) (values_are 0 (own i))
      ∙ some_lie (lies_in (Some (record { first = first_time_of (own i); last = last_time_from 0 (own i) }))) is_in_column (own i) (own_lie s (own i) rises)

  list_valued : (i : ℕ) → IsKept z h.legal i → values_at (length (names_of z)) image (opened_of z).index i ≡ Ok (values_of (own i))
  list_valued i is =
      ap (in_time i (entry_at (opened_of z).index (List i)).ends) (list_read i is)
      ∙ ap (λ (b : Bool). cond b (Ok (values_of (own i))) (Err i)) (in_times i is)

  read : values_along (length (names_of z)) image (opened_of z).index ≡ Ok (flat_map (λ i. values_of (own i)) lists)
  read =
      let names : ℕ = length (names_of z) in
      let o : Opening = (opened_of z).index in
      (λ j. values_of_lists names image o (numbers 0 (leaves ((known z).params j) ((known z).count j))))
      ∙ along names image o (λ i. values_of (own i)) lists (each_list z h.legal (λ i. values_at names image o i ≡ Ok (values_of (own i))) list_valued)

  -- the bytes of the column of a list
  list_long : (i : ℕ) → IsKept z h.legal i → bytes_at (opened_of z).index i NodeAttr ≡ length (column_in z (List i) NodeAttr)
  list_long i is =
      let e : IsHeld (opened_of z).index (List i) = held_at (opened_of z).index (List i) is.held in
      let told = told_at z h.legal (List i) e.entry e.found in
      ap (λ (x : Entry). column_length_in x NodeAttr) e.is ∙ ap (λ (l : PerColumn ℕ). l.node_attrs) told.0

  bytes : bytes_along (opened_of z).index (all_node_columns (opened_of z).index) ≡ sum (map (λ i. length (column_in z (List i) NodeAttr)) lists)
  bytes =
      let o : Opening = (opened_of z).index in
      (λ j. bytes_along o (node_columns (numbers 0 (leaves ((known z).params j) ((known z).count j)))))
      ∙ bytes_summed o (λ i. length (column_in z (List i) NodeAttr)) lists (each_list z h.legal (λ i. bytes_at o i NodeAttr ≡ length (column_in z (List i) NodeAttr)) list_long)

  list_turns : (name : ℕ) (events : ListOf Event) → turns_of name (values_of events) ≡ turns_of name events
  list_turns name events = ap (turns_of name) (values_are 0 events) ∙ columns name events

  turns_along : (name : ℕ) (some : ListOf ℕ) → turns_of name (flat_map (λ i. values_of (own i)) some) ≡ turns_of name (flat_map own some)
  turns_along name [] = refl
  turns_along name (i ∷ some) =
      both_turns name (values_of (own i)) (flat_map (λ i. values_of (own i)) some) (own i) (flat_map own some) (list_turns name (own i)) (turns_along name some)

  all_turns : (name : ℕ) → turns_of name (flat_map (λ i. values_of (own i)) lists ++ recent_of z.params (events_of z)) ≡ turns_of name (events_of z)
  all_turns name =
      let events : ListOf Event = events_of z in
      let n : ℕ = leaves z.params (length events) in
      let recent : recent_of z.params events ≡ drop ((0 + n) * z.params.l) events = ap (λ c. drop (c * z.params.l) events) (let e : n ≡ 0 + n = omega arith in e) in
      let all : drop (0 * z.params.l) events ≡ events = ap (λ c. drop c events) (let e : 0 * z.params.l ≡ 0 = omega arith in e) in
      both_turns name (flat_map (λ i. values_of (own i)) lists) (recent_of z.params events) (flat_map own lists) (recent_of z.params events) (turns_along name lists) refl
      ∙ ap (turns_of name) (ap (λ (l : ListOf Event). flat_map own lists ++ l) recent ∙ lists_whole z.params events 0 n ∙ all)

pub images_have_values : ColumnsAreKept → EventsAreReadBack → LegalIsIndexed → ColumnsHaveTurns → ImagesHaveValues
images_have_values kept back indexed columns z image h = record {
  events = flat_map (λ i. values_of (own kept back indexed columns z image h i)) (lists kept back indexed columns z image h);
  read = read kept back indexed columns z image h;
  turns = all_turns kept back indexed columns z image h;
  bytes = bytes kept back indexed columns z image h;
}
