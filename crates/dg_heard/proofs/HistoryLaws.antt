-- What is heard over an image of a history.
use Rattle.std.proofs.Common.{◌≡◌, ℕ, ◌+◌, ◌*◌, ◌<◌, Bool, true, false, List as ListOf, [], ◌∷◌, ◌++◌, length, map, drop, Ok, refl, sym, ap, ◌∙◌, arith, add-mul, length-drop, length-take-le}
use Rattle.std.specs.Prelude.{slice_index_or, sum}
use Rattle.std.specs.List.{flat_map}
use Rattle.std.proofs.lemmas.Bool.{false≢true}
use Rattle.std.proofs.lemmas.List.Folds.{list_any_at}
use Rattle.dg_catalogue.specs.Entries.{column_length_in}
use Rattle.dg_columns.specs.ColumnLaws.{EventsAreReadBack}
use Rattle.dg_columns.specs.Ranges.{EventsFit}
use Rattle.dg_columns.proofs.EventRanges.{fit_drop, fit_take}
use Rattle.dg_fold.specs.HistoryTrees.{LegalIsIndexed}
use Rattle.dg_fold.specs.HistoryPaths.{IsIndexed}
use Rattle.dg_graph.specs.ColumnGrammar.{events_in}
use Rattle.dg_graph.specs.Columns.{events_column}
use Rattle.dg_graph.specs.declared.element.Column.TheVariants.{Transient}
use Rattle.dg_graph.specs.declared.event.Event.{Event}
use Rattle.dg_graph.specs.Replay.{told_at}
use Rattle.dg_heard.specs.ListColumns.{events_or}
use Rattle.dg_history.specs.declared.node.Key.TheVariants.{List}
use Rattle.dg_history.specs.History.{History, events_of, names_of}
use Rattle.dg_history.proofs.LegalHistories.{events_rise}
use Rattle.dg_index.specs.FileLaws.{ColumnsAreKept}
use Rattle.dg_index.specs.HeardLists.{heard, lies_in_list}
use Rattle.dg_index.specs.Hierarchy.{leaves, numbers}
use Rattle.dg_index.specs.ImageOfHistory.{IsImageOf}
use Rattle.dg_index.specs.IndexRecords.{closed_list, column_in, recent_of}
use Rattle.dg_index.specs.OpenedIndex.{Opening, column_at, entry_at, opened_of}
use Rattle.dg_index.specs.declared.entry.Entry.{Entry}
use Rattle.dg_index.proofs.HeldRecords.{IsHeld, held_at}
use Rattle.dg_index.proofs.IndexRecordColumns.{Each}
use Rattle.dg_heard.specs.Heard.{and_others, before_others, heard_events, messages_along, messages_in}
use Rattle.dg_heard.specs.HistoryLaw.{HeardBytesAreTheHistorys, HistoriesAreHeard}
use Rattle.dg_heard.proofs.Told.{told_append_alike}
use Rattle.dg_heard.proofs.ToldLists.{list_rises, lists_whole, messages_of, told_along, told_messages_of, told_outside}
use Rattle.dg_heard.proofs.KeptLists.{IsKept, each_heard, each_list, heard_is, map_alike, may_tell}

-- ---- the bytes

pub heard_bytes_are : HeardBytesAreTheHistorys
heard_bytes_are z image h times =
    let kept = λ (i : ℕ). column_length_in (entry_at (opened_of z).index (List i)) Transient in
    let own = λ (i : ℕ). length (column_in z (List i) Transient) in
    ap (λ (lists : ListOf ℕ). sum (map kept lists)) (heard_is z h.legal times)
    ∙ ap sum (map_alike kept own (heard z times) (each_heard z h.legal (λ i. kept i ≡ own i) (λ i is. is.bytes) times))

-- ---- the messages

-- where each of the columns is read as these events, so are all of them one behind another
along : (names : ℕ) (image : ListOf ℕ) (o : Opening) (f : ℕ → ListOf Event) (lists : ListOf ℕ) → Each (λ i. messages_in names image o i ≡ Ok (f i)) lists → messages_along names image o lists ≡ Ok (flat_map f lists)
along names image o f [] all = refl
along names image o f (i ∷ lists) all =
    (λ j. before_others (all.0 j) (messages_along names image o lists)) ∙ ap (and_others (f i)) (along names image o f lists all.1)

module _ (kept : ColumnsAreKept) (back : EventsAreReadBack) (indexed : LegalIsIndexed) (z : History) (image : ListOf ℕ) (h : IsImageOf z image) where
  abbrev pub own : ℕ → ListOf Event
  own i = closed_list z.params (events_of z) i

  abbrev pub heard_of : ListOf ℕ → ListOf Event
  heard_of times = flat_map (λ i. messages_of (own i)) (heard z times)

  index_is : IsIndexed (length (names_of z)) z
  index_is = (indexed z h.legal).0

  -- the column of a list is read as the messages of the history's list
  list_read : (i : ℕ) → IsKept z h.legal i → messages_in (length (names_of z)) image (opened_of z).index i ≡ Ok (messages_of (own i))
  list_read i is =
      let names : ℕ = length (names_of z) in
      let l : ℕ = z.params.l in
      let behind : ListOf Event = drop (i * l) (events_of z) in
      let full = is.full in
      let next : (i + 1) * l ≡ i * l + l = omega (arith, add-mul i 1 l) in
      let long : length (own i) ≡ l = length-take-le l behind (omega (arith, length-drop (i * l) (events_of z), full, next)) in
      let short = index_is.short in
      let fit : EventsFit names 0 (own i) = fit_take names 0 l behind (fit_drop names 0 (i * l) (events_of z) index_is.fits) in
      let e : IsHeld (opened_of z).index (List i) = held_at (opened_of z).index (List i) is.held in
      let bytes : column_at image (entry_at (opened_of z).index (List i)) Transient ≡ events_column Transient (own i) =
      ap (λ (x : Entry). column_at image x Transient) e.is ∙ kept z image h (List i) e.entry e.found Transient in
      ap (λ (b : ListOf ℕ). events_or i (events_in Transient names b)) bytes
      ∙ ap (events_or i) (back Transient names (own i) index_is.names_fit (omega (arith, long, short)) fit)

  all_read : (times : ListOf ℕ) → heard_events (length (names_of z)) image (opened_of z).index times ≡ Ok (heard_of times)
  all_read times =
      let names : ℕ = length (names_of z) in
      let o : Opening = (opened_of z).index in
      ap (messages_along names image o) (heard_is z h.legal times)
      ∙ along names image o (λ i. messages_of (own i)) (heard z times) (each_heard z h.legal (λ i. messages_in names image o i ≡ Ok (messages_of (own i))) list_read times)

  -- ---- of one of the instants

  module _ (times : ListOf ℕ) (k d : ℕ) (lt : k < length times) where
    abbrev pub t : ℕ
    t = slice_index_or times k d

    -- a list that is not heard has no message of it
    unheard : (i : ℕ) → may_tell z h.legal times i ≡ false → told_at (own i) t ≡ []
    unheard i none = by (lies_in_list z.params (events_of z) i t) refl
      where
        by : (b : Bool) → lies_in_list z.params (events_of z) i t ≡ b → told_at (own i) t ≡ []
        by true is = absurd (false≢true (sym none ∙ list_any_at (lies_in_list z.params (events_of z) i) times k d lt is))
        by false is = told_outside _ t (own i) (list_rises z.params (events_of z) i (events_rise z h.legal)) is

    lists_told : told_at (heard_of times) t ≡ told_at (flat_map own (numbers 0 (leaves z.params (length (events_of z))))) t
    lists_told =
        told_along (may_tell z h.legal times) (λ i. messages_of (own i)) own t (numbers 0 (leaves z.params (length (events_of z))))
        (each_list z h.legal (λ i. told_at (messages_of (own i)) t ≡ told_at (own i) t) (λ i is. told_messages_of (own i) t))
        (each_list z h.legal (λ i. may_tell z h.legal times i ≡ false → told_at (own i) t ≡ []) (λ i is. unheard i))

    all_told : told_at (heard_of times ++ recent_of z.params (events_of z)) t ≡ told_at (events_of z) t
    all_told =
        let events : ListOf Event = events_of z in
        let n : ℕ = leaves z.params (length events) in
        let lists : ListOf Event = flat_map own (numbers 0 n) in
        let recent : recent_of z.params events ≡ drop ((0 + n) * z.params.l) events = ap (λ c. drop (c * z.params.l) events) (let e : n ≡ 0 + n = omega arith in e) in
        let all : drop (0 * z.params.l) events ≡ events = ap (λ c. drop c events) (let e : 0 * z.params.l ≡ 0 = omega arith in e) in
        told_append_alike (heard_of times) (recent_of z.params events) lists (recent_of z.params events) t lists_told refl
        ∙ ap (λ (l : ListOf Event). told_at l t) (ap (λ (l : ListOf Event). lists ++ l) recent ∙ lists_whole z.params events 0 n ∙ all)

pub histories_are_heard : ColumnsAreKept → EventsAreReadBack → LegalIsIndexed → HistoriesAreHeard
histories_are_heard kept back indexed z image h times = record {
  events = heard_of kept back indexed z image h times;
  heard = all_read kept back indexed z image h times;
  told = all_told kept back indexed z image h times;
}
