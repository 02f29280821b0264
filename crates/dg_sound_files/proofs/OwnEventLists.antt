-- The lists of an image of a history are read as its events, as far as they stand in lists.
use Rattle.std.proofs.Common.{◌≡◌, ℕ, zero, suc, ◌+◌, ◌*◌, ◌<◌, ◌≤◌, true, List, [], Option, Ok, length, nat_le, take, drop, is_some, sym, ◌∙◌, ap, subst, arith, add-mul, length-drop, length-take-le, take-add, le-div_iff_mul-le, div-mul-le_self}
use Rattle.std.specs.Map.{lookup}
use Rattle.std.proofs.lemmas.Bool.{leb-true, lt-ltb, and_parts}
use Rattle.std.proofs.lemmas.List.{take-append-drop}
use Rattle.dg_columns.specs.ColumnLaws.{EventsAreReadBack, EventsAreMergedBack}
use Rattle.dg_columns.specs.Ranges.{EventsFit}
use Rattle.dg_graph.specs.declared.element.Column.{Column}
use Rattle.dg_graph.specs.declared.event.Event.{Event}
use Rattle.dg_text.specs.declared.limits.TheConstants.{NAMES_MAX}
use Rattle.dg_graph.specs.Columns.{events_column}
use Rattle.dg_graph.specs.Replay.{replay}
use Rattle.dg_history.specs.declared.node.Key.TheVariants as key
use Rattle.dg_history.specs.declared.params.Params.{Params}
use Rattle.dg_history.specs.declared.params.TheConstants.{LEAF_MIN, LEAF_MAX}
use Rattle.dg_history.specs.Keys.{same_key}
use Rattle.dg_history.specs.History.{History, events_of, names_of, last_time_from}
use Rattle.dg_index.specs.declared.entry.Ends.{Ends}
use Rattle.dg_index.specs.declared.entry.Entry.{Entry}
use Rattle.dg_index.specs.FileLaws.{ColumnsAreKept}
use Rattle.dg_index.specs.Hierarchy.{leaves, numbers}
use Rattle.dg_index.specs.ImageOfHistory.{IsImageOf}
use Rattle.dg_index.specs.IndexRecords.{closed_list}
use Rattle.dg_index.specs.OpenedIndex.{Opened, column_at, entry_at, opened_of}
use Rattle.dg_index.proofs.OpenedIndexRecords.{record_held, told_at}
use Rattle.dg_index.proofs.OpenedIndexHistories.{large_parameters}
use Rattle.dg_sound.specs.OwnEvents.{and_own, are_completions, have_ends, list_total, listed_events, events_may_follow, with_list, with_lists}
use Rattle.dg_columns.proofs.EventRanges.{fit_drop, fit_take}
use Rattle.dg_sound_files.proofs.OwnEventCompletions.{all_complete, completions_behind, completions_front, events_fit}
use Rattle.dg_index.proofs.HeldRecords.{IsHeld, held_at}
use Rattle.dg_sound_files.proofs.OpenedIndexRecords.{columns_there, count_is, names_are, params_are}
use Rattle.dg_sound_files.proofs.OwnEventRecords.{ends_of, record_read, record_right}

-- ---- some events of the history

module _ (z : History) (image : List ℕ) (h : IsImageOf z image) where
  pub some_events : 0 < z.params.l
  some_events = omega (arith, (large_parameters z.params.l z.params.k h.legal.parameters).0)

  pub few_events : z.params.l ≤ 65536
  few_events =
      let least = and_parts (nat_le LEAF_MIN z.params.l) _ h.legal.parameters in
      let most = and_parts (nat_le z.params.l LEAF_MAX) _ least.1 in
      leb-true z.params.l LEAF_MAX most.0

  pub few_names : length (opened_of z).names ≤ NAMES_MAX
  few_names = omega (arith, ap length (names_are z), h.legal.few_names)

  -- they can be spelled
  pub some_fit : (n k : ℕ) → EventsFit (length (opened_of z).names) 0 (take k (drop n (events_of z)))
  some_fit n k =
      subst (λ (names : List (List ℕ)). EventsFit (length names) 0 (take k (drop n (events_of z)))) (sym (names_are z))
      (fit_take (length (names_of z)) 0 k (drop n (events_of z)) (fit_drop (length (names_of z)) 0 n (events_of z) (events_fit z h.legal)))

  -- and may follow those before them
  pub some_follow : (n k : ℕ) → events_may_follow (opened_of z).names (take n (events_of z)) (take k (drop n (events_of z))) ≡ true
  some_follow n k =
      let names : List (List ℕ) = names_of z in
      let all : List Event = events_of z in
      let front : List Event = take n all in
      let later : List Event = drop n all in
      let whole = subst (λ (es : List Event). are_completions names [] 0 es ≡ true) (sym (take-append-drop n all)) (all_complete z h.legal) in
      let behind = completions_behind names [] 0 front later whole in
      let parted = subst (λ (es : List Event). are_completions names (replay front) (last_time_from 0 front) es ≡ true) (sym (take-append-drop k later)) behind in
      subst (λ (ns : List (List ℕ)). events_may_follow ns front (take k later) ≡ true) (sym (names_are z))
      (completions_front names (replay front) (last_time_from 0 front) (take k later) (drop k later) parted)

-- ---- the lists

module _ (kept : ColumnsAreKept) (back : EventsAreReadBack) (merge : EventsAreMergedBack) (z : History) (image : List ℕ) (h : IsImageOf z image) where
  list_held : (i : ℕ) → (i + 1) * z.params.l ≤ length (events_of z) → is_some (lookup (same_key (key.List i)) (opened_of z).index.records) ≡ true
  list_held i le =
      let most : i + 1 ≤ leaves z.params (length (events_of z)) = (le-div_iff_mul-le (some_events z image h)).1 le in
      record_held z h.legal (key.List i) (lt-ltb i (leaves z.params (length (events_of z))) (omega (arith, most)))

  list_ends : (i : ℕ) → (i + 1) * z.params.l ≤ length (events_of z) → have_ends (entry_at (opened_of z).index (key.List i)).ends (closed_list z.params (events_of z) i) ≡ true
  list_ends i le =
      let own : List Event = closed_list z.params (events_of z) i in
      let e : IsHeld (opened_of z).index (key.List i) = held_at (opened_of z).index (key.List i) (list_held i le) in
      ap (λ (x : Entry). have_ends x.ends own) e.is ∙ ap (λ (o : Option Ends). have_ends o own) (told_at z h.legal (key.List i) e.entry e.found).1 ∙ ends_of own

  list_read : (i : ℕ) → (i + 1) * z.params.l ≤ length (events_of z) → with_list image (opened_of z) (take (i * z.params.l) (events_of z)) i ≡ Ok (take ((i + 1) * z.params.l) (events_of z))
  list_read i le =
      let l : ℕ = z.params.l in
      let all : List Event = events_of z in
      let x : Opened = opened_of z in
      let own : List Event = closed_list z.params all i in
      let sum : (i + 1) * l ≡ i * l + l = omega (arith, add-mul i 1 l) in
      let long : length own ≡ l = length-take-le l (drop (i * l) all) (omega (arith, length-drop (i * l) all, le, sum)) in
      let count : x.index.params.l ≡ length own = ap (λ (p : Params). p.l) (params_are z) ∙ sym long in
      let columns : (col : Column) → column_at image (entry_at x.index (key.List i)) col ≡ events_column col own = columns_there kept z image h (key.List i) (list_held i le) in
      let read = record_read back merge image x (few_names z image h) (key.List i) x.index.params.l own columns count (omega (arith, long, few_events z image h)) (some_fit z image h (i * l) l) in
      record_right x.names (key.List i) (have_ends (entry_at x.index (key.List i)).ends) (take (i * l) all) own _ read (list_ends i le) (some_follow z image h (i * l) l)
      ∙ ap (λ (es : List Event). Ok es) (sym (take-add (i * l) l all) ∙ ap (λ n. take n all) (sym sum))

  lists_read : (i n : ℕ) → (i + n) * z.params.l ≤ length (events_of z)
      → with_lists image (opened_of z) (take (i * z.params.l) (events_of z)) (numbers i n) ≡ Ok (take ((i + n) * z.params.l) (events_of z))
  lists_read i zero le = ap (λ c. Ok (take (c * z.params.l) (events_of z))) (let e : i ≡ i + 0 = omega arith in e)
  lists_read i (suc n) le =
      let l : ℕ = z.params.l in
      let on : i + 1 + n ≡ i + suc n = omega arith in
      let sum : (i + suc n) * l ≡ (i + 1) * l + n * l = ap (λ c. c * l) (sym on) ∙ add-mul (i + 1) n l in
      ap (λ r. and_own r (λ events. with_lists image (opened_of z) events (numbers (i + 1) n))) (list_read i (omega (arith, le, sum)))
      ∙ lists_read (i + 1) n (subst (λ c. c * l ≤ length (events_of z)) (sym on) le)
      ∙ ap (λ c. Ok (take (c * l) (events_of z))) on

  pub all_listed : listed_events image (opened_of z) ≡ Ok (take (leaves z.params (length (events_of z)) * z.params.l) (events_of z))
  all_listed =
      let l : ℕ = z.params.l in
      let m : ℕ = leaves z.params (length (events_of z)) in
      let total : list_total (opened_of z).index ≡ m = λ i. leaves (params_are z i) (count_is z i) in
      ap (λ c. with_lists image (opened_of z) [] (numbers 0 c)) total
      ∙ ap (λ c. with_lists image (opened_of z) (take c (events_of z)) (numbers 0 m)) (let e : 0 ≡ 0 * l = omega arith in e)
      ∙ lists_read 0 m (subst (λ c. c * l ≤ length (events_of z)) (let e : m ≡ 0 + m = omega arith in e) (div-mul-le_self (length (events_of z)) l))
      ∙ ap (λ c. Ok (take (c * l) (events_of z))) (let e : 0 + m ≡ m = omega arith in e)
