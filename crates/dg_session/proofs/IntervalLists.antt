-- The lists that an interval reads over an image of a history, and what it finds there.
use Rattle.std.proofs.Common.{◌≡◌, inl, inr, ℕ, ◌+◌, Bool, true, false, List as ListOf, [], ◌∷◌, ◌++◌, filter, length, map, Ok, Err, refl, sym, ◌∙◌, ap, arith}
use Rattle.std.specs.Prelude.{◌&&◌, Result, if◌then◌else◌, nat_lt, sum}
use Rattle.std.specs.List.{sum_by}
use Rattle.std.proofs.lemmas.List.Sums.{sum-map}
use Rattle.dg_added.specs.Additions.{added_between}
use Rattle.dg_graph.specs.declared.element.Column.{Column}
use Rattle.dg_graph.specs.declared.element.Columns.{Columns}
use Rattle.dg_graph.specs.declared.element.Element.{Element}
use Rattle.dg_graph.specs.declared.event.Event.{Event}
use Rattle.dg_graph.specs.Elements.{shown}
use Rattle.dg_heard.proofs.KeptLists.{IsKept, each_filter, each_list, filter_alike, map_alike}
use Rattle.dg_history.specs.declared.node.Key.TheVariants.{List}
use Rattle.dg_history.specs.History.{History, events_of, names_of}
use Rattle.dg_history.specs.LegalHistory.{IsLegal}
use Rattle.dg_index.proofs.HeldRecords.{IsHeld, held_at, known}
use Rattle.dg_index.proofs.OpenedIndexRecords.{told_at}
use Rattle.dg_index.specs.declared.entry.Entry.{Entry}
use Rattle.dg_index.specs.declared.per_column.PerColumn.{PerColumn}
use Rattle.dg_index.specs.Hierarchy.{leaves, numbers}
use Rattle.dg_index.specs.ImageOfHistory.{IsImageOf}
use Rattle.dg_index.specs.IndexRecords.{recent_of}
use Rattle.dg_index.specs.OpenedIndex.{Opening, entry_at, opened_of}
use Rattle.dg_machine.specs.Selections.{added_length, list_length, lists_between, meets}
use Rattle.dg_range.proofs.AddedWeights.{lists_weigh}
use Rattle.dg_range.specs.Added.{IsAddedIn, lists_met, range_columns}
use Rattle.dg_range.specs.AddedLaw.{HasAddedOf, ImagesHaveAdded}
use Rattle.dg_range.specs.ColumnRuns.{IsFirstDamage, bytes_along}
use Rattle.dg_range.specs.Ranges.{meets as meets_ends}
use Rattle.dg_range.specs.Weights.{asked_bytes, bytes_if, list_bytes}
use Rattle.dg_records.specs.declared.fault.RecordFault.{RecordFault}
use Rattle.dg_records.specs.declared.fault.RecordFault.TheVariants as fault
use Rattle.dg_retrieval.specs.Retrieval.{IsNoDamage}

-- ---- the lists

none_kept : (xs : ListOf ℕ) → filter (λ i. false) xs ≡ []
none_kept [] = refl
none_kept (x ∷ xs) = none_kept xs

module _ (z : History) (legal : IsLegal z) (from until : ℕ) (cols : Columns) where
  abbrev o_of : Opening
  o_of = (opened_of z).index

  abbrev all : ListOf ℕ
  all = numbers 0 (leaves z.params (length (events_of z)))

  -- the list may have such events, by its times
  abbrev keeps : ℕ → Bool
  keeps i = nat_lt from until && meets z.params (events_of z) from until i

  kept_is : lists_met o_of from until ≡ filter keeps all
  kept_is =
      (λ j. filter (λ (i : ℕ). meets_ends from until (entry_at o_of (List i)).ends) (numbers 0 (leaves ((known z).params j) ((known z).count j))))
      ∙ filter_alike (λ (i : ℕ). meets_ends from until (entry_at o_of (List i)).ends) keeps all
      (each_list z legal (λ i. meets_ends from until (entry_at o_of (List i)).ends ≡ keeps i) (λ i kept. ap (meets_ends from until) kept.ends))

  between_is : filter keeps all ≡ lists_between z from until
  between_is = by (nat_lt from until)
    where
      by : (b : Bool) → filter (λ i. b && meets z.params (events_of z) from until i) all ≡ (if b then filter (meets z.params (events_of z) from until) all else [])
      by true = refl
      by false = none_kept all

  -- ---- their bytes

  asked_are : (e : Entry) (a b c d : ℕ) → e.lengths ≡ record { structure = a; node_attrs = b; edge_attrs = c; transient = d }
      → asked_bytes cols e ≡ a + ((if cols.nodes_attr then b else 0) + (if cols.edges_attr then c else 0)) + (if cols.transient then d else 0)
  asked_are e a b c d is =
      ap (λ (l : PerColumn ℕ). l.structure + ((if cols.nodes_attr then l.node_attrs else 0) + ((if cols.edges_attr then l.edge_attrs else 0) + (if cols.transient then l.transient else 0)))) is
      ∙ (let sum_is : a + ((if cols.nodes_attr then b else 0) + ((if cols.edges_attr then c else 0) + (if cols.transient then d else 0)))
      ≡ a + ((if cols.nodes_attr then b else 0) + (if cols.edges_attr then c else 0)) + (if cols.transient then d else 0) = omega arith in sum_is)

  one_list : (i : ℕ) → IsKept z legal i → list_bytes o_of cols i ≡ list_length z cols i
  one_list i kept =
      let e : IsHeld o_of (List i) = held_at o_of (List i) kept.held in
      ap (bytes_if cols) e.found ∙ asked_are e.entry _ _ _ _ (told_at z legal (List i) e.entry e.found).0

  -- the weight of an interval is the machine's
  pub interval_weighs : bytes_along o_of (range_columns o_of from until cols) ≡ added_length z from until cols
  interval_weighs =
      sym (lists_weigh o_of cols (lists_met o_of from until))
      ∙ ap (sum_by (list_bytes o_of cols)) kept_is
      ∙ sym (sum-map (list_bytes o_of cols) (filter keeps all))
      ∙ ap sum (map_alike (list_bytes o_of cols) (list_length z cols) (filter keeps all)
      (each_filter (λ i. list_bytes o_of cols i ≡ list_length z cols i) keeps all (each_list z legal (λ i. list_bytes o_of cols i ≡ list_length z cols i) one_list)))
      ∙ ap (λ lists. sum (map (list_length z cols) lists)) between_is

-- ---- what is found there

module _ (law : ImagesHaveAdded) (z : History) (image : ListOf ℕ) (h : IsImageOf z image) (from until : ℕ) (cols : Columns) where
  same_events : (xs ys : ListOf Event) (r : Result (ListOf Event) (ℕ × Column)) → r ≡ Ok xs → r ≡ Ok ys → xs ≡ ys
  same_events xs ys r a b = let e : Ok xs ≡ Ok ys = sym a ∙ b in cc

  -- what all events add
  pub added_is : (set : ListOf Element) → IsAddedIn (length (names_of z)) image (opened_of z).index (recent_of z.params (events_of z)) from until cols set → set ≡ shown (added_between from until (events_of z)) cols
  added_is set read =
      let a : HasAddedOf z image from until cols = law z image h from until cols in
      read.2
      ∙ ap (λ (es : ListOf Event). shown (added_between from until (es ++ recent_of z.params (events_of z))) cols) (same_events read.0 a.events _ read.1 a.read)
      ∙ a.added

  -- and no damage
  pub none_damaged : (f : RecordFault) → IsFirstDamage (length (names_of z)) image (opened_of z).index (range_columns (opened_of z).index from until cols) f → IsNoDamage f
  none_damaged fault.Disk first = inl refl
  none_damaged fault.Memory first = inr refl
  none_damaged (fault.Damaged key col) first =
      let a : HasAddedOf z image from until cols = law z image h from until cols in
      absurd (let e : Ok a.events ≡ Err first.0 = sym a.read ∙ first.1 in cc)
