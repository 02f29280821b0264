-- The parts of which the segment of a batch is made.
use Rattle.std.proofs.Common.{◌≡◌, ℕ, ◌+◌, ◌-◌, ◌*◌, ◌≤◌, Bool, true, false, List, [], ◌∷◌, ◌++◌, length, map, refl, sym, ap, subst, ◌∙◌, drop, mul_comm}
use Rattle.std.proofs.Math.Nat.{mul-sub}
use Rattle.dg_append.proofs.HistoryTimes.{begins_after, last_of_both}
use Rattle.dg_append.specs.AddedBatches.{recent_behind}
use Rattle.dg_append.specs.BatchSegments.{BeginsBehind, IsPast}
use Rattle.dg_append.specs.OlderGroups.{leaves_after, leaves_before}
use Rattle.dg_build.specs.GivenDeltas.{AreGiven, gone_back, taken_back}
use Rattle.dg_build.specs.OlderSteps.{AreOlderSteps, IsTopDue, older_in_time}
use Rattle.dg_build.specs.SpelledRecords.{last_in_rows, written_list, written_segment}
use Rattle.dg_graph.specs.Composition.{Delta}
use Rattle.dg_graph.specs.declared.element.Element.{Element}
use Rattle.dg_graph.specs.declared.event.Event.{Event}
use Rattle.dg_graph.specs.Replay.{replay}
use Rattle.dg_history.specs.declared.params.Params.{Params}
use Rattle.dg_history.specs.EventTimes.{RisesFrom}
use Rattle.dg_history.specs.History.{are_parameters, last_time_from}
use Rattle.dg_history.proofs.ParameterRanges.{InRange, in_range}
use Rattle.dg_index.specs.declared.entry.Row.{Row}
use Rattle.dg_index.specs.FileOfHistory.{Segment, StoredList, stored_in}
use Rattle.dg_index.specs.Hierarchy.{leaves}
use Rattle.dg_index.specs.IndexRecords.{deltas_due, recent_of}
use Rattle.dg_index.specs.OpenedIndex.{AreUnheard, Opening, delta_count, event_total, list_count, list_row, may_be_listed}
use Rattle.dg_index.proofs.UnheardRecords.{unheard_parts}
use Rattle.dg_stored.specs.StoredHistory.{recent_count}

pub less_times : (a b n : ℕ) → (a - b) * n ≡ a * n - b * n
less_times a b n = mul_comm (a - b) n ∙ mul-sub n a b ∙ (λ i. mul_comm n a i - mul_comm n b i)

module _ (o : Opening) (p : Params) (before : ℕ) (params : p ≡ o.params) (counted : before ≡ event_total o.batches) where
  pub as_many_lists : (count : ℕ) → leaves p (before + count) - leaves p before ≡ list_count o count
  as_many_lists count = λ i. leaves (params i) (counted i + count) - leaves (params i) (counted i)

  pub as_many_deltas : (count : ℕ) → length (deltas_due p.k (leaves p before) (leaves p (before + count))) ≡ delta_count o count
  as_many_deltas count = λ i. length (deltas_due (params i).k (leaves (params i) (counted i)) (leaves (params i) (counted i + count)))

  -- none of the events behind the lists is earlier than the last of these
  pub begins_after_lists : (floor : ℕ) (lists : List StoredList) (recent events : List Event)
      → RisesFrom (last_in_rows floor (map list_row lists)) (drop ((leaves p (before + length events) - leaves p before) * p.l) (recent ++ events))
      → BeginsBehind (last_in_rows 0 (map list_row lists)) (recent_behind o.params (event_total o.batches) recent events)
  begins_after_lists floor lists recent events rises =
      let many : (leaves p (before + length events) - leaves p before) * p.l ≡ leaves o.params (event_total o.batches + length events) * o.params.l - leaves o.params (event_total o.batches) * o.params.l =
      less_times (leaves p (before + length events)) (leaves p before) p.l ∙ (λ i. leaves (params i) (counted i + length events) * (params i).l - leaves (params i) (counted i) * (params i).l) in
      subst (λ n. BeginsBehind (last_in_rows 0 (map list_row lists)) (drop n (recent ++ events))) many (begins_after floor lists _ rises)

  pub older_long : (count long : ℕ) → long ≡ length (older_in_time o.params.k (leaves_before o) (leaves_after o count)) → long ≡ length (older_in_time p.k (leaves p before) (leaves p (before + count)))
  older_long count long is = is ∙ (λ i. length (older_in_time (sym params i).k (leaves (sym params i) (sym counted i)) (leaves (sym params i) (sym counted i + count))))

  pub recent_long : (long : ℕ) → long ≡ recent_count o → long ≡ before - leaves p before * p.l
  recent_long long is = is ∙ (λ i. sym counted i - leaves (sym params i) (sym counted i) * (sym params i).l)

  pub range_of : are_parameters o.params.l o.params.k ≡ true → InRange p.l p.k
  range_of parameters = subst (λ (q : Params). InRange q.l q.k) (sym params) (in_range o.params.l o.params.k parameters)

  -- what is due here is due behind the index
  top_here : (count : ℕ) → IsTopDue p.k (leaves p before) (leaves p (before + count)) → IsTopDue o.params.k (leaves_before o) (leaves_after o count)
  top_here count due =
      subst (λ (x : Params × ℕ). IsTopDue x.0.k (leaves x.0 x.1) (leaves x.0 (x.1 + count))) (let e : (p, before) ≡ (o.params, event_total o.batches) = λ i. (params i, counted i) in e) due

  -- the deltas are given behind the index, from its current graph
  pub given_here : (set graph : List Element) (recent events : List Event) (steps deltas : List Delta)
      → (IsTopDue o.params.k (leaves_before o) (leaves_after o (length events)) → set ≡ graph) → AreGiven p before set recent events steps deltas → AreGiven o.params (event_total o.batches) graph recent events steps deltas
  given_here set graph recent events steps deltas taken given =
      subst (λ (x : Params × ℕ). AreGiven x.0 x.1 graph recent events steps deltas) (let e : (p, before) ≡ (o.params, event_total o.batches) = λ i. (params i, counted i) in e)
      (record {
        new = given.new;
        new_leaves = given.new_leaves;
        base = given.base;
        base_is = λ due. given.base_is due ∙ ap (λ (now : List Element). gone_back steps (taken_back now recent)) (taken (top_here (length events) due));
        are = given.are;
      })

  module _ (past recent : List Event) (graph : List Element) (events : List Event) (steps : List Delta) (is : IsPast o past recent graph events steps) where
    pub past_long : length past ≡ before
    past_long = is.long ∙ sym counted

    pub past_recent : recent ≡ recent_of p past
    past_recent = is.recent_is ∙ ap (λ (q : Params). recent_of q past) (sym params)

    pub past_graph : (set : List Element) → (IsTopDue o.params.k (leaves_before o) (leaves_after o (length events)) → set ≡ graph)
        → IsTopDue p.k (leaves p before) (leaves p (before + length events)) → set ≡ replay past
    past_graph set taken due = taken (top_here (length events) due) ∙ is.graph_is

    pub past_steps : AreOlderSteps p past (leaves p (before + length events)) steps
    past_steps =
        subst (λ (x : Params × ℕ). AreOlderSteps x.0 past (leaves x.0 (x.1 + length events)) steps) (let e : (o.params, event_total o.batches) ≡ (p, before) = λ i. (sym params i, sym counted i) in e) is.steps_are

-- the last time of the recent events and those behind them is that of these
pub listed_by : (floor : ℕ) (recent events : List Event) (rows : List Row) → 1 ≤ length events → may_be_listed floor (last_time_from floor (recent ++ events)) rows ≡ true → may_be_listed floor (last_time_from 0 events) rows ≡ true
listed_by floor recent events rows some may = ap (λ t. may_be_listed floor t rows) (sym (last_of_both floor recent events some)) ∙ may

-- ---- messages

lists_written : (lists : List StoredList) → AreUnheard (map (λ (x : StoredList). x.columns) lists) → map (written_list false) lists ≡ lists
lists_written [] none = refl
lists_written (x ∷ lists) none =
    λ i. record { first = x.first; last = x.last; columns = record x.columns { transient = sym none.0 i } } ∷ lists_written lists none.1 i

-- a segment without messages is written as it is
pub written_whole : (messages : Bool) (s : Segment) → (messages ≡ false → AreUnheard (stored_in s)) → written_segment messages s ≡ s
written_whole true s none = refl
written_whole false s none =
    let lists = unheard_parts (map (λ (x : StoredList). x.columns) s.lists) (s.deltas ++ s.piece ∷ []) (none refl) in
    let piece = unheard_parts s.deltas (s.piece ∷ []) lists.1 in
    λ i. record s { lists = lists_written s.lists lists.0 i; piece = record s.piece { transient = sym piece.1.0 i } }
