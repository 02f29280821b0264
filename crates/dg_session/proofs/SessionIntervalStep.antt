-- The answer to an interval.
use Rattle.std.proofs.Common.{◌≡◌, ℕ, ◌+◌, ◌≤◌, true, false, not, List, [], ◌∷◌, Option, Some, None, Result, Ok, Err, length, refl, sym, ◌∙◌, ap, subst, arith}
use Rattle.std.specs.Prelude.{IfOk, IfSome, is_some}
use Rattle.std.proofs.lemmas.List.Elements.{All-cons, All-nil}
use Rattle.dg_added.specs.Additions.{added_between}
use Rattle.dg_ask.specs.HeldIndex.{span_held}
use Rattle.dg_fold.specs.BytesRead.{Takes, TakesAtMost}
use Rattle.dg_graph.specs.declared.element.Columns.{Columns}
use Rattle.dg_graph.specs.declared.element.Element.{Element}
use Rattle.dg_graph.specs.declared.event.Event.{Event}
use Rattle.dg_graph.specs.Elements.{shown}
use Rattle.dg_handles.specs.Handles.{with_messages}
use Rattle.dg_history.specs.History.{History, events_of, span_of}
use Rattle.dg_index.specs.IndexRecords.{recent_of}
use Rattle.dg_index.specs.OpenedIndex.{Opening, opened_of}
use Rattle.dg_machine.specs.declared.command.Command.{Command}
use Rattle.dg_machine.specs.declared.command.Command.TheVariants as command
use Rattle.dg_machine.specs.declared.limits.TheConstants.{HANDLE_MAX, LIVE_HANDLES_MAX}
use Rattle.dg_machine.specs.declared.reply.Head.TheVariants as head
use Rattle.dg_machine.specs.declared.reply.Reply.{Reply}
use Rattle.dg_machine.specs.declared.selection.Selection.TheVariants.{Added}
use Rattle.dg_machine.specs.declared.stands.Stands.{Stands}
use Rattle.dg_machine.specs.declared.stands.Shown.TheVariants.{Selected}
use Rattle.dg_machine.specs.Answer.{accepted, headed, is_refusal, weight_told, with_handle}
use Rattle.dg_machine.specs.MachineState.{MachineState, elements, history_in}
use Rattle.dg_machine.specs.Needs.{is_out_of_range}
use Rattle.dg_machine.specs.Planning.{IsPlanned, Planned, no_plan}
use Rattle.dg_machine.specs.Selections.{added_length, selected}
use Rattle.dg_range.specs.Added.{IsAddedIn, asked_columns, lists_met, range_columns}
use Rattle.dg_range.specs.AddedLaw.{ImagesHaveAdded}
use Rattle.dg_range.specs.ColumnRuns.{IsFirstDamage, TakesColumns, TellsColumnDamage, bytes_along}
use Rattle.dg_records.specs.declared.fault.RecordFault.{RecordFault}
use Rattle.dg_retrieval.specs.NamesThere.{EventNamesAreThere, NamesAreThere}
use Rattle.dg_retrieval.specs.Retrieval.{IsNoDamage}
use Rattle.dg_session.proofs.ChosenGraphs.{if_ok}
use Rattle.dg_session.proofs.GraphSets.{shown_again}
use Rattle.dg_session.proofs.IntervalLists.{added_is, interval_weighs, none_damaged}
use Rattle.dg_session.proofs.PartStates.{IsOf, events_there, instants_are, is_of, one_image, one_told}
use Rattle.dg_session.proofs.ReplyNames.{head_names}
use Rattle.dg_session.proofs.SessionRetrievals.{IsSession, handles_taken, if_some, moved_with, reads_failed, retrieval_accepted, z_of}
use Rattle.dg_session.specs.BatchReads.{is_early}
use Rattle.dg_session.specs.Decided.{Fits}
use Rattle.dg_session.specs.Parts.{Parts}
use Rattle.dg_session.specs.Reads.{AddsFor, Reads, with_new_handles}
use Rattle.dg_session.proofs.Needed.{has_needed}
use Rattle.dg_session.specs.Session.{Accepts, StandsFor, interval_needs, is_reached, refused_by}
use Rattle.dg_text.specs.Lines.{ScriptLine}

-- ---- what is not refused

-- what an interval that is not refused finds: an index, two instants that it may lie between, and room for the handle
pub interval_free : (p : Parts) (from until : ℕ) → refused_by p 0 (interval_needs from until) ≡ None
    → (is_some p.index ≡ true) × (is_out_of_range (span_held p.index) (from ∷ []) (Some until) ≡ false) × (length p.table + 1 ≤ LIVE_HANDLES_MAX) × (p.next + 1 ≤ HANDLE_MAX + 1)
interval_free p from until none =
    let has = has_needed p 0 (interval_needs from until) none in
    (has.index refl, has.instants, has.room (omega arith), has.numbers (omega arith))

-- ---- the answer

module _ (p : Parts) (from until : ℕ) (cols : Columns) (free : refused_by p 0 (interval_needs from until) ≡ None) where
  interval_reached : (image : List ℕ) (m : MachineState) → StandsFor p image m → is_reached (history_in m.index) (record { what = Selected (Added from until); cols = cols }) ≡ true
  interval_reached image m s =
      ap (λ (ends : Option (ℕ × ℕ)). not (is_out_of_range ends (from ∷ []) (Some until))) (ap span_of (events_there m.index) ∙ sym (instants_are p image m s))
      ∙ ap not (interval_free p from until free).1

  pub interval_answers : (q : Parts) (before after : Option (List ℕ)) (weight : ℕ) (set : List Element) (reply : Reply) → after ≡ before
      → ((image : List ℕ) (m : MachineState) → StandsFor p image m → weight ≡ added_length (history_in m.index) from until cols)
      → IfSome before (λ image. (m : MachineState) → StandsFor p image m → set ≡ selected (events_of (history_in m.index)) cols (Added from until))
      → q ≡ with_new_handles p (record { what = Selected (Added from until); cols = cols } ∷ []) (shown set (with_messages cols) ∷ []) → reply ≡ headed (head.Added p.next weight)
      → Accepts (command.Select (Added from until) cols) [] p before q after reply
  interval_answers q before after weight set reply same weighs got is reply_is =
      let c : Command = command.Select (Added from until) cols in
      let new : Stands = record { what = Selected (Added from until); cols = cols } in
      retrieval_accepted c p q before after (new ∷ []) (shown set (with_messages cols) ∷ []) reply
      (moved_with c p q before after reply free
      (λ m x y a b s.
      let z : History = history_in m.index in
      let set_is : set ≡ selected (events_of z) cols (Added from until) = one_told before (λ image. (k : MachineState) → StandsFor p image k → set ≡ selected (events_of (history_in k.index)) cols (Added from until)) x got a m s in
      let listed : shown set (with_messages cols) ≡ elements z new =
      ap (λ (l : List Element). shown l (with_messages cols)) set_is ∙ shown_again cols (added_between from until (events_of z)) in
      let room = interval_free p from until free in
      let reaches : Stands → Type 0 = λ (k : Stands). is_reached z k ≡ true in (
        no_plan,
        with_handle m new,
        refl,
        (λ i. record {
          reply = (ap (λ n. headed (head.Added n (added_length z from until cols))) (sym s.next) ∙ ap (λ w. headed (head.Added p.next w)) (sym (weighs x m s)) ∙ sym reply_is) i;
          state = with_handle m new;
        }),
        handles_taken p q y m (new ∷ []) (subst (λ image. StandsFor p image m) (one_image before after x y same a b) s) room.0
            (All-cons reaches new [] (interval_reached x m s) (All-nil reaches))
            (is ∙ ap (λ g. with_new_handles p (new ∷ []) (g ∷ [])) listed),
      )))
      (ap is_refusal reply_is) free (subst (Fits c) (sym reply_is) tt) same is (head_names (length q.names) (head.Added p.next weight) reply reply_is)

  -- where it fails, the bytes read are at most what its reply would tell
  pub interval_fails : (image : Option (List ℕ)) (reply : Reply) (before after : ℕ) → is_refusal reply ≡ true → is_early reply ≡ false
      → IfSome image (λ bytes. (m : MachineState) → StandsFor p bytes m → TakesAtMost (added_length (history_in m.index) from until cols) before after)
      → Reads (command.Select (Added from until) cols) p image reply before after
  interval_fails image reply before after refuses late most =
      let c : Command = command.Select (Added from until) cols in
      reads_failed c p image reply before after refl refuses late (λ m got reads. reads) (λ got. free)
      (if_some image (λ bytes. (m : MachineState) → StandsFor p bytes m → TakesAtMost (added_length (history_in m.index) from until cols) before after)
      (λ bytes. (m : MachineState) → StandsFor p bytes m → (got : List ScriptLine) (plan : Planned) → IsPlanned m c plan → TakesAtMost (weight_told (accepted m c got plan).reply) before after)
      (λ x f m s got plan planned. f m s) most)

-- ---- what the lists of the index weigh, and what is read of them

module _ (p : Parts) (o : Opening) (from until : ℕ) (cols : Columns) (there : p.index ≡ Some o) where
  length_is : (image : List ℕ) (m : MachineState) → StandsFor p image m → bytes_along o (range_columns o from until cols) ≡ added_length (history_in m.index) from until cols
  length_is image m s =
      let z : History = z_of p o image m there s in
      let is : IsOf p o image m z = (is_of p o image m there s).1 in
      ap (λ (x : Opening). bytes_along x (range_columns x from until cols)) is.opened
      ∙ interval_weighs z is.stands.legal from until cols
      ∙ sym (ap (λ (i : Option History). added_length (history_in i) from until cols) is.index)

  -- the bytes of the columns of these lists are the weight of the machine's, where they are those that are met
  pub bytes_of_interval : (lists : List ℕ) (weight : ℕ) → lists_met o from until ≡ lists → weight ≡ bytes_along o (asked_columns cols lists)
      → (image : List ℕ) (m : MachineState) → StandsFor p image m → weight ≡ added_length (history_in m.index) from until cols
  bytes_of_interval lists weight met along image m s = along ∙ ap (λ l. bytes_along o (asked_columns cols l)) (sym met) ∙ length_is image m s

  module _ (law : ImagesHaveAdded) (names : ℕ) (recent : List Event) (is : IsSession p o names recent) (before after : ℕ) where
    found : (image : List ℕ) (m : MachineState) → StandsFor p image m → (set : List Element) → IsAddedIn names image o recent from until cols set → set ≡ selected (events_of (history_in m.index)) cols (Added from until)
    found image m s set read =
        let z : History = z_of p o image m there s in
        let of : IsOf p o image m z = (is_of p o image m there s).1 in
        added_is law z image of.stands from until cols set
        (subst (λ n. IsAddedIn n image (opened_of z).index (recent_of z.params (events_of z)) from until cols set) (is.count ∙ ap length of.names)
        (subst (λ (x : Opening). IsAddedIn names image x (recent_of z.params (events_of z)) from until cols set) of.opened
        (subst (λ es. IsAddedIn names image o es from until cols set) (is.all ∙ of.recent) read)))
        ∙ sym (ap (λ (i : Option History). selected (events_of (history_in i)) cols (Added from until)) of.index)

    never : (image : List ℕ) (m : MachineState) → StandsFor p image m → (f : RecordFault) → IsFirstDamage names image o (range_columns o from until cols) f → IsNoDamage f
    never image m s f first =
        let z : History = z_of p o image m there s in
        let of : IsOf p o image m z = (is_of p o image m there s).1 in
        none_damaged law z image of.stands from until cols f
        (subst (λ n. IsFirstDamage n image (opened_of z).index (range_columns (opened_of z).index from until cols) f) (is.count ∙ ap length of.names)
        (subst (λ (x : Opening). IsFirstDamage names image x (range_columns x from until cols) f) of.opened first))

    -- what is read over the index is what the machine selects
    pub adds_for : (told : Option (List ℕ)) (r : Result (List Element) RecordFault) → IfOk r (λ set. IfSome told (λ image. IsAddedIn names image o recent from until cols set))
        → IfSome told (λ image. TakesColumns o (range_columns o from until cols) before after r)
        → IfSome told (λ image. TellsColumnDamage names o (range_columns o from until cols) image r)
        → IfSome told (λ image. (m : MachineState) → StandsFor p image m → AddsFor m from until cols before after r)
    adds_for None r added takes damage = tt
    adds_for (Some image) (Ok set) added takes damage = λ m s. record {
      added = found image m s set added;
      takes = subst (λ n. Takes n before after) (length_is image m s) takes.takes;
      most = subst (λ n. TakesAtMost n before after) (length_is image m s) takes.most;
      never = tt;
    }
    adds_for (Some image) (Err f) added takes damage = λ m s. record {
      added = tt;
      takes = tt;
      most = subst (λ n. TakesAtMost n before after) (length_is image m s) takes.most;
      never = never image m s f damage;
    }

-- its names are among those of the session
pub added_named : (p : Parts) (names : ℕ) (recent : List Event) (r : Result (List Element) RecordFault) → IfOk r (λ set. EventNamesAreThere names recent → NamesAreThere names set)
    → EventNamesAreThere names recent → names ≡ length p.names → IfOk r (NamesAreThere (length p.names))
added_named p names recent r named there count =
    if_ok r (λ set. EventNamesAreThere names recent → NamesAreThere names set) (NamesAreThere (length p.names)) (λ set f. subst (λ n. NamesAreThere n set) count (f there)) named

-- ---- by what is read, where the image is told

module _ (p : Parts) (from until : ℕ) (cols : Columns) (told : Option (List ℕ)) (before after : ℕ) where
  abbrev pub ForInterval : Result (List Element) RecordFault → Type 0
  ForInterval r = IfSome told (λ image. (m : MachineState) → StandsFor p image m → AddsFor m from until cols before after r)

  pub interval_set_of : (set : List Element) → ForInterval (Ok set) → IfSome told (λ image. (m : MachineState) → StandsFor p image m → set ≡ selected (events_of (history_in m.index)) cols (Added from until))
  interval_set_of set over = if_some told (λ image. (m : MachineState) → StandsFor p image m → AddsFor m from until cols before after (Ok set)) _ (λ image f m s. (f m s).added) over

  pub interval_taken_of : (set : List Element) (weight : ℕ) → ((image : List ℕ) (m : MachineState) → StandsFor p image m → weight ≡ added_length (history_in m.index) from until cols)
      → ForInterval (Ok set) → IfSome told (λ image. (m : MachineState) → StandsFor p image m → Takes weight before after)
  interval_taken_of set weight weighs over =
      if_some told (λ image. (m : MachineState) → StandsFor p image m → AddsFor m from until cols before after (Ok set)) _
      (λ image f m s. subst (λ n. Takes n before after) (sym (weighs image m s)) (f m s).takes) over

  pub interval_most_of : (r : Result (List Element) RecordFault) → ForInterval r
      → IfSome told (λ image. (m : MachineState) → StandsFor p image m → TakesAtMost (added_length (history_in m.index) from until cols) before after)
  interval_most_of r over = if_some told (λ image. (m : MachineState) → StandsFor p image m → AddsFor m from until cols before after r) _ (λ image f m s. (f m s).most) over

  pub interval_never_of : (f : RecordFault) → ForInterval (Err f) → IfSome told (λ image. (m : MachineState) → StandsFor p image m → IsNoDamage f)
  interval_never_of f over = if_some told (λ image. (m : MachineState) → StandsFor p image m → AddsFor m from until cols before after (Err f)) _ (λ image h m s. (h m s).never) over
