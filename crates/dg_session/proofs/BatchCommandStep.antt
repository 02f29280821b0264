-- How a session moves once the lines of a batch were read, and nothing refuses it before they are completed.
use Rattle.std.proofs.Common.{◌≡◌, inl, inr, ℕ, ◌+◌, ◌-◌, ◌<◌, ◌≤◌, Bool, true, false, ◌&&◌, ◌||◌, not, List, [], ◌++◌, Option, Some, None, Result, Ok, Err, if◌then◌else◌, length, map, take, drop, get_or, refl, sym, ◌∙◌, ap, subst, nat_le, nat_lt, arith, length-append, drop-drop, mul-le-mul_right}
use Rattle.std.specs.Prelude.{◌*◌, ◌⊎◌, IfSome, is_some}
use Rattle.std.specs.List.{All}
use Rattle.std.proofs.lemmas.Bool.{false≢true, not-false}
use Rattle.std.proofs.lemmas.List.{length-map, take-append-drop}
use Rattle.std.proofs.Math.ListN.{get_or-map}
use borrow.Author.Tests.{le-leb, lt-ltb, le-ltb, ltb-false}
use Rattle.dg_aux.specs.Turns.{AuxState, HasRoomFor, said_over}
use Rattle.dg_append.proofs.Overlays.{same_slots}
use Rattle.dg_append.specs.Overlays.{IsOverlayOf, SameSlots, pool_in, pool_of}
use Rattle.dg_append.specs.AddedBatches.{AddsBatch, BreaksBatch, ComesToSegment, FailsBatch, FailsToRead, FillsFile, IsAsKnown, IsBack, IsOldFormat, IsOverHistory, IsReady, MayAdd, TakesForm, batch_with, recent_behind}
use Rattle.dg_append.specs.Fronts.{ComeTo, IsFront, lines}
use Rattle.dg_append.specs.declared.batch.AddedBatch.{AddedBatch}
use Rattle.dg_append.specs.declared.batch.Batch.{Batch}
use Rattle.dg_append.specs.declared.live.Live.{Live}
use Rattle.dg_append.specs.declared.fault.BatchFault.{BatchFault}
use Rattle.dg_append.specs.declared.fault.BatchFault.TheVariants as fault
use Rattle.dg_append.specs.declared.front.Front.{Front}
use Rattle.dg_append.specs.declared.front.Front.TheVariants.{Whole}
use Rattle.dg_file.specs.Images.{GainsBatch, GainsBatchOrNot}
use Rattle.dg_graph.specs.declared.element.Element.{Element}
use Rattle.dg_graph.specs.declared.event.Change.{Change}
use Rattle.dg_graph.specs.declared.event.Event.{Event}
use Rattle.dg_text.specs.declared.limits.TheConstants.{NAMES_MAX}
use Rattle.dg_history.specs.declared.limits.TheConstants.{BATCH_LINES_MAX, EVENTS_MAX}
use Rattle.dg_history.specs.declared.params.Params.{Params}
use Rattle.dg_graph.specs.CompletedChanges.{completed, on_value}
use Rattle.dg_text.specs.Lines.{ScriptLine}
use Rattle.dg_graph.specs.Replay.{replay, replay_from}
use Rattle.dg_graph.proofs.Completions.{all_come}
use Rattle.dg_graph.proofs.ExactEvents.{replay_append}
use Rattle.dg_history.specs.EventTimes.{RisesFrom}
use Rattle.dg_history.proofs.EventTimes.{rises_come}
use Rattle.dg_changes.specs.Batch.{changes_after, names_after}
use Rattle.dg_changes.specs.ChangeGrammar.{ChangeByText, change_by_text_in}
use Rattle.dg_index.specs.FileOfHistory.{Segment, segment_of, size}
use Rattle.dg_index.specs.Hierarchy.{leaves}
use Rattle.dg_index.specs.IndexGrowth.{index_with, needed_for}
use Rattle.dg_index.specs.IndexRecords.{recent_of}
use Rattle.dg_index.proofs.OpenedIndexGrowth.{measured, opened_more}
use Rattle.dg_index.proofs.OpenedIndexHistories.{large_parameters}
use Rattle.dg_index.proofs.HierarchyStability.{leaves_more, recent_more}
use Rattle.dg_index.proofs.OpenedLegalHistories.{behind}
use Rattle.dg_history.specs.History.{History, Batch as HistoryBatch, earliest_next, events_of, is_wide, last_time_from, names_of, span_of, with_batch}
use Rattle.dg_index.specs.ImageOfHistory.{IsImageOf, StandsAs}
use Rattle.dg_history.specs.declared.form.Form.{Form}
use Rattle.dg_history.specs.LegalHistory.{IsLegal, are_silent}
use Rattle.dg_index.specs.OpenedIndex.{Opened, Opening, earliest_in, event_total, may_be_named}
use Rattle.dg_machine.specs.declared.limits.Limits.{Limits}
use Rattle.dg_machine.specs.declared.stands.Stands.{Stands}
use Rattle.dg_machine.specs.declared.reply.Refusal.{Refusal}
use Rattle.dg_machine.specs.declared.reply.Refusal.TheVariants as refusal
use Rattle.dg_machine.specs.declared.reply.Reply.{Reply}
use Rattle.dg_machine.specs.declared.reply.Reply.TheVariants as replied
use Rattle.dg_machine.specs.Answer.{Answered, answer, headed, is_behind_reads, refuse}
use Rattle.dg_machine.specs.CutImage.{IsCut, As_before, As_after}
use Rattle.dg_machine.specs.MachineState.{MachineState, elements, history_in}
use Rattle.dg_changes.specs.GeneratedChanges.{batch_of_changes, generated}
use Rattle.dg_machine.specs.Needs.{needs, refused}
use Rattle.dg_machine.specs.Planning.{no_plan}
use Rattle.dg_machine.specs.Run.{Step}
use Rattle.dg_machine.specs.Script.{Asked}
use Rattle.dg_session.proofs.BatchCommandForms.{Lines_of, Origin, Seed, accepted_made, adding, adds, asked_fit, asked_from, fits_head, grows, head_over, lacks, reads_records, unplanned, with_made, writes}
use Rattle.dg_batch.proofs.LegalHistoryRanges.{ChangeFits, what_named}
use Rattle.dg_batch.proofs.GeneratedChangeRanges.{generated_length}
use Rattle.dg_ask.proofs.HeldIndexHistory.{count_is}
use Rattle.dg_session.proofs.SessionGraphs.{all_reached_more, graphs_more}
use Rattle.dg_batch.proofs.LegalHistory.{AskedFit, IsNext, batch_next, events_with, fitting_next, grown_next, legal_next, names_grown}
use Rattle.dg_batch.proofs.NamesAfter.{Grows, changes_length, grown_new}
use Rattle.dg_session.proofs.ReplyNames.{head_names}
use Rattle.dg_session.proofs.PartStates.{IsOf, both_told, by_first, is_of, one_told, opening_of, passes, refused_is, stands}
use Rattle.dg_session.proofs.SessionSteps.{Comes, accepted_is, accepted_steps, denied, denied_at, failing_denies, is_accepted, lacking_denies, refused_denies}
use Rattle.dg_batch.specs.HandlesStay.{HandlesStay}
use Rattle.dg_session.specs.BatchCommand.{Bars, barred, command_with}
use Rattle.dg_batch.specs.BatchLines.{IsBarred, IsBatch, NamesGrow, ReadsBatch, first_refusal}
use Rattle.dg_session.specs.declared.batch_command.BatchCommand.{BatchCommand}
use Rattle.dg_session.specs.declared.batch_command.BatchCommand.TheVariants.{Load, Append}
use Rattle.dg_batch.specs.declared.halt.Halt.{Halt}
use Rattle.dg_batch.specs.declared.halt.Halt.TheVariants as halt
use Rattle.dg_batch.specs.declared.stop.Stop.TheVariants as stop
use Rattle.dg_batch.specs.Halt.{batch_halt}
use Rattle.dg_batch.specs.GeneratedBatch.{IsGenerated}
use Rattle.dg_ask.specs.HeldIndex.{events_held, span_held}
use Rattle.dg_handles.specs.Handles.{HandlesState, slot_graphs}
use Rattle.dg_pool.specs.Graphs.{PoolState, slot_graph}
use Rattle.dg_ask.proofs.KeptAdjacencies.{graphs_same}
use Rattle.dg_session.proofs.IndexesSaid.{all_said_more}
use Rattle.dg_session.specs.Parts.{Parts}
use Rattle.dg_session.specs.ValuesSaid.{IndexKept, all_said_with, said_of}
use Rattle.dg_session.specs.Session.{Accepts, ComesTo, CutsOff, Denies, Moves, StandsFor, TakesLines, is_reached, is_too_full, refusals_by, refused_by}
use Rattle.dg_stored.specs.declared.stored_history.StoredHistory.{StoredHistory}
use Rattle.dg_sound_files.proofs.OpenedIndexRecords.{form_is}
use Rattle.dg_stored.specs.StoredHistory.{IsSoundHistory, index_opening}

-- ---- why the command is refused before its lines are completed

-- by the lines that were read, or by what bars it whatever its lines are
pub refused_first : (which : BatchCommand) (p : Parts) (count read : ℕ)
    → refused_by p read (needs (command_with which count)) ≡ first_refusal read count (barred which p count)
refused_first Load p count read = by_first (nat_lt read count) (refusal.ShortBatch read count) (refusals_by (is_some p.index) p 0 (record (needs (command_with Load count)) { lines = None }))
refused_first Append p count read = by_first (nat_lt read count) (refusal.ShortBatch read count) (refusals_by (is_some p.index) p 0 (record (needs (command_with Append count)) { lines = None }))

-- nothing refuses it only where its lines are as many as were asked for, and nothing bars it
none_first : (read count : ℕ) (bar : Option Refusal) → first_refusal read count bar ≡ None → (count ≤ read) × (bar ≡ None)
none_first read count bar h = by (nat_lt read count) refl h
  where
    by : (short : Bool) → nat_lt read count ≡ short → (if short then Some (refusal.ShortBatch read count) else bar) ≡ None → (count ≤ read) × (bar ≡ None)
    by true is e = cc
    by false is e = (ltb-false read count is, e)

-- a batch that was read is barred by nothing
pub none_barred : (bar : Option Refusal) (barred : Option Refusal) (count read : ℕ) → Bars barred bar → first_refusal read count bar ≡ None → (bar ≡ barred) × (bar ≡ None)
none_barred bar barred count read (inl is) free = (is, (none_first read count bar free).1)
none_barred bar barred count read (inr lacks) free = absurd (let e : Some refusal.OutOfMemory ≡ None = sym lacks.1 ∙ (none_first read count bar free).1 in cc)

-- what holds where nothing bars the batch
pub record IsFree (p : Parts) (count : ℕ) : Type 0 where
  pub index : Opening
  pub there : p.index ≡ Some index
  pub room : events_held p.index + count ≤ p.limits.events
  pub few_names : length p.names + 2 * count ≤ NAMES_MAX

free_by : (p : Parts) (count : ℕ) → 1 ≤ count → not (is_some p.index) ≡ false → (nat_lt 0 count && is_too_full p count) ≡ false → IsFree p count
free_by p count some there room = by_index p.index refl (not-false (is_some p.index) there)
  where
    neither : (a b : Bool) → (a || b) ≡ false → (a ≡ false) × (b ≡ false)
    neither true b e = cc
    neither false true e = cc
    neither false false e = (refl, refl)

    parts : (nat_lt p.limits.events (events_held p.index + count) ≡ false) × (nat_lt NAMES_MAX (length p.names + 2 * count) ≡ false)
    parts =
        neither (nat_lt p.limits.events (events_held p.index + count)) (nat_lt NAMES_MAX (length p.names + 2 * count))
        (ap (λ b. b && is_too_full p count) (sym (lt-ltb 0 count (omega (arith, some)))) ∙ room)

    by_index : (i : Option Opening) → p.index ≡ i → is_some p.index ≡ true → IsFree p count
    by_index None is h = let e : false ≡ true = sym (ap is_some is) ∙ h in cc
    by_index (Some o) is h = record {
      index = o;
      there = is;
      room = ltb-false p.limits.events (events_held p.index + count) parts.0;
      few_names = ltb-false NAMES_MAX (length p.names + 2 * count) parts.1;
    }

pub none_bars : (which : BatchCommand) (p : Parts) (count : ℕ) → 1 ≤ count → barred which p count ≡ None → IsFree p count
none_bars Load p count some h =
    let a = passes (not (is_some p.index)) refusal.NoIndex _ h in
    let b = passes (is_some (span_held p.index)) refusal.AlreadyLoaded _ a.1 in
    let c = passes (nat_lt 0 count && is_too_full p count) (refusal.HistoryFull (events_held p.index) count) _ b.1 in
    free_by p count some a.0 c.0
none_bars Append p count some h =
    let a = passes (not (is_some p.index)) refusal.NoIndex _ h in
    let c = passes (nat_lt 0 count && is_too_full p count) (refusal.HistoryFull (events_held p.index) count) _ a.1 in
    free_by p count some a.0 c.0

-- nothing bars it but what bars the command
pub bars_none : (bar : Option Refusal) (barred : Option Refusal) → Bars barred bar → bar ≡ None → barred ≡ None
bars_none bar barred (inl is) none = sym is ∙ none
bars_none bar barred (inr lacks) none = lacks.0

pub barred_denies : (which : BatchCommand) (count : ℕ) (old new : Parts) (names grown : List (List ℕ)) (taken : List ScriptLine → Type 0) (image : Option (List ℕ)) (r : Refusal)
    → new ≡ old → (b : IsBarred count (barred which old count) taken names grown r)
    → Denies (command_with which count) b.got old image new image r
barred_denies which count old new names grown taken image r same b =
    refused_denies (command_with which count) b.got old new image image r same refl (refused_first which old count (length b.got) ∙ b.refused)

-- what the lines come to that are no batch to be completed
unread : (which : BatchCommand) (count : ℕ) (old new : Parts) (names grown : List (List ℕ)) (taken : List ScriptLine → Type 0) (cut : Type 0) (image : Option (List ℕ)) (h : Halt)
    → (grown ≡ names → new ≡ old) → ReadsBatch count (barred which old count) taken cut names grown (Err h) → (h ≡ halt.Stop stop.Store → ⊥)
    → Comes (command_with which count) taken cut old image new image (Err h)
unread which count old new names grown taken cut image (halt.Refusal r) back b no_store =
    (b.got, b.taken, barred_denies which count old new names grown taken image r (back b.same) b)
unread which count old new names grown taken cut image (halt.Stop stop.Read) back b no_store = ([], b.1, record { same = back b.0; same_image = refl })
unread which count old new names grown taken cut image (halt.Stop stop.Limit) back b no_store = ([], b.1, record { same = back b.0; same_image = refl })
unread which count old new names grown taken cut image (halt.Stop stop.Store) back b no_store = absurd (no_store refl)

-- where memory lacks for a batch that nothing else bars
short_or_lacks : (short : Bool) (read count : ℕ) (r : Refusal) (P : Refusal → Type 0) → (if short then Some (refusal.ShortBatch read count) else Some refusal.OutOfMemory) ≡ Some r
    → (short ≡ true → P (refusal.ShortBatch read count)) → (short ≡ false → P refusal.OutOfMemory) → P r
short_or_lacks true read count r P is short lacks = subst P (same_some (refusal.ShortBatch read count) r is) (short refl)
  where
    same_some : (a b : Refusal) → (let x : Option Refusal = Some a in x) ≡ Some b → a ≡ b
    same_some a b e = cc
short_or_lacks false read count r P is short lacks = subst P (same_some refusal.OutOfMemory r is) (lacks refl)
  where
    same_some : (a b : Refusal) → (let x : Option Refusal = Some a in x) ≡ Some b → a ≡ b
    same_some a b e = cc

takes_memory : (which : BatchCommand) (count : ℕ) → (needs (command_with which count)).memory ≡ true
takes_memory Load count = refl
takes_memory Append count = refl

without_memory_denies : (which : BatchCommand) (count : ℕ) (old new : Parts) (names grown : List (List ℕ)) (taken : List ScriptLine → Type 0) (image : Option (List ℕ)) (r : Refusal)
    → new ≡ old → barred which old count ≡ None → (b : IsBarred count (Some refusal.OutOfMemory) taken names grown r)
    → Denies (command_with which count) b.got old image new image r
without_memory_denies which count old new names grown taken image r same none b =
    let read : ℕ = length b.got in
    let by_test : (short : Bool) → nat_lt read count ≡ short → refused_by old read (needs (command_with which count)) ≡ (if short then Some (refusal.ShortBatch read count) else None) =
    λ short e. refused_first which old count read ∙ ap (λ (bar : Option Refusal). first_refusal read count bar) none ∙ ap (λ (s : Bool). if s then Some (refusal.ShortBatch read count) else None) e in
    short_or_lacks (nat_lt read count) read count r (Denies (command_with which count) b.got old image new image) b.refused
    (λ e. refused_denies (command_with which count) b.got old new image image (refusal.ShortBatch read count) same refl (by_test true e))
    (λ e. lacking_denies (command_with which count) b.got old new image image same refl (takes_memory which count) (by_test false e))

unread_without_memory : (which : BatchCommand) (count : ℕ) (old new : Parts) (names grown : List (List ℕ)) (taken : List ScriptLine → Type 0) (cut : Type 0) (image : Option (List ℕ)) (h : Halt)
    → (grown ≡ names → new ≡ old) → barred which old count ≡ None → ReadsBatch count (Some refusal.OutOfMemory) taken cut names grown (Err h) → (h ≡ halt.Stop stop.Store → ⊥)
    → Comes (command_with which count) taken cut old image new image (Err h)
unread_without_memory which count old new names grown taken cut image (halt.Refusal r) back none b no_store =
    (b.got, b.taken, without_memory_denies which count old new names grown taken image r (back b.same) none b)
unread_without_memory which count old new names grown taken cut image (halt.Stop stop.Read) back none b no_store = ([], b.1, record { same = back b.0; same_image = refl })
unread_without_memory which count old new names grown taken cut image (halt.Stop stop.Limit) back none b no_store = ([], b.1, record { same = back b.0; same_image = refl })
unread_without_memory which count old new names grown taken cut image (halt.Stop stop.Store) back none b no_store = absurd (no_store refl)

-- it is barred so only where this bars it, or memory lacks
pub unread_comes : (which : BatchCommand) (count : ℕ) (old new : Parts) (names grown : List (List ℕ)) (taken : List ScriptLine → Type 0) (cut : Type 0) (image : Option (List ℕ)) (h : Halt) (bar : Option Refusal)
    → (grown ≡ names → new ≡ old) → Bars (barred which old count) bar → ReadsBatch count bar taken cut names grown (Err h) → (h ≡ halt.Stop stop.Store → ⊥)
    → Comes (command_with which count) taken cut old image new image (Err h)
unread_comes which count old new names grown taken cut image h bar back (inl is) b no_store =
    unread which count old new names grown taken cut image h back (subst (λ (r : Option Refusal). ReadsBatch count r taken cut names grown (Err h)) is b) no_store
unread_comes which count old new names grown taken cut image h bar back (inr lacks) b no_store =
    unread_without_memory which count old new names grown taken cut image h back lacks.0 (subst (λ (r : Option Refusal). ReadsBatch count r taken cut names grown (Err h)) lacks.1 b) no_store

-- a batch that was read and is not added
pub takes_failed : (taken : List ScriptLine → Type 0) (cut : Type 0) (got : List ScriptLine) (f : BatchFault)
    → taken got → TakesLines {A = Reply} taken cut got (Err (batch_halt f))
takes_failed taken cut got (fault.BadChange line reason) h = h
takes_failed taken cut got fault.OldFormat h = h
takes_failed taken cut got (fault.FileFull n most) h = h
takes_failed taken cut got (fault.Damaged key col) h = h
takes_failed taken cut got fault.Read h = h
takes_failed taken cut got fault.Memory h = h
takes_failed taken cut got fault.Store h = h

-- ---- what was read, and the history that it is to be added to

-- what is told is this
here : (told : Option Opening) (o : Opening) (P : Opening → Type 0) → told ≡ Some o → P o → IfSome told P
here told o P is p = subst (λ (i : Option Opening). IfSome i P) (sym is) p

pub of_here : (told : Option Opening) (o : Opening) (P : Opening → Type 0) → told ≡ Some o → IfSome told P → P o
of_here told o P is p = subst (λ (i : Option Opening). IfSome i P) is p

-- The session keeps a history, in which the names have grown by those of a batch that nothing refuses yet.
pub record IsAsked (from : Origin) (got : List ScriptLine) (p : Parts) (count limit : ℕ) (l : Live) (b : Batch) : Type 0 where
  pub index : p.index ≡ index_opening l.history.index
  pub known_is : b.known ≡ length p.names
  pub graph : l.history.now.graph ≡ p.graph
  pub recent : l.history.recent.items ≡ p.recent
  pub limit_is : limit ≡ p.limits.file_bytes
  pub few_events : p.limits.events ≤ EVENTS_MAX
  pub some : 1 ≤ count
  pub few : count ≤ BATCH_LINES_MAX
  pub free : IsFree p count
  pub not_refused : refused_by p (length got) (needs (adding from count)) ≡ None
  pub changes_are : IsFront b.front b.changes.items (changes_after p.names (asked_from from count got))
  pub names_are : b.front ≡ Whole → l.history.names ≡ names_after p.names (asked_from from count got)
  pub many : length (asked_from from count got) ≡ count
  pub within : length b.changes.items ≤ count
  pub kept : take (length p.names) l.history.names ≡ p.names
  pub few_names : b.front ≡ Whole → length l.history.names ≤ NAMES_MAX

-- it is so of lines that were read, where the session's parts are those that it was called with
pub is_asked : (which : BatchCommand) (p called : Parts) (count : ℕ) (l : Live) (b : Batch) (taken : List ScriptLine → Type 0) (plain bar : Option Refusal)
    → p ≡ called → plain ≡ barred which called count → Bars plain bar → p.index ≡ index_opening l.history.index → l.history.now.graph ≡ p.graph → l.history.recent.items ≡ p.recent → p.limits.events ≤ EVENTS_MAX → 1 ≤ count → count ≤ BATCH_LINES_MAX
    → (r : IsBatch count bar taken p.names l.history.names b) → IsAsked (Lines_of which) r.got p count p.limits.file_bytes l b
is_asked which p called count l b taken plain bar same plain_is bars index graph recent few_events some few r =
    let bar_here : bar ≡ barred which p count = (none_barred bar plain count (length r.got) bars r.free).0 ∙ plain_is ∙ ap (λ (x : Parts). barred which x count) (sym same) in
    let first : first_refusal (length r.got) count (barred which p count) ≡ None = ap (first_refusal (length r.got) count) (sym bar_here) ∙ r.free in
    let none = none_first (length r.got) count (barred which p count) first in
    let all : length (map change_by_text_in r.got) ≡ count = omega (arith, length-map r.got change_by_text_in, r.most, none.0) in
    record {
      index = index;
      known_is = r.known;
      graph = graph;
      recent = recent;
      limit_is = refl;
      few_events = few_events;
      some = some;
      few = few;
      free = none_bars which p count some none.1;
      not_refused = refused_first which p count (length r.got) ∙ first;
      changes_are = r.reads.changes_are;
      names_are = λ whole. subst (λ (x : Front). NamesGrow x p.names l.history.names r.got) whole r.reads.names_are;
      many = all;
      within = omega (arith, r.within, r.most);
      kept = r.kept;
      few_names = r.few;
    }

-- it is so of the changes of a seed, which are barred as a load is
pub is_generated : (seed : ℕ) (p called : Parts) (count : ℕ) (l : Live) (b : Batch) (bar : Option Refusal)
    → p ≡ called → bar ≡ barred Load called count → bar ≡ None → p.index ≡ index_opening l.history.index → l.history.now.graph ≡ p.graph → l.history.recent.items ≡ p.recent → p.limits.events ≤ EVENTS_MAX → 1 ≤ count → count ≤ BATCH_LINES_MAX
    → IsGenerated seed count p.names l.history.names b → IsAsked (Seed seed) [] p count p.limits.file_bytes l b
is_generated seed p called count l b bar same bar_is free index graph recent few_events some few r =
    let none : barred Load p count ≡ None = ap (λ (x : Parts). barred Load x count) same ∙ sym bar_is ∙ free in
    record {
      index = index;
      known_is = r.known;
      graph = graph;
      recent = recent;
      limit_is = refl;
      few_events = few_events;
      some = some;
      few = few;
      free = none_bars Load p count some none;
      not_refused = none;
      changes_are = subst (λ (x : Front). IsFront x b.changes.items (changes_after p.names (generated seed count))) (sym r.whole) r.changes_are;
      names_are = λ whole. r.names_are;
      many = generated_length seed count;
      within = omega (arith, r.many);
      kept = r.kept;
      few_names = λ whole. r.few;
    }

-- the batch that is asked for, in the names with its texts
abbrev batch_in : History → List (Option ChangeByText) → List Event → HistoryBatch
batch_in z asked events = record { names = drop (length (names_of z)) (names_after (names_of z) asked); events = events }

-- the answer, by the test of its room
abbrev by_room : MachineState → History → Origin → HistoryBatch → Bool → Answered
by_room m z from b full =
    if full then refuse m (refusal.FileFull (size (with_batch z b)) m.limits.file_bytes)
    else record {
      reply = headed (head_over from (replay (events_of z ++ b.events)) (length b.events) (length (events_of z) + length b.events) (last_time_from 0 b.events));
      state = record m { index = Some (with_batch z b) };
    }

-- the form of the file does not take these events
abbrev is_barred_by : Form → List Event → Bool
is_barred_by form events = not (is_wide form) && not (are_silent events)

-- the answer, by the test of the form, which comes first
abbrev by_form : MachineState → History → Origin → HistoryBatch → Bool → Answered
by_form m z from b bars = if bars then refuse m refusal.OldFormat else by_room m z from b (nat_lt m.limits.file_bytes (size (with_batch z b)))

takes_form : (form : Form) (events : List Event) → (is_wide form ≡ false → are_silent events ≡ true) → is_barred_by form events ≡ false
takes_form form events takes = by (is_wide form) (are_silent events) takes
  where
    by : (wide silent : Bool) → (wide ≡ false → silent ≡ true) → (not wide && not silent) ≡ false
    by true silent h = refl
    by false true h = refl
    by false false h = absurd (false≢true (h refl))

-- a batch that is refused neither for a change nor for the form is refused for a full file alone
behind_reads : (m : MachineState) (z : History) (from : Origin) (b : HistoryBatch) → is_barred_by z.form b.events ≡ false → is_behind_reads (with_made m z from (Ok b)).reply ≡ true
behind_reads m z from b free =
    ap (λ bars. is_behind_reads (by_form m z from b bars).reply) free ∙ by (nat_lt m.limits.file_bytes (size (with_batch z b)))
  where
    by : (full : Bool) → is_behind_reads (by_room m z from b full).reply ≡ true
    by true = refl
    by false = refl

-- after a fault the session keeps what it kept; after a failure of a write or sync nothing is said
abbrev pub StaysAs : BatchFault → Parts → Parts → Type 0
StaysAs (fault.BadChange line reason) p q = q ≡ p
StaysAs fault.OldFormat p q = q ≡ p
StaysAs (fault.FileFull needed limit) p q = q ≡ p
StaysAs (fault.Damaged key col) p q = q ≡ p
StaysAs fault.Read p q = q ≡ p
StaysAs fault.Memory p q = q ≡ p
StaysAs fault.Store p q = Unit {0}

-- the session with these handles, whose graphs are in this pool
abbrev pub with_handles : Parts → HandlesState → PoolState → Parts
with_handles p h pool = record p { table = h.table; graphs = slot_graphs pool h.slots; next = h.next }

pub kept_handles : (x : Parts) (h h' : HandlesState) (pool pool' : PoolState) → h' ≡ h → ((s : ℕ) → slot_graph pool' s ≡ slot_graph pool s)
    → with_handles x h' pool' ≡ with_handles x h pool
kept_handles x h h' pool pool' same graphs =
    ap (λ (y : HandlesState). with_handles x y pool') same
    ∙ (λ i. let y : Parts = record x { table = h.table; graphs = graphs_same pool pool' graphs h.slots i; next = h.next } in y)

-- the session with what the history holds
abbrev pub with_history : Parts → StoredHistory → Parts
with_history p c = record p { index = index_opening c.index; names = c.names; graph = c.now.graph; recent = c.recent.items }

-- the session with these indexes of values
abbrev pub with_indexes : Parts → List IndexKept → Parts
with_indexes p indexes = record p { indexes = indexes }

-- the recent events behind those of a history and so many others
recent_with : (p : Params) → 0 < p.l → (before events : List Event) → recent_behind p (length before) (recent_of p before) events ≡ recent_of p (before ++ events)
recent_with p pos before events =
    let m : ℕ = leaves p (length before) in
    let after : ℕ = leaves p (length before + length events) in
    let up : m * p.l ≤ after * p.l = mul-le-mul_right p.l (leaves_more p.l (length before) (length events) pos) in
    let whole : m * p.l + (after * p.l - m * p.l) ≡ after * p.l = omega (arith, up) in
    ap (drop (after * p.l - m * p.l)) (sym (recent_more p before events pos))
    ∙ drop-drop (after * p.l - m * p.l) (m * p.l) (before ++ events)
    ∙ ap (λ n. drop n (before ++ events)) (whole ∙ ap (λ n. leaves p n * p.l) (sym (length-append before events)))

module _ (from : Origin) (got : List ScriptLine) (p : Parts) (count limit : ℕ) (l : Live) (b : Batch) (a : IsAsked from got p count limit l b) where
  -- the history, in which the names have grown, and how many were there before
  abbrev c : StoredHistory
  c = l.history

  abbrev known : ℕ
  known = b.known

  -- what is asked for
  abbrev pub Due : List (Option ChangeByText)
  Due = asked_from from count got

  abbrev pub free : IsFree p count
  free = a.free

  pub opening_there : index_opening c.index ≡ Some free.index
  opening_there = sym a.index ∙ free.there

  held_here : events_held p.index ≡ event_total free.index.batches
  held_here = ap events_held free.there

  names_kept : take known c.names ≡ p.names
  names_kept = ap (λ (k : ℕ). take k c.names) a.known_is ∙ a.kept

  fit : AskedFit Due
  fit = asked_fit from count got a.few

  free_of : (image : List ℕ) (m : MachineState) → StandsFor p image m → refused m (adding from count) got ≡ None
  free_of image m s = sym (refused_is p image m (adding from count) got s) ∙ a.not_refused

  pub steps_as : (image : List ℕ) (m : MachineState) → StandsFor p image m → (x : Answered) → answer m (adding from count) got no_plan ≡ x → Step m (Asked (adding from count) got) x.reply x.state
  steps_as image m s x is = accepted_steps m (adding from count) got no_plan x (free_of image m s) (unplanned from m count) is

  -- ---- the batch may be added

  changes_are : b.front ≡ Whole → changes_after p.names Due ≡ lines b.changes.items
  changes_are whole = subst (λ (x : Front). IsFront x b.changes.items (changes_after p.names Due)) whole a.changes_are

  -- as many as were asked for
  pub many_changes : b.front ≡ Whole → length b.changes.items ≡ count
  many_changes whole =
      sym (length-map b.changes.items (λ (x : Change). Some x)) ∙ ap length (sym (changes_are whole)) ∙ changes_length p.names Due ∙ a.many

  long : length p.names + length (drop known c.names) ≡ length c.names
  long =
      ap (λ (ns : List (List ℕ)). length ns + length (drop known c.names)) (sym names_kept)
      ∙ sym (length-append (take known c.names) (drop known c.names)) ∙ ap length (take-append-drop known c.names)

  named : b.front ≡ Whole → may_be_named (take known c.names) (drop known c.names) ≡ true
  named whole =
      let g : Grows p.names c.names = grown_next p.names c.names Due fit (a.names_are whole) in
      let new : List (List ℕ) = drop (length p.names) c.names in
      let many : length p.names + length new ≡ length c.names = ap (λ (k : ℕ). length p.names + length (drop k c.names)) (sym a.known_is) ∙ long in
      ap (λ (k : ℕ). may_be_named (take k c.names) (drop k c.names)) a.known_is
      ∙ ap (λ (ns : List (List ℕ)). may_be_named ns new) a.kept
      ∙ ap (λ (t : Bool). t && nat_le (length p.names + length new) NAMES_MAX) (grown_new p.names c.names g)
      ∙ le-leb (length p.names + length new) NAMES_MAX (omega (arith, many, a.few_names whole))

  change_fits : b.front ≡ Whole → (k : ℕ) (d : Change) → k < length b.changes.items → ChangeFits c.names (get_or b.changes.items k d)
  change_fits whole k d lt =
      let fit : All (λ x. IfSome x (ChangeFits c.names)) (lines b.changes.items) = fitting_next p.names c.names Due b.changes.items fit (changes_are whole) (a.names_are whole) in
      subst (λ (o : Option Change). IfSome o (ChangeFits c.names)) (get_or-map (λ (x : Change). Some x) b.changes.items k d)
      (fit k (Some d) (omega (arith, lt, length-map b.changes.items (λ (x : Change). Some x))))

  pub is_ready : IsSoundHistory p.index p.names c.now c.recent.items → IfSome (index_opening c.index) (λ o. IsReady o b c)
  is_ready sound = here (index_opening c.index) free.index (λ o. IsReady o b c) opening_there (record {
    sound = subst (λ (ns : List (List ℕ)). IsSoundHistory (Some free.index) ns c.now c.recent.items) (sym names_kept)
        (subst (λ (i : Option Opening). IsSoundHistory i p.names c.now c.recent.items) free.there sound);
    within = omega (arith, long, a.known_is);
    some = λ whole. omega (arith, many_changes whole, a.some);
    few = omega (arith, a.within, a.few);
    room = omega (arith, free.room, held_here, a.few_events, a.within);
    named = named;
    fit = λ whole k d lt. what_named (length c.names) (get_or b.changes.items k d).what (change_fits whole k d lt).numbers;
    timed = λ whole k d lt. (change_fits whole k d lt).time;
  })

  pub may_add : IsSoundHistory p.index p.names c.now c.recent.items → IsOverlayOf c.now.graph (pool_in l.pool) → MayAdd b l
  may_add sound pool = record {
    index = free.index;
    there = opening_there;
    ready = of_here (index_opening c.index) free.index (λ o. IsReady o b c) opening_there (is_ready sound);
    pool = pool;
  }

  pub image_known : (told : Option (List ℕ)) (P : Option Opening → List (List ℕ) → List ℕ → Type 0) → IfSome told (P p.index p.names) → IfSome told (P (index_opening c.index) (take known c.names))
  image_known told P h =
      subst (λ (i : Option Opening). IfSome told (P i (take known c.names))) a.index (subst (λ (ns : List (List ℕ)). IfSome told (P p.index ns)) (sym names_kept) h)

  -- ---- what the lines come to

  -- the history of a state that the session stands for is what is kept of it
  pub over : (image : List ℕ) (m : MachineState) (z : History) → IsOf p free.index image m z → IsOverHistory z image free.index known c
  over image m z h = record {
    stands = h.stands;
    kept = record {
      index_is = ap (λ (o : Opening). Some o) h.opened;
      names_are = names_kept ∙ h.names;
      graph_is = a.graph ∙ h.graph;
      recent_are = a.recent ∙ h.recent;
    };
  }

  many_of : (image : List ℕ) (m : MachineState) (z : History) → IsOf p free.index image m z → event_total free.index.batches ≡ length (events_of z)
  many_of image m z h = ap (λ (x : Opening). event_total x.batches) h.opened ∙ count_is z h.stands.legal

  pub completed_is : (image : List ℕ) (m : MachineState) (z : History) (due : Result (List Event) (ℕ × ℕ)) → IsOf p free.index image m z → ComeTo free.index c.now.graph b due
      → completed 1 (earliest_next (span_of (events_of z))) (replay (events_of z)) (changes_after (names_of z) Due) ≡ due
  completed_is image m z due h come =
      let time : earliest_in 0 free.index.batches ≡ earliest_next (span_of (events_of z)) =
      ap (λ (x : Opening). earliest_in 0 x.batches) h.opened ∙ (behind z h.stands.legal).earliest in
      ap (λ (t : ℕ). completed 1 t (replay (events_of z)) (changes_after (names_of z) Due)) (sym time)
      ∙ ap (λ (set : List Element). completed 1 (earliest_in 0 free.index.batches) set (changes_after (names_of z) Due)) (sym (a.graph ∙ h.graph))
      ∙ ap (λ (ns : List (List ℕ)). completed 1 (earliest_in 0 free.index.batches) c.now.graph (changes_after ns Due)) (sym h.names)
      ∙ come (changes_after p.names Due) a.changes_are

  -- the form of the file is that of the history
  form_of : (image : List ℕ) (m : MachineState) (z : History) → IsOf p free.index image m z → free.index.form ≡ z.form
  form_of image m z h = ap (λ (x : Opening). x.form) h.opened ∙ form_is z h.stands.legal

  -- where it takes the events, the form bars nothing
  free_form : (image : List ℕ) (m : MachineState) (z : History) (events : List Event) → IsOf p free.index image m z → TakesForm free.index events → is_barred_by z.form events ≡ false
  free_form image m z events h takes = ap (λ f. is_barred_by f events) (sym (form_of image m z h)) ∙ takes_form free.index.form events takes

  -- the answer, by what the lines come to
  answer_with : (image : List ℕ) (m : MachineState) (z : History) (due : Result (List Event) (ℕ × ℕ)) → StandsFor p image m → IsOf p free.index image m z → ComeTo free.index c.now.graph b due
      → answer m (adding from count) got no_plan ≡ with_made m z from (on_value (batch_in z Due) due)
  answer_with image m z due s h come =
      accepted_is m (adding from count) got no_plan (with_made m z from (on_value (batch_in z Due) due)) (free_of image m s)
      (accepted_made from m count got
      ∙ ap (λ (i : Option History). with_made m (history_in i) from (batch_of_changes (history_in i) Due)) h.index
      ∙ ap (λ r. with_made m z from (on_value (batch_in z Due) r)) (completed_is image m z due h come))

  -- ---- where every line is a change

  module _ (told : Option (List ℕ)) (events : List Event) (segment : Segment) (comes : ComesToSegment free.index b c told events segment) where
    abbrev pub New : HistoryBatch
    New = batch_with known c.names events

    is_next : (image : List ℕ) (m : MachineState) (z : History) → IsOf p free.index image m z → IsNext z Due b.changes.items c.names events
    is_next image m z h =
        let are : changes_after (names_of z) Due ≡ lines b.changes.items =
        ap (λ (ns : List (List ℕ)). changes_after ns Due) (sym h.names) ∙ changes_are comes.whole in
        record {
          fit = fit;
          changes_are = are;
          names_are = a.names_are comes.whole ∙ ap (λ (ns : List (List ℕ)). names_after ns Due) h.names;
          comes = ap (completed 1 (earliest_next (span_of (events_of z))) (replay (events_of z))) (sym are) ∙ completed_is image m z (Ok events) h comes.come;
          some = omega (arith, a.many, a.some);
          few = omega (arith, a.many, a.few);
          room = omega (arith, free.room, held_here, a.few_events, a.many, many_of image m z h);
          few_names = a.few_names comes.whole;
          form = λ narrow. comes.form (ap is_wide (form_of image m z h) ∙ narrow);
        }

    known_of : (image : List ℕ) (m : MachineState) (z : History) → IsOf p free.index image m z → known ≡ length (names_of z)
    known_of image m z h = a.known_is ∙ ap length h.names

    -- the batch of the lines, as the file gets it
    answer_new : (image : List ℕ) (m : MachineState) (z : History) → StandsFor p image m → IsOf p free.index image m z
        → answer m (adding from count) got no_plan ≡ by_room m z from New (nat_lt m.limits.file_bytes (size (with_batch z New)))
    answer_new image m z s h =
        let next : IsNext z Due b.changes.items c.names events = is_next image m z h in
        answer_with image m z (Ok events) s h comes.come
        ∙ ap (λ (ns : List (List ℕ)). let x : HistoryBatch = record { names = drop (length (names_of z)) ns; events = events } in with_made m z from (Ok x)) (sym next.names_are)
        ∙ ap (λ (k : ℕ). with_made m z from (Ok (batch_with k c.names events))) (sym (known_of image m z h))
        ∙ ap (by_form m z from New) (free_form image m z events h comes.form)

    -- the segment is that of the batch behind the history
    segment_is : (image : List ℕ) → told ≡ Some image → (m : MachineState) (z : History) → IsOf p free.index image m z → segment ≡ segment_of z.params (events_of z) New
    segment_is image at m z h =
        one_told told (λ x. (z : History) → IsOverHistory z x free.index known c → segment ≡ segment_of z.params (events_of z) New) image comes.built at z (over image m z h)

    needed_is : (image : List ℕ) → told ≡ Some image → (m : MachineState) (z : History) → IsOf p free.index image m z → needed_for free.index segment ≡ size (with_batch z New)
    needed_is image at m z h = (λ i. needed_for (h.opened i) (segment_is image at m z h i)) ∙ measured z New h.stands.legal.form

    -- the file has too little room
    full_steps : (n : ℕ) → n ≡ needed_for free.index segment → limit < n → (m : MachineState) (image : List ℕ) → told ≡ Some image → StandsFor p image m
        → Step m (Asked (adding from count) got) (replied.Refused (refusal.FileFull n limit)) m
    full_steps n n_is over m image at s =
        let found = is_of p free.index image m free.there s in
        let z : History = found.0 in
        let needed : n ≡ size (with_batch z New) = n_is ∙ needed_is image at m z found.1 in
        let limits : limit ≡ m.limits.file_bytes = a.limit_is ∙ ap (λ (x : Limits). x.file_bytes) s.limits in
        let full : nat_lt m.limits.file_bytes (size (with_batch z New)) ≡ true = lt-ltb m.limits.file_bytes (size (with_batch z New)) (omega (arith, over, needed, limits)) in
        steps_as image m s (refuse m (refusal.FileFull n limit))
        (answer_new image m z s found.1 ∙ ap (by_room m z from New) full
        ∙ ap (λ (k : ℕ). refuse m (refusal.FileFull k m.limits.file_bytes)) (sym needed) ∙ ap (λ (k : ℕ). refuse m (refusal.FileFull n k)) (sym limits))

    -- the first line of the reply
    abbrev pub said : Reply
    said = headed (head_over from (replay_from c.now.graph events) (length events) (event_total free.index.batches + length events) (last_time_from 0 events))

    -- there is room: the answer, and the legal history with the batch
    pub record IsAdded (m : MachineState) (z : History) : Type 0 where
      pub answered : answer m (adding from count) got no_plan ≡ record { reply = said; state = record m { index = Some (with_batch z New) } }
      pub legal : IsLegal (with_batch z New)
      names : c.names ≡ names_of (with_batch z New)
      graph : replay_from c.now.graph events ≡ replay (events_of (with_batch z New))
      recent : recent_behind free.index.params (event_total free.index.batches) c.recent.items events ≡ recent_of z.params (events_of (with_batch z New))
      rises : RisesFrom (earliest_next (span_of (events_of z))) events

    pub is_added : needed_for free.index segment ≤ limit → (image : List ℕ) → told ≡ Some image → (m : MachineState) (z : History) → StandsFor p image m → IsOf p free.index image m z → IsAdded m z
    is_added fits image at m z s h =
        let next : IsNext z Due b.changes.items c.names events = is_next image m z h in
        let same : batch_next z c.names events ≡ New = ap (λ (k : ℕ). batch_with k c.names events) (sym (known_of image m z h)) in
        let room : nat_lt m.limits.file_bytes (size (with_batch z New)) ≡ false =
        le-ltb m.limits.file_bytes (size (with_batch z New)) (omega (arith, fits, needed_is image at m z h, a.limit_is, ap (λ (x : Limits). x.file_bytes) s.limits)) in
        let many : length (events_of z) ≡ event_total free.index.batches = sym (many_of image m z h) in
        let params : free.index.params ≡ z.params = ap (λ (x : Opening). x.params) h.opened ∙ (behind z h.stands.legal).params in
        let large = large_parameters z.params.l z.params.k h.stands.legal.parameters in
        let held : c.recent.items ≡ recent_of z.params (events_of z) = a.recent ∙ h.recent in
        let graph : replay_from c.now.graph events ≡ replay (events_of z ++ events) =
        ap (λ (set : List Element). replay_from set events) (a.graph ∙ h.graph) ∙ sym (replay_append [] (events_of z) events) in
        record {
          answered = answer_new image m z s h ∙ ap (by_room m z from New) room
              ∙ (λ i. let x : Answered = record { reply = headed (head_over from (sym graph i) (length events) (many i + length events) (last_time_from 0 events)); state = record m { index = Some (with_batch z New) } } in x);
          legal = subst (λ (x : HistoryBatch). IsLegal (with_batch z x)) same (legal_next z Due b.changes.items c.names events h.stands.legal next);
          names = sym (ap (λ (x : HistoryBatch). names_of (with_batch z x)) (sym same) ∙ names_grown z c.names events (grown_next (names_of z) c.names Due fit next.names_are));
          graph = graph ∙ ap replay (sym (events_with z New));
          recent = (λ i. recent_behind (params i) (sym many i) (held i) events) ∙ recent_with z.params (omega (arith, large.0)) (events_of z) events ∙ ap (recent_of z.params) (sym (events_with z New));
          rises = rises_come (earliest_next (span_of (events_of z))) (replay (events_of z)) (map (λ (c : Change). Some c) b.changes.items) events
              (all_come 1 (earliest_next (span_of (events_of z))) (replay (events_of z)) (map (λ (c : Change). Some c) b.changes.items) events next.comes);
        }

    -- the session with the batch
    abbrev added_to : Parts
    added_to = record p {
      index = Some (index_with free.index segment);
      names = c.names;
      graph = replay_from c.now.graph events;
      recent = recent_behind free.index.params (event_total free.index.batches) c.recent.items events;
    }

    add_moves : (q : Parts) (indexes : List IndexKept) (before after : List ℕ) (reply : Reply) → told ≡ Some before → needed_for free.index segment ≤ limit → GainsBatch segment before after → q ≡ record added_to { indexes = indexes } → map said_of indexes ≡ all_said_with events (map said_of p.indexes) → reply ≡ said
        → Moves (adding from count) got p before q after reply
    add_moves q indexes before after reply at fits gains q_is values reply_is m s =
        let found = is_of p free.index before m free.there s in
        let z : History = found.0 in
        let h : IsOf p free.index before m z = found.1 in
        let is : IsAdded m z = is_added fits before at m z s h in
        let k : MachineState = record m { index = Some (with_batch z New) } in
        let large = large_parameters z.params.l z.params.k h.stands.legal.parameters in
        let pos : 0 < z.params.l = omega (arith, large.0) in
        let index : Some (index_with free.index segment) ≡ Some (opening_of (with_batch z New)) =
        (λ i. Some (index_with (h.opened i) (segment_is before at m z h i))) ∙ ap (λ (x : Opened). Some x.index) (sym (opened_more z New h.stands.legal.form)) in
        let reached : All (λ (e : ℕ × Stands). is_reached z e.1 ≡ true) m.table =
        subst (λ (i : Option History). All (λ (e : ℕ × Stands). is_reached (history_in i) e.1 ≡ true) m.table) h.index s.reached in
        let graphs : p.graphs ≡ map (λ (e : ℕ × Stands). elements (with_batch z New) e.1) m.table =
        s.graphs ∙ ap (λ (i : Option History). map (λ (e : ℕ × Stands). elements (history_in i) e.1) m.table) h.index ∙ graphs_more z pos New is.rises m.table reached in
        let of_keys : map said_of indexes ≡ map (said_over (events_of (with_batch z New))) m.indexes =
        values ∙ ap (all_said_with events) (s.indexes ∙ ap (λ (i : Option History). map (said_over (events_of (history_in i))) m.indexes) h.index)
        ∙ all_said_more (events_of z) events m.indexes
        ∙ ap (λ es. map (said_over es) m.indexes) (sym (events_with z New)) in (
          k,
          subst (λ (r : Reply). Step m (Asked (adding from count) got) r k) (sym reply_is) (steps_as before m s (record { reply = said; state = k }) is.answered),
          stands q after k indexes
              (q_is ∙ (λ i. record { limits = s.limits i; index = index i; names = is.names i; graph = is.graph i; recent = is.recent i; table = s.table i; graphs = graphs i; next = s.next i; indexes = indexes }))
              of_keys (gains z New h.stands is.legal (segment_is before at m z h)) (all_reached_more z pos New is.rises m.table reached) (λ none. cc),
        )

    -- the disk failed
    add_cuts : (before after : List ℕ) → told ≡ Some before → needed_for free.index segment ≤ limit → GainsBatchOrNot segment before after → CutsOff (adding from count) got p before after
    add_cuts before after at fits gains m s = by_case found.0 found.1 (is_added fits before at m found.0 s found.1)
      where
        found : (z : History) × IsOf p free.index before m z
        found = is_of p free.index before m free.there s

        by_case : (z : History) → IsOf p free.index before m z → IsAdded m z → IsCut m (Asked (adding from count) got) before after
        by_case z h is = by_image (gains z New h.stands is.legal (segment_is before at m z h))
          where
            by_image : IsImageOf z after ⊎ IsImageOf (with_batch z New) after → IsCut m (Asked (adding from count) got) before after
            by_image (inl same) =
                As_before (is_accepted m (adding from count) got _ (writes from count) is.answered refl)
                (subst (λ (i : Option History). StandsAs i after) (sym h.index) same)
            by_image (inr more) =
                As_after (is_accepted m (adding from count) got _ (writes from count) is.answered refl)
                said (record m { index = Some (with_batch z New) }) (steps_as before m s _ is.answered) more

  -- ---- what the command comes to

  module _ (new : Live) (before after : Option (List ℕ)) where
    pub stays : IsAsKnown known l new → with_history p new.history ≡ p
    stays s =
        let index : index_opening new.history.index ≡ p.index = s.index ∙ sym a.index in
        let names : new.history.names ≡ p.names = s.names ∙ names_kept in
        let graph : new.history.now.graph ≡ p.graph = s.graph ∙ a.graph in
        let recent : new.history.recent.items ≡ p.recent = s.recent ∙ a.recent in
        λ i. record p { index = index i; names = names i; graph = graph i; recent = recent i }

    kept_as : (h h' : HandlesState) → IsAsKnown known l new → h' ≡ h → with_handles p h (pool_of l.pool) ≡ p → with_handles (with_history p new.history) h' (pool_of new.pool) ≡ p
    kept_as h h' back hs same =
        kept_handles (with_history p new.history) h h' (pool_of l.pool) (pool_of new.pool) hs (same_slots (pool_in l.pool) (pool_in new.pool) back.graphs) ∙ ap (λ (y : Parts). with_handles y h (pool_of l.pool)) (stays back) ∙ same

    -- there is room in each index for the values of what was added
    pub room_for_values : (x : AddedBatch) (indexes : List AuxState) → IfSome (index_opening c.index) (λ o. AddsBatch o limit b l new before after x) → All (λ (aux : AuxState). HasRoomFor aux count) indexes
        → All (λ (aux : AuxState). HasRoomFor aux (length x.events.items)) indexes
    room_for_values x indexes adds room =
        let d : AddsBatch free.index limit b l new before after x =
        of_here (index_opening c.index) free.index (λ o. AddsBatch o limit b l new before after x) opening_there adds in
        let few : length x.events.items ≤ count = omega (arith, ap length d.told.0, d.many, a.within) in
        λ k aux lt. let all = room k aux lt in omega arith

    -- after a fault the session keeps what it kept, its handles and their graphs among it
    pub failed_stays : (f : BatchFault) (h h' : HandlesState) → IsBack f known l new → HandlesStay (Err f) h h' → with_handles p h (pool_of l.pool) ≡ p → StaysAs f p (with_handles (with_history p new.history) h' (pool_of new.pool))
    failed_stays (fault.BadChange line reason) h h' back hs same = kept_as h h' back hs same
    failed_stays fault.OldFormat h h' back hs same = kept_as h h' back hs same
    failed_stays (fault.FileFull n most) h h' back hs same = kept_as h h' back hs same
    failed_stays (fault.Damaged key col) h h' back hs same = kept_as h h' back hs same
    failed_stays fault.Read h h' back hs same = kept_as h h' back hs same
    failed_stays fault.Memory h h' back hs same = kept_as h h' back hs same
    failed_stays fault.Store h h' back hs same = tt

    -- no graph of a slot has changed
    pub added_slots : (x : AddedBatch) → IfSome (index_opening c.index) (λ o. AddsBatch o limit b l new before after x) → SameSlots (pool_in l.pool) (pool_in new.pool)
    added_slots x adds = (of_here (index_opening c.index) free.index (λ o. AddsBatch o limit b l new before after x) opening_there adds).slots

    pub added_pool : (x : AddedBatch) → IfSome (index_opening c.index) (λ o. AddsBatch o limit b l new before after x) → is_some (pool_in new.pool) ≡ is_some (pool_in l.pool)
    added_pool x adds = (of_here (index_opening c.index) free.index (λ o. AddsBatch o limit b l new before after x) opening_there adds).pool

    pub batch_added : (x : AddedBatch) (indexes : List IndexKept) → map said_of indexes ≡ all_said_with x.events.items (map said_of p.indexes) → IfSome (index_opening c.index) (λ o. AddsBatch o limit b l new before after x)
        → Accepts (adding from count) got p before (with_indexes (with_history p new.history) indexes) after (headed (head_over from new.history.now.graph (length x.events.items) x.total x.last))
    batch_added x indexes tells adds =
        let d : AddsBatch free.index limit b l new before after x =
        of_here (index_opening c.index) free.index (λ o. AddsBatch o limit b l new before after x) opening_there adds in
        let index : index_opening new.history.index ≡ Some (index_with free.index d.segment) = d.index in
        let names : new.history.names ≡ c.names = d.names in
        let q : Parts = with_indexes (with_history p new.history) indexes in
        let values : map said_of indexes ≡ all_said_with d.events (map said_of p.indexes) = tells ∙ ap (λ es. all_said_with es (map said_of p.indexes)) d.told.0 in
        let q_is : q ≡ record (added_to before d.events d.segment d.comes) { indexes = indexes } = λ i. record p { index = index i; names = names i; graph = d.graph i; recent = d.recent i; indexes = indexes } in
        let told : headed (head_over from new.history.now.graph (length x.events.items) x.total x.last) ≡ said before d.events d.segment d.comes =
        λ i. headed (head_over from (d.graph i) (length (d.told.0 i)) (d.told.1 i) (d.told.2 i)) in
        record {
          moves = λ y z ey ez.
              add_moves before d.events d.segment d.comes q indexes y z (headed (head_over from new.history.now.graph (length x.events.items) x.total x.last)) ey d.fits
              (both_told before after (GainsBatch d.segment) d.gains y z ey ez) q_is values told;
          accepted = refl;
          free = a.not_refused;
          fits = fits_head from count new.history.now.graph (length x.events.items) x.total x.last;
          held = λ h. d.held;
          no_index = λ none. absurd (let e : Some (index_with free.index d.segment) ≡ None = sym index ∙ none in cc);
          quiet = λ not_writing. let e : true ≡ false = sym (writes from count) ∙ not_writing in cc;
          named = head_names (length new.history.names) (head_over from new.history.now.graph (length x.events.items) x.total x.last) (headed (head_over from new.history.now.graph (length x.events.items) x.total x.last)) refl;
          keeps_names = ap (λ (ns : List (List ℕ)). take (length p.names) ns) names ∙ a.kept;
        }

    pub batch_failed : (f : BatchFault) → IfSome (index_opening c.index) (λ o. FailsBatch o limit b c before after f) → (q : Parts) → StaysAs f p q
        → ComesTo (adding from count) got p before q after (Err (batch_halt f))
    batch_failed (fault.BadChange line reason) fails q q_is =
        let f = of_here (index_opening c.index) free.index (λ o. FailsBatch o limit b c before after (fault.BadChange line reason)) opening_there fails in
        denied (adding from count) got p q before after (refusal.BadChange line reason) q_is f.0
        (λ m image s.
        let z = is_of p free.index image m free.there s in
        steps_as image m s (refuse m (refusal.BadChange line reason)) (answer_with image m z.0 (Err (line, reason)) s z.1 f.1)) (λ h. absurd (false≢true h)) (inr (inl (adds from count, a.not_refused)))
    batch_failed fault.OldFormat fails q q_is =
        let f = of_here (index_opening c.index) free.index (λ o. FailsBatch o limit b c before after fault.OldFormat) opening_there fails in
        let d : IsOldFormat free.index b c = f.1 in
        denied (adding from count) got p q before after refusal.OldFormat q_is f.0
        (λ m image s.
        let z = is_of p free.index image m free.there s in
        let bars : is_barred_by z.0.form d.events ≡ true =
        ap (λ x. is_barred_by x d.events) (sym (form_of image m z.0 z.1)) ∙ ap (λ wide. not wide && not (are_silent d.events)) d.narrow ∙ ap not d.sends in
        steps_as image m s (refuse m refusal.OldFormat) (answer_with image m z.0 (Ok d.events) s z.1 d.come ∙ ap (by_form m z.0 from (batch_in z.0 Due d.events)) bars))
        (λ h. absurd (false≢true h)) (inr (inl (adds from count, a.not_refused)))
    batch_failed (fault.FileFull n most) fails q q_is =
        let f = of_here (index_opening c.index) free.index (λ o. FailsBatch o limit b c before after (fault.FileFull n most)) opening_there fails in
        let d : FillsFile free.index limit b c before n = f.2 in
        subst (λ (k : ℕ). Denies (adding from count) got p before q after (refusal.FileFull n k)) (sym f.1)
        (denied_at (adding from count) got p q before after (refusal.FileFull n limit) q_is f.0
        (full_steps before d.events d.segment d.comes n d.needed_is d.over) (λ h. absurd (false≢true h)) (inr (inl (grows from count, a.not_refused))))
    batch_failed (fault.Damaged key col) fails q q_is =
        let f = of_here (index_opening c.index) free.index (λ o. FailsBatch o limit b c before after (fault.Damaged key col)) opening_there fails in
        denied_at (adding from count) got p q before after (refusal.Damaged key col) q_is f.0
        (λ m image at s.
        let z = is_of p free.index image m free.there s in
        absurd (one_told before (λ x. (z : History) → IsOverHistory z x free.index known c → ⊥) image f.1.never at z.0 (over image m z.0 z.1)))
        (λ h. (reads_records from count, a.not_refused)) (inr (inl (reads_records from count, a.not_refused)))
    batch_failed fault.Read fails q q_is =
        let f = of_here (index_opening c.index) free.index (λ o. FailsBatch o limit b c before after fault.Read) opening_there fails in
        let d : FailsToRead free.index b c = f.1 in
        failing_denies (adding from count) got p q before after q_is f.0 (reads_records from count) a.not_refused
        (λ m image s.
        let z = is_of p free.index image m free.there s in
        ap (λ (x : Answered). is_behind_reads x.reply) (answer_with image m z.0 (Ok d.events) s z.1 d.come)
        ∙ behind_reads m z.0 from (batch_in z.0 Due d.events) (free_form image m z.0 d.events z.1 d.form))
    batch_failed fault.Memory fails q q_is =
        let f : after ≡ before = of_here (index_opening c.index) free.index (λ o. FailsBatch o limit b c before after fault.Memory) opening_there fails in
        lacking_denies (adding from count) got p q before after q_is f (lacks from count) a.not_refused
    batch_failed fault.Store fails q q_is =
        let d : BreaksBatch free.index limit b c before after =
        of_here (index_opening c.index) free.index (λ o. BreaksBatch o limit b c before after) opening_there fails in (
          writes from count,
          a.not_refused,
          λ y z ey ez. add_cuts before d.events d.segment d.comes y z ey d.fits (both_told before after (GainsBatchOrNot d.segment) d.gains y z ey ez),
        )
