-- Each answer keeps a history one that its script makes again.
use Rattle.std.proofs.Common.{◌≡◌, ℕ, zero, suc, ◌+◌, ◌*◌, ◌≤◌, Bool, true, false, not, List, [], ◌∷◌, ◌++◌, length, map, take, drop, Option, Some, None, Result, Ok, Err, refl, sym, ap, subst, ◌∙◌, arith}
use Rattle.std.specs.Prelude.{◌&&◌, ◌||◌, if◌then◌else◌, is_some, nat_lt, IfSome}
use Rattle.std.specs.List.{flat_map}
use Rattle.std.proofs.lemmas.Bool.{false≢true, lt-ltb, ltb-false}
use Rattle.std.proofs.lemmas.List.{length-map}
use Rattle.std.proofs.lemmas.Option.{none-some}
use Rattle.dg_graph.specs.declared.event.Event.{Event}
use Rattle.dg_graph.specs.CompletedChanges.{completed, on_value}
use Rattle.dg_graph.specs.Replay.{replay}
use Rattle.dg_graph.proofs.Completions.{all_come, as_many}
use Rattle.dg_text.specs.declared.limits.TheConstants.{NAMES_MAX}
use Rattle.dg_text.specs.Lines.{ScriptLine}
use Rattle.dg_changes.specs.Batch.{changes_after, names_after}
use Rattle.dg_changes.specs.ChangeGrammar.{ChangeByText, change_by_text_in, named}
use Rattle.dg_changes.specs.GeneratedChanges.{batch_of_changes, generated, generated_from, next_number}
use Rattle.dg_history.specs.History.{Batch, History, earliest_next, events_of, is_wide, last_time_from, names_of, span_of, with_batch}
use Rattle.dg_history.specs.LegalHistory.{IsLegal, are_silent}
use Rattle.dg_index.specs.FileOfHistory.{size}
use Rattle.dg_machine.specs.declared.command.Command.{Command}
use Rattle.dg_machine.specs.declared.command.Command.TheVariants as command
use Rattle.dg_machine.specs.declared.limits.Limits.{Limits}
use Rattle.dg_machine.specs.declared.reply.Head.{Head}
use Rattle.dg_machine.specs.declared.reply.Head.TheVariants as head
use Rattle.dg_machine.specs.declared.reply.Refusal.{Refusal}
use Rattle.dg_machine.specs.declared.reply.Refusal.TheVariants as refusal
use Rattle.dg_machine.specs.declared.stands.Stands.{Stands}
use Rattle.dg_machine.specs.Answer.{Answered, accepted, answer_by, base_for, graph_with, headed, overlays, refuse, with_handle, with_handles, with_new}
use Rattle.dg_machine.specs.CommandGrammar.{CountIsInRange}
use Rattle.dg_machine.specs.MachineState.{MachineState}
use Rattle.dg_machine.specs.Needs.{earliest, following, is_full, refused, when}
use Rattle.dg_machine.specs.Planning.{Planned}
use Rattle.dg_query.specs.Queries.{counts_of}
use Rattle.dg_dump.specs.DumpLaws.{AnswersKeepRemade, IsRemade}
use Rattle.dg_dump.specs.NamesOfLines.{AreByText}
use Rattle.dg_dump.proofs.BroughtNames.{batches_bring}
use Rattle.dg_dump.proofs.Rooms.{batches_leave_room}
use Rattle.dg_dump.proofs.TextChanges.{by_text}

-- ---- tests that no refusal passed

-- where nothing is refused, the first test fails, and nothing is refused behind it
passed : (b : Bool) (r : Refusal) (rest : List Refusal) → earliest (when b r ++ rest) ≡ None → (b ≡ false) × (earliest rest ≡ None)
passed true r rest e = absurd (none-some r (sym e))
passed false r rest e = (refl, e)

neither : (a b : Bool) → (a || b) ≡ false → (a ≡ false) × (b ≡ false)
neither true b e = absurd (false≢true (sym e))
neither false b e = (refl, e)

behind_true : (a b : Bool) → a ≡ true → (a && b) ≡ false → b ≡ false
behind_true true b t e = e
behind_true false b t e = absurd (false≢true t)

-- ---- how many events a batch has

changes_many : (names : List (List ℕ)) (lines : List (Option ChangeByText)) → length (changes_after names lines) ≡ length lines
changes_many names [] = refl
changes_many names (None ∷ lines) = ap (λ n. suc n) (changes_many names lines)
changes_many names (Some said ∷ lines) = ap (λ n. suc n) (changes_many (named names said.asked) lines)

generated_many : (count i x : ℕ) → length (generated_from count i x) ≡ count
generated_many zero i x = refl
generated_many (suc count) i x = ap (λ n. suc n) (generated_many count (i + 1) (next_number x))

events_many : (z : History) (lines : List (Option ChangeByText)) (b : Batch) → batch_of_changes z lines ≡ Ok b → length b.events ≡ length lines
events_many z lines b comes = by (completed 1 (earliest_next (span_of (events_of z))) (replay (events_of z)) (changes_after (names_of z) lines)) refl comes
  where
    by : (r : Result (List Event) (ℕ × ℕ)) → completed 1 (earliest_next (span_of (events_of z))) (replay (events_of z)) (changes_after (names_of z) lines) ≡ r
        → on_value (λ (events : List Event). record { names = drop (length (names_of z)) (names_after (names_of z) lines); events = events }) r ≡ Ok b
        → length b.events ≡ length lines
    by (Err x) come h = cc
    by (Ok events) come h =
        let same : record { names = drop (length (names_of z)) (names_after (names_of z) lines); events = events } ≡ b = cc in
        let many = as_many (earliest_next (span_of (events_of z))) (replay (events_of z)) (changes_after (names_of z) lines) events
        (all_come 1 (earliest_next (span_of (events_of z))) (replay (events_of z)) (changes_after (names_of z) lines) events come) in
        sym (ap (λ (b : Batch). length b.events) same) ∙ many ∙ changes_many (names_of z) lines

-- ---- a batch

module _ (limits : Limits) (z : History) (table : List (ℕ × Stands)) (next : ℕ) (indexes : List ℕ) (legal : IsLegal z) (kept : IsRemade limits z) where
  taken : (make : ℕ → ℕ → ℕ → Head) (lines : List (Option ChangeByText)) (n : ℕ) → AreByText lines → length lines ≤ n → 1 ≤ n
      → (nat_lt 0 n && is_full (record { limits = limits; index = Some z; table = table; next = next; indexes = indexes }) n) ≡ false
      → IfSome (with_new (record { limits = limits; index = Some z; table = table; next = next; indexes = indexes }) z make (batch_of_changes z lines)).state.index (IsRemade limits)
  taken make lines n texts few some free = by (batch_of_changes z lines) refl
    where
      rooms : (nat_lt limits.events (length (events_of z) + n) ≡ false) × (nat_lt NAMES_MAX (length (names_of z) + 2 * n) ≡ false)
      rooms = neither _ _ (behind_true (nat_lt 0 n) _ (lt-ltb 0 n some) free)

      room : (b : Batch) → batch_of_changes z lines ≡ Ok b → nat_lt limits.file_bytes (size (with_batch z b)) ≡ false → IsRemade limits (with_batch z b)
      room b comes fits =
          let many = events_many z lines b comes in
          let events = ltb-false limits.events (length (events_of z) + n) rooms.0 in
          let names = ltb-false NAMES_MAX (length (names_of z) + 2 * n) rooms.1 in
          record {
            names = batches_bring z lines b legal kept.names texts comes;
            second = kept.second;
            room = batches_leave_room limits z b kept.second kept.room (omega arith, omega arith, ltb-false limits.file_bytes (size (with_batch z b)) fits, tt);
          }

      by : (r : Result Batch (ℕ × ℕ)) → batch_of_changes z lines ≡ r → IfSome (with_new (record { limits = limits; index = Some z; table = table; next = next; indexes = indexes }) z make r).state.index (IsRemade limits)
      by (Err fault) comes = kept
      by (Ok b) comes =
          let m : MachineState = record { limits = limits; index = Some z; table = table; next = next; indexes = indexes } in
          let done : Answered = record {
            reply = headed (make (length b.events) (length (events_of z) + length b.events) (last_time_from 0 b.events));
            state = record { limits = limits; index = Some (with_batch z b); table = table; next = next; indexes = indexes };
          } in
          let big : Answered = refuse m (refusal.FileFull (size (with_batch z b)) limits.file_bytes) in
          choose (not (is_wide z.form) && not (are_silent b.events)) (refuse m refusal.OldFormat) (if nat_lt limits.file_bytes (size (with_batch z b)) then big else done) kept
          (full b comes (nat_lt limits.file_bytes (size (with_batch z b))) refl big done refl refl)
        where
          full : (b : Batch) → batch_of_changes z lines ≡ Ok b → (x : Bool) → nat_lt limits.file_bytes (size (with_batch z b)) ≡ x → (y w : Answered) → y.state.index ≡ Some z → w.state.index ≡ Some (with_batch z b)
              → IfSome (if x then y else w).state.index (IsRemade limits)
          full b comes true e y w p q = subst (λ (o : Option History). IfSome o (IsRemade limits)) (sym p) kept
          full b comes false e y w p q = subst (λ (o : Option History). IfSome o (IsRemade limits)) (sym q) (room b comes e)

          choose : (x : Bool) (y w : Answered) → IfSome y.state.index (IsRemade limits) → IfSome w.state.index (IsRemade limits) → IfSome (if x then y else w).state.index (IsRemade limits)
          choose true y w p q = p
          choose false y w p q = q

-- handles are no part of the index
handles_index : (m : MachineState) (all : List Stands) → (with_handles m all).index ≡ m.index
handles_index m [] = refl
handles_index m (stands ∷ more) = handles_index (with_handle m stands) more

-- ---- the commands

module _ (limits : Limits) (o : Option History) (table : List (ℕ × Stands)) (next : ℕ) (indexes : List ℕ) (given : IfSome o (λ z. IsLegal z × IsRemade limits z)) where
  stays : IfSome o (IsRemade limits)
  stays = by o given
    where
      by : (o : Option History) → IfSome o (λ z. IsLegal z × IsRemade limits z) → IfSome o (IsRemade limits)
      by None g = tt
      by (Some z) g = g.1

load_keeps : (limits : Limits) (o : Option History) (table : List (ℕ × Stands)) (next : ℕ) (indexes : List ℕ) → IfSome o (λ z. IsLegal z × IsRemade limits z)
    → (n : ℕ) (lines : List ScriptLine) (p : Planned) → length lines ≤ n → 1 ≤ n → refused (record { limits = limits; index = o; table = table; next = next; indexes = indexes }) (command.Load n) lines ≡ None
    → IfSome (accepted (record { limits = limits; index = o; table = table; next = next; indexes = indexes }) (command.Load n) lines p).state.index (IsRemade limits)
load_keeps limits None table next indexes g n lines p few some e =
    let a = passed (nat_lt (length lines) n) (refusal.ShortBatch (length lines) n) (refusal.NoIndex ∷ (when (nat_lt 0 n && is_full (record { limits = limits; index = None; table = table; next = next; indexes = indexes }) n) (refusal.HistoryFull 0 n) ++ [])) e in
    absurd (none-some refusal.NoIndex (sym a.1))
load_keeps limits (Some z) table next indexes g n lines p few some e =
    let m : MachineState = record { limits = limits; index = Some z; table = table; next = next; indexes = indexes } in
    let full = when (nat_lt 0 n && is_full m n) (refusal.HistoryFull (length (events_of z)) n) ++ [] in
    let loaded = when (is_some (span_of (events_of z))) refusal.AlreadyLoaded ++ full in
    let a = passed (nat_lt (length lines) n) (refusal.ShortBatch (length lines) n) loaded e in
    let b = passed (is_some (span_of (events_of z))) refusal.AlreadyLoaded full a.1 in
    let c = passed (nat_lt 0 n && is_full m n) (refusal.HistoryFull (length (events_of z)) n) [] b.1 in
    taken limits z table next indexes g.0 g.1 (λ events total last. head.Loaded events total last) (map change_by_text_in lines) n (by_text.0 lines)
    (let l = length-map lines change_by_text_in in omega arith) some c.0

append_keeps : (limits : Limits) (o : Option History) (table : List (ℕ × Stands)) (next : ℕ) (indexes : List ℕ) → IfSome o (λ z. IsLegal z × IsRemade limits z)
    → (n : ℕ) (lines : List ScriptLine) (p : Planned) → length lines ≤ n → 1 ≤ n → refused (record { limits = limits; index = o; table = table; next = next; indexes = indexes }) (command.Append n) lines ≡ None
    → IfSome (accepted (record { limits = limits; index = o; table = table; next = next; indexes = indexes }) (command.Append n) lines p).state.index (IsRemade limits)
append_keeps limits None table next indexes g n lines p few some e =
    let a = passed (nat_lt (length lines) n) (refusal.ShortBatch (length lines) n) (refusal.NoIndex ∷ (when (nat_lt 0 n && is_full (record { limits = limits; index = None; table = table; next = next; indexes = indexes }) n) (refusal.HistoryFull 0 n) ++ [])) e in
    absurd (none-some refusal.NoIndex (sym a.1))
append_keeps limits (Some z) table next indexes g n lines p few some e =
    let m : MachineState = record { limits = limits; index = Some z; table = table; next = next; indexes = indexes } in
    let full = when (nat_lt 0 n && is_full m n) (refusal.HistoryFull (length (events_of z)) n) ++ [] in
    let a = passed (nat_lt (length lines) n) (refusal.ShortBatch (length lines) n) full e in
    let c = passed (nat_lt 0 n && is_full m n) (refusal.HistoryFull (length (events_of z)) n) [] a.1 in
    taken limits z table next indexes g.0 g.1 (λ events total last. head.Appended events total last) (map change_by_text_in lines) n (by_text.0 lines)
    (let l = length-map lines change_by_text_in in omega arith) some c.0

workload_keeps : (limits : Limits) (o : Option History) (table : List (ℕ × Stands)) (next : ℕ) (indexes : List ℕ) → IfSome o (λ z. IsLegal z × IsRemade limits z)
    → (seed n : ℕ) (lines : List ScriptLine) (p : Planned) → 1 ≤ n → refused (record { limits = limits; index = o; table = table; next = next; indexes = indexes }) (command.Workload seed n) lines ≡ None
    → IfSome (accepted (record { limits = limits; index = o; table = table; next = next; indexes = indexes }) (command.Workload seed n) lines p).state.index (IsRemade limits)
workload_keeps limits None table next indexes g seed n lines p some e = absurd (none-some refusal.NoIndex (sym e))
workload_keeps limits (Some z) table next indexes g seed n lines p some e =
    let m : MachineState = record { limits = limits; index = Some z; table = table; next = next; indexes = indexes } in
    let full = when (nat_lt 0 n && is_full m n) (refusal.HistoryFull (length (events_of z)) n) ++ [] in
    let b = passed (is_some (span_of (events_of z))) refusal.AlreadyLoaded full e in
    let c = passed (nat_lt 0 n && is_full m n) (refusal.HistoryFull (length (events_of z)) n) [] b.1 in
    let graph = graph_with z (batch_of_changes z (generated seed n)) in
    taken limits z table next indexes g.0 g.1 (λ events total last. head.Generated events last (counts_of graph).nodes (counts_of graph).edges) (generated seed n) n (by_text.1 seed n)
    (let l = generated_many n 0 seed in omega arith) some c.0

upgrade_keeps : (limits : Limits) (o : Option History) (table : List (ℕ × Stands)) (next : ℕ) (indexes : List ℕ) → IfSome o (λ z. IsLegal z × IsRemade limits z)
    → (lines : List ScriptLine) (p : Planned) → refused (record { limits = limits; index = o; table = table; next = next; indexes = indexes }) command.Upgrade lines ≡ None
    → IfSome (accepted (record { limits = limits; index = o; table = table; next = next; indexes = indexes }) command.Upgrade lines p).state.index (IsRemade limits)
upgrade_keeps limits None table next indexes g lines p e = absurd (none-some refusal.NoIndex (sym e))
upgrade_keeps limits (Some z) table next indexes g lines p e =
    let a = passed (is_wide z.form) refusal.NewFormat [] e in
    absurd (false≢true (sym a.0 ∙ ap is_wide g.1.second))

accepted_keeps : (limits : Limits) (o : Option History) (table : List (ℕ × Stands)) (next : ℕ) (indexes : List ℕ) → IfSome o (λ z. IsLegal z × IsRemade limits z)
    → (c : Command) (lines : List ScriptLine) (p : Planned) → length lines ≤ following c → CountIsInRange c → refused (record { limits = limits; index = o; table = table; next = next; indexes = indexes }) c lines ≡ None
    → IfSome (accepted (record { limits = limits; index = o; table = table; next = next; indexes = indexes }) c lines p).state.index (IsRemade limits)
accepted_keeps limits o table next indexes g (command.Create l k f) lines p few count e = record { names = tt; second = refl; room = tt }
accepted_keeps limits o table next indexes g (command.CreateSkewed l k r) lines p few count e = record { names = tt; second = refl; room = tt }
accepted_keeps limits o table next indexes g command.Upgrade lines p few count e = upgrade_keeps limits o table next indexes g lines p e
accepted_keeps limits o table next indexes g (command.Load n) lines p few count e = load_keeps limits o table next indexes g n lines p few count.0 e
accepted_keeps limits o table next indexes g (command.Append n) lines p few count e = append_keeps limits o table next indexes g n lines p few count.0 e
accepted_keeps limits o table next indexes g (command.Workload seed n) lines p few count e = workload_keeps limits o table next indexes g seed n lines p count.0 e
accepted_keeps limits o table next indexes g (command.Several cols times n) lines p few count e =
    let m : MachineState = record { limits = limits; index = o; table = table; next = next; indexes = indexes } in
    subst (λ (i : Option History). IfSome i (IsRemade limits)) (sym (handles_index m (overlays cols (base_for m cols (flat_map (λ graft. graft.steps) p.grafts)) (take n times)))) (stays limits o table next indexes g)
accepted_keeps limits o table next indexes g c lines p few count e = stays limits o table next indexes g

pub answers_keep : AnswersKeepRemade
answers_keep m c lines p few count given = by (refused m c lines) refl
  where
    by : (r : Option Refusal) → refused m c lines ≡ r → IfSome (answer_by r m c lines p).state.index (IsRemade m.limits)
    by (Some r) e = stays m.limits m.index m.table m.next m.indexes given
    by None e = accepted_keeps m.limits m.index m.table m.next m.indexes given c lines p few count e
