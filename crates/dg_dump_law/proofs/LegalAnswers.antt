-- Each answer of the machine keeps a legal history of the second form legal, and leaves the limits.
use Rattle.std.proofs.Common.{◌≡◌, ℕ, ◌+◌, ◌*◌, ◌≤◌, Bool, true, false, ◌&&◌, List, [], ◌∷◌, ◌++◌, length, map, take, drop, Option, Some, None, Result, Ok, Err, IfSome, nat_le, refl, sym, ap, subst, ◌∙◌, arith, length-append}
use Rattle.std.specs.Prelude.{◌||◌, if◌then◌else◌, is_some, nat_lt, not}
use Rattle.std.specs.List.{All, flat_map}
use Rattle.std.proofs.lemmas.Bool.{false≢true, lt-ltb, ltb-false}
use Rattle.std.proofs.lemmas.List.{length-map}
use Rattle.std.proofs.lemmas.Option.{none-some}
use Rattle.dg_batch.proofs.ChangeGrammarRanges.{SaidFits, lines_fit}
use Rattle.dg_batch.proofs.GeneratedChangeRanges.{generated_fit, generated_length}
use Rattle.dg_batch.proofs.LegalHistory.{batch_next, legal_next}
use Rattle.dg_changes.specs.Batch.{changes_after, names_after}
use Rattle.dg_changes.specs.ChangeGrammar.{ChangeByText, Plain, Sends, Sets_edge, Sets_node, Unsets_edge, Unsets_node, WhatByText, change_by_text_in, named}
use Rattle.dg_changes.specs.GeneratedChanges.{batch_of_changes, generated}
use Rattle.dg_graph.specs.declared.element.Element.{Element}
use Rattle.dg_graph.specs.declared.event.Change.{Change}
use Rattle.dg_graph.specs.declared.event.Event.{Event}
use Rattle.dg_graph.specs.declared.function.Function.{Function}
use Rattle.dg_graph.specs.declared.function.Function.TheVariants.{Balanced, Intersection, Skewed, Union}
use Rattle.dg_graph.specs.declared.limits.TheConstants.{SKEW_MAX}
use Rattle.dg_graph.specs.CompletedChanges.{completed, on_value}
use Rattle.dg_graph.specs.Replay.{replay}
use Rattle.dg_graph.proofs.Completions.{AllCome, all_come}
use Rattle.dg_history.specs.declared.form.Form.TheVariants as form
use Rattle.dg_history.specs.declared.limits.TheConstants.{BATCH_LINES_MAX, EVENTS_MAX}
use Rattle.dg_history.specs.History.{Batch, History, are_parameters, earliest_next, empty_history, events_of, is_function, is_wide, names_of, span_of, with_batch, with_upgrade}
use Rattle.dg_history.specs.LegalHistory.{IsLegal, are_silent}
use Rattle.dg_index.specs.FileOfHistory.{size}
use Rattle.dg_machine.specs.declared.command.Command.{Command}
use Rattle.dg_machine.specs.declared.command.Command.TheVariants as command
use Rattle.dg_machine.specs.declared.limits.Limits.{Limits}
use Rattle.dg_machine.specs.declared.reply.Head.{Head}
use Rattle.dg_machine.specs.declared.reply.Head.TheVariants as head
use Rattle.dg_machine.specs.declared.reply.Refusal.{Refusal}
use Rattle.dg_machine.specs.declared.reply.Refusal.TheVariants as refusal
use Rattle.dg_machine.specs.declared.stands.Stands.{Stands}
use Rattle.dg_machine.specs.Answer.{Answered, accepted, answer, answer_by, base_for, graph_with, overlays, refuse, with_handle, with_handles, with_new}
use Rattle.dg_machine.specs.MachineState.{IsWithin, MachineState, history_in}
use Rattle.dg_machine.specs.Needs.{earliest, is_full, refused, share_of, when}
use Rattle.dg_machine.specs.Planning.{Planned}
use Rattle.dg_query.specs.Queries.{counts_of}
use Rattle.dg_text.specs.declared.limits.TheConstants.{NAMES_MAX}
use Rattle.dg_text.specs.Lines.{ScriptLine}
use Rattle.dg_text.specs.Names.{added, number_of}
use Rattle.dg_machine.specs.Needs.{following}
use Rattle.dg_dump_law.proofs.BatchCounts.{CountsBatch}

-- ---- tests that no refusal passed

-- where nothing is refused, the first test fails, and nothing is refused behind it
passed : (b : Bool) (r : Refusal) (rest : List Refusal) → earliest (when b r ++ rest) ≡ None → (b ≡ false) × (earliest rest ≡ None)
passed true r rest e = absurd (none-some r (sym e))
passed false r rest e = (refl, e)

neither : (a b : Bool) → (a || b) ≡ false → (a ≡ false) × (b ≡ false)
neither true b e = absurd (false≢true (sym e))
neither false b e = (refl, e)

behind_true : (a b : Bool) → a ≡ true → (a && b) ≡ false → b ≡ false
behind_true true b t e = e
behind_true false b t e = absurd (false≢true t)

both_hold : (a b : Bool) → not (a && b) ≡ false → (a ≡ true) × (b ≡ true)
both_hold true true e = (refl, refl)
both_hold true false e = absurd (false≢true (sym e))
both_hold false b e = absurd (false≢true (sym e))

-- ---- what a batch brings

added_long : (names : List (List ℕ)) (text : List ℕ) → length (added names text) ≤ length names + 1
added_long names text = by (is_some (number_of names text))
  where
    by : (b : Bool) → length (if b then names else names ++ text ∷ []) ≤ length names + 1
    by true = omega arith
    by false = omega (arith, length-append names (text ∷ []))

named_long : (names : List (List ℕ)) (asked : WhatByText) → length (named names asked) ≤ length names + 2
named_long names (Plain w) = omega arith
named_long names (Sets_node id key value) = omega (arith, added_long (added names key) value, added_long names key)
named_long names (Unsets_node id key) = omega (arith, added_long names key)
named_long names (Sets_edge id key value) = omega (arith, added_long (added names key) value, added_long names key)
named_long names (Unsets_edge id key) = omega (arith, added_long names key)
named_long names (Sends src dst value) = omega (arith, added_long names value)

-- two names a line at most
names_long : (names : List (List ℕ)) (lines : List (Option ChangeByText)) → length (names_after names lines) ≤ length names + 2 * length lines
names_long names [] = omega arith
names_long names (None ∷ lines) = omega (arith, names_long names lines)
names_long names (Some said ∷ lines) = omega (arith, names_long (named names said.asked) lines, named_long names said.asked)

-- changes that come to events are there
changes_in : (earliest : ℕ) (set : List Element) (changes : List (Option Change)) (events : List Event) → AllCome earliest set changes events
    → (cs : List Change) × (changes ≡ map (λ (c : Change). Some c) cs)
changes_in earliest set [] events h = ([], refl)
changes_in earliest set (None ∷ changes) events h = absurd h
changes_in earliest set (Some c ∷ changes) [] h = absurd h
changes_in earliest set (Some c ∷ changes) (e ∷ events) h =
    let rest = changes_in e.time _ changes events h.1 in
    (c ∷ rest.0, ap (λ (cs : List (Option Change)). Some c ∷ cs) rest.1)

-- what the next batch of a legal history of the second form is asked for, and that there is room for it
record IsAsked (z : History) (asked : List (Option ChangeByText)) : Type 0 where
  fit : All (λ s. IfSome s SaidFits) asked
  second : z.form ≡ form.Two
  some : 1 ≤ length asked
  few : length asked ≤ BATCH_LINES_MAX
  events : length (events_of z) + length asked ≤ EVENTS_MAX
  names : length (names_of z) + 2 * length asked ≤ NAMES_MAX

legal_batch : (z : History) (asked : List (Option ChangeByText)) (b : Batch) → IsLegal z → IsAsked z asked → batch_of_changes z asked ≡ Ok b → IsLegal (with_batch z b)
legal_batch z asked b legal a comes = by (completed 1 (earliest_next (span_of (events_of z))) (replay (events_of z)) (changes_after (names_of z) asked)) refl comes
  where
    by : (r : Result (List Event) (ℕ × ℕ)) → completed 1 (earliest_next (span_of (events_of z))) (replay (events_of z)) (changes_after (names_of z) asked) ≡ r
        → on_value (λ (events : List Event). record { names = drop (length (names_of z)) (names_after (names_of z) asked); events = events }) r ≡ Ok b
        → IsLegal (with_batch z b)
    by (Err x) come h = cc
    by (Ok events) come h =
        let grown : List (List ℕ) = names_after (names_of z) asked in
        let same : batch_next z grown events ≡ b = cc in
        let cs = changes_in (earliest_next (span_of (events_of z))) (replay (events_of z)) (changes_after (names_of z) asked) events
        (all_come 1 (earliest_next (span_of (events_of z))) (replay (events_of z)) (changes_after (names_of z) asked) events come) in
        subst (λ (b : Batch). IsLegal (with_batch z b)) same
        (legal_next z asked cs.0 grown events legal (record {
          fit = a.fit;
          changes_are = cs.1;
          names_are = refl;
          comes = subst (λ (changes : List (Option Change)). completed 1 (earliest_next (span_of (events_of z))) (replay (events_of z)) changes ≡ Ok events) cs.1 come;
          some = a.some;
          few = a.few;
          room = a.events;
          few_names = omega (arith, names_long (names_of z) asked, a.names);
          form = λ narrow. absurd (false≢true (sym narrow ∙ ap is_wide a.second));
        }))

-- ---- the answer to a batch

either_state : (P : MachineState → Type 0) (b : Bool) (x y : Answered) → P x.state → P y.state → P (if b then x else y).state
either_state P true x y p q = p
either_state P false x y p q = q

-- it leaves the state, or is with the batch
new_state : (P : MachineState → Type 0) (m : MachineState) (z : History) (make : ℕ → ℕ → ℕ → Head) (due : Result Batch (ℕ × ℕ)) → P m
    → ((b : Batch) → due ≡ Ok b → P (record m { index = Some (with_batch z b) })) → P (with_new m z make due).state
new_state P m z make (Err fault) stays more = stays
new_state P m z make (Ok b) stays more =
    either_state P (not (is_wide z.form) && not (are_silent b.events)) (refuse m refusal.OldFormat) _ stays
    (either_state P (nat_lt m.limits.file_bytes (size (with_batch z b))) (refuse m _) (record { reply = _; state = record m { index = Some (with_batch z b) } }) stays (more b refl))

handles_index : (m : MachineState) (all : List Stands) → (with_handles m all).index ≡ m.index
handles_index m [] = refl
handles_index m (stands ∷ more) = handles_index (with_handle m stands) more

handles_limits : (m : MachineState) (all : List Stands) → (with_handles m all).limits ≡ m.limits
handles_limits m [] = refl
handles_limits m (stands ∷ more) = handles_limits (with_handle m stands) more

-- ---- the limits

accepted_limits : (m : MachineState) (c : Command) (lines : List ScriptLine) (p : Planned) → (accepted m c lines p).state.limits ≡ m.limits
accepted_limits m command.Upgrade lines p =
    either_state (λ (k : MachineState). k.limits ≡ m.limits) (nat_lt m.limits.file_bytes (size (with_upgrade (history_in m.index)))) (refuse m _)
    (record { reply = _; state = record m { index = Some (with_upgrade (history_in m.index)) } }) refl refl
accepted_limits m (command.Load n) lines p = new_state (λ (k : MachineState). k.limits ≡ m.limits) m (history_in m.index) (λ events total last. head.Loaded events total last) (batch_of_changes (history_in m.index) (map change_by_text_in lines)) refl (λ b is. refl)
accepted_limits m (command.Append n) lines p = new_state (λ (k : MachineState). k.limits ≡ m.limits) m (history_in m.index) (λ events total last. head.Appended events total last) (batch_of_changes (history_in m.index) (map change_by_text_in lines)) refl (λ b is. refl)
accepted_limits m (command.Workload seed n) lines p =
    let graph = graph_with (history_in m.index) (batch_of_changes (history_in m.index) (generated seed n)) in
    new_state (λ (k : MachineState). k.limits ≡ m.limits) m (history_in m.index) (λ events total last. head.Generated events last (counts_of graph).nodes (counts_of graph).edges) (batch_of_changes (history_in m.index) (generated seed n)) refl (λ b is. refl)
accepted_limits m (command.Several cols times n) lines p = handles_limits m (overlays cols (base_for m cols (flat_map (λ graft. graft.steps) p.grafts)) (take n times))
accepted_limits m c lines p = refl

pub answer_limits : (m : MachineState) (c : Command) (lines : List ScriptLine) (p : Planned) → (answer m c lines p).state.limits ≡ m.limits
answer_limits m c lines p = by (refused m c lines)
  where
    by : (r : Option Refusal) → (answer_by r m c lines p).state.limits ≡ m.limits
    by (Some r) = refl
    by None = accepted_limits m c lines p

-- ---- commands that leave the index

abbrev pub changes_index : Command → Bool
changes_index (command.Create l k function) = true
changes_index (command.CreateSkewed l k r) = true
changes_index command.Upgrade = true
changes_index (command.Load n) = true
changes_index (command.Append n) = true
changes_index (command.Workload seed n) = true
changes_index c = false

accepted_index : (m : MachineState) (c : Command) (lines : List ScriptLine) (p : Planned) → changes_index c ≡ false → (accepted m c lines p).state.index ≡ m.index
accepted_index m (command.Create l k function) lines p e = absurd (false≢true (sym e))
accepted_index m (command.CreateSkewed l k r) lines p e = absurd (false≢true (sym e))
accepted_index m command.Upgrade lines p e = absurd (false≢true (sym e))
accepted_index m (command.Load n) lines p e = absurd (false≢true (sym e))
accepted_index m (command.Append n) lines p e = absurd (false≢true (sym e))
accepted_index m (command.Workload seed n) lines p e = absurd (false≢true (sym e))
accepted_index m (command.Several cols times n) lines p e = handles_index m (overlays cols (base_for m cols (flat_map (λ graft. graft.steps) p.grafts)) (take n times))
accepted_index m c lines p e = refl

pub answer_index : (m : MachineState) (c : Command) (lines : List ScriptLine) (p : Planned) → changes_index c ≡ false → (answer m c lines p).state.index ≡ m.index
answer_index m c lines p e = by (refused m c lines)
  where
    by : (r : Option Refusal) → (answer_by r m c lines p).state.index ≡ m.index
    by (Some r) = refl
    by None = accepted_index m c lines p e

-- ---- a history without a batch

function_fits : (f : Function) → nat_le (share_of f) SKEW_MAX ≡ true → is_function f ≡ true
function_fits Intersection e = refl
function_fits Union e = refl
function_fits Balanced e = refl
function_fits (Skewed r) e = e

empty_legal : (l k : ℕ) (f : Function) → are_parameters l k ≡ true → is_function f ≡ true → IsLegal (empty_history form.Two (record { l = l; k = k; function = f }))
empty_legal l k f parameters function = record {
  parameters = parameters;
  function = function;
  form = refl;
  silent = refl;
  batches = tt;
  names = refl;
  few_names = omega arith;
  few = omega arith;
}

-- ---- a legal history of the second form, or no index

abbrev pub IsKept : Option History → Type 0
IsKept index = IfSome index (λ z. IsLegal z × (z.form ≡ form.Two))

module _ (limits : Limits) (within : IsWithin limits) (table : List (ℕ × Stands)) (next : ℕ) (indexes : List ℕ) where
  abbrev at : Option History → MachineState
  at index = record { limits = limits; index = index; table = table; next = next; indexes = indexes }

  created : (index : Option History) (l k share : ℕ) (f : Function) → (nat_le share SKEW_MAX ≡ true → is_function f ≡ true)
      → earliest (when (is_some index) refusal.IndexExists ++ (when (not (are_parameters l k && nat_le share SKEW_MAX)) refusal.Parameters ++ [])) ≡ None
      → IsLegal (empty_history form.Two (record { l = l; k = k; function = f }))
  created index l k share f fits e =
      let none = passed (is_some index) refusal.IndexExists (when (not (are_parameters l k && nat_le share SKEW_MAX)) refusal.Parameters ++ []) e in
      let within = passed (not (are_parameters l k && nat_le share SKEW_MAX)) refusal.Parameters [] none.1 in
      let both = both_hold (are_parameters l k) (nat_le share SKEW_MAX) within.0 in
      empty_legal l k f both.0 (fits both.1)

  batched : (z : History) (make : ℕ → ℕ → ℕ → Head) (asked : List (Option ChangeByText)) (n : ℕ) → IsLegal z → z.form ≡ form.Two → All (λ s. IfSome s SaidFits) asked
      → length asked ≡ n → 1 ≤ n → n ≤ BATCH_LINES_MAX → (nat_lt 0 n && is_full (at (Some z)) n) ≡ false
      → IsKept (with_new (at (Some z)) z make (batch_of_changes z asked)).state.index
  batched z make asked n legal second fit many some few free =
      let rooms = neither (nat_lt limits.events (length (events_of z) + n)) (nat_lt NAMES_MAX (length (names_of z) + 2 * n)) (behind_true (nat_lt 0 n) _ (lt-ltb 0 n some) free) in
      let events : length (events_of z) + n ≤ limits.events = ltb-false limits.events (length (events_of z) + n) rooms.0 in
      let names : length (names_of z) + 2 * n ≤ NAMES_MAX = ltb-false NAMES_MAX (length (names_of z) + 2 * n) rooms.1 in
      let a : IsAsked z asked = record {
        fit = fit;
        second = second;
        some = omega (arith, many, some);
        few = omega (arith, many, few);
        events = omega (arith, many, events, within.events);
        names = omega (arith, many, names);
      } in
      new_state (λ (k : MachineState). IsKept k.index) (at (Some z)) z make (batch_of_changes z asked) (legal, second) (λ b is. (legal_batch z asked b legal a is, second))

  -- a batch of lines: as many as are told
  lined : (z : History) (make : ℕ → ℕ → ℕ → Head) (lines : List ScriptLine) (n : ℕ) → IsLegal z → z.form ≡ form.Two
      → length lines ≤ n → nat_lt (length lines) n ≡ false → 1 ≤ n → n ≤ BATCH_LINES_MAX → (nat_lt 0 n && is_full (at (Some z)) n) ≡ false
      → IsKept (with_new (at (Some z)) z make (batch_of_changes z (map change_by_text_in lines))).state.index
  lined z make lines n legal second most least some few free =
      batched z make (map change_by_text_in lines) n legal second (lines_fit lines)
      (omega (arith, length-map lines change_by_text_in, most, ltb-false (length lines) n least)) some few free

  loaded : (index : Option History) (n : ℕ) (lines : List ScriptLine) (p : Planned) → IsKept index → length lines ≤ n → 1 ≤ n → n ≤ BATCH_LINES_MAX
      → refused (at index) (command.Load n) lines ≡ None → IsKept (accepted (at index) (command.Load n) lines p).state.index
  loaded None n lines p g most some few e =
      let a = passed (nat_lt (length lines) n) (refusal.ShortBatch (length lines) n) (refusal.NoIndex ∷ (when (nat_lt 0 n && is_full (at None) n) (refusal.HistoryFull 0 n) ++ [])) e in
      absurd (none-some refusal.NoIndex (sym a.1))
  loaded (Some z) n lines p g most some few e =
      let full = when (nat_lt 0 n && is_full (at (Some z)) n) (refusal.HistoryFull (length (events_of z)) n) ++ [] in
      let a = passed (nat_lt (length lines) n) (refusal.ShortBatch (length lines) n) (when (is_some (span_of (events_of z))) refusal.AlreadyLoaded ++ full) e in
      let b = passed (is_some (span_of (events_of z))) refusal.AlreadyLoaded full a.1 in
      let c = passed (nat_lt 0 n && is_full (at (Some z)) n) (refusal.HistoryFull (length (events_of z)) n) [] b.1 in
      lined z (λ events total last. head.Loaded events total last) lines n g.0 g.1 most a.0 some few c.0

  appended : (index : Option History) (n : ℕ) (lines : List ScriptLine) (p : Planned) → IsKept index → length lines ≤ n → 1 ≤ n → n ≤ BATCH_LINES_MAX
      → refused (at index) (command.Append n) lines ≡ None → IsKept (accepted (at index) (command.Append n) lines p).state.index
  appended None n lines p g most some few e =
      let a = passed (nat_lt (length lines) n) (refusal.ShortBatch (length lines) n) (refusal.NoIndex ∷ (when (nat_lt 0 n && is_full (at None) n) (refusal.HistoryFull 0 n) ++ [])) e in
      absurd (none-some refusal.NoIndex (sym a.1))
  appended (Some z) n lines p g most some few e =
      let full = when (nat_lt 0 n && is_full (at (Some z)) n) (refusal.HistoryFull (length (events_of z)) n) ++ [] in
      let a = passed (nat_lt (length lines) n) (refusal.ShortBatch (length lines) n) full e in
      let c = passed (nat_lt 0 n && is_full (at (Some z)) n) (refusal.HistoryFull (length (events_of z)) n) [] a.1 in
      lined z (λ events total last. head.Appended events total last) lines n g.0 g.1 most a.0 some few c.0

  made : (index : Option History) (seed n : ℕ) (lines : List ScriptLine) (p : Planned) → IsKept index → 1 ≤ n → n ≤ BATCH_LINES_MAX
      → refused (at index) (command.Workload seed n) lines ≡ None → IsKept (accepted (at index) (command.Workload seed n) lines p).state.index
  made None seed n lines p g some few e = absurd (none-some refusal.NoIndex (sym e))
  made (Some z) seed n lines p g some few e =
      let full = when (nat_lt 0 n && is_full (at (Some z)) n) (refusal.HistoryFull (length (events_of z)) n) ++ [] in
      let b = passed (is_some (span_of (events_of z))) refusal.AlreadyLoaded full e in
      let c = passed (nat_lt 0 n && is_full (at (Some z)) n) (refusal.HistoryFull (length (events_of z)) n) [] b.1 in
      let graph = graph_with z (batch_of_changes z (generated seed n)) in
      batched z (λ events total last. head.Generated events last (counts_of graph).nodes (counts_of graph).edges) (generated seed n) n g.0 g.1
      (generated_fit seed n few) (generated_length seed n) some few c.0

  upgraded : (index : Option History) (lines : List ScriptLine) (p : Planned) → IsKept index → refused (at index) command.Upgrade lines ≡ None
      → IsKept (accepted (at index) command.Upgrade lines p).state.index
  upgraded None lines p g e = absurd (none-some refusal.NoIndex (sym e))
  upgraded (Some z) lines p g e =
      let a = passed (is_wide z.form) refusal.NewFormat [] e in
      absurd (false≢true (sym a.0 ∙ ap is_wide g.1))

  accepted_legal : (index : Option History) (c : Command) (lines : List ScriptLine) (p : Planned) → IsKept index → CountsBatch c → length lines ≤ following c
      → refused (at index) c lines ≡ None → IsKept (accepted (at index) c lines p).state.index
  accepted_legal index (command.Create l k f) lines p g count most e = (created index l k (share_of f) f (function_fits f) e, refl)
  accepted_legal index (command.CreateSkewed l k r) lines p g count most e = (created index l k r (Skewed r) (λ fits. fits) e, refl)
  accepted_legal index command.Upgrade lines p g count most e = upgraded index lines p g e
  accepted_legal index (command.Load n) lines p g count most e = loaded index n lines p g most count.0 count.1 e
  accepted_legal index (command.Append n) lines p g count most e = appended index n lines p g most count.0 count.1 e
  accepted_legal index (command.Workload seed n) lines p g count most e = made index seed n lines p g count.0 count.1 e
  accepted_legal index (command.Several cols times n) lines p g count most e = subst IsKept (sym (handles_index (at index) (overlays cols (base_for (at index) cols (flat_map (λ graft. graft.steps) p.grafts)) (take n times)))) g
  accepted_legal index c lines p g count most e = g

pub answer_legal : (m : MachineState) (c : Command) (lines : List ScriptLine) (p : Planned) → IsWithin m.limits → IsKept m.index → CountsBatch c → length lines ≤ following c
    → IsKept (answer m c lines p).state.index
answer_legal m c lines p within g count most = by (refused m c lines) refl
  where
    by : (r : Option Refusal) → refused m c lines ≡ r → IsKept (answer_by r m c lines p).state.index
    by (Some r) e = g
    by None e = accepted_legal m.limits within m.table m.next m.indexes m.index c lines p g count most e
