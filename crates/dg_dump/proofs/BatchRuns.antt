-- One command of the script, and the step of the machine over it.
use Rattle.std.proofs.Common.{◌≡◌, ℕ, ◌+◌, ◌*◌, ◌^◌, ◌<◌, ◌≤◌, true, false, not, List, [], ◌∷◌, ◌++◌, length, take, drop, codes, decimal, Some, None, Ok, refl, sym, ap, subst, ◌∙◌, arith}
use Rattle.std.specs.Prelude.{◌==◌, ◌&&◌, ◌||◌, if◌then◌else◌, is_some, nat_le, nat_lt, option_and_then, slice_index}
use Rattle.std.specs.List.{All, join_with_byte}
use Rattle.std.specs.Option.{option_or}
use Rattle.std.proofs.Math.Seq.{drop-append_seam, take-append_seam}
use Rattle.std.proofs.lemmas.Bool.{le-ltb, leb-true, lt-ltb, ne_eqb}
use Rattle.std.proofs.lemmas.List.Elements.{All-cons, All-nil}
use Rattle.dg_graph.specs.declared.function.Function.{Function}
use Rattle.dg_graph.specs.declared.function.Function.TheVariants.{Intersection, Union, Balanced, Skewed}
use Rattle.dg_graph.specs.declared.limits.TheConstants.{SKEW_MAX}
use Rattle.dg_text.specs.declared.limits.TheConstants.{NAMES_MAX}
use Rattle.dg_text.specs.Lines.{ScriptLine, Text}
use Rattle.dg_text.specs.Verbs.{four_words, none_more, read_by}
use Rattle.dg_changes.specs.Batch.{batch_of}
use Rattle.dg_history.specs.declared.form.Form.TheVariants as form
use Rattle.dg_history.specs.declared.limits.TheConstants.{BATCH_LINES_MAX}
use Rattle.dg_history.specs.declared.params.Params.{Params}
use Rattle.dg_history.specs.History.{Batch, History, are_parameters, empty_history, events_of, is_function, last_time_from, names_of, span_of, with_batch}
use Rattle.dg_history.proofs.ParameterRanges.{in_range}
use Rattle.dg_index.specs.FileOfHistory.{size}
use Rattle.dg_machine.specs.declared.command.Command.{Command}
use Rattle.dg_machine.specs.declared.command.Command.TheVariants as command
use Rattle.dg_machine.specs.declared.limits.Limits.{Limits}
use Rattle.dg_machine.specs.declared.reply.Head.{Head}
use Rattle.dg_machine.specs.declared.reply.Head.TheVariants as head
use Rattle.dg_machine.specs.declared.reply.Refusal.TheVariants as refusal
use Rattle.dg_machine.specs.Answer.{Answered, IsPlannedBy, answer, answer_by, accepted, headed, is_refusal, refuse, with_new}
use Rattle.dg_machine.specs.CommandGrammar.{command_of, command_verbs, function_of, n32_of, skewed_of}
use Rattle.dg_machine.specs.MachineState.{MachineState, machine_at}
use Rattle.dg_machine.specs.Needs.{earliest, following, is_full, refused, share_of, when}
use Rattle.dg_machine.specs.Planning.{IsPlanned, no_plan}
use Rattle.dg_machine.specs.Run.{Answers, Run, Step, last_state}
use Rattle.dg_machine.specs.Script.{Asked, Command_is, Skipped, entries_of, first_entry, is_skipped, meaning, read_as}
use Rattle.dg_machine.proofs.ScriptEntries.{entries_step}
use Rattle.dg_dump.specs.ScriptOfHistory.{batch_command, create_line}
use Rattle.dg_dump.proofs.LinesBack.{IsWord, above, number_back, number_is_word, word_back}

-- ---- runs

-- a run over these lines from one state to another, in which each reply is ok
pub record Goes (m : MachineState) (lines : List ScriptLine) (n : MachineState) : Type 0 where
  pub answers : List Answered
  pub run : Run m (entries_of lines) answers
  pub ok : All (λ (a : Answered). is_refusal a.reply ≡ false) answers
  pub ends : last_state m answers ≡ n

pub goes_nowhere : (m : MachineState) → Goes m [] m
goes_nowhere m = record { answers = []; run = tt; ok = All-nil (λ (a : Answered). is_refusal a.reply ≡ false); ends = refl }

-- a command with the lines that follow it, and the lines behind them
entry_here : (line : ScriptLine) (c : Command) (got rest : List ScriptLine) → meaning line ≡ Command_is c → following c ≡ length got
    → entries_of (line ∷ got ++ rest) ≡ Asked c got ∷ entries_of rest
entry_here line c got rest is count =
    entries_step command_of line (got ++ rest)
    ∙ ap (λ x. (first_entry x (got ++ rest)).0 ++ entries_of (first_entry x (got ++ rest)).1) is
    ∙ ap (λ n. Asked c (take n (got ++ rest)) ∷ entries_of (drop n (got ++ rest))) count
    ∙ (λ i. Asked c (take-append_seam got rest i) ∷ entries_of (drop-append_seam got rest i))

-- one more command in front: its answer is ok, and the run goes on from the state behind it
pub goes_on : (m n : MachineState) (line : ScriptLine) (c : Command) (got rest : List ScriptLine) (a : Answered) → meaning line ≡ Command_is c → following c ≡ length got
    → refused m c got ≡ None → (IsPlanned m c no_plan) → accepted m c got no_plan ≡ a → is_refusal a.reply ≡ false
    → Goes a.state rest n → Goes m (line ∷ got ++ rest) n
goes_on m n line c got rest a is count free planned says ok g =
    let answers : answer m c got no_plan ≡ a = ap (λ o. answer_by o m c got no_plan) free ∙ says in
    let by : IsPlannedBy (refused m c got) m c no_plan = subst (λ o. IsPlannedBy o m c no_plan) (sym free) planned in
    let step : Step m (Asked c got) a.reply a.state = subst (λ (b : Answered). Step m (Asked c got) b.reply b.state) answers (Answers c got no_plan by) in
    record {
      answers = a ∷ g.answers;
      run = subst (λ es. Run m es (a ∷ g.answers)) (sym (entry_here line c got rest is count)) (step, g.run);
      ok = All-cons (λ (a : Answered). is_refusal a.reply ≡ false) a g.answers ok g.ok;
      ends = g.ends;
    }

-- a line with a byte, whose first is no `#`, is not skipped
not_skipped : (line : List ℕ) → 1 ≤ length line → (slice_index line 0 == 35) ≡ false → is_skipped line ≡ false
not_skipped line some plain = λ i. ne_eqb (length line) 0 (λ e. omega arith) i || plain i

pub meant : (line : List ℕ) (c : Command) → 1 ≤ length line → (slice_index line 0 == 35) ≡ false → command_of line ≡ Some c → meaning (Text line) ≡ Command_is c
meant line c some plain is = λ i. if not_skipped line some plain i then Skipped else read_as line (is i)

-- ---- a batch

pub load_is : (n : ℕ) → 1 ≤ n → n ≤ BATCH_LINES_MAX → command_of (batch_command (codes "load") n) ≡ Some (command.Load n)
load_is n some few =
    ap (read_by command_verbs) (word_back (codes "load" ∷ []) (decimal n) (above (codes "load") refl, tt) (number_is_word n (omega arith)))
    ∙ ap (option_and_then (λ v. none_more (command.Load v) [])) (number_back n 1 BATCH_LINES_MAX some few (omega arith))

pub append_is : (n : ℕ) → 1 ≤ n → n ≤ BATCH_LINES_MAX → command_of (batch_command (codes "append") n) ≡ Some (command.Append n)
append_is n some few =
    ap (read_by command_verbs) (word_back (codes "append" ∷ []) (decimal n) (above (codes "append") refl, tt) (number_is_word n (omega arith)))
    ∙ ap (option_and_then (λ v. none_more (command.Append v) [])) (number_back n 1 BATCH_LINES_MAX some few (omega arith))

-- the history of these batches in a file of the second form
abbrev pub front_of : Params → List Batch → History
front_of params done = record { params = params; form = form.Two; batches = done }

module _ (limits : Limits) (params : Params) (done : List Batch) (b : Batch) (got : List ScriptLine) (all : length got ≡ length b.events) (some : 1 ≤ length b.events)
    (room : length (events_of (front_of params done)) + length b.events ≤ limits.events)
    (names_room : length (names_of (front_of params done)) + 2 * length b.events ≤ NAMES_MAX)
    (file_room : size (with_batch (front_of params done) b) ≤ limits.file_bytes)
    (comes : batch_of (front_of params done) got ≡ Ok b) where
  none_short : nat_lt (length got) (length b.events) ≡ false
  none_short = le-ltb (length got) (length b.events) (omega arith)

  none_full : (nat_lt 0 (length b.events) && is_full (machine_at limits (Some (front_of params done))) (length b.events)) ≡ false
  none_full =
      λ i. lt-ltb 0 (length b.events) some i
      && (le-ltb limits.events (length (events_of (front_of params done)) + length b.events) room i || le-ltb NAMES_MAX (length (names_of (front_of params done)) + 2 * length b.events) names_room i)

  -- what is answered with this head
  behind : (ℕ → ℕ → ℕ → Head) → Answered
  behind make = record {
    reply = headed (make (length b.events) (length (events_of (front_of params done)) + length b.events) (last_time_from 0 b.events));
    state = machine_at limits (Some (with_batch (front_of params done) b));
  }

  says : (make : ℕ → ℕ → ℕ → Head) → with_new (machine_at limits (Some (front_of params done))) (front_of params done) make (batch_of (front_of params done) got) ≡ behind make
  unfolding behind
  says make =
      let needed = size (with_batch (front_of params done) b) in
      ap (with_new (machine_at limits (Some (front_of params done))) (front_of params done) make) comes
      ∙ ap (λ x. if x then refuse (machine_at limits (Some (front_of params done))) (refusal.FileFull needed limits.file_bytes) else behind make) (le-ltb limits.file_bytes needed file_room)

  load_free : is_some (span_of (events_of (front_of params done))) ≡ false → refused (machine_at limits (Some (front_of params done))) (command.Load (length b.events)) got ≡ None
  load_free none =
      λ i. earliest (when (none_short i) (refusal.ShortBatch (length got) (length b.events))
      ++ (when (none i) refusal.AlreadyLoaded ++ (when (none_full i) (refusal.HistoryFull (length (events_of (front_of params done))) (length b.events)) ++ [])))

  append_free : refused (machine_at limits (Some (front_of params done))) (command.Append (length b.events)) got ≡ None
  append_free =
      λ i. earliest (when (none_short i) (refusal.ShortBatch (length got) (length b.events))
      ++ (when (none_full i) (refusal.HistoryFull (length (events_of (front_of params done))) (length b.events)) ++ []))

  pub loads : (few : length b.events ≤ BATCH_LINES_MAX) (rest : List ScriptLine) (n : MachineState) → is_some (span_of (events_of (front_of params done))) ≡ false
      → Goes (machine_at limits (Some (with_batch (front_of params done) b))) rest n
      → Goes (machine_at limits (Some (front_of params done))) (Text (batch_command (codes "load") (length b.events)) ∷ got ++ rest) n
  unfolding behind
  loads few rest n none g =
      goes_on (machine_at limits (Some (front_of params done))) n (Text (batch_command (codes "load") (length b.events))) (command.Load (length b.events)) got rest
      (behind (λ events total last. head.Loaded events total last)) (meant (batch_command (codes "load") (length b.events)) (command.Load (length b.events)) (omega arith) refl (load_is (length b.events) some few)) (sym all)
      (load_free none) refl (says (λ events total last. head.Loaded events total last)) refl g

  pub appends : (few : length b.events ≤ BATCH_LINES_MAX) (rest : List ScriptLine) (n : MachineState)
      → Goes (machine_at limits (Some (with_batch (front_of params done) b))) rest n
      → Goes (machine_at limits (Some (front_of params done))) (Text (batch_command (codes "append") (length b.events)) ∷ got ++ rest) n
  unfolding behind
  appends few rest n g =
      goes_on (machine_at limits (Some (front_of params done))) n (Text (batch_command (codes "append") (length b.events))) (command.Append (length b.events)) got rest
      (behind (λ events total last. head.Appended events total last)) (meant (batch_command (codes "append") (length b.events)) (command.Append (length b.events)) (omega arith) refl (append_is (length b.events) some few)) (sym all)
      append_free refl (says (λ events total last. head.Appended events total last)) refl g

-- ---- the command that makes an index

n32_back : (n : ℕ) → n < 2 ^ 32 → n32_of (decimal n) ≡ Some n
n32_back n small = number_back n 0 4294967295 (omega arith) (omega arith) (omega arith)

module _ (l k : ℕ) (low : l < 2 ^ 32) (high : k < 2 ^ 32) where
  -- the words of a command, of which the function is the last
  pub created : (word : List ℕ) (f : Function) → IsWord word → function_of word ≡ Some f
      → command_of (join_with_byte 32 (codes "create" ∷ decimal l ∷ decimal k ∷ word ∷ [])) ≡ Some (command.Create l k f)
  created word f is named =
      ap (read_by command_verbs)
      (word_back (codes "create" ∷ decimal l ∷ decimal k ∷ []) word (above (codes "create") refl, (number_is_word l (omega arith), (number_is_word k (omega arith), tt))) is)
      ∙ (λ i. option_or (option_and_then (λ l. option_and_then (λ k. option_and_then (λ f. none_more (command.Create l k f) []) (named i)) (n32_back k high i)) (n32_back l low i))
      (four_words n32_of n32_of skewed_of n32_of (λ l k s r. command.CreateSkewed l k r) (decimal l ∷ decimal k ∷ word ∷ [])))

  pub skewed : (r : ℕ) → r < 2 ^ 32 → command_of (join_with_byte 32 (codes "create" ∷ decimal l ∷ decimal k ∷ codes "skewed" ∷ decimal r ∷ [])) ≡ Some (command.CreateSkewed l k r)
  skewed r small =
      ap (read_by command_verbs)
      (word_back (codes "create" ∷ decimal l ∷ decimal k ∷ codes "skewed" ∷ []) (decimal r)
      (above (codes "create") refl, (number_is_word l (omega arith), (number_is_word k (omega arith), (above (codes "skewed") refl, tt)))) (number_is_word r (omega arith)))
      ∙ (λ i. option_or (option_and_then (λ l. option_and_then (λ k. option_and_then (λ f. none_more (command.Create l k f) (decimal r ∷ [])) (function_of (codes "skewed"))) (n32_back k high i)) (n32_back l low i))
      (option_and_then (λ l. option_and_then (λ k. option_and_then (λ r. none_more (command.CreateSkewed l k r) []) (n32_back r small i)) (n32_back k high i)) (n32_back l low i)))

module _ (limits : Limits) (l k : ℕ) (right : are_parameters l k ≡ true) where
  low : l < 2 ^ 32
  low = let r = in_range l k right in let m = r.list_most in omega arith

  high : k < 2 ^ 32
  high = let r = in_range l k right in let m = r.arity_most in omega arith

  made : Function → Answered
  made f = record { reply = headed head.Created; state = machine_at limits (Some (empty_history form.Two (record { l = l; k = k; function = f }))) }

  free : (share : ℕ) → nat_le share SKEW_MAX ≡ true → earliest (when (not (are_parameters l k && nat_le share SKEW_MAX)) refusal.Parameters ++ []) ≡ None
  free share small = λ i. earliest (when (not (right i && small i)) refusal.Parameters ++ [])

  named_function : (word : List ℕ) (f : Function) (rest : List ScriptLine) (n : MachineState) → IsWord word → function_of word ≡ Some f → nat_le (share_of f) SKEW_MAX ≡ true
      → Goes (machine_at limits (Some (empty_history form.Two (record { l = l; k = k; function = f })))) rest n
      → Goes (machine_at limits None) (Text (join_with_byte 32 (codes "create" ∷ decimal l ∷ decimal k ∷ word ∷ [])) ∷ rest) n
  unfolding made
  named_function word f rest n is named small g =
      goes_on (machine_at limits None) n (Text (join_with_byte 32 (codes "create" ∷ decimal l ∷ decimal k ∷ word ∷ []))) (command.Create l k f) [] rest (made f)
      (meant (join_with_byte 32 (codes "create" ∷ decimal l ∷ decimal k ∷ word ∷ [])) (command.Create l k f) (omega arith) refl (created l k low high word f is named))
      refl (free (share_of f) small) refl refl refl g

  pub creates : (f : Function) (rest : List ScriptLine) (n : MachineState) → is_function f ≡ true
      → Goes (machine_at limits (Some (empty_history form.Two (record { l = l; k = k; function = f })))) rest n
      → Goes (machine_at limits None) (Text (create_line (record { l = l; k = k; function = f })) ∷ rest) n
  unfolding made
  creates Intersection rest n is g = named_function (codes "intersection") Intersection rest n (above (codes "intersection") refl) refl refl g
  creates Union rest n is g = named_function (codes "union") Union rest n (above (codes "union") refl) refl refl g
  creates Balanced rest n is g = named_function (codes "balanced") Balanced rest n (above (codes "balanced") refl) refl refl g
  creates (Skewed r) rest n is g =
      let small : r < 2 ^ 32 = (let m = leb-true r SKEW_MAX is in omega arith) in
      goes_on (machine_at limits None) n (Text (create_line (record { l = l; k = k; function = Skewed r }))) (command.CreateSkewed l k r) [] rest (made (Skewed r))
      (meant (create_line (record { l = l; k = k; function = Skewed r })) (command.CreateSkewed l k r) (omega arith) refl (skewed l k low high r small))
      refl (free r is) refl refl refl g
