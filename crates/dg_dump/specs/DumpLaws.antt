-- What is shown of the script that makes a history.
use Rattle.std.specs.Prelude.{◌≡◌, ℕ, ◌+◌, ◌*◌, ◌<◌, ◌≤◌, true, false, List, [], ◌∷◌, Option, Some, None, Ok, IfSome, IsTrue, codes, length, map}
use Rattle.std.specs.List.{All}
use Rattle.dg_graph.specs.declared.element.Element.{Element}
use Rattle.dg_graph.specs.declared.event.Change.{Change}
use Rattle.dg_graph.specs.declared.event.Event.{Event}
use Rattle.dg_graph.specs.declared.function.Function.{Function}
use Rattle.dg_graph.specs.declared.function.Function.TheVariants.{Intersection, Union, Balanced, Skewed}
use Rattle.dg_graph.specs.CompletedChanges.{completed}
use Rattle.dg_graph.specs.Completion.{has_key}
use Rattle.dg_graph.specs.MadeByChanges.{AreMadeByChanges}
use Rattle.dg_text.specs.declared.limits.TheConstants.{NAMES_MAX}
use Rattle.dg_text.specs.Lines.{ScriptLine, lines_of}
use Rattle.dg_text.specs.Names.{are_new}
use Rattle.dg_changes.specs.ChangeGrammar.{ChangeByText, change_by_text_in, change_by_text_of}
use Rattle.dg_changes.specs.GeneratedChanges.{batch_of_changes, generated}
use Rattle.dg_history.specs.declared.form.Form.TheVariants as form
use Rattle.dg_history.specs.declared.limits.TheConstants.{BATCH_LINES_MAX}
use Rattle.dg_history.specs.declared.params.Params.{Params}
use Rattle.dg_history.specs.EventTimes.{RisesFrom}
use Rattle.dg_history.specs.History.{Batch, History, are_parameters, empty_history, events_of, is_function, names_of, with_batch}
use Rattle.dg_history.specs.LegalHistory.{FitsEvent, IsLegal}
use Rattle.dg_index.specs.FileOfHistory.{size}
use Rattle.dg_machine.specs.declared.limits.Limits.{Limits}
use Rattle.dg_machine.specs.declared.limits.TheConstants.{SCRIPT_BYTES_MAX}
use Rattle.dg_machine.specs.declared.command.Command.{Command}
use Rattle.dg_machine.specs.declared.command.Command.TheVariants as command
use Rattle.dg_machine.specs.Answer.{Answered, answer, is_refusal}
use Rattle.dg_machine.specs.CommandGrammar.{CountIsInRange}
use Rattle.dg_machine.specs.Needs.{following}
use Rattle.dg_machine.specs.Planning.{Planned}
use Rattle.dg_machine.specs.MachineLaws.{IsFree}
use Rattle.dg_machine.specs.MachineState.{MachineState, machine_at}
use Rattle.dg_machine.specs.Run.{Run, last_state}
use Rattle.dg_machine.specs.Script.{Command_is, meaning, script}
use Rattle.dg_dump.specs.NamesOfLines.{AreByText, NamesAreOfLines, said_by, said_in}
use Rattle.dg_dump.specs.ScriptOfHistory.{batch_command, create_line, event_line, script_of, text_of_lines}

-- the line of an event reads back as what the event's change says
abbrev pub LinesReadBack : Type 0
LinesReadBack =
    (names : List (List ℕ)) (e : Event) → are_new [] names ≡ true → FitsEvent (length names) e → IsTrue (has_key names e.body)
    → change_by_text_of (event_line names e) ≡ Some (said_by names e)

-- The text of the lines of events is cut into these lines, and they read back as what the events' changes say.
abbrev pub TextsReadBack : Type 0
TextsReadBack =
    (names : List (List ℕ)) (events : List Event) → are_new [] names ≡ true → All (FitsEvent (length names)) events
    → All (λ (e : Event). IsTrue (has_key names e.body)) events
    → map change_by_text_in (lines_of (text_of_lines (map (event_line names) events))) ≡ said_in names events

-- the text of the line is cut into this one line, and it is the command
abbrev pub IsTextOf : Command → List ℕ → Type 0
IsTextOf c line = map meaning (lines_of (text_of_lines (line ∷ []))) ≡ Command_is c ∷ []

abbrev pub creation_by : ℕ → ℕ → Function → Command
creation_by l k Intersection = command.Create l k Intersection
creation_by l k Union = command.Create l k Union
creation_by l k Balanced = command.Create l k Balanced
creation_by l k (Skewed r) = command.CreateSkewed l k r

-- the command that makes an index of these parameters
abbrev pub creation : Params → Command
creation p = creation_by p.l p.k p.function

-- The commands of the script are what they are written for, within the ranges of a legal history.
pub record CommandsReadBack : Type 0 where
  pub create : (p : Params) → are_parameters p.l p.k ≡ true → is_function p.function ≡ true → IsTextOf (creation p) (create_line p)
  pub load : (n : ℕ) → 1 ≤ n → n ≤ BATCH_LINES_MAX → IsTextOf (command.Load n) (batch_command (codes "load") n)
  pub append : (n : ℕ) → 1 ≤ n → n ≤ BATCH_LINES_MAX → IsTextOf (command.Append n) (batch_command (codes "append") n)

-- The limits have room for each of the batches behind those before it. A batch is let in where two names for each of its
-- lines would have room, whatever names it brings.
abbrev pub HaveRoom : Limits → History → List Batch → Type 0
HaveRoom limits z [] = Unit {0}
HaveRoom limits z (b ∷ batches) =
    (length (events_of z) + length b.events ≤ limits.events) × (length (names_of z) + 2 * length b.events ≤ NAMES_MAX)
    × (size (with_batch z b) ≤ limits.file_bytes) × HaveRoom limits (with_batch z b) batches

-- the same batches in a file of the second form
abbrev pub in_second_form : History → History
in_second_form z = record z { form = form.Two }

-- a run of the machine over the script from no index, in which each reply is ok, and which ends with the history
pub record Makes (limits : Limits) (z : History) (answers : List Answered) : Type 0 where
  pub run : Run (machine_at limits None) (script (script_of z)) answers
  pub ok : All (λ (a : Answered). is_refusal a.reply ≡ false) answers
  pub ends : last_state (machine_at limits None) answers ≡ machine_at limits (Some (in_second_form z))

-- The script of a legal history whose names are those of its lines makes this history, in the second form.
abbrev pub ScriptsMakeHistories : Type 0
ScriptsMakeHistories =
    (limits : Limits) (z : History) → IsLegal z → NamesAreOfLines z → HaveRoom limits (empty_history form.Two z.params) z.batches
    → (answers : List Answered) × Makes limits z answers

-- Each run over the script is this one, but for want of memory and failed reads: the machine is determined.
abbrev pub ScriptsMakeNothingElse : Type 0
ScriptsMakeNothingElse =
    (limits : Limits) (z : History) → IsLegal z → NamesAreOfLines z → HaveRoom limits (empty_history form.Two z.params) z.batches
    → (answers : List Answered) → Run (machine_at limits None) (script (script_of z)) answers → All (λ (a : Answered). IsFree a.reply → ⊥) answers
    → Makes limits z answers

-- A batch of changes brings the names that the lines of its events bring: so does each that the machine takes.
abbrev pub BatchesBringTheirNames : Type 0
BatchesBringTheirNames =
    (z : History) (changes : List (Option ChangeByText)) (b : Batch) → IsLegal z → NamesAreOfLines z → AreByText changes → batch_of_changes z changes ≡ Ok b
    → NamesAreOfLines (with_batch z b)

-- The changes of a batch's lines tell keys and values by their texts, and so do those of `workload`.
abbrev pub ChangesAreByText : Type 0
ChangesAreByText = ((lines : List ScriptLine) → AreByText (map change_by_text_in lines)) × ((seed count : ℕ) → AreByText (generated seed count))

-- The script of a legal history has fewer bytes than a script may have.
abbrev pub ScriptsAreShort : Type 0
ScriptsAreShort = (z : History) → IsLegal z → length (script_of z) < SCRIPT_BYTES_MAX

-- Where the limits have room for the batches of a history of the second form, and for one more, they have room for all.
abbrev pub BatchesLeaveRoom : Type 0
BatchesLeaveRoom =
    (limits : Limits) (z : History) (b : Batch) → z.form ≡ form.Two → HaveRoom limits (empty_history form.Two z.params) z.batches → HaveRoom limits z (b ∷ [])
    → HaveRoom limits (empty_history form.Two z.params) (with_batch z b).batches

-- The script of the history makes the history again: its names are those of its lines, its file has the second form, and
-- the limits have room for it.
pub record IsRemade (limits : Limits) (z : History) : Type 0 where
  pub names : NamesAreOfLines z
  pub second : z.form ≡ form.Two
  pub room : HaveRoom limits (empty_history form.Two z.params) z.batches

-- Each answer to a command, with no more lines than follow it, keeps the history so, where the one before it is legal. So the
-- script of each history to which the machine comes from no index makes it again.
abbrev pub AnswersKeepRemade : Type 0
AnswersKeepRemade =
    (m : MachineState) (c : Command) (lines : List ScriptLine) (p : Planned) → length lines ≤ following c → CountIsInRange c
    → IfSome m.index (λ z. IsLegal z × IsRemade m.limits z) → IfSome (answer m c lines p).state.index (IsRemade m.limits)
