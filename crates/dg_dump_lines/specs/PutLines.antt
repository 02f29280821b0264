-- What is put behind a text, and what it is read back as.
use Rattle.std.specs.Prelude.{◌≡◌, ℕ, ◌≤◌, true, List, [], ◌∷◌, ◌++◌, IsTrue, codes, decimal, drop, length, map}
use Rattle.std.specs.List.{All}
use Rattle.dg_graph.specs.declared.event.Event.{Event}
use Rattle.dg_graph.specs.Completion.{has_key}
use Rattle.dg_text.specs.Lines.{lines_of}
use Rattle.dg_text.specs.Names.{are_new}
use Rattle.dg_changes.specs.ChangeGrammar.{change_by_text_in}
use Rattle.dg_history.specs.declared.limits.TheConstants.{BATCH_LINES_MAX}
use Rattle.dg_history.specs.declared.params.Params.{Params}
use Rattle.dg_history.specs.History.{are_parameters, is_function}
use Rattle.dg_history.specs.LegalHistory.{FitsEvent}
use Rattle.dg_machine.specs.declared.command.Command.{Command}
use Rattle.dg_machine.specs.declared.command.Command.TheVariants as command
use Rattle.dg_machine.specs.Script.{Command_is, meaning}
use Rattle.dg_dump.specs.DumpLaws.{creation}
use Rattle.dg_dump.specs.NamesOfLines.{said_in}
use Rattle.dg_dump_lines.specs.declared.commands.BatchVerb.{BatchVerb}
use Rattle.dg_dump_lines.specs.declared.commands.BatchVerb.TheVariants as verb
use Rattle.dg_dump_lines.specs.declared.word.Word.{Word}
use Rattle.dg_dump_lines.specs.declared.word.Word.TheVariants as word

-- the bytes of a word
abbrev pub word_bytes : Word → List ℕ
word_bytes (word.Text bytes) = bytes.now
word_bytes (word.Number n) = decimal n

-- the text goes on behind what was there before
abbrev pub GoesOn : List ℕ → List ℕ → Type 0
GoesOn before after = (more : List ℕ) × (after ≡ before ++ more)

-- the bytes that stand behind those of before
abbrev pub behind : List ℕ → List ℕ → List ℕ
behind before after = drop (length before) after

-- The names are those of a history, and the events are within the numbers of a history with these names: as all events of a
-- legal history are.
pub record AreOfNames (names : List (List ℕ)) (events : List Event) : Type 0 where
  pub new : are_new [] names ≡ true
  pub fits : All (FitsEvent (length names)) events
  pub keys : All (λ (e : Event). IsTrue (has_key names e.body)) events

-- Cut into lines as a script is, and read as the lines of a batch are, the bytes say what the events' changes say, each in one
-- line.
abbrev pub ReadBackAs : List (List ℕ) → List Event → List ℕ → Type 0
ReadBackAs names events bytes = AreOfNames names events → map change_by_text_in (lines_of bytes) ≡ said_in names events

-- cut into lines as a script is, the bytes are this one command
abbrev pub AreCommand : Command → List ℕ → Type 0
AreCommand c bytes = map meaning (lines_of bytes) ≡ Command_is c ∷ []

-- the bytes are the command that makes an index of these parameters, where they are in their ranges
abbrev pub CreatesBy : Params → List ℕ → Type 0
CreatesBy p bytes = are_parameters p.l p.k ≡ true → is_function p.function ≡ true → AreCommand (creation p) bytes

abbrev pub verb_text : BatchVerb → List ℕ
verb_text verb.Load = codes "load"
verb_text verb.Append = codes "append"

abbrev pub batch_by : BatchVerb → ℕ → Command
batch_by verb.Load count = command.Load count
batch_by verb.Append count = command.Append count

-- the bytes are the command that so many lines follow, where a batch may have so many
abbrev pub CountsAs : BatchVerb → ℕ → List ℕ → Type 0
CountsAs v count bytes = 1 ≤ count → count ≤ BATCH_LINES_MAX → AreCommand (batch_by v count) bytes
