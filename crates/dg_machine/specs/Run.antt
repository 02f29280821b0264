-- The runs of the machine: a reply to each entry, one after another. What is planned for a command is a witness of
-- its step.
use Rattle.std.specs.Prelude.{ℕ, Bool, true, false, List, [], ◌∷◌, IsTrue}
use Rattle.std.specs.List.{count_by, flat_map}
use Rattle.dg_text.specs.Lines.{ScriptLine}
use Rattle.dg_machine.specs.declared.command.Command.{Command}
use Rattle.dg_machine.specs.declared.reply.Refusal.{Refusal}
use Rattle.dg_machine.specs.declared.reply.Refusal.TheVariants as refusal
use Rattle.dg_machine.specs.declared.reply.Reply.{Reply}
use Rattle.dg_machine.specs.declared.reply.Reply.TheVariants as replied
use Rattle.dg_machine.specs.Answer.{Answered, IsPlannedBy, answer, no_memory, may_lack_memory, store_read, may_fail_to_read, refusal_of, refuses}
use Rattle.dg_machine.specs.CommandGrammar.{IsColumn}
use Rattle.dg_machine.specs.MachineState.{MachineState, names_in}
use Rattle.dg_machine.specs.Needs.{refused}
use Rattle.dg_machine.specs.Planning.{Planned}
use Rattle.dg_machine.specs.ReplyText.{text}
use Rattle.dg_machine.specs.Script.{Entry, Asked, No_command, Long_line}

-- From the state m the machine may give the entry this reply, and go on in the new state.
pub data Step (m : MachineState) : Entry → Reply → MachineState → Type 0 where
  Answers : (c : Command) (lines : List ScriptLine) (p : Planned) → IsPlannedBy (refused m c lines) m c p
      → Step m (Asked c lines) (answer m c lines p).reply (answer m c lines p).state
  Lacks_memory : (c : Command) (lines : List ScriptLine) → IsTrue (may_lack_memory m c lines) → Step m (Asked c lines) no_memory m
  Fails_to_read : (c : Command) (lines : List ScriptLine) → IsTrue (may_fail_to_read m c lines) → Step m (Asked c lines) store_read m
  Leaves_grammar : (line : List ℕ) (column : ℕ) → IsColumn line column
      → Step m (No_command line) (replied.Refused (refusal.Syntax column)) m
  Too_long : Step m Long_line (replied.Refused refusal.LineLong) m

-- the refusal says that a read of the index file failed
abbrev pub is_failed_read : Refusal → Bool
is_failed_read refusal.StoreRead = true
is_failed_read r = false

-- the reply says that a read of the index file failed
abbrev pub is_store_read : Reply → Bool
is_store_read r = refuses is_failed_read (refusal_of r)

-- how many of the replies say so
abbrev pub failed_reads : List Answered → ℕ
failed_reads answers = count_by (λ a. is_store_read a.reply) answers

-- A run from m: to each entry a reply, with the state after it.
abbrev pub Run : MachineState → List Entry → List Answered → Type 0
Run m [] [] = Unit {0}
Run m (e ∷ entries) (a ∷ answers) = Step m e a.reply a.state × Run a.state entries answers
Run m [] (a ∷ answers) = ⊥
Run m (e ∷ entries) [] = ⊥

-- the state after a run
abbrev pub last_state : MachineState → List Answered → MachineState
last_state m [] = m
last_state m (a ∷ answers) = last_state a.state answers

-- the text of a reply, by the names of the history after it
abbrev pub text_of : Answered → List ℕ
text_of a = text (names_in a.state.index) a.reply

-- the texts of the replies, one after another
abbrev pub texts_of : List Answered → List ℕ
texts_of answers = flat_map text_of answers
