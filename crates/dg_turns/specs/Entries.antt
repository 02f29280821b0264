-- What the next line of a script comes to, by a grammar of commands.
use Rattle.std.specs.Prelude.{◌≡◌, ℕ, List, [], ◌∷◌, Option, IfSome, IsTrue}
use Rattle.std.specs.Option.{option_map}
use Rattle.dg_cuts.specs.TakenLines.{CutsBy, GaveBy}
use Rattle.dg_io.specs.declared.source.Source as source
use Rattle.dg_io.specs.LinesState.{Comes, GaveLines, LinesState, told}
use Rattle.dg_machine.specs.CommandGrammar.{CountIsInRange, Grammar, IsColumnBy}
use Rattle.dg_machine.specs.declared.command.Command.{Command}
use Rattle.dg_machine.specs.declared.reply.Refusal.{Refusal}
use Rattle.dg_machine.specs.declared.reply.Refusal.TheVariants as refusal
use Rattle.dg_machine.specs.Script as script
use Rattle.dg_text.specs.Lines.{ScriptLine, Text}
use Rattle.dg_turns.specs.declared.entry.Taken.{Taken}
use Rattle.dg_turns.specs.declared.entry.Taken.TheVariants as taken

-- the entries to come, where the source tells what is left
abbrev pub asked_by : Grammar → LinesState → Option (List ℕ) → Option (List script.Entry)
asked_by read r left = option_map (script.entries_of_by read) (told r left)

-- the refusal is that of the entry, a line that asks for nothing
abbrev pub RefusesLine : Grammar → script.Entry → Refusal → Type 0
RefusesLine read (script.Asked c lines) r = ⊥
RefusesLine read (script.No_command line) r = (column : ℕ) × IsColumnBy read line column × (r ≡ refusal.Syntax column)
RefusesLine read script.Long_line r = r ≡ refusal.LineLong

-- what the line is, in the words of the script
abbrev pub Means : Grammar → Taken → List ℕ → Type 0
Means read taken.End line = ⊥
Means read taken.Skipped line = script.meaning_by read (Text line) ≡ script.Skipped
Means read (taken.Refused r) line =
    (script.meaning_by read (Text line) ≡ script.Other (script.No_command line)) × RefusesLine read (script.No_command line) r
Means read (taken.Command c) line = (script.meaning_by read (Text line) ≡ script.Command_is c) × CountIsInRange c

-- The first of the lines to come was taken, and it is this command. The lines that follow it are still to come.
pub record CommandComes (read : Grammar) (c : Command) (old : LinesState) (left : Option (List ℕ)) (new : LinesState) (then_left : Option (List ℕ)) : Type 0 where
  pub line : ScriptLine
  pub means : script.meaning_by read line ≡ script.Command_is c
  pub comes : Comes line (told old left) (told new then_left)
  pub gave : GaveLines (line ∷ []) old left new then_left

-- What was taken, of the entries to come before it and after it: none is left; a line that comes to none; the first of them,
-- a line that asks for nothing and is refused so; or the line of a command.
abbrev pub Takes : Grammar → LinesState → Option (List ℕ) → LinesState → Option (List ℕ) → Taken → Type 0
Takes read old left new then_left taken.End =
    IfSome (asked_by read old left) (λ rest. rest ≡ []) × (asked_by read old left ≡ asked_by read new then_left) × IsTrue new.ended
Takes read old left new then_left taken.Skipped =
    (asked_by read old left ≡ asked_by read new then_left) × GaveBy read [] [] old left new then_left
Takes read old left new then_left (taken.Refused r) =
    (e : script.Entry) × RefusesLine read e r × (asked_by read old left ≡ option_map (λ more. e ∷ more) (asked_by read new then_left))
    × GaveBy read [] (e ∷ []) old left new then_left
Takes read old left new then_left (taken.Command c) = CommandComes read c old left new then_left × CountIsInRange c

-- ---- over the ghost members of the source

abbrev pub TakesNext : {S : Type 0} → source.Ghosts S → Grammar → LinesState → S → LinesState → S → Taken → Type 0
TakesNext s read lines from then_lines then_from taken = Takes read lines (s.left from) then_lines (s.left then_from) taken

-- the script was cut before its next entry, of which no line was taken whole
abbrev pub CutsNext : {S : Type 0} → source.Ghosts S → Grammar → LinesState → S → LinesState → S → Type 0
CutsNext s read lines from then_lines then_from = CutsBy read [] lines (s.left from) then_lines (s.left then_from)
