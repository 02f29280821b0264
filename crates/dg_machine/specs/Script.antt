-- How the lines of a script are grouped into what is answered: by any grammar of commands, and by that of
-- the program.
use Rattle.std.specs.Prelude.{◌≡◌, ℕ, zero, suc, ◌<◌, ◌≤◌, Bool, ◌==◌, ◌||◌, List, [], ◌∷◌, ◌++◌, Option, Some, None, IfSome, if◌then◌else◌, length, take, drop, slice_index}
use Rattle.std.specs.Option.{option_map}
use Rattle.dg_machine.specs.declared.command.Command.{Command}
use Rattle.dg_machine.specs.Needs.{following}
use Rattle.dg_machine.specs.CommandGrammar.{Grammar, command_of}
use Rattle.dg_text.specs.Lines.{ScriptLine, Text, Long, lines_of}

-- what has a reply: a command with the lines that follow it, a line that is in no command, or a
-- line of more bytes than a line may have
pub data Entry : Type 0 where
  Asked : Command → List ScriptLine → Entry
  No_command : List ℕ → Entry
  Long_line : Entry

-- what a line is where a command is expected
pub data Meaning : Type 0 where
  Skipped : Meaning
  Command_is : Command → Meaning
  Other : Entry → Meaning

-- a line with no byte, or whose first byte is `#`, is skipped
abbrev pub is_skipped : List ℕ → Bool
is_skipped line = length line == 0 || slice_index line 0 == 35

abbrev pub read_as : List ℕ → Option Command → Meaning
read_as line (Some c) = Command_is c
read_as line None = Other (No_command line)

abbrev pub meaning_by : Grammar → ScriptLine → Meaning
meaning_by read (Text line) = if is_skipped line then Skipped else read_as line (read line)
meaning_by read Long = Other Long_line

-- what the first line comes to, if to anything, and the lines after it and those that follow it
abbrev pub first_entry : Meaning → List ScriptLine → List Entry × List ScriptLine
first_entry Skipped rest = ([], rest)
first_entry (Command_is c) rest = (Asked c (take (following c) rest) ∷ [], drop (following c) rest)
first_entry (Other entry) rest = (entry ∷ [], rest)

-- What the lines come to. The number only bounds the recursion: there are at most so many lines.
abbrev pub entries_by : Grammar → ℕ → List ScriptLine → List Entry
entries_by read zero lines = []
entries_by read (suc k) [] = []
entries_by read (suc k) (line ∷ rest) =
    let first = first_entry (meaning_by read line) rest in first.0 ++ entries_by read k first.1

abbrev pub entries_of_by : Grammar → List ScriptLine → List Entry
entries_of_by read lines = entries_by read (length lines) lines

-- what the bytes of a script come to
abbrev pub script_by : Grammar → List ℕ → List Entry
script_by read bytes = entries_of_by read (lines_of bytes)

-- ---- the same by the grammar of the program

abbrev pub meaning : ScriptLine → Meaning
meaning = meaning_by command_of

abbrev pub entries_within : ℕ → List ScriptLine → List Entry
entries_within = entries_by command_of

abbrev pub entries_of : List ScriptLine → List Entry
entries_of = entries_of_by command_of

abbrev pub script : List ℕ → List Entry
script = script_by command_of

-- ---- lines that follow

-- From lines before and lines after, where they are told: `got` is what was taken in between, the
-- next `n` of them, or all where they are fewer.
pub record Follows (n : ℕ) (before : Option (List ScriptLine)) (got : List ScriptLine) (after : Option (List ScriptLine)) : Type 0 where
  pub lines : before ≡ option_map (λ rest. got ++ rest) after
  pub most : length got ≤ n
  pub fewer : length got < n → IfSome after (λ rest. rest ≡ [])
