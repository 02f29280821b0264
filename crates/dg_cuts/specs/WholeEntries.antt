-- Which entries of a script stand whole in the bytes that were taken of it, by any grammar of commands and by that of
-- the program.
use Rattle.std.specs.Prelude.{◌≡◌, ℕ, zero, suc, ◌||◌, List, [], ◌∷◌, ◌++◌, length, if◌then◌else◌, nat_lt}
use Rattle.dg_text.specs.Lines.{ScriptLine, lines_of}
use Rattle.dg_io.specs.Feed.{has_feed, is_feed}
use Rattle.dg_machine.specs.CommandGrammar.{Grammar, command_of}
use Rattle.dg_machine.specs.Needs.{following}
use Rattle.dg_machine.specs.Script.{Entry, Meaning, Skipped, Command_is, Other, first_entry, meaning_by, script_by}

-- the bytes up to the last line feed, and with it
abbrev pub up_to_feed : List ℕ → List ℕ
up_to_feed [] = []
up_to_feed (b ∷ bytes) = if is_feed b || has_feed bytes then b ∷ up_to_feed bytes else []

-- how many lines have to follow one that means this
abbrev pub wanted : Meaning → ℕ
wanted Skipped = 0
wanted (Command_is c) = following c
wanted (Other entry) = 0

-- the entries of these lines, up to the first that has not all of its lines; the number only bounds the recursion
abbrev pub whole_within_by : Grammar → ℕ → List ScriptLine → List Entry
whole_within_by read zero lines = []
whole_within_by read (suc k) [] = []
whole_within_by read (suc k) (line ∷ rest) =
    if nat_lt (length rest) (wanted (meaning_by read line)) then []
    else (first_entry (meaning_by read line) rest).0 ++ whole_within_by read k (first_entry (meaning_by read line) rest).1

-- the entries that stand whole in these lines
abbrev pub whole_by : Grammar → List ScriptLine → List Entry
whole_by read lines = whole_within_by read (length lines) lines

-- the entries that stand whole, with their line feeds, in the bytes
abbrev pub whole_entries_by : Grammar → List ℕ → List Entry
whole_entries_by read bytes = whole_by read (lines_of (up_to_feed bytes))

-- they are the first entries of the script, however it goes on
abbrev pub WholeEntriesAreAFront : Type 0
WholeEntriesAreAFront =
    (read : Grammar) (taken left : List ℕ) → (more : List Entry) × (script_by read (taken ++ left) ≡ whole_entries_by read taken ++ more)

-- ---- the same by the grammar of the program

abbrev pub whole_in : List ScriptLine → List Entry
whole_in = whole_by command_of

abbrev pub whole_entries : List ℕ → List Entry
whole_entries = whole_entries_by command_of
