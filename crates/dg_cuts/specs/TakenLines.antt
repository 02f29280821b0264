-- The lines that were taken of a script, by what the source gave, and whose entries they are, by any grammar of commands
-- and by that of the program.
use Rattle.std.specs.Prelude.{◌≡◌, ℕ, ◌<◌, false, List, [], ◌++◌, Option, length}
use Rattle.dg_cuts.specs.WholeEntries.{whole_by}
use Rattle.dg_text.specs.Lines.{ScriptLine}
use Rattle.dg_io.specs.LinesState.{GaveLines, LinesState, NeedsByte, told}
use Rattle.dg_machine.specs.CommandGrammar.{Grammar, command_of}
use Rattle.dg_machine.specs.Script.{Entry, Follows}

-- These lines were taken behind a command that so many lines follow: all of them, unless the script ended within them.
pub record TakesBehind (count : ℕ) (old : LinesState) (left : Option (List ℕ)) (new : LinesState) (then_left : Option (List ℕ)) (got : List ScriptLine) : Type 0 where
  pub follows : Follows count (told old left) got (told new then_left)
  pub gave : GaveLines got old left new then_left
  pub all : new.ended ≡ false → length got ≡ count

-- the script was cut within so many lines: fewer were taken, and another byte is needed
abbrev pub CutsWithin : ℕ → LinesState → Option (List ℕ) → LinesState → Option (List ℕ) → Type 0
CutsWithin count old left new then_left =
    (got : List ScriptLine) × (length got < count) × GaveLines got old left new then_left × NeedsByte new

-- the lines are just those of these entries, whatever lines stand behind them
abbrev pub AreLinesBy : Grammar → List ScriptLine → List Entry → Type 0
AreLinesBy read given entries = (tail : List ScriptLine) → whole_by read (given ++ tail) ≡ entries ++ whole_by read tail

-- Behind lines that were taken before, more were taken. Where no read has given the end of input yet, all these lines are
-- just those of these entries.
abbrev pub GaveBy : Grammar → List ScriptLine → List Entry → LinesState → Option (List ℕ) → LinesState → Option (List ℕ) → Type 0
GaveBy read front entries old left new then_left =
    (given : List ScriptLine) × GaveLines given old left new then_left × (new.ended ≡ false → AreLinesBy read (front ++ given) entries)

-- Behind lines that were taken before, the script was cut within an entry, or between two: no entry stands whole in all
-- these lines, and another byte is needed.
abbrev pub CutsBy : Grammar → List ScriptLine → LinesState → Option (List ℕ) → LinesState → Option (List ℕ) → Type 0
CutsBy read front old left new then_left =
    (given : List ScriptLine) × GaveLines given old left new then_left × NeedsByte new × (whole_by read (front ++ given) ≡ [])

-- ---- the same by the grammar of the program

abbrev pub AreLinesOf : List ScriptLine → List Entry → Type 0
AreLinesOf = AreLinesBy command_of

abbrev pub GaveEntries : List ScriptLine → List Entry → LinesState → Option (List ℕ) → LinesState → Option (List ℕ) → Type 0
GaveEntries = GaveBy command_of

abbrev pub CutsEntries : List ScriptLine → LinesState → Option (List ℕ) → LinesState → Option (List ℕ) → Type 0
CutsEntries = CutsBy command_of
