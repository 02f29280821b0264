-- What holds where the lines behind a command were taken, or where the script was cut within them.
use Rattle.std.specs.Prelude.{ℕ, List, Option}
use Rattle.dg_cuts.specs.TakenLines.{CutsWithin, TakesBehind}
use Rattle.dg_io.specs.LinesState.{LinesState}
use Rattle.dg_text.specs.Lines.{ScriptLine}

-- these lines were taken behind the command, and of them the fact holds
abbrev pub Behind : ℕ → LinesState → Option (List ℕ) → LinesState → Option (List ℕ) → (List ScriptLine → Type 0) → Type 0
Behind count old left new then_left P = (got : List ScriptLine) × TakesBehind count old left new then_left got × P got

-- the script was cut within the lines behind the command, and the fact holds
abbrev pub CutsBehind : ℕ → LinesState → Option (List ℕ) → LinesState → Option (List ℕ) → Type 0 → Type 0
CutsBehind count old left new then_left P = CutsWithin count old left new then_left × P
