-- What one turn over the script comes to, over the ghost members of the machine and of the source.
use Rattle.std.specs.Prelude.{◌≡◌, ℕ, List, [], ◌∷◌, IfSome, IsTrue, Some}
use Rattle.std.specs.Option.{option_map}
use Rattle.dg_cuts.specs.TakenLines.{CutsBy, GaveBy}
use Rattle.dg_io.specs.declared.source.Source as source
use Rattle.dg_io.specs.LinesState.{LinesState}
use Rattle.dg_machine.specs.CommandGrammar.{Grammar}
use Rattle.dg_machine.specs.declared.command.Command.{Command}
use Rattle.dg_machine.specs.Script.{Entry, Asked}
use Rattle.dg_text.specs.Lines.{ScriptLine}
use Rattle.dg_turns.specs.declared.machine.Machine as machine
use Rattle.dg_turns.specs.declared.turn.Turn.{Turn}
use Rattle.dg_turns.specs.declared.turn.Turn.TheVariants as turn
use Rattle.dg_turns.specs.Entries.{asked_by}
use Rattle.dg_turns.specs.Runs.{Answers}

-- the machine carries out each command of the grammar
abbrev pub TakesAll : {M W : Type 0} → machine.Ghosts M W → Grammar → Type 0
TakesAll g read = (line : List ℕ) (c : Command) → read line ≡ Some c → g.takes c

-- The first of the entries to come was taken, and no line more; and of it the fact holds.
abbrev pub TakesOne : {S : Type 0} → source.Ghosts S → Grammar → LinesState → S → LinesState → S → (Entry → Type 0) → Type 0
TakesOne s read lines from then_lines then_from P =
    (e : Entry) × (asked_by read lines (s.left from) ≡ option_map (λ more. e ∷ more) (asked_by read then_lines (s.left then_from)))
    × GaveBy read [] (e ∷ []) lines (s.left from) then_lines (s.left then_from) × P e

-- the turn is this one
abbrev pub MakesTurn : {M W S : Type 0} → machine.Ghosts M W → source.Ghosts S → Grammar → M → W → LinesState → S → M → W → LinesState → S → Turn → Type 0
MakesTurn g s read m w lines from then_m then_w then_lines then_from turn.End =
    IfSome (asked_by read lines (s.left from)) (λ rest. rest ≡ [])
    × (asked_by read lines (s.left from) ≡ asked_by read then_lines (s.left then_from)) × IsTrue then_lines.ended
    × (then_m ≡ m) × (then_w ≡ w)
MakesTurn g s read m w lines from then_m then_w then_lines then_from turn.Skipped =
    (asked_by read lines (s.left from) ≡ asked_by read then_lines (s.left then_from))
    × GaveBy read [] [] lines (s.left from) then_lines (s.left then_from)
    × (then_m ≡ m) × (then_w ≡ w)
MakesTurn g s read m w lines from then_m then_w then_lines then_from (turn.Replied reply) =
    TakesOne s read lines from then_lines then_from (λ e. Answers g read m w e (record { reply = reply; machine = then_m; world = then_w }))

-- the script was cut before the next entry, or within it, and the machine stays
abbrev pub CutsTurn : {M W S : Type 0} → machine.Ghosts M W → source.Ghosts S → Grammar → M → W → LinesState → S → M → W → LinesState → S → Type 0
CutsTurn g s read m w lines from then_m then_w then_lines then_from =
    CutsBy read [] lines (s.left from) then_lines (s.left then_from) × g.stays m w then_m then_w

-- the world failed within the entry
abbrev pub Breaks : {M W : Type 0} → machine.Ghosts M W → M → W → M → W → Entry → Type 0
Breaks g m w then_m then_w e = (c : Command) × (got : List ScriptLine) × (e ≡ Asked c got) × g.breaks c got m w then_m then_w

abbrev pub BreaksTurn : {M W S : Type 0} → machine.Ghosts M W → source.Ghosts S → Grammar → M → W → LinesState → S → M → W → LinesState → S → Type 0
BreaksTurn g s read m w lines from then_m then_w then_lines then_from =
    TakesOne s read lines from then_lines then_from (Breaks g m w then_m then_w)
