-- How a run over a script ends, and what it leaves of source and sink.
use Rattle.std.specs.Prelude.{◌≡◌, ◌⊎◌, ℕ, ◌<◌, List, [], ◌∷◌, ◌++◌, IfSome, Option, length}
use Rattle.std.specs.Option.{option_map}
use Rattle.dg_cuts.specs.WholeEntries.{whole_entries_by}
use Rattle.dg_io.specs.declared.sink.Sink as sink
use Rattle.dg_io.specs.declared.source.Source as source
use Rattle.dg_io.specs.Told.{CountRose, Gives, GrowsByPart, IsAtEnd, grown}
use Rattle.dg_machine.specs.CommandGrammar.{Grammar}
use Rattle.dg_machine.specs.Script.{Entry, script_by}
use Rattle.dg_turns.specs.declared.end.End.{End}
use Rattle.dg_turns.specs.declared.end.End.TheVariants as end
use Rattle.dg_turns.specs.declared.machine.Machine as machine
use Rattle.dg_turns.specs.Runs.{RunOver, Turned, last_machine, last_world, turn_texts}
use Rattle.dg_turns.specs.Turns.{Breaks}

-- What can be told of source and sink at one moment. `None` is what an object does not tell of itself.
pub record Streams : Type 0 where
  pub left : Option (List ℕ)  -- the bytes that the source has left
  pub source_faults : ℕ  -- the reads of the source that failed
  pub written : Option (List ℕ)  -- the bytes that the sink has got
  pub sink_faults : ℕ  -- the writes of the sink that failed

abbrev pub streams : {S K : Type 0} → source.Ghosts S → sink.Ghosts K → S → K → Streams
streams s k from to = record {
  left = s.left from;
  source_faults = s.faults from;
  written = k.written to;
  sink_faults = k.faults to;
}

-- these are all entries that stand whole, with their line feeds, in the bytes that were taken of the script
abbrev pub AreWholeBy : Grammar → List Entry → Option (List ℕ) → Option (List ℕ) → Type 0
AreWholeBy read entries left then_left = (taken : List ℕ) × Gives left taken then_left × (entries ≡ whole_entries_by read taken)

-- these are the first of them; or the script was taken to its end
abbrev pub AreTakenBy : Grammar → List Entry → Option (List ℕ) → Option (List ℕ) → Type 0
AreTakenBy read entries left then_left =
    (taken : List ℕ) × Gives left taken then_left × (((rest : List Entry) × (whole_entries_by read taken ≡ entries ++ rest)) ⊎ IsAtEnd then_left)

-- The entries that were answered were taken of the script; and where it was cut, they are all that stand whole in what was
-- taken, and no other.
abbrev pub TakesFor : Grammar → End → List Entry → Option (List ℕ) → Option (List ℕ) → Type 0
TakesFor read end.Done entries left then_left = AreTakenBy read entries left then_left
TakesFor read end.SourceFault entries left then_left = AreWholeBy read entries left then_left
TakesFor read end.SinkFault entries left then_left = AreTakenBy read entries left then_left
TakesFor read end.ScriptLimit entries left then_left = AreWholeBy read entries left then_left
TakesFor read end.Broken entries left then_left = AreTakenBy read entries left then_left

-- what the sink gained: the bytes that are due, or where it failed a proper prefix of them
abbrev pub GainsFor : End → Option (List ℕ) → List ℕ → Option (List ℕ) → Type 0
GainsFor end.Done before due after = after ≡ grown before due
GainsFor end.SourceFault before due after = after ≡ grown before due
GainsFor end.SinkFault before due after = GrowsByPart before due after
GainsFor end.ScriptLimit before due after = after ≡ grown before due
GainsFor end.Broken before due after = after ≡ grown before due

-- Behind the last reply, with these entries still to come, machine and world are left so: with `Done` no entry is to come;
-- with `Broken` the world failed within the first of them.
abbrev pub LeavesFor : {M W : Type 0} → machine.Ghosts M W → End → Option (List Entry) → M → W → M → W → Type 0
LeavesFor g end.Done more m w then_m then_w = IfSome more (λ rest. rest ≡ []) × (then_m ≡ m) × (then_w ≡ w)
LeavesFor g end.SourceFault more m w then_m then_w = g.stays m w then_m then_w
LeavesFor g end.SinkFault more m w then_m then_w = (then_m ≡ m) × (then_w ≡ w)
LeavesFor g end.ScriptLimit more m w then_m then_w = g.stays m w then_m then_w
LeavesFor g end.Broken more m w then_m then_w =
    (e : Entry) × (rest : Option (List Entry)) × (more ≡ option_map (λ es. e ∷ es) rest) × Breaks g m w then_m then_w e

-- why the run ended
abbrev pub EndsFor : ℕ → End → Streams → Streams → Type 0
EndsFor limit end.Done start now = IfSome start.left (λ script. length script < limit)
EndsFor limit end.SourceFault start now = CountRose start.source_faults now.source_faults
EndsFor limit end.SinkFault start now = CountRose start.sink_faults now.sink_faults
EndsFor limit end.ScriptLimit start now = (taken : List ℕ) × Gives start.left taken now.left × (length taken ≡ limit)
EndsFor limit end.Broken start now = Unit {0}

-- What a run of the machine over a script comes to, of which at most so many bytes may be taken.
pub record Ran {M W : Type 0} (g : machine.Ghosts M W) (read : Grammar) (limit : ℕ) (start : Streams) (m : M) (w : W) (end : End) (now : Streams) (then_m : M) (then_w : W) : Type 0 where
  -- The first entries of the script are answered one by one, and the sink gained the texts of the replies.
  pub entries : List Entry
  pub turns : List (Turned M W)
  pub run : RunOver g read m w entries turns
  pub more : Option (List Entry)
  pub front : option_map (script_by read) start.left ≡ option_map (λ rest. entries ++ rest) more
  pub gained : GainsFor end start.written (turn_texts g turns) now.written
  -- These entries were taken of the script.
  pub takes : TakesFor read end entries start.left now.left
  -- How it leaves machine and world, and why it ended.
  pub leaves : LeavesFor g end more (last_machine m turns) (last_world w turns) then_m then_w
  pub ends : EndsFor limit end start now
