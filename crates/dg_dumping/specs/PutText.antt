-- Text on its way to a sink: some of it is written, and some is held.
use Rattle.std.specs.Prelude.{◌≡◌, ◌⊎◌, ℕ, ◌≤◌, List, [], ◌∷◌, ◌++◌, map}
use Rattle.dg_dump.specs.ScriptOfHistory.{event_line, text_of_lines}
use Rattle.dg_dumping.specs.declared.status.DumpStatus.{DumpStatus}
use Rattle.dg_dumping.specs.declared.status.DumpStatus.TheVariants as status
use Rattle.dg_graph.specs.declared.event.Event.{Event}
use Rattle.dg_io.specs.declared.sink.Sink as sink
use Rattle.dg_io.specs.Calls.{FailsToPut, PutsPart}
use Rattle.dg_io.specs.Told.{grown}

-- Of all the text, the first bytes were written to the sink, then come those that are held, and `left` is still to be put.
pub record HasPut {K : Type 0} (g : sink.Ghosts K) (old : K) (all : List ℕ) (now : K) (held left : List ℕ) : Type 0 where
  pub sent : List ℕ
  pub written : g.written now ≡ grown (g.written old) sent
  pub split : sent ++ (held ++ left) ≡ all

-- all the text was written but what is held
abbrev pub Puts : {K : Type 0} → sink.Ghosts K → K → List ℕ → K → List ℕ → Type 0
Puts g old all now held = HasPut g old all now held []

-- A proper front of the text was written: a write of the sink failed, or memory lacked.
pub record PutFails {K : Type 0} (g : sink.Ghosts K) (old : K) (all : List ℕ) (s : DumpStatus) (now : K) : Type 0 where
  pub part : PutsPart g old all now
  pub cause : ((s ≡ status.SinkFault) × FailsToPut g old now) ⊎ (s ≡ status.NoMemory)

-- the lines of the events, each with a line feed behind it
abbrev pub events_text : List (List ℕ) → List Event → List ℕ
events_text names events = text_of_lines (map (event_line names) events)
