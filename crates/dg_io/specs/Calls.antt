-- The words of `Frame` and of `Told` at a bound `S: Source` or `K: Sink`: each takes the ghost members of the object as
-- one argument.
use Rattle.std.specs.Prelude.{ℕ, List}
use Rattle.dg_io.specs.Frame.{Advances, CountsOn}
use Rattle.dg_io.specs.LinesState.{LinesState}
use Rattle.dg_io.specs.Told.{CountRose, GrowsByPart}
use Rattle.dg_io.specs.declared.sink.Sink as sink
use Rattle.dg_io.specs.declared.source.Source as source

-- bytes may have been taken from the source, and no more lines may come than before
abbrev pub TakesFrom : {S : Type 0} → source.Ghosts S → LinesState → S → LinesState → S → Type 0
TakesFrom g old had new has = Advances old (g.left had) (g.faults had) new (g.left has) (g.faults has)

-- a read of the source failed in this call
abbrev pub FailsToRead : {S : Type 0} → source.Ghosts S → S → S → Type 0
FailsToRead g old new = CountRose (g.faults old) (g.faults new)

-- a write of the sink failed in this call
abbrev pub FailsToPut : {K : Type 0} → sink.Ghosts K → K → K → Type 0
FailsToPut g old new = CountRose (g.faults old) (g.faults new)

-- the count of the sink's failures has not fallen
abbrev pub PutsOn : {K : Type 0} → sink.Ghosts K → K → K → Type 0
PutsOn g old new = CountsOn (g.faults old) (g.faults new)

-- a proper prefix of the piece was written to the sink
abbrev pub PutsPart : {K : Type 0} → sink.Ghosts K → K → List ℕ → K → Type 0
PutsPart g old piece new = GrowsByPart (g.written old) piece (g.written new)
