-- What a source over a reader and a sink over a writer have inside.
use Rattle.std.specs.Prelude.{ℕ}
use Rattle.dg_io.specs.declared.standard.StdSource.{StdSource}
use Rattle.dg_io.specs.declared.standard.StdSink.{StdSink}

abbrev pub reader_of : {R : Type 0} → StdSource R → R
reader_of s = s.inner

-- the calls of the source that failed
abbrev pub read_faults : {R : Type 0} → StdSource R → ℕ
read_faults s = s.faults

abbrev pub writer_of : {W : Type 0} → StdSink W → W
writer_of s = s.inner

-- the calls of the sink that failed
abbrev pub write_faults : {W : Type 0} → StdSink W → ℕ
write_faults s = s.faults
