-- What a run over parts begins and ends with outside the program.
use Rattle.std.specs.Prelude.{◌≡◌, ℕ, List, Option}
use Rattle.dg_disk.specs.declared.disk.Disk as disk
use Rattle.dg_io.specs.declared.sink.Sink as sink
use Rattle.dg_io.specs.declared.source.Source as source
use Rattle.dg_part_runs.specs.Disks.{faults_of, images_of}

-- What can be told of the source, the sink and the disks of the parts at one moment. `None` is what an object does not tell
-- of itself.
pub record PartsOutside : Type 0 where
  pub left : Option (List ℕ)  -- the bytes that the source has left
  pub source_faults : ℕ  -- the reads of the source that failed
  pub written : Option (List ℕ)  -- the bytes that the sink has got
  pub sink_faults : ℕ  -- the writes of the sink that failed
  pub images : List (Option (List ℕ))  -- the bytes of the index file of each part
  pub disk_faults : List ℕ  -- the calls of each disk that failed

-- what these objects tell, by the ghost members of each
abbrev pub outside_parts : {S K D : Type 0} → source.Ghosts S → sink.Ghosts K → disk.Ghosts D → S → K → List D → PartsOutside
outside_parts s k d from to disks = record {
  left = s.left from;
  source_faults = s.faults from;
  written = k.written to;
  sink_faults = k.faults to;
  images = images_of d disks;
  disk_faults = faults_of d disks;
}

-- nothing was read from the source or written to the sink
pub record IsUnasked (start now : PartsOutside) : Type 0 where
  pub left : now.left ≡ start.left
  pub source_faults : now.source_faults ≡ start.source_faults
  pub written : now.written ≡ start.written
  pub sink_faults : now.sink_faults ≡ start.sink_faults
