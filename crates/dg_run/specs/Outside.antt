-- What a run begins and ends with outside the program.
use Rattle.std.specs.Prelude.{◌≡◌, ℕ, List, Option}
use Rattle.dg_disk.specs.declared.disk.Disk as disk
use Rattle.dg_io.specs.declared.sink.Sink as sink
use Rattle.dg_io.specs.declared.source.Source as source

-- What can be told of the source, the sink and the disk at one moment. `None` is what an object does not
-- tell of itself.
pub record Outside : Type 0 where
  pub left : Option (List ℕ)  -- the bytes that the source has left
  pub source_faults : ℕ  -- the reads of the source that failed
  pub written : Option (List ℕ)  -- the bytes that the sink has got
  pub sink_faults : ℕ  -- the writes of the sink that failed
  pub image : Option (List ℕ)  -- the bytes of the index file
  pub disk_faults : ℕ  -- the calls of the disk that failed
  pub write_faults : ℕ  -- the writes and syncs of the disk that failed
  pub bytes_read : ℕ  -- the bytes read from the disk

-- what these three objects tell, by the ghost members of each
abbrev pub outside : {S K D : Type 0} → source.Ghosts S → sink.Ghosts K → disk.Ghosts D → S → K → D → Outside
outside s k d from to on = record {
  left = s.left from;
  source_faults = s.faults from;
  written = k.written to;
  sink_faults = k.faults to;
  image = d.image on;
  disk_faults = d.faults on;
  write_faults = d.write_faults on;
  bytes_read = d.taken on;
}

-- nothing was read from the source or written to the sink, and the image is as it was
pub record IsUntouched (start now : Outside) : Type 0 where
  pub left : now.left ≡ start.left
  pub source_faults : now.source_faults ≡ start.source_faults
  pub written : now.written ≡ start.written
  pub sink_faults : now.sink_faults ≡ start.sink_faults
  pub image : now.image ≡ start.image
