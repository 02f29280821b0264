-- Where the bytes of a cutter of lines stand in its buffer.
use Rattle.std.specs.Prelude.{◌≡◌, ◌<◌, ◌≤◌, false, IsTrue, length, slice_range}
use Rattle.dg_io.specs.declared.lines.Lines.TheInside.{Inside}
use Rattle.dg_io.specs.Feed.{has_feed}

pub record IsBufferWhole (l : Inside) : Type 0 where
  pub start : l.start ≤ l.scanned
  pub scanned : l.scanned ≤ l.end
  pub within : l.end ≤ length l.buffer
  pub no_feed : has_feed (slice_range l.buffer l.start l.scanned) ≡ false
  pub text : l.text_start ≤ l.text_end
  pub text_within : l.text_end ≤ length l.buffer
  pub limit : l.taken ≤ l.limit
  pub ended : IsTrue l.ended → l.taken < l.limit
