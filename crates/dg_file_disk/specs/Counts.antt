-- What a disk over a file tells.
use Rattle.std.specs.Prelude.{ℕ}

-- what a disk over a file counts
pub record Counts : Type 0 where
  pub faults : ℕ  -- the calls that failed
  pub write_faults : ℕ  -- the writes and syncs that failed
  pub taken : ℕ  -- the bytes read
