-- What a source and a sink in memory hold.
use Rattle.std.specs.Prelude.{ℕ, ◌+◌, Bool, ◌||◌, ◌&&◌, ◌==◌, nat_lt, nat_le, min, List, length}
use Rattle.std.specs.List.{list_any}

pub record SourceState : Type 0 where
  pub left : List ℕ  -- the bytes still to be read
  pub chunk : ℕ  -- the most bytes that one read gives
  pub fails : List ℕ  -- the numbers, from 0, of the calls that fail
  pub calls : ℕ  -- the calls so far
  pub faults : ℕ  -- the calls that failed

pub record SinkState : Type 0 where
  pub written : List ℕ  -- the bytes written so far
  pub room : ℕ  -- the most bytes that it takes in all
  pub fails : List ℕ  -- the numbers, from 0, of the calls that fail
  pub calls : ℕ  -- the calls so far
  pub faults : ℕ  -- the calls that failed

-- a count raised by one, which stays at the last value of a u64
abbrev pub raised : ℕ → ℕ
raised n = min (n + 1) 18446744073709551615

-- whether the call of this number is one that fails
abbrev pub is_failing_call : List ℕ → ℕ → Bool
is_failing_call fails call = list_any (λ n. n == call) fails

-- whether a write of a piece of this length fails: by its number, or since nothing of it fits
abbrev pub sink_write_fails : SinkState → ℕ → Bool
sink_write_fails s len = is_failing_call s.fails s.calls || (nat_lt 0 len && nat_le s.room (length s.written))
