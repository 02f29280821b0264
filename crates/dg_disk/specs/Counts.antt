-- Counts that a u64 keeps: each stays at the last value of a u64 once it is there.
use Rattle.std.specs.Prelude.{ℕ, ◌+◌, ◌≤◌, min}

-- the count with n more
abbrev pub raised_by : ℕ → ℕ → ℕ
raised_by n count = min (count + n) 18446744073709551615

-- the count rose, or stands at the last value
abbrev pub Rose : ℕ → ℕ → Type 0
Rose old new = raised_by 1 old ≤ new
