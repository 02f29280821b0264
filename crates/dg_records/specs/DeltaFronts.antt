-- The first bytes of a delta's column, and what they tell of the whole.
use Rattle.std.specs.Prelude.{◌≡◌, ℕ, ◌+◌, ◌-◌, ◌*◌, ◌==◌, ◌&&◌, Bool, List, Result, Ok, Err, drop, if◌then◌else◌, length, nat_le, take}
use Rattle.std.specs.Int.{from_be_bytes, w32}
use Rattle.dg_graph.specs.declared.element.Column.{Column}
use Rattle.dg_graph.specs.ColumnGrammar.{delta_in}
use Rattle.dg_records.specs.declared.delta.TheConstants.{DELTA_FRONT, LARGEST_ELEMENT, SMALLEST_ELEMENT}

-- the count in the four bytes from the offset on
abbrev pub count_at : ℕ → List ℕ → ℕ
count_at at bytes = from_be_bytes w32 (take 4 (drop at bytes))

-- so many elements may take so many bytes
abbrev pub may_take : ℕ → ℕ → Bool
may_take count bytes = nat_le (SMALLEST_ELEMENT * count) bytes && nat_le bytes (LARGEST_ELEMENT * count)

-- A column of this length may have so many elements that are taken out. Where it has none, the count of those that are put
-- in stands behind, and it may have so many of these.
abbrev pub may_have : ℕ → ℕ → ℕ → Bool
may_have out put_in len = if out == 0 then may_take put_in (len - DELTA_FRONT) else nat_le (DELTA_FRONT + SMALLEST_ELEMENT * out) len

-- the counts that the first bytes of a delta's column tell fit its length
abbrev pub counts_fit : List ℕ → ℕ → Bool
counts_fit front len = may_have (count_at 0 front) (count_at 4 front) len

-- what is read of a delta's column: its first bytes, and the rest where their counts fit its length
abbrev pub read_of_delta : List ℕ → List ℕ
read_of_delta whole = if counts_fit (take DELTA_FRONT whole) (length whole) then whole else take DELTA_FRONT whole

-- Where what is read of a column can be decoded, it is the whole column; where it is damaged, the whole column is.
pub record IsToldByRead {A : Type 0} (decoded : List ℕ → Result A ℕ) (read whole : List ℕ) : Type 0 where
  pub all : (x : A) → decoded read ≡ Ok x → read ≡ whole
  pub damaged : (m : ℕ) → decoded read ≡ Err m → (n : ℕ) × (decoded whole ≡ Err n)

-- so it is with the column of a delta, in a history with so many names
abbrev pub DeltasAreToldByRead : Type 0
DeltasAreToldByRead = (col : Column) (names : ℕ) (whole : List ℕ) → IsToldByRead (delta_in col names) (read_of_delta whole) whole
