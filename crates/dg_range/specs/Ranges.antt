-- Which lists have events of some time.
use Rattle.std.specs.Prelude.{ℕ, Bool, false, ◌&&◌, Option, Some, None, nat_le, nat_lt}
use Rattle.dg_index.specs.declared.entry.Ends.{Ends}

-- there are instants, and the first of them is before this one
abbrev pub begins_before : ℕ → Option Ends → Bool
begins_before t None = false
begins_before t (Some e) = nat_lt e.first t

-- there are instants, the first of which is before the end, and the last of which is not before the beginning; and the
-- beginning is before the end
abbrev pub meets : ℕ → ℕ → Option Ends → Bool
meets from until None = false
meets from until (Some e) = nat_lt from until && (nat_lt e.first until && nat_le from e.last)
