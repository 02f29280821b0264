-- When a part is asked, and for which of its instants; and the range of all parts together.
use Rattle.std.specs.Prelude.{ℕ, List, [], ◌∷◌, Option, Some, None, if◌then◌else◌, map, max, min, nat_lt}
use Rattle.dg_history.specs.History.{History, events_of, span_of}

-- The instant of a part that stands for the instant: the last of its own up to it. There is none before its first, nor
-- where it has no event. (No part's last instant is before its first one.)
abbrev pub time_within : Option (ℕ × ℕ) → ℕ → Option ℕ
time_within None t = None
time_within (Some ends) t = if nat_lt (min t ends.1) ends.0 then None else Some (min t ends.1)

-- the range of two ranges: from the earlier first instant to the later last one
abbrev pub joined : Option (ℕ × ℕ) → Option (ℕ × ℕ) → Option (ℕ × ℕ)
joined None b = b
joined (Some a) None = Some a
joined (Some a) (Some b) = Some (min a.0 b.0, max a.1 b.1)

-- the range of all of them; none where none has one
abbrev pub joined_all : List (Option (ℕ × ℕ)) → Option (ℕ × ℕ)
joined_all [] = None
joined_all (ends ∷ more) = joined ends (joined_all more)

-- the first and the last instant of a history, where it has an event
abbrev pub ends_of : History → Option (ℕ × ℕ)
ends_of z = span_of (events_of z)

-- the range of all parts together
abbrev pub ends_of_parts : List History → Option (ℕ × ℕ)
ends_of_parts parts = joined_all (map ends_of parts)
