-- How events are cut into batches: each is the longest run of those that are left that has no more events than a batch
-- may have, and ends at the last event or before a later time.
use Rattle.std.specs.Prelude.{ℕ, zero, suc, Bool, true, List, [], ◌∷◌, if◌then◌else◌, length, take, drop, min, nat_lt}
use Rattle.dg_graph.specs.declared.event.Event.{Event}
use Rattle.dg_history.specs.History.{last_time_from}
use Rattle.dg_history.specs.declared.limits.TheConstants.{BATCH_LINES_MAX}

-- there is no event, or the first is later
abbrev pub starts_later : ℕ → List Event → Bool
starts_later last [] = true
starts_later last (e ∷ events) = nat_lt last e.time

-- a batch may end behind so many of the events
abbrev pub may_end : List Event → ℕ → Bool
may_end events n = starts_later (last_time_from 0 (take n events)) (drop n events)

-- the greatest number up to this one that passes the test, or 0
abbrev pub greatest : (ℕ → Bool) → ℕ → ℕ
greatest t zero = 0
greatest t (suc n) = if t (suc n) then suc n else greatest t n

-- how many of the events the next batch has
abbrev pub cut_of : List Event → ℕ
cut_of events = greatest (may_end events) (min (length events) BATCH_LINES_MAX)

-- The events cut into so many batches, at the most. Where times do not fall and no instant has more events than a batch may
-- have, each batch has an event, so that as many batches as there are events are enough.
abbrev pub cut : ℕ → List Event → List (List Event)
cut most [] = []
cut zero (e ∷ events) = []
cut (suc most) (e ∷ events) = take (cut_of (e ∷ events)) (e ∷ events) ∷ cut most (drop (cut_of (e ∷ events)) (e ∷ events))
