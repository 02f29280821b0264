-- The laws of the parts of a history.
use Rattle.std.specs.Prelude.{◌≡◌, ℕ, ◌≤◌, false, map}
use Rattle.dg_graph.specs.declared.element.Columns.{Columns}
use Rattle.dg_graph.specs.DifferentialFunction.{all_of}
use Rattle.dg_graph.specs.Replay.{shown_at}
use Rattle.dg_history.specs.History.{History, events_of}
use Rattle.dg_history.specs.LegalHistory.{IsLegal}
use Rattle.dg_index.specs.Hierarchy.{numbers}
use Rattle.dg_partition.specs.HistoryParts.{part_of}
use Rattle.dg_partition.specs.PartRanges.{shown_within}
use Rattle.dg_partition.specs.Owners.{elements_of_part, events_of_part}

-- each part of a legal history is legal
abbrev pub PartsAreLegal : Type 0
PartsAreLegal = (z : History) → IsLegal z → (i p : ℕ) → IsLegal (part_of z i p)

-- the events of a part of a legal history are those that belong to it
abbrev pub PartsHaveTheirEvents : Type 0
PartsHaveTheirEvents = (z : History) → IsLegal z → (i p : ℕ) → events_of (part_of z i p) ≡ events_of_part p i (events_of z)

-- what is shown of a part, as of an instant, with the messages of the instant, is what the part has of what is shown of the whole
abbrev pub PartsShowTheirElements : Type 0
PartsShowTheirElements =
    (z : History) → IsLegal z → (i p t : ℕ) (cols : Columns) → shown_at (events_of (part_of z i p)) t cols ≡ elements_of_part p i (shown_at (events_of z) t cols)

-- all parts together show what the whole shows
abbrev pub PartsMakeTheWhole : Type 0
PartsMakeTheWhole =
    (z : History) → IsLegal z → (p t : ℕ) (cols : Columns) → 1 ≤ p
    → all_of (map (λ i. shown_at (events_of (part_of z i p)) t cols) (numbers 0 p)) ≡ shown_at (events_of z) t cols

-- so they do where each is asked for no instant but its own
abbrev pub PartsMakeTheWholeWithin : Type 0
PartsMakeTheWholeWithin =
    (z : History) → IsLegal z → (p t : ℕ) (cols : Columns) → 1 ≤ p → cols.transient ≡ false
    → all_of (map (λ i. shown_within (events_of (part_of z i p)) t cols) (numbers 0 p)) ≡ shown_at (events_of z) t cols
