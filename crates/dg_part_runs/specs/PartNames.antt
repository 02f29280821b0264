-- By which names the parts of a history write.
use Rattle.std.specs.Prelude.{◌≡◌, ℕ, ◌≤◌, map}
use Rattle.dg_history.specs.History.{History, names_of}
use Rattle.dg_history.specs.LegalHistory.{IsLegal}
use Rattle.dg_index.specs.Hierarchy.{numbers}
use Rattle.dg_partition.specs.HistoryParts.{part_of}
use Rattle.dg_part_runs.specs.PartsMachine.{names_of_parts}

-- The names by which all parts of a legal history write together, those of the first that has an event, are the names of the
-- history.
abbrev pub PartsHaveTheNames : Type 0
PartsHaveTheNames = (z : History) → IsLegal z → (p : ℕ) → 1 ≤ p → names_of_parts (map (λ i. part_of z i p) (numbers 0 p)) ≡ names_of z
