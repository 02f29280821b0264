-- The batch that a seed leads to.
use Rattle.std.specs.Prelude.{◌≡◌, ℕ, ◌≤◌, List, Some, length, map, take}
use Rattle.dg_append.specs.declared.front.Front.TheVariants.{Whole}
use Rattle.dg_graph.specs.declared.event.Change.{Change}
use Rattle.dg_text.specs.declared.limits.TheConstants.{NAMES_MAX}
use Rattle.dg_changes.specs.Batch.{changes_after, names_after}
use Rattle.dg_changes.specs.GeneratedChanges.{generated}
use Rattle.dg_append.specs.declared.batch.Batch.{Batch}

-- The batch has the first changes of the seed, so many of them, and the names have grown by theirs.
pub record IsGenerated (seed count : ℕ) (names new : List (List ℕ)) (batch : Batch) : Type 0 where
  pub known : batch.known ≡ length names
  pub whole : batch.front ≡ Whole
  pub changes_are : changes_after names (generated seed count) ≡ map (λ (c : Change). Some c) batch.changes.items
  pub many : length batch.changes.items ≡ count
  pub names_are : new ≡ names_after names (generated seed count)
  pub kept : take (length names) new ≡ names
  pub few : length new ≤ NAMES_MAX
