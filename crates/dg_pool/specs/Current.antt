-- How the current graph changes.
use Rattle.std.specs.Prelude.{◌≡◌, ℕ, List, Option}
use Rattle.dg_graph.specs.declared.element.Element.{Element}
use Rattle.dg_query.specs.declared.answers.Counts.{Counts}
use Rattle.dg_query.specs.Queries.{counts_of}
use Rattle.dg_cells.specs.Rows.{Row, is_current}
use Rattle.dg_pool.specs.declared.slots.SlotState.{SlotState}
use Rattle.dg_pool.specs.Graphs.{AreSlots, ListsOnNow, Keeps, picked}

-- what a change goes by: the slots, the numbers of those that rest on the current graph, and its counts
pub record IsChangeKnown (slots : List SlotState) (on_now : List ℕ) (counts : Counts) (rows : List (Option Row)) : Type 0 where
  pub states : AreSlots slots
  pub listed : ListsOnNow slots on_now
  pub counted : counts ≡ counts_of (picked is_current rows)

-- the current graph is this one then, with these counts, and every other graph is as it was
pub record TakesTo (graph : List Element) (slots : List SlotState) (old new : List (Option Row)) (counts : Counts) : Type 0 where
  pub now : picked is_current new ≡ graph
  pub counted : counts ≡ counts_of (picked is_current new)
  pub kept : Keeps slots old new
