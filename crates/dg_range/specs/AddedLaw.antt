-- What the asked columns of the lists of a range have over an image of a history.
use Rattle.std.specs.Prelude.{◌≡◌, ℕ, List, ◌++◌, Ok, length}
use Rattle.dg_added.specs.Additions.{added_between}
use Rattle.dg_graph.specs.Elements.{shown}
use Rattle.dg_graph.specs.declared.element.Columns.{Columns}
use Rattle.dg_graph.specs.declared.event.Event.{Event}
use Rattle.dg_history.specs.History.{History, events_of, names_of}
use Rattle.dg_index.specs.ImageOfHistory.{IsImageOf}
use Rattle.dg_index.specs.IndexRecords.{recent_of}
use Rattle.dg_index.specs.OpenedIndex.{opened_of}
use Rattle.dg_range.specs.Added.{range_columns}
use Rattle.dg_range.specs.ColumnRuns.{events_along}

-- In an image of the history none of these columns is damaged, and their events with the recent ones add within the range
-- what all events of the history add, in the asked columns.
pub record HasAddedOf (z : History) (image : List ℕ) (from until : ℕ) (cols : Columns) : Type 0 where
  pub events : List Event
  pub read : events_along (length (names_of z)) image (opened_of z).index (range_columns (opened_of z).index from until cols) ≡ Ok events
  pub added : shown (added_between from until (events ++ recent_of z.params (events_of z))) cols ≡ shown (added_between from until (events_of z)) cols

abbrev pub ImagesHaveAdded : Type 0
ImagesHaveAdded = (z : History) (image : List ℕ) → IsImageOf z image → (from until : ℕ) (cols : Columns) → HasAddedOf z image from until cols
