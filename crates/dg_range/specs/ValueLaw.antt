-- What the columns of node attributes have over an image of a history.
use Rattle.std.specs.Prelude.{◌≡◌, ℕ, List, ◌++◌, Ok, length, map, sum}
use Rattle.dg_aux.specs.Turns.{turns_of}
use Rattle.dg_graph.specs.declared.element.Column.TheVariants as column
use Rattle.dg_graph.specs.declared.event.Event.{Event}
use Rattle.dg_history.specs.declared.node.Key.TheVariants as key
use Rattle.dg_history.specs.History.{History, events_of, names_of}
use Rattle.dg_index.specs.Hierarchy.{leaves, numbers}
use Rattle.dg_index.specs.ImageOfHistory.{IsImageOf}
use Rattle.dg_index.specs.IndexRecords.{column_in, recent_of}
use Rattle.dg_index.specs.OpenedIndex.{opened_of}
use Rattle.dg_range.specs.ColumnRuns.{bytes_along}
use Rattle.dg_range.specs.ListValues.{all_node_columns, values_along}

-- In an image of the history none of these columns is damaged, and their events with the recent ones have the turns of all
-- events of the history, of whatever key. They have the bytes of the history's columns.
pub record HasValuesOf (z : History) (image : List ℕ) : Type 0 where
  pub events : List Event
  pub read : values_along (length (names_of z)) image (opened_of z).index ≡ Ok events
  pub turns : (name : ℕ) → turns_of name (events ++ recent_of z.params (events_of z)) ≡ turns_of name (events_of z)
  pub bytes : bytes_along (opened_of z).index (all_node_columns (opened_of z).index)
      ≡ sum (map (λ (i : ℕ). length (column_in z (key.List i) column.NodeAttr)) (numbers 0 (leaves z.params (length (events_of z)))))

abbrev pub ImagesHaveValues : Type 0
ImagesHaveValues = (z : History) (image : List ℕ) → IsImageOf z image → HasValuesOf z image
