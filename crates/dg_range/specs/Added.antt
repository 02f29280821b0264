-- What comes in within a range of instants, read from the lists that may have such events.
use Rattle.std.specs.Prelude.{◌≡◌, ℕ, ◌+◌, List as ListOf, [], ◌∷◌, ◌++◌, Option, Some, None, Ok, IfSome, map, filter, if◌then◌else◌}
use Rattle.std.specs.List.{flat_map}
use Rattle.dg_added.specs.Additions.{added_between}
use Rattle.dg_added.specs.PutIn.{put_within}
use Rattle.dg_graph.specs.Elements.{asks, shown}
use Rattle.dg_graph.specs.declared.element.Column.{Column}
use Rattle.dg_graph.specs.declared.element.Column.TheVariants.{Structure, NodeAttr, EdgeAttr, Transient}
use Rattle.dg_graph.specs.declared.element.Columns.{Columns}
use Rattle.dg_graph.specs.declared.element.Element.{Element}
use Rattle.dg_graph.specs.declared.event.Event.{Event}
use Rattle.dg_heard.specs.Heard.{list_total}
use Rattle.dg_history.specs.declared.node.Key.TheVariants as key
use Rattle.dg_index.specs.Hierarchy.{numbers}
use Rattle.dg_index.specs.OpenedIndex.{Opening, entry_at}
use Rattle.dg_range.specs.ColumnRuns.{events_along}
use Rattle.dg_range.specs.Ranges.{meets}
use Rattle.dg_records.specs.EventNames.{EventNamesAreThere}

-- ---- which columns are read

-- the asked columns of a list, messages among them
abbrev pub list_columns : Columns → ℕ → ListOf (ℕ × Column)
list_columns cols i = map (λ (c : Column). (i, c)) (filter (asks cols) (Structure ∷ NodeAttr ∷ EdgeAttr ∷ Transient ∷ []))

-- those of lists, one list after another
abbrev pub asked_columns : Columns → ListOf ℕ → ListOf (ℕ × Column)
asked_columns cols lists = flat_map (list_columns cols) lists

-- the lists of an index that may have an event of the range
abbrev pub lists_met : Opening → ℕ → ℕ → ListOf ℕ
lists_met o from until = filter (λ (i : ℕ). meets from until (entry_at o (key.List i)).ends) (numbers 0 (list_total o))

-- their asked columns
abbrev pub range_columns : Opening → ℕ → ℕ → Columns → ListOf (ℕ × Column)
range_columns o from until cols = asked_columns cols (lists_met o from until)

-- ---- the order of reading

abbrev pub from_messages : Columns → Option Column
from_messages cols = if cols.transient then Some Transient else None

abbrev pub from_edges : Columns → Option Column
from_edges cols = if cols.edges_attr then Some EdgeAttr else from_messages cols

abbrev pub from_nodes : Columns → Option Column
from_nodes cols = if cols.nodes_attr then Some NodeAttr else from_edges cols

-- the asked column behind this one
abbrev pub following : Columns → Column → Option Column
following cols Structure = from_nodes cols
following cols NodeAttr = from_edges cols
following cols EdgeAttr = from_messages cols
following cols Transient = None

-- that column of the list, or the structure of the next list
abbrev pub place_after : ℕ → Option Column → ℕ × Column
place_after i None = (i + 1, Structure)
place_after i (Some c) = (i, c)

-- ---- what comes in

-- behind the elements that were there is what the events that these columns spell in the image put in; their names are there
pub record ArePutIn (names : ℕ) (image : Option (ListOf ℕ)) (o : Opening) (ps : ListOf (ℕ × Column)) (from until : ℕ) (old new : ListOf Element) : Type 0 where
  pub events : ListOf Event
  pub read : IfSome image (λ bytes. events_along names bytes o ps ≡ Ok events)
  pub put : new ≡ old ++ put_within from until events
  pub named : EventNamesAreThere names events

-- The set is what the events that the asked columns of these lists spell, and the recent ones, add within the range, in the
-- asked columns.
abbrev pub IsAddedIn : ℕ → ListOf ℕ → Opening → ListOf Event → ℕ → ℕ → Columns → ListOf Element → Type 0
IsAddedIn names image o recent from until cols set =
    (events : ListOf Event) × (events_along names image o (range_columns o from until cols) ≡ Ok events) × (set ≡ shown (added_between from until (events ++ recent)) cols)
