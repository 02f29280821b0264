-- The elements that are selected from events, and the lists that are read for them.
use Rattle.std.specs.Prelude.{ℕ, Bool, ◌+◌, ◌&&◌, List, [], if◌then◌else◌, filter, length, map, nat_le, nat_lt, sum}
use Rattle.dg_expr.specs.Chosen.{chosen}
use Rattle.dg_expr.specs.Expressions.{words_of}
use Rattle.dg_graph.specs.declared.element.Column.TheVariants as column
use Rattle.dg_graph.specs.declared.element.Columns.{Columns}
use Rattle.dg_graph.specs.declared.element.Element.{Element}
use Rattle.dg_graph.specs.declared.event.Event.{Event}
use Rattle.dg_graph.specs.Elements.{shown}
use Rattle.dg_graph.specs.Replay.{replay_at}
use Rattle.dg_history.specs.declared.node.Key.TheVariants as key
use Rattle.dg_history.specs.declared.params.Params.{Params}
use Rattle.dg_history.specs.History.{History, events_of, first_time_of, last_time_from}
use Rattle.dg_index.specs.Hierarchy.{leaves, numbers}
use Rattle.dg_index.specs.IndexRecords.{closed_list, column_in, length_in}
use Rattle.dg_machine.specs.declared.selection.Selection.{Selection}
use Rattle.dg_machine.specs.declared.selection.Selection.TheVariants.{Chosen, Added}
use Rattle.dg_added.specs.Additions.{added_between}

-- The elements that are selected, in these columns. No graph has a message, so an expression chooses none.
abbrev pub selected : List Event → Columns → Selection → List Element
selected events cols (Chosen e) = chosen (words_of e) (λ t. shown (replay_at events t) cols)
selected events cols (Added from until) = shown (added_between from until events) cols

-- the list begins before the end, and does not end before the beginning
abbrev pub meets : Params → List Event → ℕ → ℕ → ℕ → Bool
meets p events from until i =
    nat_lt (first_time_of (closed_list p events i)) until && nat_le from (last_time_from 0 (closed_list p events i))

-- the numbers of the closed lists that may have an event from the first instant on and before the second
abbrev pub lists_between : History → ℕ → ℕ → List ℕ
lists_between z from until =
    if nat_lt from until then filter (meets z.params (events_of z) from until) (numbers 0 (leaves z.params (length (events_of z)))) else []

-- the bytes of the asked columns of a list, messages among them
abbrev pub list_length : History → Columns → ℕ → ℕ
list_length z cols i =
    length_in z (key.List i) cols + (if cols.transient then length (column_in z (key.List i) column.Transient) else 0)

-- the bytes of the asked columns of these lists
abbrev pub added_length : History → ℕ → ℕ → Columns → ℕ
added_length z from until cols = sum (map (list_length z cols) (lists_between z from until))
