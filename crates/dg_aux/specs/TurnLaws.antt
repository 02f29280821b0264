-- The laws of turns, as they are proved.
use Rattle.std.specs.Prelude.{ℕ, ◌≡◌, Bool, List, ◌++◌, filter, nat_eq}
use Rattle.std.specs.List.{list_any}
use Rattle.dg_graph.specs.declared.element.Column.TheVariants as column
use Rattle.dg_graph.specs.declared.element.Element.{Element}
use Rattle.dg_graph.specs.declared.element.Element.TheVariants as element
use Rattle.dg_graph.specs.declared.event.Event.{Event}
use Rattle.dg_graph.specs.Columns.{column_of_body, same_column}
use Rattle.dg_graph.specs.Elements.{IsSet, has}
use Rattle.dg_graph.specs.Replay.{replay_at}
use Rattle.dg_aux.specs.Values.{additions_of, nodes_with}
use Rattle.dg_aux.specs.declared.turns.Turn.{Turn}
use Rattle.dg_aux.specs.Turns.{AreAlike, IsRising, additions, says, turns_of}

-- the turns say of a value at a node at an instant what the replay up to it says, whatever the order of times
abbrev pub TurnsStandForEvents : Type 0
TurnsStandForEvents = (key : ℕ) (events : List Event) (value id t : ℕ)
    → says (turns_of key events) value id t ≡ has (replay_at events t) (element.NodeAttr id key value)

-- as many turns of the events bring a value as events of them add one
abbrev pub TurnsAddAsEvents : Type 0
TurnsAddAsEvents = (key : ℕ) (events : List Event) → additions (turns_of key events) ≡ additions_of key events

-- rising ids, of which those are there whose node has the value in the set, are its nodes that have it
abbrev pub FoundNodesAreThere : Type 0
FoundNodesAreThere = (key value : ℕ) (set : List Element) → IsSet set → (ids : List ℕ) → IsRising ids
    → ((id : ℕ) → list_any (nat_eq id) ids ≡ has set (element.NodeAttr id key value)) → ids ≡ nodes_with key value set

-- turns that are like those of some events are, with those of a batch behind them, like those of all
abbrev pub BatchesKeepValues : Type 0
BatchesKeepValues = (key : ℕ) (events more : List Event) (turns : List Turn)
    → AreAlike (turns_of key events) turns → AreAlike (turns_of key (events ++ more)) (turns ++ turns_of key more)

-- the event stands in the column of node attributes
abbrev pub is_in_column : Event → Bool
is_in_column e = same_column (column_of_body e.body) column.NodeAttr

-- the events of that column have all the turns
abbrev pub ColumnsHaveTurns : Type 0
ColumnsHaveTurns = (key : ℕ) (events : List Event) → turns_of key (filter is_in_column events) ≡ turns_of key events
