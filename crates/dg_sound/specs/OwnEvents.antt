-- The events that an index file holds of its own: those of its lists, and behind them those of its recent pieces. They
-- are read in the order of keys, and the first record that is not right ends the reading.
use Rattle.std.specs.Prelude.{ℕ, ◌+◌, ◌-◌, ◌*◌, Bool, true, false, ◌&&◌, ◌==◌, List, [], ◌∷◌, ◌++◌, Option, Some, None, Result, Ok, Err, if◌then◌else◌, bytes_eq, length, take, drop, max, nat_le}
use Rattle.dg_graph.specs.declared.element.Column.{Column}
use Rattle.dg_graph.specs.declared.element.Column.TheVariants as column
use Rattle.dg_graph.specs.declared.element.Element.{Element}
use Rattle.dg_graph.specs.declared.event.Event.{Event}
use Rattle.dg_graph.specs.declared.placed.Placed.{Placed}
use Rattle.dg_graph.specs.ColumnGrammar.{events_in as read_as_events}
use Rattle.dg_graph.specs.ColumnMerge.{merged}
use Rattle.dg_graph.specs.Columns.{events_column}
use Rattle.dg_graph.specs.Completion.{completes}
use Rattle.dg_graph.specs.Effect.{forwards}
use Rattle.dg_graph.specs.Replay.{replay}
use Rattle.dg_history.specs.declared.node.Key.{Key}
use Rattle.dg_history.specs.declared.node.Key.TheVariants as key
use Rattle.dg_history.specs.History.{first_time_of, last_time_from}
use Rattle.dg_index.specs.Hierarchy.{leaves, numbers}
use Rattle.dg_index.specs.OpenedIndex.{Opened, Opening, column_at, entry_at, event_total}
use Rattle.dg_index.specs.declared.entry.BatchEntry.{BatchEntry}
use Rattle.dg_index.specs.declared.entry.Ends.{Ends}

-- ---- one record of events

-- the first result, and then what follows from it
abbrev pub and_own : {A B E : Type 0} → Result A E → (A → Result B E) → Result B E
and_own (Ok x) next = next x
and_own (Err e) next = Err e

abbrev pub spelled_or : Column → Result (List Placed) ℕ → Result (List Placed) Column
spelled_or col (Ok placed) = Ok placed
spelled_or col (Err offset) = Err col

-- what a column of a record is read as, or that it is in no spelling
abbrev pub placed_in_column : List ℕ → Opened → Key → Column → Result (List Placed) Column
placed_in_column image x k col = spelled_or col (read_as_events col (length x.names) (column_at image (entry_at x.index k) col))

abbrev pub merged_or : Option (List Event) → Result (List Event) Column
merged_or (Some events) = Ok events
merged_or None = Err column.Structure

-- The events of a record that has so many: or its first column that is in no spelling, or structure where the columns
-- do not come together to as many events.
abbrev pub events_of_record : List ℕ → Opened → Key → ℕ → Result (List Event) Column
events_of_record image x k count =
    and_own (placed_in_column image x k column.Structure) (λ a.
    and_own (placed_in_column image x k column.NodeAttr) (λ b.
    and_own (placed_in_column image x k column.EdgeAttr) (λ c.
    and_own (placed_in_column image x k column.Transient) (λ d. merged_or (merged a b c d count)))))

-- ---- what is asked of events

-- each event is what some change comes to after the set and the events before it, and is not earlier than the time and
-- than the event before it
abbrev pub are_completions : List (List ℕ) → List Element → ℕ → List Event → Bool
are_completions names set time [] = true
are_completions names set time (e ∷ events) =
    completes names set e.body && (nat_le time e.time && are_completions names (forwards set e) e.time events)

-- the events may stand behind those before them
abbrev pub events_may_follow : List (List ℕ) → List Event → List Event → Bool
events_may_follow names before events = are_completions names (replay before) (last_time_from 0 before) events

-- the times are those of the first and of the last event
abbrev pub are_ends : Ends → List Event → Bool
are_ends ends events = ends.first == first_time_of events && ends.last == last_time_from 0 events

-- these times are told, and they are those of the first and of the last event
abbrev pub have_ends : Option Ends → List Event → Bool
have_ends None events = false
have_ends (Some ends) events = are_ends ends events

-- ---- the lists

abbrev pub if_right : Bool → Key → List Event → Result (List Event) (Key × Column)
if_right right k events = if right then Ok events else Err (k, column.Structure)

-- the events with those of a record behind them, or its column that is not right
abbrev pub with_record : List (List ℕ) → Key → (List Event → Bool) → List Event → Result (List Event) Column → Result (List Event) (Key × Column)
with_record names k right before (Err col) = Err (k, col)
with_record names k right before (Ok events) = if_right (right events && events_may_follow names before events) k (before ++ events)

-- the events with those of the list behind them
abbrev pub with_list : List ℕ → Opened → List Event → ℕ → Result (List Event) (Key × Column)
with_list image x before i =
    with_record x.names (key.List i) (have_ends (entry_at x.index (key.List i)).ends) before
    (events_of_record image x (key.List i) x.index.params.l)

-- the events with those of these lists behind them, or the first list that is not right
abbrev pub with_lists : List ℕ → Opened → List Event → List ℕ → Result (List Event) (Key × Column)
with_lists image x before [] = Ok before
with_lists image x before (i ∷ more) = and_own (with_list image x before i) (λ events. with_lists image x events more)

-- how many closed lists there are
abbrev pub list_total : Opening → ℕ
list_total o = leaves o.params (event_total o.batches)

-- the events of all lists
abbrev pub listed_events : List ℕ → Opened → Result (List Event) (Key × Column)
listed_events image x = with_lists image x [] (numbers 0 (list_total x.index))

-- ---- the pieces

-- the index of the first event of a batch's piece, where so many events stand before the batch
abbrev pub piece_start : Opening → ℕ → BatchEntry → ℕ
piece_start o count b = max count (leaves o.params (count + b.events) * o.params.l)

-- how many events the piece has
abbrev pub piece_length : Opening → ℕ → BatchEntry → ℕ
piece_length o count b = b.events - (leaves o.params (count + b.events) * o.params.l - count)

-- no later batch closes a list, so that its events stand in the piece alone
abbrev pub is_recent : Opening → ℕ → BatchEntry → Bool
is_recent o count b = leaves o.params (count + b.events) == list_total o

-- the batch's times are those of its events among these
abbrev pub has_batch_ends : ℕ → BatchEntry → List Event → Bool
has_batch_ends count b events = are_ends b.ends (take b.events (drop count events))

-- the column of the record is that of the events
abbrev pub is_column_of : List ℕ → Opened → Key → List Event → Column → Bool
is_column_of image x k events col = bytes_eq (column_at image (entry_at x.index k) col) (events_column col events)

abbrev pub if_columns : Bool → Bool → Bool → Bool → Key → List Event → Result (List Event) (Key × Column)
if_columns structure node_attr edge_attr transient k events =
    if structure
    then (if node_attr
    then (if edge_attr
    then (if transient then Ok events else Err (k, column.Transient))
    else Err (k, column.EdgeAttr))
    else Err (k, column.NodeAttr))
    else Err (k, column.Structure)

-- the events, where the piece of an older batch has the columns of its events among them, and the batch has their times
abbrev pub with_older : List ℕ → Opened → List Event → ℕ → ℕ → BatchEntry → Result (List Event) (Key × Column)
with_older image x before number count b =
    let k = key.Piece number in
    let events = take (piece_length x.index count b) (drop (piece_start x.index count b) before) in
    if_columns (is_column_of image x k events column.Structure && has_batch_ends count b before)
    (is_column_of image x k events column.NodeAttr) (is_column_of image x k events column.EdgeAttr)
    (is_column_of image x k events column.Transient) k before

-- the events with those of a recent piece behind them
abbrev pub with_recent : List ℕ → Opened → List Event → ℕ → ℕ → BatchEntry → Result (List Event) (Key × Column)
with_recent image x before number count b =
    with_record x.names (key.Piece number) (λ events. has_batch_ends count b (before ++ events)) before
    (events_of_record image x (key.Piece number) (piece_length x.index count b))

abbrev pub with_piece_events : List ℕ → Opened → List Event → ℕ → ℕ → BatchEntry → Result (List Event) (Key × Column)
with_piece_events image x before number count b =
    if is_recent x.index count b then with_recent image x before number count b else with_older image x before number count b

-- The events with those of the recent ones of these batches' pieces behind them, or the first piece that is not right.
-- The first of the batches has this number, and so many events stand before it.
abbrev pub with_pieces : List ℕ → Opened → List Event → ℕ → ℕ → List BatchEntry → Result (List Event) (Key × Column)
with_pieces image x before number count [] = Ok before
with_pieces image x before number count (b ∷ more) =
    and_own (with_piece_events image x before number count b) (λ events. with_pieces image x events (number + 1) (count + b.events) more)

-- the events of all lists and of all recent pieces, or the first record of events that is not right
abbrev pub own_events : List ℕ → Opened → Result (List Event) (Key × Column)
own_events image x = and_own (listed_events image x) (λ listed. with_pieces image x listed 0 0 x.index.batches)
