-- The laws of columns, as they are proved.
use Rattle.std.specs.Prelude.{ℕ, ◌≡◌, ◌<◌, ◌≤◌, ◌^◌, true, List, [], length, All, Some, Ok}
use Rattle.dg_graph.specs.declared.element.Column.{Column}
use Rattle.dg_graph.specs.declared.element.Column.TheVariants as column
use Rattle.dg_graph.specs.declared.event.Event.{Event}
use Rattle.dg_graph.specs.declared.placed.Placed.{Placed}
use Rattle.dg_graph.specs.Columns.{counted, parts_bytes, in_column, placed_in, events_column, delta_column}
use Rattle.dg_graph.specs.Composition.{Delta, IsDelta}
use Rattle.dg_graph.specs.ColumnMerge.{never_fall, merged}
use Rattle.dg_graph.specs.ColumnGrammar.{events_in, delta_in}
use Rattle.dg_columns.specs.Ranges.{EventsFit, ElementsFit}

abbrev pub AreBytes : List ℕ → Type 0
AreBytes bytes = All (λ b. b < 256) bytes

-- bytes that are read as events are the one spelling of these events
abbrev pub EventsHaveOneSpelling : Type 0
EventsHaveOneSpelling = (col : Column) (names : ℕ) (bytes : List ℕ) (placed : List Placed) → AreBytes bytes → events_in col names bytes ≡ Ok placed → bytes ≡ counted placed

-- bytes that are read as a delta are the one spelling of its two sets
abbrev pub DeltasHaveOneSpelling : Type 0
DeltasHaveOneSpelling = (col : Column) (names : ℕ) (bytes : List ℕ) (d : Delta) → AreBytes bytes → delta_in col names bytes ≡ Ok d → bytes ≡ parts_bytes d.minus d.plus

-- the column of events is read as the events of that column, with their positions
abbrev pub EventsAreReadBack : Type 0
EventsAreReadBack = (col : Column) (names : ℕ) (events : List Event) → names < 2 ^ 32 → length events ≤ 65536 → EventsFit names 0 events → events_in col names (events_column col events) ≡ Ok (placed_in col events)

-- the columns of a list of events whose times do not fall are merged to the list
abbrev pub EventsAreMergedBack : Type 0
EventsAreMergedBack = (events : List Event) → never_fall 0 events ≡ true → merged (placed_in column.Structure events) (placed_in column.NodeAttr events) (placed_in column.EdgeAttr events) (placed_in column.Transient events) (length events) ≡ Some events

-- none of the delta's elements is a message
abbrev pub HasNoMessage : Delta → Type 0
HasNoMessage d = (in_column column.Transient d.minus ≡ []) × (in_column column.Transient d.plus ≡ [])

-- the column of a delta is read as the delta of that column's elements
abbrev pub DeltasAreReadBack : Type 0
DeltasAreReadBack = (col : Column) (names : ℕ) (d : Delta) → names < 2 ^ 32 → IsDelta d → length d.minus < 2 ^ 32 → length d.plus < 2 ^ 32 → ElementsFit names d.minus → ElementsFit names d.plus → HasNoMessage d
    → delta_in col names (delta_column col d) ≡ Ok (record { minus = in_column col d.minus; plus = in_column col d.plus })
