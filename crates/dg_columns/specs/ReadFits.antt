-- What is read fits: it rises, stands in its column, and names what is there.
use Rattle.std.specs.Prelude.{ℕ, ◌+◌, ◌≡◌, ◌≤◌, List, [], ◌∷◌, Ok, map, filter}
use Rattle.dg_graph.specs.declared.element.Column.{Column}
use Rattle.dg_graph.specs.declared.element.Column.TheVariants as column
use Rattle.dg_delta.specs.Deltas.{joined}
use Rattle.dg_graph.specs.Columns.{in_column, same_column, column_of_body}
use Rattle.dg_graph.specs.Composition.{Delta, IsDelta}
use Rattle.dg_graph.specs.ColumnGrammar.{delta_in, events_in}
use Rattle.dg_graph.specs.declared.placed.Placed.{Placed}
use Rattle.dg_columns.specs.ColumnLaws.{AreBytes, HasNoMessage}
use Rattle.dg_columns.specs.Ranges.{ElementsFit, EventsFit}

-- the delta's elements stand in the column
pub record IsIn (col : Column) (d : Delta) : Type 0 where
  pub minus_in : in_column col d.minus ≡ d.minus
  pub plus_in : in_column col d.plus ≡ d.plus

-- the deltas of the three columns, one after another
abbrev pub joined_columns : Delta → Delta → Delta → Delta
joined_columns s n e = joined (joined s n) e

-- the part of a delta that stands in the column
abbrev pub part_in : Column → Delta → Delta
part_in col d = record { minus = in_column col d.minus; plus = in_column col d.plus }

-- the three parts of a delta without messages are joined to the delta
abbrev pub PartsAreJoinedBack : Type 0
PartsAreJoinedBack = (d : Delta) → IsDelta d → HasNoMessage d → joined_columns (part_in column.Structure d) (part_in column.NodeAttr d) (part_in column.EdgeAttr d) ≡ d

-- a delta of elements of one column, in a history with so many names
pub record DeltaFits (col : Column) (names : ℕ) (d : Delta) : Type 0 where
  pub delta : IsDelta d
  pub inside : IsIn col d
  pub minus_fits : ElementsFit names d.minus
  pub plus_fits : ElementsFit names d.plus

-- bytes that are read as a delta are read as one that fits
abbrev pub DeltasThatAreReadFit : Type 0
DeltasThatAreReadFit = (col : Column) (names : ℕ) (bytes : List ℕ) (d : Delta) → AreBytes bytes → delta_in col names bytes ≡ Ok d → DeltaFits col names d

-- positions rise strictly, and are not below `low`
abbrev pub PositionsRise : ℕ → List Placed → Type 0
PositionsRise low [] = Unit {0}
PositionsRise low (p ∷ placed) = (low ≤ p.at) × PositionsRise (p.at + 1) placed

-- the events of one column with their positions, in a history with so many names
pub record PlacedFit (col : Column) (names low earliest : ℕ) (placed : List Placed) : Type 0 where
  pub positions : PositionsRise low placed
  pub events : EventsFit names earliest (map (λ (p : Placed). p.event) placed)
  pub inside : filter (λ (p : Placed). same_column (column_of_body p.event.body) col) placed ≡ placed

-- bytes that are read as events are read as events that fit
abbrev pub EventsThatAreReadFit : Type 0
EventsThatAreReadFit = (col : Column) (names : ℕ) (bytes : List ℕ) (placed : List Placed) → AreBytes bytes → events_in col names bytes ≡ Ok placed → PlacedFit col names 0 0 placed

-- The bytes are read as a delta, and what it takes out and puts in stands behind what two lists had.
abbrev pub IsPushed : Column → ℕ → List ℕ → Delta → Delta → Type 0
IsPushed col names bytes old new = (d : Delta) × (delta_in col names bytes ≡ Ok d) × DeltaFits col names d × (new ≡ joined old d)
