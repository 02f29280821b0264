-- The front of an event column, and what it tells of the whole.
use Rattle.std.specs.Prelude.{◌≡◌, ℕ, List, Ok, Err, take}
use Rattle.dg_graph.specs.declared.element.Column.{Column}
use Rattle.dg_graph.specs.declared.placed.Placed.{Placed}
use Rattle.dg_graph.specs.ColumnGrammar.{events_in}
use Rattle.dg_columns.specs.declared.layout.TheConstants.{EVENTS_FRONT}

-- the first bytes of an event column: as many as need to be read, or all
abbrev pub front_of : List ℕ → List ℕ
front_of whole = take EVENTS_FRONT whole

-- Where the front is read as events, it is the whole column; where it is damaged, the whole column is.
pub record IsToldByFront (col : Column) (names : ℕ) (front whole : List ℕ) : Type 0 where
  pub all : (placed : List Placed) → events_in col names front ≡ Ok placed → front ≡ whole
  pub damaged : (m : ℕ) → events_in col names front ≡ Err m → (n : ℕ) × (events_in col names whole ≡ Err n)
