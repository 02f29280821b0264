-- Composing the records of a walk as they are read.
use Rattle.std.specs.Prelude.{◌≡◌, ℕ, List, Option, IfSome, Result, Ok, Err}
use Rattle.dg_delta.specs.Stacks.{height_of}
use Rattle.dg_delta.specs.declared.stack.Height.{Height}
use Rattle.dg_graph.specs.Composition.{Delta}
use Rattle.dg_graph.specs.declared.element.Column.{Column}
use Rattle.dg_graph.specs.declared.element.Columns.{Columns}
use Rattle.dg_history.specs.declared.node.Key.{Key}
use Rattle.dg_index.specs.OpenedIndex.{Opening}
use Rattle.dg_plan.specs.declared.edge.Edge.{Edge}
use Rattle.dg_fold.specs.declared.fault.FoldFault.{FoldFault}
use Rattle.dg_fold.specs.declared.part.Part.{Part}
use Rattle.dg_fold.specs.BytesRead.{AreParts, named_along}
use Rattle.dg_fold.specs.Parts.{Folds, StandsOnTop}
use Rattle.dg_records.specs.ColumnReads.{kept_in}

-- There are parts with P; where there is an image, they are those of the walk in it.
abbrev pub HasParts : Option (List ℕ) → Opening → Columns → List Edge → (List Part → Type 0) → Type 0
HasParts image o cols walk P = (parts : List Part) × P parts × IfSome image (λ bytes. AreParts (kept_in bytes o) cols (named_along walk) parts)

-- the composition of these deltas stands behind what stood there, or the first damage is named; unless memory ran out
abbrev pub StandsOrFails : {T : Type 0} → Result T FoldFault → Result (List Delta) (Key × Column) → Delta → Delta → Type 0
StandsOrFails (Ok x) due old new = StandsOnTop due old new
StandsOrFails (Err f) due old new = Folds (Err f) due

-- Compositions were put on top one after the other, the one from h and the other from k on, or their first damage is named.
pub record ArePushed {T : Type 0} (pushed on : Result T FoldFault) (h k : Height) (top : Delta) (a b : Result (List Delta) (Key × Column)) (old mid : Delta) : Type 0 where
  pub begins : h ≡ height_of old
  pub goes_on : k ≡ height_of mid
  pub stands : StandsOrFails pushed a old mid
  pub stands_behind : StandsOrFails on b mid top
