-- The occupied cells in the order of their elements.
use Rattle.std.specs.Prelude.{◌≡◌, ℕ, ◌-◌, ◌≤◌, ◌<◌, ◌==◌, Bool, true, false, List, [], ◌∷◌, Option, Some, None, IsSome, length, slice_index_or}
use Rattle.std.specs.List.{cons_option, All, list_any}
use Rattle.dg_graph.specs.declared.element.Element.{Element}
use Rattle.dg_graph.specs.Elements.{before, has, IsSet}
use Rattle.dg_arena.specs.Cells as arena
use Rattle.dg_cells.specs.Rows.{Row, cell_at, CellsAreApart}
use Rattle.dg_cells.specs.Pieces.{nth_piece}

-- the element of a cell, if it is occupied
abbrev pub cell_element : Option Row → Option Element
cell_element = arena.value_at

-- the elements of the cells with these numbers
abbrev pub elements_in : List (Option Row) → List ℕ → List Element
elements_in rows [] = []
elements_in rows (n ∷ order) = cons_option (cell_element (cell_at rows n)) (elements_in rows order)

-- the numbers are those of occupied cells
abbrev pub AreCells : List (Option Row) → List ℕ → Type 0
AreCells rows order = All (λ n. IsSome (cell_at rows n)) order

-- the numbers of occupied cells whose elements rise
pub record IsOrder (rows : List (Option Row)) (order : List ℕ) : Type 0 where
  pub live : AreCells rows order
  pub rises : IsSet (elements_in rows order)

-- x belongs at this position: what stands before it is before x, and what stands from it on is not
pub record IsLower (x : Element) (xs : List Element) (at : ℕ) : Type 0 where
  pub within : at ≤ length xs
  pub low : (k : ℕ) (d : Element) → k < at → before (slice_index_or xs k d) x ≡ true
  pub high : (k : ℕ) (d : Element) → at ≤ k → k < length xs → before (slice_index_or xs k d) x ≡ false

-- the order lists all occupied cells, each once, by their elements
pub record IsListed (rows : List (Option Row)) (order : List ℕ) : Type 0 where
  pub in_order : IsOrder rows order
  pub all : (n : ℕ) (r : Row) → cell_at rows n ≡ Some r → has (elements_in rows order) r.element ≡ true
  pub apart : CellsAreApart rows

-- the cell's element is before x
abbrev pub is_cell_before : Element → Option Row → Bool
is_cell_before x None = false
is_cell_before x (Some r) = before r.element x

-- the element of the cell with the number at this index is before x
abbrev pub is_index_before : List (Option Row) → List ℕ → Element → ℕ → Bool
is_index_before rows order x k = is_cell_before x (cell_at rows (slice_index_or order k 0))

-- all elements of the piece are before x
abbrev pub is_piece_before : List (Option Row) → List (List ℕ) → Element → ℕ → Bool
is_piece_before rows pieces x n = is_index_before rows (nth_piece pieces n) x (length (nth_piece pieces n) - 1)

-- a vacant cell, or a new one, gets this row, and all others stay
abbrev pub Puts : List (Option Row) → List (Option Row) → ℕ → Row → Type 0
Puts = arena.Puts

-- the number is among these
abbrev pub is_noted : List ℕ → ℕ → Bool
is_noted numbers n = list_any (λ m. n == m) numbers

-- each cell that came is noted, and each that is noted was vacant
pub record AreNoted (old new : List (Option Row)) (numbers : List ℕ) : Type 0 where
  pub came : (n : ℕ) (r : Row) → cell_at old n ≡ None → cell_at new n ≡ Some r → is_noted numbers n ≡ true
  pub vacant : (n : ℕ) → is_noted numbers n ≡ true → cell_at old n ≡ None
