-- The rows of the occupied cells in element order, and positions among them.
use Rattle.std.specs.Prelude.{ℕ, List, [], ◌∷◌, Option, Some, None, length, map, count_by, if◌then◌else◌}
use Rattle.dg_graph.specs.declared.element.Element.{Element}
use Rattle.dg_graph.specs.Elements.{before}
use Rattle.dg_cells.specs.Rows.{Row, cell_at}
use Rattle.dg_cells.specs.declared.cursors.Cursor.{Cursor}

-- the rows with one more, before the first whose element it is before
abbrev pub put_row : Row → List Row → List Row
put_row r [] = r ∷ []
put_row r (q ∷ rows) = if before r.element q.element then r ∷ q ∷ rows else q ∷ put_row r rows

abbrev pub with_row : List Row → Option Row → List Row
with_row rows None = rows
with_row rows (Some r) = put_row r rows

-- the rows of the occupied cells, in the order of their elements
abbrev pub ordered : List (Option Row) → List Row
ordered [] = []
ordered (o ∷ rows) = with_row (ordered rows) o

-- the elements of the occupied cells, in their order
abbrev pub ordered_elements : List (Option Row) → List Element
ordered_elements rows = map (λ (r : Row). r.element) (ordered rows)

-- how many occupied cells stand before the row's element; all do before none
abbrev pub index_of_row : List (Option Row) → Option Row → ℕ
index_of_row rows None = length (ordered rows)
index_of_row rows (Some r) = count_by (λ y. before y r.element) (ordered_elements rows)

-- what stands in the cell with a number, if there is one
abbrev pub row_at : List (Option Row) → Option ℕ → Option Row
row_at rows None = None
row_at rows (Some n) = cell_at rows n

-- the position of a cursor among the occupied cells; past the last one where its cell is vacant
abbrev pub cursor_index : List (Option Row) → Cursor → ℕ
cursor_index rows c = index_of_row rows (row_at rows c.cell)
