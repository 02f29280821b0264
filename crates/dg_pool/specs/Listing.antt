-- Walks over the members of a slot, in the order of elements.
use Rattle.std.specs.Prelude.{ℕ, Bool, false, not, List, [], Option, Some, None, drop, filter, map}
use Rattle.dg_graph.specs.declared.element.Element.{Element}
use Rattle.dg_graph.specs.Elements.{before}
use Rattle.dg_cells.specs.Rows.{Row}
use Rattle.dg_cells.specs.declared.cursors.Cursor.{Cursor}
use Rattle.dg_cells.specs.Cursors.{ordered, cursor_index, row_at}
use Rattle.dg_pool.specs.Graphs.{PoolState, slot_graph}
use Rattle.dg_pool.specs.Sweeps.{element_of, members_as}

-- the elements of the set that are not before this one; none where there is no element
abbrev pub not_before : List Element → Option Element → List Element
not_before set None = []
not_before set (Some x) = filter (λ y. not (before y x)) set

-- the element comes behind this one; none does where there is none
abbrev pub is_behind : Option Element → Element → Bool
is_behind None y = false
is_behind (Some x) y = before x y

-- the elements of the set up to this one; all where there is none
abbrev pub up_to : List Element → Option Element → List Element
up_to set None = set
up_to set (Some x) = filter (λ y. not (before x y)) set

-- the element of the cell at which the cursor stands; none past the last cell
abbrev pub element_under : PoolState → Cursor → Option Element
element_under p c = element_of (row_at p.rows c.cell)

-- the members of a slot from a cursor on
abbrev pub members_from : PoolState → ℕ → Cursor → List Element
members_from p s c = not_before (members_as (slot_graph p s)) (element_under p c)

-- the elements of the cells from a cursor on that pass the test
abbrev pub passing_from : (Row → Bool) → List (Option Row) → Cursor → List Element
passing_from test rows c = map (λ (r : Row). r.element) (filter test (drop (cursor_index rows c) (ordered rows)))
