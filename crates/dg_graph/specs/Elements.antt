-- Elements, their order, and sets of them.
--
-- A set of elements is the strictly rising list of its elements. So a listing in element order is
-- the set itself, and two sets are equal exactly where they have the same elements.
use Rattle.std.specs.Prelude.{ℕ, Bool, true, cond, List, [], ◌∷◌, Option, Some, None, not, filter, if◌then◌else◌, IsTrue}
use Rattle.std.specs.declared.cmp.Ordering.{Ordering}
use Rattle.std.specs.Ordering.{nat_cmp, is_lt, is_eq}
use Rattle.std.specs.List.{list_any}
use Rattle.std.specs.Cmp.Lexicographic.{slice_cmp}
use Rattle.dg_graph.specs.declared.element.Element.{Element}
use Rattle.dg_graph.specs.declared.element.Element.TheVariants.{Node, Edge, NodeAttr, EdgeAttr, Message}
use Rattle.dg_graph.specs.declared.element.Column.{Column}
use Rattle.dg_graph.specs.declared.element.Column.TheVariants as column
use Rattle.dg_graph.specs.declared.element.Columns.{Columns}

abbrev pub bit : Bool → ℕ
bit b = cond b 1 0

-- an element as numbers: its kind, and then its fields
abbrev pub spelled : Element → List ℕ
spelled (Node id) = 0 ∷ id ∷ []
spelled (Edge directed id src dst) = 1 ∷ id ∷ src ∷ dst ∷ bit directed ∷ []
spelled (NodeAttr id key value) = 2 ∷ id ∷ key ∷ value ∷ []
spelled (EdgeAttr id key value) = 3 ∷ id ∷ key ∷ value ∷ []
spelled (Message src dst value) = 4 ∷ src ∷ dst ∷ value ∷ []

-- the order of elements: by kind, and then by their fields in the order written
abbrev pub element_cmp : Element → Element → Ordering
element_cmp x y = slice_cmp nat_cmp (spelled x) (spelled y)

abbrev pub same : Element → Element → Bool
same x y = is_eq (element_cmp x y)

abbrev pub before : Element → Element → Bool
before x y = is_lt (element_cmp x y)

-- x is before the first element of the list
abbrev pub IsBelowFirst : Element → List Element → Type 0
IsBelowFirst x [] = Unit {0}
IsBelowFirst x (y ∷ ys) = IsTrue (before x y)

-- the list rises strictly, so it is a set
abbrev pub IsSet : List Element → Type 0
IsSet [] = Unit {0}
IsSet (x ∷ xs) = IsBelowFirst x xs × IsSet xs

-- the element is in the set
abbrev pub has : List Element → Element → Bool
has set x = list_any (same x) set

-- the set with the element
abbrev pub put : Element → List Element → List Element
put x [] = x ∷ []
put x (y ∷ set) = if before x y then x ∷ y ∷ set else (if same x y then y ∷ set else y ∷ put x set)

-- the set without the element
abbrev pub take_out : Element → List Element → List Element
take_out x set = filter (λ y. not (same x y)) set

-- the set with the element, if there is one
abbrev pub with_one : List Element → Option Element → List Element
with_one set None = set
with_one set (Some x) = put x set

-- the set without the element, if there is one
abbrev pub without : List Element → Option Element → List Element
without set None = set
without set (Some x) = take_out x set

-- the column in which an element stands
abbrev pub column_of : Element → Column
column_of (Node id) = column.Structure
column_of (Edge directed id src dst) = column.Structure
column_of (NodeAttr id key value) = column.NodeAttr
column_of (EdgeAttr id key value) = column.EdgeAttr
column_of (Message src dst value) = column.Transient

-- the column is asked for; structure always is
abbrev pub asks : Columns → Column → Bool
asks cols column.Structure = true
asks cols column.NodeAttr = cols.nodes_attr
asks cols column.EdgeAttr = cols.edges_attr
asks cols column.Transient = cols.transient

-- the elements of the set in the columns that are asked for
abbrev pub shown : List Element → Columns → List Element
shown set cols = filter (λ x. asks cols (column_of x)) set
