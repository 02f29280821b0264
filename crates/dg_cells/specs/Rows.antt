-- Cells, and the bits of a cell.
use Rattle.std.specs.Prelude.{◌≡◌, ℕ, ◌+◌, ◌*◌, ◌≤◌, ◌<◌, ◌==◌, Bool, true, false, cond, List, [], ◌∷◌, map, Option, Some, None, length, slice_index_or, slice_set}
use Rattle.dg_graph.specs.declared.element.Element.{Element}
use Rattle.dg_graph.specs.Elements.{same, has, bit}
use Rattle.dg_arena.specs.declared.row.Row as declared
use Rattle.dg_arena.specs.Cells as arena

-- an element and its bits
abbrev pub Row : Type 0
Row = declared.Row Element

-- the cell has the bit
abbrev pub has_bit : Row → ℕ → Bool
has_bit = arena.has_bit

-- bit 0 says that the current graph has the element
abbrev pub is_current : Row → Bool
is_current r = has_bit r 0

-- the two bits of a slot: explicit, and own
abbrev pub pair : ℕ → Row → Bool × Bool
pair s r = (has_bit r (2 * s), has_bit r (2 * s + 1))

-- the current graph has the element or not, as is said, and all slots are as they were
pub record SetsCurrent (on : Bool) (old new : Row) : Type 0 where
  pub element : new.element ≡ old.element
  pub current : is_current new ≡ on
  pub pairs : (u : ℕ) → 1 ≤ u → pair u new ≡ pair u old

-- the slot has this pair, and all else is as it was
pub record SetsPair (s : ℕ) (p : Bool × Bool) (old new : Row) : Type 0 where
  pub element : new.element ≡ old.element
  pub current : is_current new ≡ is_current old
  pub pairs : (u : ℕ) → 1 ≤ u → pair u new ≡ cond (u == s) p (pair u old)

-- the bit is set in the words
abbrev pub word_bit : List ℕ → ℕ → Bool
word_bit = arena.word_bit

-- the bits of the mask are off, and all others as they were
abbrev pub ClearsBits : List ℕ → Row → Row → Type 0
ClearsBits = arena.ClearsBits

-- in one of the words the bits of one mask are on, and those of another are off unless they are in the first; all other bits
-- are as they were
abbrev pub WritesWord : ℕ → ℕ → ℕ → Row → Row → Type 0
WritesWord = arena.WritesWord

-- what stands in a cell
abbrev pub cell_at : List (Option Row) → ℕ → Option Row
cell_at = arena.cell_at

-- one cell is written so, and all others stay
pub record Writes (old new : List (Option Row)) (n : ℕ) (How : Row → Row → Type 0) : Type 0 where
  pub before : Row
  pub after : Row
  pub was : cell_at old n ≡ Some before
  pub is : new ≡ slice_set old n (Some after)
  pub how : How before after

-- the cell has the element
pub record Holds (rows : List (Option Row)) (x : Element) (n : ℕ) : Type 0 where
  pub row : Row
  pub there : cell_at rows n ≡ Some row
  pub element : row.element ≡ x

-- no cell has the element
abbrev pub Lacks : List (Option Row) → Element → Type 0
Lacks rows x = (n : ℕ) (r : Row) → cell_at rows n ≡ Some r → same x r.element ≡ false

-- no element has two cells
abbrev pub CellsAreApart : List (Option Row) → Type 0
CellsAreApart rows = (i j : ℕ) (r q : Row) → cell_at rows i ≡ Some r → cell_at rows j ≡ Some q → r.element ≡ q.element → i ≡ j

-- the element has a cell
abbrev pub HasCell : List (Option Row) → Element → Type 0
HasCell rows x = (n : ℕ) × Holds rows x n

-- the cell has no bit
abbrev pub IsBare : Row → Type 0
IsBare r = (b : ℕ) → has_bit r b ≡ false

-- all cells stay, and new ones have no bit
pub record CellsGrow (old new : List (Option Row)) : Type 0 where
  pub kept : (n : ℕ) (r : Row) → cell_at old n ≡ Some r → cell_at new n ≡ Some r
  pub bare : (n : ℕ) (r : Row) → cell_at old n ≡ None → cell_at new n ≡ Some r → IsBare r

-- vacant cells are used before the list gets longer
abbrev pub Reuses : List (Option Row) → List (Option Row) → Type 0
Reuses = arena.Reuses

-- each of the elements has a cell
abbrev pub AllHave : List (Option Row) → List Element → Type 0
AllHave rows items = (x : Element) → has items x ≡ true → HasCell rows x

-- each of the elements has the cell with its number
pub record AreNumbers (rows : List (Option Row)) (items : List Element) (numbers : List ℕ) : Type 0 where
  pub count : length numbers ≡ length items
  pub hold : (k : ℕ) → k < length items → (d : Element) → Holds rows (slice_index_or items k d) (slice_index_or numbers k 0)

-- the elements of the new cells are among these
abbrev pub AreAmong : List (Option Row) → List (Option Row) → List Element → Type 0
AreAmong old new items = (n : ℕ) (r : Row) → cell_at old n ≡ None → cell_at new n ≡ Some r → has items r.element ≡ true

-- a cell of the element that the current graph has, or no graph
abbrev pub new_row : Bool → Element → Row
new_row current x = record { element = x; bits = bit current ∷ 0 ∷ 0 ∷ 0 ∷ [] }

-- a cell for each of the elements, in their order
abbrev pub new_rows : Bool → List Element → List (Option Row)
new_rows current items = map (λ x. Some (new_row current x)) items
