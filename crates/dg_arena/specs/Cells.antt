-- Cells of raw memory as a map from numbers to rows, and the list of those that are vacant.
use Rattle.std.specs.Prelude.{◌≡◌, ℕ, suc, ◌≤◌, ◌<◌, ◌==◌, ◌/◌, ◌%◌, ◌^◌, Bool, true, false, cond, ◌&&◌, ◌||◌, not, List, [], ◌∷◌, ◌⊎◌, map, take, length, Option, Some, None, IsSome, slice_index_or, slice_set, refl}
use Rattle.std.specs.Int.{bit_at}
use Rattle.std.specs.Coded.{Coded, code_by, coded×, coded_list, coded_option, coded_ℕ}
use Rattle.dg_arena.specs.declared.row.Row.{Row}
use Rattle.dg_arena.specs.declared.cell.Cell.{Cell}
use Rattle.dg_arena.specs.declared.cell.Link.{Link}
use Rattle.dg_arena.specs.declared.cell.Link.TheVariants.{Live, Last, Next}

-- what stands in each cell, if it is live, how many more can be taken without memory, and which is taken next
pub record CellMap (X : Type 0) : Type 0 where
  pub items : List (Option (Row X))
  pub spare : ℕ
  pub vacancy : ℕ

-- the bit is set in the words
abbrev pub word_bit : List ℕ → ℕ → Bool
word_bit words b = bit_at (slice_index_or words (b / 64) 0) (b % 64) == 1

module _ {X : Type 0} where
  abbrev pub row_code : Coded X → Coded (Row X)
  row_code c = code_by (X × List ℕ) (coded× c (coded_list coded_ℕ)) (λ r. (r.element, r.bits)) (λ p. record { element = p.0; bits = p.1 }) (λ _. refl)

  abbrev pub map_code : Coded X → Coded (CellMap X)
  map_code c =
      code_by (List (Option (Row X)) × (ℕ × ℕ)) (coded× (coded_list (coded_option (row_code c))) (coded× coded_ℕ coded_ℕ)) (λ m. (m.items, (m.spare, m.vacancy))) (λ p. record { items = p.0; spare = p.1.0; vacancy = p.1.1 }) (λ _. refl)

  -- what stands in a cell
  abbrev pub cell_at : List (Option (Row X)) → ℕ → Option (Row X)
  cell_at rows n = slice_index_or rows n None

  -- the value that stands in a cell, if it is live
  abbrev pub value_at : Option (Row X) → Option X
  value_at None = None
  value_at (Some r) = Some r.element

  -- the cell has the bit
  abbrev pub has_bit : Row X → ℕ → Bool
  has_bit r b = bit_at (slice_index_or r.bits (b / 64) 0) (b % 64) == 1

  -- one bit is written, and all else is as it was
  pub record SetsBit (bit : ℕ) (on : Bool) (old new : Row X) : Type 0 where
    pub element : new.element ≡ old.element
    pub bits : (b : ℕ) → has_bit new b ≡ cond (b == bit) on (has_bit old b)

  -- the bits of the mask are off, and all others as they were
  pub record ClearsBits (mask : List ℕ) (old new : Row X) : Type 0 where
    pub element : new.element ≡ old.element
    pub bits : (b : ℕ) → has_bit new b ≡ (has_bit old b && not (word_bit mask b))

  -- in one of the words the bits of one mask are on, and those of another are off unless they are in the first; all other
  -- bits are as they were
  pub record WritesWord (index on off : ℕ) (old new : Row X) : Type 0 where
    pub element : new.element ≡ old.element
    pub bits : (b : ℕ) → has_bit new b ≡ cond (b / 64 == index) (bit_at on (b % 64) == 1 || (has_bit old b && not (bit_at off (b % 64) == 1))) (has_bit old b)

  -- the row of one live cell is written so, and all other cells stay
  pub record Writes (old new : CellMap X) (n : ℕ) (How : Row X → Row X → Type 0) : Type 0 where
    pub before : Row X
    pub after : Row X
    pub was : cell_at old.items n ≡ Some before
    pub is : new.items ≡ slice_set old.items n (Some after)
    pub how : How before after
    pub spare : new.spare ≡ old.spare
    pub vacancy : new.vacancy ≡ old.vacancy

  -- a vacant cell, or a new one, gets this row, and all others stay
  pub record Puts (old new : List (Option (Row X))) (n : ℕ) (r : Row X) : Type 0 where
    pub vacant : cell_at old n ≡ None
    pub put : cell_at new n ≡ Some r
    pub others : (m : ℕ) → (m ≡ n → ⊥) → cell_at new m ≡ cell_at old m

  -- vacant cells are used before the list gets longer
  pub record Reuses (old new : List (Option (Row X))) : Type 0 where
    pub longer : length old ≤ length new
    pub full : length old < length new → (n : ℕ) → n < length new → IsSome (cell_at new n)

  -- the least live cell from there on
  pub record IsNext (rows : List (Option (Row X))) (from n : ℕ) : Type 0 where
    pub on : from ≤ n
    pub live : IsSome (cell_at rows n)
    pub least : (m : ℕ) → from ≤ m → m < n → cell_at rows m ≡ None

  -- ---- how cells stand for that

  -- the row, if the cell is live
  abbrev pub live_row : Link → Row X → Option (Row X)
  live_row Live r = Some r
  live_row Last r = None
  live_row (Next n) r = None

  abbrev pub shown : Option (Cell X) → Option (Row X)
  shown None = None
  shown (Some c) = live_row c.link c.row

  -- the rows of the first so many cells
  abbrev pub rows_of : List (Option (Cell X)) → ℕ → List (Option (Row X))
  rows_of cells len = map shown (take len cells)

  -- how many have no row
  abbrev pub vacant : List (Option (Row X)) → ℕ
  vacant [] = 0
  vacant (None ∷ rows) = suc (vacant rows)
  vacant (Some r ∷ rows) = vacant rows

  abbrev pub place : List (Option (Cell X)) → ℕ → Option (Cell X)
  place cells n = slice_index_or cells n None

abbrev pub is_live : Link → Bool
is_live Live = true
is_live Last = false
is_live (Next n) = false

-- the cell behind a vacant one
abbrev pub behind : Link → Option ℕ
behind Live = None
behind Last = None
behind (Next n) = Some n

-- the cell that is taken next: the first vacant one, or one that was never taken
abbrev pub taken_next : Option ℕ → ℕ → ℕ
taken_next None len = len
taken_next (Some n) len = n

-- the least number above this one
abbrev pub lowest : Option ℕ → ℕ
lowest None = 0
lowest (Some n) = suc n

-- the number is among these
abbrev pub Stands : List ℕ → ℕ → Type 0
Stands [] m = ⊥
Stands (n ∷ ns) m = (m ≡ n) ⊎ Stands ns m

module _ {X : Type 0} where
  -- from the head on the vacant cells are these, each once
  abbrev pub IsChain : List (Option (Cell X)) → Option ℕ → List ℕ → Type 0
  IsChain cells head [] = head ≡ None
  IsChain cells head (n ∷ ns) = (head ≡ Some n) × (Stands ns n → ⊥) × (c : Cell X) × (place cells n ≡ Some c) × (shown (Some c) ≡ None) × IsChain cells (behind c.link) ns

  -- the cells below len were taken before, and the free list has those of them that are vacant
  pub record IsArena (cells : List (Option (Cell X))) (len : ℕ) (free : Option ℕ) (spare : ℕ) : Type 0 where
    pub chain : List ℕ
    pub is_chain : IsChain cells free chain
    pub complete : (m : ℕ) → m < len → shown (place cells m) ≡ None → Stands chain m
    pub filled : (m : ℕ) → m < len → IsSome (place cells m)
    pub unfilled : (m : ℕ) → len ≤ m → place cells m ≡ None
    pub within : len ≤ length cells
    pub few : length cells ≤ 2 ^ 32
    pub count : spare ≡ vacant (map shown cells)
