-- Cells in columns.
use Rattle.std.specs.Prelude.{◌≡◌, ◌==◌, ◌-◌, ℕ, List, [], ◌∷◌, drop, Option, Some, None, slice_index_or, slice_set, if◌then◌else◌, bit_and, bit_or, refl}
use Rattle.std.specs.Coded.{Coded, code_by, coded×, coded_list, coded_option, coded_ℕ}
use Rattle.dg_arena.specs.declared.row.Row.{Row}
use Rattle.dg_arena.specs.declared.cell.Cell.{Cell}
use Rattle.dg_arena.specs.declared.cell.Link.{Link}
use Rattle.dg_arena.specs.declared.cell.Link.TheVariants.{Live, Last, Next}
use Rattle.dg_arena.specs.declared.columns.Spot.{Spot}
use Rattle.dg_arena.specs.Cells.{row_code, place}

-- the first four words
abbrev pub words : List ℕ → List ℕ → List ℕ → List ℕ → ℕ → List ℕ
words a b c d n = slice_index_or a n 0 ∷ slice_index_or b n 0 ∷ slice_index_or c n 0 ∷ slice_index_or d n 0 ∷ []

abbrev pub link_number : Link → Option (Option ℕ)
link_number Live = None
link_number Last = Some None
link_number (Next n) = Some (Some n)

abbrev pub link_of : Option (Option ℕ) → Link
link_of None = Live
link_of (Some None) = Last
link_of (Some (Some n)) = Next n

pub link_back : (l : Link) → link_of (link_number l) ≡ l
link_back Live = refl
link_back Last = refl
link_back (Next n) = refl

abbrev pub link_code : Coded Link
link_code = code_by (Option (Option ℕ)) (coded_option (coded_option coded_ℕ)) link_number link_of link_back

module _ {X : Type 0} where
  abbrev pub cells_code : Coded X → Coded (List (Option (Cell X)))
  cells_code c =
      coded_list (coded_option (code_by (Row X × Link) (coded× (row_code c) link_code) (λ k. (k.row, k.link)) (λ p. record { row = p.0; link = p.1 }) (λ _. refl)))

  abbrev pub cell_with : Option (Spot X) → List ℕ → Option (Cell X)
  cell_with None bits = None
  cell_with (Some s) bits = Some (record { row = record { element = s.value; bits = bits }; link = s.link })

  -- the cells: of each the value and the link, and its four words
  abbrev pub cells_of : List (Option (Spot X)) → List ℕ → List ℕ → List ℕ → List ℕ → List (Option (Cell X))
  cells_of [] a b c d = []
  cells_of (s ∷ ss) a b c d = cell_with s (words a b c d 0) ∷ cells_of ss (drop 1 a) (drop 1 b) (drop 1 c) (drop 1 d)

-- a word with the bits of one mask, and without those of another that are not in the first; as it is where neither has a bit
abbrev pub masked : ℕ → ℕ → ℕ → ℕ
masked on off w = if bit_or on off == 0 then w else bit_or (bit_and w (18446744073709551615 - off)) on

module _ {X : Type 0} where
  -- the row of the cell in a place is written so; its link and all other cells stay
  pub record RewritesRow (old new : List (Option (Cell X))) (n : ℕ) (How : Row X → Row X → Type 0) : Type 0 where
    pub before : Cell X
    pub after : Cell X
    pub was : place old n ≡ Some before
    pub is : new ≡ slice_set old n (Some after)
    pub link : after.link ≡ before.link
    pub how : How before.row after.row
