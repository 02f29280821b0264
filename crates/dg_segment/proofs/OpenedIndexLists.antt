-- Where the lists of a directory may be listed, all its rows may: the others have no times.
use Rattle.std.proofs.Common.{◌≡◌, ℕ, zero, suc, ◌+◌, true, List, [], ◌∷◌, ◌++◌, map, refl, Bool}
use Rattle.std.proofs.lemmas.Bool.{and_from, and_parts}
use Rattle.dg_index.specs.declared.entry.Row.{Row}
use Rattle.dg_index.specs.FileOfHistory.{Segment, Stored}
use Rattle.dg_index.specs.OpenedIndex.{directory_of, last_or, list_row, may_be_listed, record_at, record_row, rows_at, rows_in, within, lengths_size}

listed_append : (first last : ℕ) (xs ys : List Row) → may_be_listed first last xs ≡ true → ((t : ℕ) → may_be_listed t last ys ≡ true) → may_be_listed first last (xs ++ ys) ≡ true
listed_append first last [] ys e more = more first
listed_append first last (r ∷ rows) ys e more =
    let b = and_parts (within first last r.ends) _ e in
    and_from (within first last r.ends) _ b.0 (listed_append (last_or first r.ends) last rows ys b.1 more)

deltas_read : (wide : Bool) (first last count : ℕ) (bytes : List ℕ) (at : ℕ) (more : List Row) → may_be_listed first last more ≡ true → may_be_listed first last (rows_at (record_at wide) (lengths_size wide) count bytes at ++ more) ≡ true
deltas_read wide first last zero bytes at more e = e
deltas_read wide first last (suc k) bytes at more e = deltas_read wide first last k bytes (at + lengths_size wide) more e

deltas_of : (first last : ℕ) (deltas : List Stored) (more : List Row) → may_be_listed first last more ≡ true → may_be_listed first last (map record_row deltas ++ more) ≡ true
deltas_of first last [] more e = e
deltas_of first last (d ∷ deltas) more e = deltas_of first last deltas more e

-- of rows that are read
pub listed_read : (wide : Bool) (first last : ℕ) (lists : List Row) (count : ℕ) (bytes : List ℕ) (at piece : ℕ) → may_be_listed first last lists ≡ true
    → may_be_listed first last (lists ++ (rows_at (record_at wide) (lengths_size wide) count bytes at ++ record_at wide bytes piece ∷ [])) ≡ true
listed_read wide first last lists count bytes at piece e =
    listed_append first last lists (rows_at (record_at wide) (lengths_size wide) count bytes at ++ record_at wide bytes piece ∷ []) e (λ t. deltas_read wide t last count bytes at (record_at wide bytes piece ∷ []) refl)

-- of the rows of a segment
pub listed_segment : (first last : ℕ) (s : Segment) → may_be_listed first last (map list_row s.lists) ≡ true → may_be_listed first last (rows_in (directory_of s)) ≡ true
listed_segment first last s e =
    listed_append first last (map list_row s.lists) (map record_row s.deltas ++ record_row s.piece ∷ []) e (λ t. deltas_of t last s.deltas (record_row s.piece ∷ []) refl)
