-- One row more of a table.
use Rattle.std.proofs.Common.{◌≡◌, ℕ, suc, ◌+◌, ◌*◌, ◌≤◌, List, [], ◌∷◌, ◌++◌, sym, ap, ◌∙◌, append_assoc, arith}
use Rattle.dg_index.specs.declared.entry.Row.{Row}
use Rattle.dg_index.specs.OpenedIndex.{rows_at}

pub next_row : (row : List ℕ → ℕ → Row) (size n left : ℕ) (bytes : List ℕ) (at next : ℕ) (now new all : List Row) → n ≡ suc left → next ≡ at + size → new ≡ now ++ row bytes at ∷ [] → now ++ rows_at row size n bytes at ≡ all
    → new ++ rows_at row size left bytes next ≡ all
next_row row size n left bytes at next now new all is on e so_far =
    ap (λ m. new ++ rows_at row size left bytes m) on
    ∙ ap (λ (l : List Row). l ++ rows_at row size left bytes (at + size)) e ∙ append_assoc now (row bytes at ∷ []) (rows_at row size left bytes (at + size))
    ∙ ap (λ m. now ++ rows_at row size m bytes at) (sym is) ∙ so_far

-- the rows behind it are within so many bytes
pub rows_left : (size n left at next long : ℕ) → n ≡ suc left → next ≡ at + size → at + size * n ≤ long → next + size * left ≤ long
rows_left size n left at next long is on le =
    let whole : size * n ≡ size * suc left = ap (λ m. size * m) is in
    omega (arith, le, on, whole)

-- the first of them is
pub row_there : (size n left at long : ℕ) → n ≡ suc left → at + size * n ≤ long → at + size ≤ long
row_there size n left at long is le =
    let whole : size * n ≡ size * suc left = ap (λ m. size * m) is in
    omega (arith, le, whole)
