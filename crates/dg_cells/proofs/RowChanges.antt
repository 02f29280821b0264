-- What a change of one cell leaves, and a new cell.
use Rattle.std.proofs.Common.{arith, is_some, IfNone, IsSome, ◌≡◌, ℕ, suc, zero, ◌<◌, true, false, List, [], ◌∷◌, Option, Some, None, length, get_or, set, refl, sym, ap, ◌∙◌, ◌⊎◌, inl, inr}
use Rattle.std.proofs.lemmas.Bool.{cases_eq}
use Rattle.std.proofs.lemmas.List.{get_or-set_other, get_or-set_same}
use Rattle.dg_cells.specs.Rows.{Row, cell_at, CellsAreApart}
use Rattle.dg_graph.specs.Elements.{same}

-- the cells that are read after a write
pub cell_past : (rows : List (Option Row)) (n m : ℕ) (o : Option Row) → (m ≡ n → ⊥) → cell_at (set rows n o) m ≡ cell_at rows m
cell_past rows n m o d = get_or-set_other rows n m o None d

pub cell_there : (rows : List (Option Row)) (n : ℕ) (r : Row) → cell_at rows n ≡ Some r → n < length rows
cell_there [] n r e = cc
cell_there (o ∷ rows) zero r e = omega arith
cell_there (o ∷ rows) (suc n) r e = let h = cell_there rows n r e in omega arith

-- the cell that was written
pub cell_written : (rows : List (Option Row)) (n : ℕ) (o : Option Row) → n < length rows → cell_at (set rows n o) n ≡ o
cell_written rows n o h = get_or-set_same rows n o None h

-- each element of the new cells stood there in the old ones
abbrev pub Comes : List (Option Row) → List (Option Row) → Type 0
Comes old new = (i : ℕ) (p : Row) → cell_at new i ≡ Some p → (q : Row) × (cell_at old i ≡ Some q) × (p.element ≡ q.element)

pub apart_by : (old new : List (Option Row)) → Comes old new → CellsAreApart old → CellsAreApart new
apart_by old new comes apart i j r q a b e =
    let f = comes i r a in
    let g = comes j q b in
    apart i j f.0 g.0 f.1 g.1 (sym f.2 ∙ e ∙ g.2)

comes_at : (old : List (Option Row)) (n : ℕ) (r r2 : Row) → cell_at old n ≡ Some r → r2.element ≡ r.element → (i : ℕ) (p : Row) → ((i ≡ n) ⊎ (i ≡ n → ⊥)) → cell_at (set old n (Some r2)) i ≡ Some p → (q : Row) × (cell_at old i ≡ Some q) × (p.element ≡ q.element)
comes_at old n r r2 was same i p (inl e) f =
    let here : Some r2 ≡ Some p = sym (cell_written old n (Some r2) (cell_there old n r was)) ∙ ap (cell_at (set old n (Some r2))) (sym e) ∙ f in
    let is : r2 ≡ p = cc in
    (r, ap (cell_at old) e ∙ was, ap (λ (z : Row). z.element) (sym is) ∙ same)
comes_at old n r r2 was same i p (inr d) f = (p, sym (cell_past old n i (Some r2) d) ∙ f, refl)

pub comes_written : (old : List (Option Row)) (n : ℕ) (r r2 : Row) → cell_at old n ≡ Some r → r2.element ≡ r.element → Comes old (set old n (Some r2))
comes_written old n r r2 was same i p f = comes_at old n r r2 was same i p (cases_eq i n) f

-- a read of a cell that has a row
pub read_same : (rows : List (Option Row)) (n : ℕ) (o : Option Row) → IsSome (cell_at rows n) → get_or rows n o ≡ cell_at rows n
read_same [] n o h = cc
read_same (p ∷ rows) zero o h = refl
read_same (p ∷ rows) (suc n) o h = read_same rows n o h

pub read_there : (rows : List (Option Row)) (n : ℕ) (o : Option Row) (r : Row) → IsSome (cell_at rows n) → o ≡ get_or rows n o → o ≡ Some r → cell_at rows n ≡ Some r
read_there rows n o r h e f = sym (read_same rows n o h) ∙ sym e ∙ f

-- ---- options

pub none_from : {T P : Type 0} (o : Option T) → is_some o ≡ false → IfNone o P → P
none_from None e h = h
none_from (Some n) e h = cc

pub some_row : (o : Option Row) → is_some o ≡ true → (r : Row) × (o ≡ Some r)
some_row None e = cc
some_row (Some r) e = (r, refl)
