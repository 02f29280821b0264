-- Cells in columns, by number.
use Rattle.std.proofs.Common.{arith, ◌≡◌, ℕ, suc, zero, ◌<◌, List, [], ◌∷◌, ◌++◌, drop, length, get_or, replicate, set, refl, sym, ap, subst, ◌∙◌}
use Rattle.std.specs.Prelude.{Option, Some, None, IsSome, IfSome, Result, Ok, Err, OnOk, OnErr}
use Rattle.dg_arena.specs.declared.cell.Cell.{Cell}
use Rattle.dg_arena.specs.declared.columns.Spot.{Spot}
use Rattle.dg_arena.specs.Columns.{words, cell_with, cells_of}

behind : (a : List ℕ) (n : ℕ) → get_or (drop 1 a) n 0 ≡ get_or a (suc n) 0
behind [] n = refl
behind (x ∷ a) n = refl

words_behind : (a b c d : List ℕ) (n : ℕ) → words (drop 1 a) (drop 1 b) (drop 1 c) (drop 1 d) n ≡ words a b c d (suc n)
words_behind a b c d n = let p = behind a n in let q = behind b n in let r = behind c n in let s = behind d n in cc

module _ {X : Type 0} where
  pub length-cells : (ss : List (Option (Spot X))) (a b c d : List ℕ) → length (cells_of ss a b c d) ≡ length ss
  length-cells [] a b c d = refl
  length-cells (s ∷ ss) a b c d = ap suc (length-cells ss (drop 1 a) (drop 1 b) (drop 1 c) (drop 1 d))

  -- the cell with a number
  pub cell_at : (ss : List (Option (Spot X))) (a b c d : List ℕ) (n : ℕ) → get_or (cells_of ss a b c d) n None ≡ cell_with (get_or ss n None) (words a b c d n)
  cell_at [] a b c d n = refl
  cell_at (s ∷ ss) a b c d zero = refl
  cell_at (s ∷ ss) a b c d (suc n) = cell_at ss (drop 1 a) (drop 1 b) (drop 1 c) (drop 1 d) n ∙ ap (cell_with (get_or ss n None)) (words_behind a b c d n)

  -- a place with a cell has a value
  pub some_spot : (o : Option (Spot X)) (bits : List ℕ) → IsSome (cell_with o bits) → IsSome o
  some_spot None bits there = there
  some_spot (Some s) bits there = refl

  -- a cell is written column by column
  pub cell_set : (ss : List (Option (Spot X))) (a b c d : List ℕ) (n : ℕ) (s : Spot X) (w x y z : ℕ) → n < length a → n < length b → n < length c → n < length d
      → cells_of (set ss n (Some s)) (set a n w) (set b n x) (set c n y) (set d n z) ≡ set (cells_of ss a b c d) n (cell_with (Some s) (w ∷ x ∷ y ∷ z ∷ []))
  cell_set [] a b c d n s w x y z la lb lc ld = refl
  cell_set (t ∷ ss) [] b c d zero s w x y z la lb lc ld = absurd (omega arith)
  cell_set (t ∷ ss) (a0 ∷ a) [] c d zero s w x y z la lb lc ld = absurd (omega arith)
  cell_set (t ∷ ss) (a0 ∷ a) (b0 ∷ b) [] d zero s w x y z la lb lc ld = absurd (omega arith)
  cell_set (t ∷ ss) (a0 ∷ a) (b0 ∷ b) (c0 ∷ c) [] zero s w x y z la lb lc ld = absurd (omega arith)
  cell_set (t ∷ ss) (a0 ∷ a) (b0 ∷ b) (c0 ∷ c) (d0 ∷ d) zero s w x y z la lb lc ld = refl
  cell_set (t ∷ ss) [] b c d (suc n) s w x y z la lb lc ld = absurd (omega arith)
  cell_set (t ∷ ss) (a0 ∷ a) [] c d (suc n) s w x y z la lb lc ld = absurd (omega arith)
  cell_set (t ∷ ss) (a0 ∷ a) (b0 ∷ b) [] d (suc n) s w x y z la lb lc ld = absurd (omega arith)
  cell_set (t ∷ ss) (a0 ∷ a) (b0 ∷ b) (c0 ∷ c) [] (suc n) s w x y z la lb lc ld = absurd (omega arith)
  cell_set (t ∷ ss) (a0 ∷ a) (b0 ∷ b) (c0 ∷ c) (d0 ∷ d) (suc n) s w x y z la lb lc ld =
      ap (λ l. cell_with t (a0 ∷ b0 ∷ c0 ∷ d0 ∷ []) ∷ l) (cell_set ss a b c d n s w x y z (omega arith) (omega arith) (omega arith) (omega arith))

abbrev pub SameWords : List ℕ → List ℕ → Type 0
SameWords a b = (n : ℕ) → get_or a n 0 ≡ get_or b n 0

same_behind : (a b : List ℕ) → SameWords a b → SameWords (drop 1 a) (drop 1 b)
same_behind a b h n = behind a n ∙ h (suc n) ∙ sym (behind b n)

-- cells are as their words
pub cells_same : {X : Type 0} → (ss : List (Option (Spot X))) (a a2 b b2 c c2 d d2 : List ℕ) → SameWords a2 a → SameWords b2 b → SameWords c2 c → SameWords d2 d → cells_of ss a2 b2 c2 d2 ≡ cells_of ss a b c d
cells_same [] a a2 b b2 c c2 d d2 p q r s = refl
cells_same (t ∷ ss) a a2 b b2 c c2 d d2 p q r s =
    let rest = cells_same ss (drop 1 a) (drop 1 a2) (drop 1 b) (drop 1 b2) (drop 1 c) (drop 1 c2) (drop 1 d) (drop 1 d2) (same_behind a2 a p) (same_behind b2 b q) (same_behind c2 c r) (same_behind d2 d s) in
    let w = p 0 in
    let x = q 0 in
    let y = r 0 in
    let z = s 0 in
    let bits : words a2 b2 c2 d2 0 ≡ words a b c d 0 = cc in
    ap (λ l. cell_with t l ∷ cells_of ss (drop 1 a2) (drop 1 b2) (drop 1 c2) (drop 1 d2)) bits ∙ ap (λ l. cell_with t (words a b c d 0) ∷ l) rest

none_more : {X : Type 0} → (k : ℕ) (a b c d : List ℕ) → cells_of {X = X} (replicate k None) a b c d ≡ replicate k None
none_more zero a b c d = refl
none_more (suc k) a b c d = ap (λ l. None ∷ l) (none_more k (drop 1 a) (drop 1 b) (drop 1 c) (drop 1 d))

-- places without a cell come behind
pub cells_more : {X : Type 0} → (ss : List (Option (Spot X))) (k : ℕ) (a b c d : List ℕ) → cells_of (ss ++ replicate k None) a b c d ≡ cells_of ss a b c d ++ replicate k None
cells_more [] k a b c d = none_more k a b c d
cells_more (s ∷ ss) k a b c d = ap (λ l. cell_with s (words a b c d 0) ∷ l) (cells_more ss k (drop 1 a) (drop 1 b) (drop 1 c) (drop 1 d))

-- four words are the four that stand in them
pub four : (l : List ℕ) → length l ≡ 4 → (get_or l 0 0 ∷ get_or l 1 0 ∷ get_or l 2 0 ∷ get_or l 3 0 ∷ []) ≡ l
four [] e = absurd (omega (arith, e))
four (p ∷ []) e = absurd (omega (arith, e))
four (p ∷ q ∷ []) e = absurd (omega (arith, e))
four (p ∷ q ∷ r ∷ []) e = absurd (omega (arith, e))
four (p ∷ q ∷ r ∷ s ∷ []) e = refl
four (p ∷ q ∷ r ∷ s ∷ t ∷ l) e = absurd (omega (arith, e))

-- what holds anyway holds after an error
pub err_anyway : {Y Z P : Type 0} → (r : Result Y Z) → P → OnErr r P
err_anyway (Ok y) p = tt
err_anyway (Err z) p = p

pub ok_then : {Y Z P Q : Type 0} → (r : Result Y Z) → (P → Q) → OnOk r P → OnOk r Q
ok_then (Ok y) f p = f p
ok_then (Err z) f p = tt

pub err_then : {Y Z P Q : Type 0} → (r : Result Y Z) → (P → Q) → OnErr r P → OnErr r Q
err_then (Ok y) f p = tt
err_then (Err z) f p = f p

-- a place with a cell is among the values
pub has_spot : {X : Type 0} (ss : List (Option (Spot X))) (a b c d : List ℕ) (n : ℕ) → IsSome (get_or (cells_of ss a b c d) n None) → n < length ss
has_spot [] a b c d n there = cc
has_spot (s ∷ ss) a b c d zero there = omega arith
has_spot (s ∷ ss) a b c d (suc n) there = let rest = has_spot ss (drop 1 a) (drop 1 b) (drop 1 c) (drop 1 d) n there in omega arith

with_word : {X : Type 0} (o : Option (Spot X)) (bits : List ℕ) (k w : ℕ) → w ≡ get_or bits k 0 → IfSome (cell_with o bits) (λ (c : Cell X). w ≡ get_or c.row.bits k 0)
with_word None bits k w e = tt
with_word (Some s) bits k w e = e

-- one of the words of a place
pub word_in : {X : Type 0} (ss : List (Option (Spot X))) (a b c d : List ℕ) (n k w : ℕ) → w ≡ get_or (words a b c d n) k 0 → IfSome (get_or (cells_of ss a b c d) n None) (λ (c : Cell X). w ≡ get_or c.row.bits k 0)
word_in {X = X} ss a b c d n k w e =
    subst (λ (o : Option (Cell X)). IfSome o (λ (c : Cell X). w ≡ get_or c.row.bits k 0)) (sym (cell_at ss a b c d n)) (with_word (get_or ss n None) (words a b c d n) k w e)
