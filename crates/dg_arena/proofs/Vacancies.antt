-- The free list of cells of raw memory, as cells are taken, given back and written, and as memory comes.
use Rattle.std.proofs.Common.{arith, false, ◌≡◌, ℕ, suc, zero, ◌+◌, ◌<◌, ◌≤◌, ◌⊎◌, inl, inr, List, [], ◌∷◌, ◌++◌, length, get_or, set, map, replicate, refl, sym, ap, ◌∙◌}
use Rattle.std.proofs.lemmas.List.{get_or_append_left}
use Rattle.std.specs.Prelude.{Option, Some, None}
use Rattle.dg_arena.specs.declared.row.Row.{Row}
use Rattle.dg_arena.specs.declared.cell.Cell.{Cell}
use Rattle.dg_arena.specs.declared.cell.Link.{Link}
use Rattle.dg_arena.specs.declared.cell.Link.TheVariants.{Live, Last, Next}
use Rattle.dg_arena.specs.Cells.{cell_at, is_live, live_row, shown, rows_of, vacant, place, behind, Stands, IsChain}
use Rattle.dg_arena.proofs.Options.{stands_within}

-- ---- numbers and places

pub same_or_not : (m n : ℕ) → (m ≡ n) ⊎ (m ≡ n → ⊥)
same_or_not zero zero = inl refl
same_or_not zero (suc n) = inr (λ e. absurd (omega (arith, e)))
same_or_not (suc m) zero = inr (λ e. absurd (omega (arith, e)))
same_or_not (suc m) (suc n) = next (same_or_not m n)
  where
    next : (m ≡ n) ⊎ (m ≡ n → ⊥) → (suc m ≡ suc n) ⊎ (suc m ≡ suc n → ⊥)
    next (inl e) = inl (ap suc e)
    next (inr apart) = inr (λ e. apart (omega (arith, e)))

pub below_or_not : (a b : ℕ) → (a < b) ⊎ (b ≤ a)
below_or_not a zero = inr (omega arith)
below_or_not zero (suc b) = inl (omega arith)
below_or_not (suc a) (suc b) = next (below_or_not a b)
  where
    next : (a < b) ⊎ (b ≤ a) → (suc a < suc b) ⊎ (suc b ≤ suc a)
    next (inl low) = inl (omega arith)
    next (inr high) = inr (omega arith)

module _ {Y : Type 0} where
  pub set_other : (l : List (Option Y)) (n m : ℕ) (x : Option Y) → (m ≡ n → ⊥) → get_or (set l n x) m None ≡ get_or l m None
  set_other [] n m x apart = refl
  set_other (y ∷ l) zero zero x apart = absurd (apart refl)
  set_other (y ∷ l) zero (suc m) x apart = refl
  set_other (y ∷ l) (suc n) zero x apart = refl
  set_other (y ∷ l) (suc n) (suc m) x apart = set_other l n m x (λ e. apart (ap suc e))

  pub set_same : (l : List (Option Y)) (n : ℕ) (x : Option Y) → n < length l → get_or (set l n x) n None ≡ x
  set_same [] n x within = absurd (omega arith)
  set_same (y ∷ l) zero x within = refl
  set_same (y ∷ l) (suc n) x within = set_same l n x (omega arith)

  pub past_end : (l : List (Option Y)) (n : ℕ) → length l ≤ n → get_or l n None ≡ None
  past_end [] n past = refl
  past_end (y ∷ l) zero past = absurd (omega arith)
  past_end (y ∷ l) (suc n) past = past_end l n (omega arith)

  pub none_behind : (l : List (Option Y)) (k n : ℕ) → length l ≤ n → get_or (l ++ replicate k None) n None ≡ None
  none_behind [] zero n past = refl
  none_behind [] (suc k) zero past = refl
  none_behind [] (suc k) (suc n) past = none_behind [] k n (omega arith)
  none_behind (y ∷ l) k zero past = absurd (omega arith)
  none_behind (y ∷ l) k (suc n) past = none_behind l k n (omega arith)

module _ {X : Type 0} where
  pub not_live : (l : Link) (r : Row X) → is_live l ≡ false → live_row l r ≡ None
  not_live Live r dead = cc
  not_live Last r dead = refl
  not_live (Next n) r dead = refl

  -- ---- how many are vacant

  pub vacant_taken : (rows : List (Option (Row X))) (n : ℕ) (r : Row X) → n < length rows → get_or rows n None ≡ None → suc (vacant (set rows n (Some r))) ≡ vacant rows
  vacant_taken [] n r within was = absurd (omega arith)
  vacant_taken (None ∷ rows) zero r within was = refl
  vacant_taken (Some q ∷ rows) zero r within was = cc
  vacant_taken (None ∷ rows) (suc n) r within was = ap suc (vacant_taken rows n r (omega arith) was)
  vacant_taken (Some q ∷ rows) (suc n) r within was = vacant_taken rows n r (omega arith) was

  pub vacant_given : (rows : List (Option (Row X))) (n : ℕ) (q : Row X) → get_or rows n None ≡ Some q → vacant (set rows n None) ≡ suc (vacant rows)
  vacant_given [] n q was = cc
  vacant_given (None ∷ rows) zero q was = cc
  vacant_given (Some p ∷ rows) zero q was = refl
  vacant_given (None ∷ rows) (suc n) q was = ap suc (vacant_given rows n q was)
  vacant_given (Some p ∷ rows) (suc n) q was = vacant_given rows n q was

  pub vacant_written : (rows : List (Option (Row X))) (n : ℕ) (q r : Row X) → get_or rows n None ≡ Some q → vacant (set rows n (Some r)) ≡ vacant rows
  vacant_written [] n q r was = cc
  vacant_written (None ∷ rows) zero q r was = cc
  vacant_written (Some p ∷ rows) zero q r was = refl
  vacant_written (None ∷ rows) (suc n) q r was = ap suc (vacant_written rows n q r was)
  vacant_written (Some p ∷ rows) (suc n) q r was = vacant_written rows n q r was

  pub vacant_at_most : (rows : List (Option (Row X))) → vacant rows ≤ length rows
  vacant_at_most [] = omega arith
  vacant_at_most (None ∷ rows) = omega (arith, vacant_at_most rows)
  vacant_at_most (Some r ∷ rows) = omega (arith, vacant_at_most rows)

  one_more : (o : Option (Row X)) (rows more : List (Option (Row X))) (k : ℕ) → vacant more ≡ vacant rows + k → vacant (o ∷ more) ≡ vacant (o ∷ rows) + k
  one_more None rows more k e = omega (arith, e)
  one_more (Some r) rows more k e = e

  pub vacant_more : (cells : List (Option (Cell X))) (k : ℕ) → vacant (map shown (cells ++ replicate k None)) ≡ vacant (map shown cells) + k
  vacant_more [] zero = refl
  vacant_more [] (suc k) = omega (arith, vacant_more [] k)
  vacant_more (c ∷ cells) k = one_more (shown c) (map shown cells) (map shown (cells ++ replicate k None)) k (vacant_more cells k)

  pub none_vacant : (rows : List (Option (Row X))) → ((m : ℕ) → m < length rows → get_or rows m None ≡ None → ⊥) → vacant rows ≡ 0
  none_vacant [] all = refl
  none_vacant (None ∷ rows) all = absurd (all 0 (omega arith) refl)
  none_vacant (Some r ∷ rows) all = none_vacant rows (λ m low none. all (suc m) (omega arith) none)

  -- ---- the rows that are shown

  pub shown_at : (cells : List (Option (Cell X))) (len m : ℕ) → ((k : ℕ) → len ≤ k → place cells k ≡ None) → cell_at (rows_of cells len) m ≡ shown (place cells m)
  shown_at cells zero m unfilled = sym (ap shown (unfilled m (omega arith)))
  shown_at [] (suc len) m unfilled = refl
  shown_at (c ∷ cells) (suc len) zero unfilled = refl
  shown_at (c ∷ cells) (suc len) (suc m) unfilled = shown_at cells len m (λ k past. unfilled (suc k) (omega arith))

  pub shown_set : (cells : List (Option (Cell X))) (len n : ℕ) (c : Option (Cell X)) → n < len → rows_of (set cells n c) len ≡ set (rows_of cells len) n (shown c)
  shown_set cells zero n c low = absurd (omega arith)
  shown_set [] (suc len) n c low = refl
  shown_set (x ∷ cells) (suc len) zero c low = refl
  shown_set (x ∷ cells) (suc len) (suc n) c low = ap (λ l. shown x ∷ l) (shown_set cells len n c (omega arith))

  pub shown_more : (cells more : List (Option (Cell X))) (len : ℕ) → len ≤ length cells → rows_of (cells ++ more) len ≡ rows_of cells len
  shown_more cells more zero low = refl
  shown_more [] more (suc len) low = absurd (omega arith)
  shown_more (x ∷ cells) more (suc len) low = ap (λ l. shown x ∷ l) (shown_more cells more len (omega arith))

  shown_behind : (cells : List (Option (Cell X))) (len : ℕ) (c : Option (Cell X)) → len < length cells → rows_of (set cells len c) (suc len) ≡ rows_of cells len ++ shown c ∷ []
  shown_behind [] len c within = absurd (omega arith)
  shown_behind (x ∷ cells) zero c within = refl
  shown_behind (x ∷ cells) (suc len) c within = ap (λ l. shown x ∷ l) (shown_behind cells len c (omega arith))

  pub shown_next : (cells : List (Option (Cell X))) (len : ℕ) (c : Option (Cell X)) → len < length cells → rows_of (set cells len c) (len + 1) ≡ rows_of cells len ++ shown c ∷ []
  shown_next cells len c within = let one : len + 1 ≡ suc len = omega arith in ap (rows_of (set cells len c)) one ∙ shown_behind cells len c within

  pub shown_length : (cells : List (Option (Cell X))) (len : ℕ) → len ≤ length cells → length (rows_of cells len) ≡ len
  shown_length cells zero low = refl
  shown_length [] (suc len) low = absurd (omega arith)
  shown_length (x ∷ cells) (suc len) low = ap suc (shown_length cells len (omega arith))

  pub shown_all : (cells : List (Option (Cell X))) (m : ℕ) → get_or (map shown cells) m None ≡ shown (place cells m)
  shown_all [] m = refl
  shown_all (c ∷ cells) zero = refl
  shown_all (c ∷ cells) (suc m) = shown_all cells m

  -- ---- the chain

  pub chain_vacant : (cells : List (Option (Cell X))) (head : Option ℕ) (ns : List ℕ) → IsChain cells head ns → (m : ℕ) → Stands ns m → shown (place cells m) ≡ None
  chain_vacant cells head [] chain m stands = absurd stands
  chain_vacant cells head (n ∷ ns) chain m (inl is) = ap (λ k. shown (place cells k)) is ∙ ap shown chain.3 ∙ chain.4
  chain_vacant cells head (n ∷ ns) chain m (inr stands) = chain_vacant cells (behind chain.2.link) ns chain.5 m stands

  pub chain_kept : (cells : List (Option (Cell X))) (n : ℕ) (x : Option (Cell X)) (head : Option ℕ) (ns : List ℕ) → IsChain cells head ns → (Stands ns n → ⊥) → IsChain (set cells n x) head ns
  chain_kept cells n x head [] chain apart = chain
  chain_kept cells n x head (m ∷ ns) chain apart =
      (chain.0, chain.1, chain.2, set_other cells n m x (λ e. apart (inl (sym e))) ∙ chain.3, chain.4, chain_kept cells n x (behind chain.2.link) ns chain.5 (λ stands. apart (inr stands)))

  pub chain_longer : (cells more : List (Option (Cell X))) (head : Option ℕ) (ns : List ℕ) → IsChain cells head ns → IsChain (cells ++ more) head ns
  chain_longer cells more head [] chain = chain
  chain_longer cells more head (m ∷ ns) chain =
      (chain.0, chain.1, chain.2, get_or_append_left cells more None m (stands_within cells m chain.2 chain.3) ∙ chain.3, chain.4, chain_longer cells more (behind chain.2.link) ns chain.5)
