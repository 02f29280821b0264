-- What a write of one bit leaves of the others, and what a write by masks leaves.
use Rattle.std.specs.Prelude.{bit_and, bit_or}
use Rattle.std.proofs.lemmas.Nat.Bits.{bit_at_and, bit_at_or, bit_at_not, bit_at-lt, bit_at-zero}
use Rattle.std.proofs.Common.{true, false, w64, ◌^◌, ◌-◌, suc, zero, min, max, not, ◌&&◌, ◌||◌, [], ◌∷◌, ◌≡◌, ℕ, ◌/◌, ◌%◌, ◌<◌, Bool, cond, eqb, List, length, get_or, set, refl, sym, ap, ◌∙◌, ◌⊎◌, inl, inr, arith}
use Rattle.std.specs.Int.{bit_at}
use Rattle.std.proofs.lemmas.Nat.{le_or_l, le_or_r}
use Rattle.dg_arena.specs.Columns.{masked}
use Rattle.std.proofs.lemmas.Bool.{cases_eq, eqb-true, eq-eqb, ne_eqb}
use Rattle.std.proofs.lemmas.List.{get_or-set_same, get_or-set_other, get_or_past}

abbrev pub bit_in : List ℕ → ℕ → Bool
bit_in bs c = eqb (bit_at (get_or bs (c / 64) 0) (c % 64)) 1

module _ (bs : List ℕ) (b v : ℕ) (on : Bool) (within : b / 64 < length bs) (here : eqb (bit_at v (b % 64)) 1 ≡ on) (other : (i : ℕ) → i < 64 → (i ≡ b % 64 → ⊥) → bit_at v i ≡ bit_at (get_or bs (b / 64) 0) i) where
  past : (c : ℕ) → (c ≡ b → ⊥) → bit_in (set bs (b / 64) v) c ≡ bit_in bs c → bit_in (set bs (b / 64) v) c ≡ cond (eqb c b) on (bit_in bs c)
  past c d e = e ∙ ap (λ t. cond t on (bit_in bs c)) (sym (ne_eqb c b d))

  in_word : (c : ℕ) → c / 64 ≡ b / 64 → ((c % 64 ≡ b % 64) ⊎ (c % 64 ≡ b % 64 → ⊥)) → bit_in (set bs (b / 64) v) c ≡ cond (eqb c b) on (bit_in bs c)
  in_word c e (inl f) =
      let is : c ≡ b = omega arith in
      ap (λ w. eqb (bit_at (get_or (set bs (b / 64) v) w 0) (c % 64)) 1) e
      ∙ ap (λ w. eqb (bit_at w (c % 64)) 1) (get_or-set_same bs (b / 64) v 0 within)
      ∙ ap (λ i. eqb (bit_at v i) 1) f
      ∙ here
      ∙ ap (λ t. cond t on (bit_in bs c)) (sym (eq-eqb c b is))
  in_word c e (inr d) =
      past c (λ is. d (ap (λ n. n % 64) is))
      (ap (λ w. eqb (bit_at (get_or (set bs (b / 64) v) w 0) (c % 64)) 1) e
      ∙ ap (λ w. eqb (bit_at w (c % 64)) 1) (get_or-set_same bs (b / 64) v 0 within)
      ∙ ap (λ n. eqb n 1) (other (c % 64) (omega arith) d)
      ∙ ap (λ w. eqb (bit_at (get_or bs w 0) (c % 64)) 1) (sym e))

  by_word : (c : ℕ) → ((c / 64 ≡ b / 64) ⊎ (c / 64 ≡ b / 64 → ⊥)) → bit_in (set bs (b / 64) v) c ≡ cond (eqb c b) on (bit_in bs c)
  by_word c (inl e) = in_word c e (cases_eq (c % 64) (b % 64))
  by_word c (inr d) =
      past c (λ is. d (ap (λ n. n / 64) is))
      (ap (λ w. eqb (bit_at w (c % 64)) 1) (get_or-set_other bs (b / 64) (c / 64) v 0 d))

  pub written : (c : ℕ) → bit_in (set bs (b / 64) v) c ≡ cond (eqb c b) on (bit_in bs c)
  written c = by_word c (cases_eq (c / 64) (b / 64))

-- ---- bits put off by a mask

off_table : (a b : ℕ) → a < 2 → b < 2 → eqb (min a (1 - b)) 1 ≡ (eqb a 1 && not (eqb b 1))
off_table zero zero h g = refl
off_table zero (suc zero) h g = refl
off_table (suc zero) zero h g = refl
off_table (suc zero) (suc zero) h g = refl
off_table (suc (suc a)) b h g = absurd (omega arith)
off_table zero (suc (suc b)) h g = absurd (omega arith)
off_table (suc zero) (suc (suc b)) h g = absurd (omega arith)

-- one word without the bits of another
put_off : (x m i : ℕ) → m < 2 ^ 64 → i < 64 → eqb (bit_at (bit_and x (18446744073709551615 - m)) i) 1 ≡ (eqb (bit_at x i) 1 && not (eqb (bit_at m i) 1))
put_off x m i h g =
    ap (λ n. eqb n 1) (bit_at_and x (18446744073709551615 - m) i ∙ ap (min (bit_at x i)) (bit_at_not w64 m i h g))
    ∙ off_table (bit_at x i) (bit_at m i) (bit_at-lt x i) (bit_at-lt m i)

module _ (bs ms : List ℕ) (b_len : length bs ≡ 4) (first : get_or ms 0 0 < 2 ^ 64) (second : get_or ms 1 0 < 2 ^ 64) (third : get_or ms 2 0 < 2 ^ 64) (fourth : get_or ms 3 0 < 2 ^ 64) where
  abbrev left : ℕ → ℕ
  left w = bit_and (get_or bs w 0) (18446744073709551615 - get_or ms w 0)

  off_in : (w i : ℕ) → i < 64 → eqb (bit_at (get_or (left 0 ∷ left 1 ∷ left 2 ∷ left 3 ∷ []) w 0) i) 1 ≡ (eqb (bit_at (get_or bs w 0) i) 1 && not (eqb (bit_at (get_or ms w 0) i) 1))
  off_in zero i h = put_off (get_or bs 0 0) (get_or ms 0 0) i first h
  off_in (suc zero) i h = put_off (get_or bs 1 0) (get_or ms 1 0) i second h
  off_in (suc (suc zero)) i h = put_off (get_or bs 2 0) (get_or ms 2 0) i third h
  off_in (suc (suc (suc zero))) i h = put_off (get_or bs 3 0) (get_or ms 3 0) i fourth h
  off_in (suc (suc (suc (suc w)))) i h =
      let none = get_or_past bs (suc (suc (suc (suc w)))) 0 (omega arith) in
      ap (λ n. eqb n 1) (bit_at-zero i)
      ∙ sym (ap (λ n. eqb (bit_at n i) 1 && not (eqb (bit_at (get_or ms (suc (suc (suc (suc w)))) 0) i) 1)) none ∙ ap (λ n. eqb n 1 && not (eqb (bit_at (get_or ms (suc (suc (suc (suc w)))) 0) i) 1)) (bit_at-zero i))

  pub all_off : (b : ℕ) → bit_in (left 0 ∷ left 1 ∷ left 2 ∷ left 3 ∷ []) b ≡ (bit_in bs b && not (bit_in ms b))
  all_off b = off_in (b / 64) (b % 64) (omega arith)

-- ---- bits set by a mask and put off by another

on_table : (a b c : ℕ) → a < 2 → b < 2 → c < 2 → eqb (max (min a (1 - b)) c) 1 ≡ (eqb c 1 || (eqb a 1 && not (eqb b 1)))
on_table zero zero zero h g f = refl
on_table zero zero (suc zero) h g f = refl
on_table zero (suc zero) zero h g f = refl
on_table zero (suc zero) (suc zero) h g f = refl
on_table (suc zero) zero zero h g f = refl
on_table (suc zero) zero (suc zero) h g f = refl
on_table (suc zero) (suc zero) zero h g f = refl
on_table (suc zero) (suc zero) (suc zero) h g f = refl
on_table (suc (suc a)) b c h g f = absurd (omega arith)
on_table zero (suc (suc b)) c h g f = absurd (omega arith)
on_table (suc zero) (suc (suc b)) c h g f = absurd (omega arith)
on_table zero zero (suc (suc c)) h g f = absurd (omega arith)
on_table zero (suc zero) (suc (suc c)) h g f = absurd (omega arith)
on_table (suc zero) zero (suc (suc c)) h g f = absurd (omega arith)
on_table (suc zero) (suc zero) (suc (suc c)) h g f = absurd (omega arith)

-- one word without the bits of another, and with those of a third
put_on : (x m o i : ℕ) → m < 2 ^ 64 → i < 64 → eqb (bit_at (bit_or (bit_and x (18446744073709551615 - m)) o) i) 1 ≡ (eqb (bit_at o i) 1 || (eqb (bit_at x i) 1 && not (eqb (bit_at m i) 1)))
put_on x m o i h g =
    ap (λ n. eqb n 1) (bit_at_or (bit_and x (18446744073709551615 - m)) o i ∙ ap (λ n. max n (bit_at o i)) (bit_at_and x (18446744073709551615 - m) i ∙ ap (min (bit_at x i)) (bit_at_not w64 m i h g)))
    ∙ on_table (bit_at x i) (bit_at m i) (bit_at o i) (bit_at-lt x i) (bit_at-lt m i) (bit_at-lt o i)

-- ---- the same, where a word that neither mask touches is left

masked_word : (x m o i : ℕ) → m < 2 ^ 64 → i < 64 → (t : Bool) → eqb (bit_or o m) 0 ≡ t → eqb (bit_at (cond t x (bit_or (bit_and x (18446744073709551615 - m)) o)) i) 1 ≡ (eqb (bit_at o i) 1 || (eqb (bit_at x i) 1 && not (eqb (bit_at m i) 1)))
masked_word x m o i h g false e = put_on x m o i h g
masked_word x m o i h g true e =
    let none = eqb-true (bit_or o m) 0 e in
    let low = le_or_l o m in
    let high = le_or_r o m in
    let no_on : o ≡ 0 = omega (arith, none, low) in
    let no_off : m ≡ 0 = omega (arith, none, high) in
    sym ((λ j. eqb (bit_at (no_on j) i) 1 || (eqb (bit_at x i) 1 && not (eqb (bit_at (no_off j) i) 1))) ∙ ap (λ n. eqb n 1 || (eqb (bit_at x i) 1 && not (eqb n 1))) (bit_at-zero i) ∙ stays (eqb (bit_at x i) 1))
  where
    stays : (b : Bool) → (false || (b && not false)) ≡ b
    stays true = refl
    stays false = refl

-- one word is written, and the others stay
module _ (bs : List ℕ) (k on off : ℕ) (within : k < length bs) (fits : off < 2 ^ 64) where
  abbrev word_put : ℕ
  word_put = masked on off (get_or bs k 0)

  abbrev as_masked : ℕ → Bool
  as_masked b = eqb (bit_at on (b % 64)) 1 || (bit_in bs b && not (eqb (bit_at off (b % 64)) 1))

  pub word_written : (b : ℕ) → bit_in (set bs k word_put) b ≡ cond (eqb (b / 64) k) (as_masked b) (bit_in bs b)
  word_written b = at (cases_eq (b / 64) k)
    where
      at : ((b / 64 ≡ k) ⊎ (b / 64 ≡ k → ⊥)) → bit_in (set bs k word_put) b ≡ cond (eqb (b / 64) k) (as_masked b) (bit_in bs b)
      at (inl e) =
          ap (λ w. eqb (bit_at (get_or (set bs k word_put) w 0) (b % 64)) 1) e
          ∙ ap (λ w. eqb (bit_at w (b % 64)) 1) (get_or-set_same bs k word_put 0 within)
          ∙ masked_word (get_or bs k 0) off on (b % 64) fits (omega arith) (eqb (bit_or on off) 0) refl
          ∙ ap (λ w. eqb (bit_at on (b % 64)) 1 || (eqb (bit_at (get_or bs w 0) (b % 64)) 1 && not (eqb (bit_at off (b % 64)) 1))) (sym e)
          ∙ ap (λ t. cond t (as_masked b) (bit_in bs b)) (sym (eq-eqb (b / 64) k e))
      at (inr d) =
          ap (λ w. eqb (bit_at w (b % 64)) 1) (get_or-set_other bs k (b / 64) word_put 0 d)
          ∙ ap (λ t. cond t (as_masked b) (bit_in bs b)) (sym (ne_eqb (b / 64) k d))
