-- What a mask tells of the bits of a cell.
use Rattle.std.proofs.Common.{arith, ◌≡◌, ℕ, suc, zero, ◌+◌, ◌*◌, ◌/◌, ◌%◌, ◌^◌, ◌<◌, ◌≤◌, min, Bool, true, false, eqb, ◌&&◌, ◌||◌, List, length, get_or, set, refl, sym, ap, ◌∙◌, ◌⊎◌, inl, inr, w64}
use Rattle.std.specs.Prelude.{bit_and, bit_or}
use Rattle.std.specs.Int.{bit_at, trailing_zeros}
use Rattle.std.proofs.lemmas.Bool.{eqb-true, cases_eq, true≢false, eq-eqb, ne_eqb}
use Rattle.std.proofs.lemmas.List.{get_or-set_same, get_or-set_other, get_or_past}
use Rattle.std.proofs.lemmas.Nat.Bits.{bit_at-lt, bit_at-suc, bit_at-zero, bit_at_and, bit_at_set_same, bit_at_set_other, bit_at-trailing_zeros}
use Rattle.dg_cells.specs.Rows.{Row, has_bit, pair, word_bit}

-- ---- a bit more

module _ (mask : List ℕ) (bit : ℕ) (len : length mask ≡ 4) (within : bit < 256) where
  abbrev word : ℕ
  word = bit_or (get_or mask (bit / 64) 0) (1 * 2 ^ (bit % 64) % 18446744073709551616)

  here : get_or (set mask (bit / 64) word) (bit / 64) 0 ≡ word
  here = get_or-set_same mask (bit / 64) word 0 (omega arith)

  past : (c : ℕ) → (c ≡ bit → ⊥) → ((c / 64 ≡ bit / 64) ⊎ (c / 64 ≡ bit / 64 → ⊥)) → word_bit (set mask (bit / 64) word) c ≡ word_bit mask c
  past c d (inl e) =
      ap (λ z. eqb (bit_at (get_or (set mask (bit / 64) word) z 0) (c % 64)) 1) e ∙ ap (λ z. eqb (bit_at z (c % 64)) 1) here
      ∙ ap (λ n. eqb n 1) (bit_at_set_other w64 (get_or mask (bit / 64) 0) (bit % 64) (omega arith) (c % 64) (λ f. d (omega arith)))
      ∙ sym (ap (λ z. eqb (bit_at (get_or mask z 0) (c % 64)) 1) e)
  past c d (inr f) = ap (λ z. eqb (bit_at z (c % 64)) 1) (get_or-set_other mask (bit / 64) (c / 64) word 0 f)

  now : word_bit (set mask (bit / 64) word) bit ≡ true
  now =
      ap (λ z. eqb (bit_at z (bit % 64)) 1) here
      ∙ ap (λ n. eqb n 1) (bit_at_set_same w64 (get_or mask (bit / 64) 0) (bit % 64) (omega arith))

  pub bit_put : (c : ℕ) → word_bit (set mask (bit / 64) word) c ≡ (eqb c bit || word_bit mask c)
  bit_put c = at (cases_eq c bit)
    where
      at : (c ≡ bit) ⊎ (c ≡ bit → ⊥) → word_bit (set mask (bit / 64) word) c ≡ (eqb c bit || word_bit mask c)
      at (inl e) = ap (word_bit (set mask (bit / 64) word)) e ∙ now ∙ sym (ap (λ t. t || word_bit mask c) (eq-eqb c bit e))
      at (inr d) = past c d (cases_eq (c / 64) (bit / 64)) ∙ sym (ap (λ t. t || word_bit mask c) (ne_eqb c bit d))

-- a bit past the four words
pub word_bit-past : (mask : List ℕ) (c : ℕ) → length mask ≡ 4 → 256 ≤ c → word_bit mask c ≡ false
word_bit-past mask c len h =
    ap (λ z. eqb (bit_at z (c % 64)) 1) (get_or_past mask (c / 64) 0 (omega arith)) ∙ ap (λ n. eqb n 1) (bit_at-zero (c % 64))

-- ---- both bits of a slot of the mask

module _ (row : Row) (mask : List ℕ) (w : ℕ) where
  abbrev both : ℕ
  both = bit_and (bit_and (get_or row.bits w 0) (get_or row.bits w 0 / 2 ^ 1)) (get_or mask w 0)

  bit_of : (i : ℕ) → bit_at both i ≡ min (min (bit_at (get_or row.bits w 0) i) (bit_at (get_or row.bits w 0) (suc i))) (bit_at (get_or mask w 0) i)
  bit_of i =
      bit_at_and (bit_and (get_or row.bits w 0) (get_or row.bits w 0 / 2 ^ 1)) (get_or mask w 0) i
      ∙ ap (λ n. min n (bit_at (get_or mask w 0) i)) (bit_at_and (get_or row.bits w 0) (get_or row.bits w 0 / 2 ^ 1) i
      ∙ ap (min (bit_at (get_or row.bits w 0) i)) (sym (bit_at-suc (get_or row.bits w 0) i)))

  -- the slot with this index in the word
  module _ (s : ℕ) (in_word : s / 32 ≡ w) where
    mask_is : word_bit mask (2 * s) ≡ eqb (bit_at (get_or mask w 0) (2 * (s % 32))) 1
    mask_is =
        let a : (2 * s) / 64 ≡ w = omega arith in
        let b : (2 * s) % 64 ≡ 2 * (s % 32) = omega arith in
        λ i. eqb (bit_at (get_or mask (a i) 0) (b i)) 1

    first_is : has_bit row (2 * s) ≡ eqb (bit_at (get_or row.bits w 0) (2 * (s % 32))) 1
    first_is =
        let a : (2 * s) / 64 ≡ w = omega arith in
        let b : (2 * s) % 64 ≡ 2 * (s % 32) = omega arith in
        λ i. eqb (bit_at (get_or row.bits (a i) 0) (b i)) 1

    second_is : has_bit row (2 * s + 1) ≡ eqb (bit_at (get_or row.bits w 0) (suc (2 * (s % 32)))) 1
    second_is =
        let a : (2 * s + 1) / 64 ≡ w = omega arith in
        let b : (2 * s + 1) % 64 ≡ suc (2 * (s % 32)) = omega arith in
        λ i. eqb (bit_at (get_or row.bits (a i) 0) (b i)) 1

    pub not_both : both ≡ 0 → word_bit mask (2 * s) ≡ true → ((pair s row).0 && (pair s row).1) ≡ false
    not_both none there = at (bit_at (get_or row.bits w 0) (2 * (s % 32))) refl (bit_at (get_or row.bits w 0) (suc (2 * (s % 32)))) refl
      where
        stays : (t : Bool) → (t && false) ≡ false
        stays true = refl
        stays false = refl

        mask_bit : bit_at (get_or mask w 0) (2 * (s % 32)) ≡ 1
        mask_bit = eqb-true (bit_at (get_or mask w 0) (2 * (s % 32))) 1 (sym mask_is ∙ there)

        sum : 0 ≡ min (min (bit_at (get_or row.bits w 0) (2 * (s % 32))) (bit_at (get_or row.bits w 0) (suc (2 * (s % 32))))) (bit_at (get_or mask w 0) (2 * (s % 32)))
        sum = sym (bit_at-zero (2 * (s % 32))) ∙ ap (λ n. bit_at n (2 * (s % 32))) (sym none) ∙ bit_of (2 * (s % 32))

        at : (a : ℕ) → bit_at (get_or row.bits w 0) (2 * (s % 32)) ≡ a → (b : ℕ) → bit_at (get_or row.bits w 0) (suc (2 * (s % 32))) ≡ b → ((pair s row).0 && (pair s row).1) ≡ false
        at zero e b f = ap (λ t. t && (pair s row).1) (first_is ∙ ap (λ n. eqb n 1) e)
        at (suc a) e zero f = ap (λ t. (pair s row).0 && t) (second_is ∙ ap (λ n. eqb n 1) f) ∙ stays (pair s row).0
        at (suc a) e (suc b) f = absurd (clash a b (bit_at (get_or mask w 0) (2 * (s % 32))) (sum ∙ (λ i. min (min (e i) (f i)) (bit_at (get_or mask w 0) (2 * (s % 32))))) mask_bit)
          where
            clash : (x y m : ℕ) → 0 ≡ min (min (suc x) (suc y)) m → m ≡ 1 → ⊥
            clash x y m g h = omega arith

  -- a bit that is left is that of a slot
  all_one : (a b m : ℕ) → 1 ≡ min (min a b) m → a < 2 → b < 2 → m < 2 → (a ≡ 1) × (b ≡ 1) × (m ≡ 1)
  all_one a b m e f g h = (omega arith, omega arith, omega arith)

  pub both_at : (both ≡ 0 → ⊥) → both < 18446744073709551616 → w < 4 → ((s : ℕ) → s < 128 → word_bit mask (2 * s + 1) ≡ false) → (s : ℕ) × (s < 128) × (word_bit mask (2 * s) ≡ true) × (pair s row ≡ (true, true))
  both_at some small within odd = at (trailing_zeros w64 both) (bit_at-trailing_zeros w64 both (omega arith) small).0 (bit_at-trailing_zeros w64 both (omega arith) small).1
    where
      at : (t : ℕ) → t < 64 → bit_at both t ≡ 1 → (s : ℕ) × (s < 128) × (word_bit mask (2 * s) ≡ true) × (pair s row ≡ (true, true))
      at t low set = by (cases_eq (t % 2) 0)
        where
          ones : (bit_at (get_or row.bits w 0) t ≡ 1) × (bit_at (get_or row.bits w 0) (suc t) ≡ 1) × (bit_at (get_or mask w 0) t ≡ 1)
          ones =
              all_one (bit_at (get_or row.bits w 0) t) (bit_at (get_or row.bits w 0) (suc t)) (bit_at (get_or mask w 0) t) (sym set ∙ bit_of t)
              (bit_at-lt (get_or row.bits w 0) t) (bit_at-lt (get_or row.bits w 0) (suc t)) (bit_at-lt (get_or mask w 0) t)

          by : ((t % 2 ≡ 0) ⊎ (t % 2 ≡ 0 → ⊥)) → (s : ℕ) × (s < 128) × (word_bit mask (2 * s) ≡ true) × (pair s row ≡ (true, true))
          by (inr d) =
              let is_odd : t ≡ 2 * (t / 2) + 1 = omega arith in
              let s = 32 * w + t / 2 in
              let a : (2 * s + 1) / 64 ≡ w = omega arith in
              let b : (2 * s + 1) % 64 ≡ t = omega arith in
              let there : word_bit mask (2 * s + 1) ≡ true = (λ i. eqb (bit_at (get_or mask (a i) 0) (b i)) 1) ∙ ap (λ n. eqb n 1) ones.2 in
              absurd (true≢false (sym there ∙ odd s (omega arith)))
          by (inl e) =
              let s = 32 * w + t / 2 in
              let in_word : s / 32 ≡ w = omega arith in
              let sweep_index : 2 * (s % 32) ≡ t = omega arith in
              let first = first_is s in_word ∙ ap (λ i. eqb (bit_at (get_or row.bits w 0) i) 1) sweep_index ∙ ap (λ n. eqb n 1) ones.0 in
              let second = second_is s in_word ∙ ap (λ i. eqb (bit_at (get_or row.bits w 0) (suc i)) 1) sweep_index ∙ ap (λ n. eqb n 1) ones.1 in
              let there = mask_is s in_word ∙ ap (λ i. eqb (bit_at (get_or mask w 0) i) 1) sweep_index ∙ ap (λ n. eqb n 1) ones.2 in
              (s, omega arith, there, λ i. (first i, second i))
