-- A field that is read stands in the bytes, as it is spelled.
use Rattle.std.proofs.Common.{◌≡◌, ℕ, ◌+◌, ◌-◌, ◌^◌, ◌<◌, ◌≤◌, Bool, true, false, cond, ltb, List, [], ◌∷◌, ◌++◌, length, get_or, take, drop, Ok, Err, refl, sym, ap, ◌∙◌, append_assoc, arith, inl, inr}
use Rattle.std.specs.Int.{Width, w8, w16, w32, w64, from_be_bytes}
use Rattle.std.proofs.lemmas.Bool.{cases_lt, ltb-false, le-ltb}
use Rattle.std.proofs.lemmas.List.{take_at, drop_at, take-append-drop, drop-drop, length-append, length-take, length-drop, get_or-drop, get_or-take, get_or_past}
use Rattle.std.proofs.lemmas.Nat.{be_bytes_2, be_bytes_4, be_bytes_8, from_be_bytes-to_be_bytes_2, from_be_bytes-to_be_bytes_4, from_be_bytes-to_be_bytes_8}
use Rattle.dg_graph.specs.Columns.{two, four, eight}
use Rattle.dg_graph.specs.ColumnGrammar.{field}
use Rattle.dg_columns.specs.ColumnLaws.{AreBytes}

-- ---- bytes

abbrev pub IsBytes : List ℕ → Type 0
IsBytes bytes = (i : ℕ) → get_or bytes i 0 < 256

pub bytes_from_all : (bytes : List ℕ) → AreBytes bytes → IsBytes bytes
bytes_from_all bytes h i =
    elim (cases_lt i (length bytes)) [
      | inl lt ↦ h i 0 lt
      | inr le ↦ rw (get_or_past bytes i 0 le) (omega arith)
    ]

pub IsBytes-drop : (n : ℕ) (bytes : List ℕ) → IsBytes bytes → IsBytes (drop n bytes)
IsBytes-drop n bytes h i = rw get_or-drop (h (n + i))

pub IsBytes-take : (n : ℕ) (bytes : List ℕ) → IsBytes bytes → IsBytes (take n bytes)
IsBytes-take n bytes h i =
    elim (cases_lt i n) [
      | inl lt ↦ rw (get_or-take n bytes i 0 lt) (h i)
      | inr le ↦ rw (get_or_past (take n bytes) i 0 (omega (arith, length-take n bytes))) (omega arith)
    ]

-- ---- where a text stands

-- the text stands at the offset, and `next` is the offset behind it
abbrev pub Stands : List ℕ → ℕ → List ℕ → ℕ → Type 0
Stands bytes at text next = drop at bytes ≡ text ++ drop next bytes

pub stands_then : (bytes : List ℕ) (at : ℕ) (x : List ℕ) (mid : ℕ) (y : List ℕ) (next : ℕ) → Stands bytes at x mid → Stands bytes mid y next → Stands bytes at (x ++ y) next
stands_then bytes at x mid y next p q =
    p ∙ ap (λ (t : List ℕ). x ++ t) q ∙ sym (append_assoc x y (drop next bytes))

-- ---- numbers

-- a number of k bytes below a limit, and its spelling
pub record IsSpelling (width : Width) (k limit : ℕ) (text : ℕ → List ℕ) : Type 0 where
  pub len : (n : ℕ) → length (text n) ≡ k
  pub back : (bytes : List ℕ) → length bytes ≡ k → IsBytes bytes → text (from_be_bytes width bytes) ≡ bytes
  pub again : (n : ℕ) → n < limit → from_be_bytes width (text n) ≡ n

abbrev pub one : ℕ → List ℕ
one n = n ∷ []

one_back : (bytes : List ℕ) → length bytes ≡ 1 → one (from_be_bytes w8 bytes) ≡ bytes
one_back [] e = absurd (omega arith)
one_back (b ∷ []) e = ap one (omega arith)
one_back (b ∷ d ∷ rest) e = absurd (omega arith)

pub spelling8 : IsSpelling w8 1 256 one
spelling8 = record {
  len = λ n. refl;
  back = λ bytes len fits. one_back bytes len;
  again = λ n lt. omega arith;
}

pub spelling16 : IsSpelling w16 2 (2 ^ 16) two
spelling16 = record {
  len = λ n. refl;
  back = λ bytes len fits. be_bytes_2 bytes _ len fits refl;
  again = λ n lt. from_be_bytes-to_be_bytes_2 n lt;
}

pub spelling32 : IsSpelling w32 4 (2 ^ 32) four
spelling32 = record {
  len = λ n. refl;
  back = λ bytes len fits. be_bytes_4 bytes _ len fits refl;
  again = λ n lt. from_be_bytes-to_be_bytes_4 n lt;
}

pub spelling64 : IsSpelling w64 8 (2 ^ 64) eight
spelling64 = record {
  len = λ n. refl;
  back = λ bytes len fits. be_bytes_8 bytes _ len fits refl;
  again = λ n lt. from_be_bytes-to_be_bytes_8 n lt;
}

pub field_ok : (b c : Bool) (p v n : ℕ) → cond b (Err p) (cond c (Ok v) (Err p)) ≡ Ok n → (b ≡ false) × (c ≡ true) × (v ≡ n)
field_ok true c p v n e = absurd cc
field_ok false true p v n e = (refl, refl, cc)
field_ok false false p v n e = absurd cc

module _ (width : Width) (k limit : ℕ) (text : ℕ → List ℕ) (spelling : IsSpelling width k limit text) (right : ℕ → Bool) (bytes : List ℕ) (at : ℕ) where
  -- a number that is read is spelled there, and passed its test
  pub field_stands : (n next : ℕ) → IsBytes bytes → next ≡ at + k → field width k right bytes at ≡ Ok n → Stands bytes at (text n) next × (right n ≡ true)
  field_stands n next fits is e =
      let front = take k (drop at bytes) in
      let v = from_be_bytes width front in
      let g = field_ok (ltb (length bytes) (at + k)) (right v) at v n e in
      let long : at + k ≤ length bytes = ltb-false _ _ g.0 in
      let len : length front ≡ k = omega (arith, length-take k (drop at bytes), length-drop at bytes) in
      let back : text v ≡ front = spelling.back front len (IsBytes-take k (drop at bytes) (IsBytes-drop at bytes fits)) in
      let spelled : front ≡ text n = sym back ∙ ap text g.2 in
      let rest : drop k (drop at bytes) ≡ drop next bytes = drop-drop k at bytes ∙ ap (λ m. drop m bytes) (sym is) in
      let parts = sym (take-append-drop k (drop at bytes)) in
      (parts ∙ (λ i. spelled i ++ rest i), ap right (sym g.2) ∙ g.1)

  -- a number that is spelled there is read, if it passes its test; and what stands behind it
  pub field_again : (n next : ℕ) (rest : List ℕ) → 0 < k → n < limit → next ≡ at + k → right n ≡ true → drop at bytes ≡ text n ++ rest → (field width k right bytes at ≡ Ok n) × (drop next bytes ≡ rest) × (next ≤ length bytes)
  field_again n next rest some lt is passes e =
      let lengths : length bytes - at ≡ k + length rest = sym (length-drop at bytes) ∙ ap length e ∙ length-append (text n) rest ∙ ap (λ m. m + length rest) (spelling.len n) in
      let long : at + k ≤ length bytes = omega arith in
      let test : ltb (length bytes) (at + k) ≡ false = le-ltb _ _ long in
      let front : take k (drop at bytes) ≡ text n = ap (take k) e ∙ take_at (text n) rest k (spelling.len n) in
      let behind : drop next bytes ≡ rest = ap (λ m. drop m bytes) is ∙ sym (drop-drop k at bytes) ∙ ap (drop k) e ∙ drop_at (text n) rest k (spelling.len n) in
      let value : from_be_bytes width (take k (drop at bytes)) ≡ n = ap (from_be_bytes width) front ∙ spelling.again n lt in
      let found : field width k right bytes at ≡ Ok n = (λ i. cond (test i) (Err at) (cond (right (value i)) (Ok (value i)) (Err at))) ∙ ap (λ b. cond b (Ok n) (Err at)) passes in
      (found, behind, omega arith)
