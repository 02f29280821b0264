-- Prefixes of the texts of numbers.
use Rattle.std.proofs.Common.{◌≡◌, ℕ, ◌+◌, ◌*◌, ◌-◌, ◌<◌, ◌≤◌, ◌^◌, IsTrue, ◌↔◌, Bool, true, false, cond, ◌&&◌, nat_le, is_some, Option, Some, None, List, [], ◌++◌, length, get_or, take, decimal, refl, sym, ap, ◌∙◌, subst, arith, append-nil, length-append, get_or-take}
use Rattle.std.specs.Str.{bytes_eq}
use Rattle.std.specs.Str.Parse.{AllDigits, digits_value}
use Rattle.std.proofs.Math.ListN.{get_or-append}
use Rattle.std.proofs.lemmas.Bool.{leb-true, false≢true}
use Rattle.std.proofs.lemmas.Fmt.{first_decimal, decimal_digit}
use Rattle.std.proofs.lemmas.List.{take-append-le, length-take-le}
use Rattle.std.proofs.lemmas.Slice.Eq.{bytes_eq-Decides}
use Rattle.std.proofs.lemmas.Str.Parse.{digits_value-take-le}
use Rattle.dg_grammar.specs.Prefixes.{IsLongestPrefix}
use Rattle.dg_grammar.specs.Symbols.{Number, IsWordOf}
use Rattle.dg_grammar.proofs.WordNumbers.{number_within, not_empty, no_zero_before, text_of_value, value_of_text, more_digits, more_value, stops_at}

three_tests : (b r s : Bool) (n : ℕ) → IsTrue (is_some (cond (b && (r && s)) (Some n) None)) → (b ≡ true) × (r ≡ true) × (s ≡ true)
three_tests true true true n h = (refl, refl, refl)
three_tests true true false n h = absurd (false≢true h)
three_tests true false s n h = absurd (false≢true h)
three_tests false r s n h = absurd (false≢true h)

-- a word that is a number of the range
pub record Told (least greatest : ℕ) (word : List ℕ) : Type 0 where
  pub n : ℕ
  pub text : word ≡ decimal n
  pub low : least ≤ n
  pub high : n ≤ greatest

pub told : (least greatest : ℕ) (word : List ℕ) → IsWordOf (Number least greatest) word → Told least greatest word
told least greatest word h =
    let n = digits_value 10 word in
    let t = three_tests (bytes_eq (decimal n) word) (nat_le least n) (nat_le n greatest) n h in
    record {
      n = n;
      text = sym ((bytes_eq-Decides (decimal n) word).0 t.0);
      low = leb-true least n t.1;
      high = leb-true n greatest t.2;
    }

pub is_number : (least greatest n : ℕ) (word : List ℕ) → n < 2 ^ 64 → word ≡ decimal n → least ≤ n → n ≤ greatest → IsWordOf (Number least greatest) word
is_number least greatest n word small e low high =
    ap (λ (o : Option ℕ). is_some o) (number_within least greatest n word small e low high)

-- the digits go on to no number of the range
pub number_stops : (least greatest value : ℕ) (rest : List ℕ) (i : ℕ) → i ≤ length rest → greatest < 2 ^ 64
    → (0 < i → take i rest ≡ decimal value) → (0 < i → least ≤ value) → (0 < i → value ≤ greatest)
    → (i < length rest → (n : ℕ) (word : List ℕ) → n < 2 ^ 64 → least ≤ n → n ≤ greatest → word ≡ decimal n → i < length word
    → take i word ≡ take i rest → get_or word i 0 ≡ get_or rest i 0 → ⊥)
    → IsLongestPrefix (IsWordOf (Number least greatest)) rest i
number_stops least greatest value rest i within small text low high past = record {
  within = within;
  begins = λ some.
      let most = high some in (
        [],
        subst (IsWordOf (Number least greatest)) (sym (append-nil (take i rest)))
            (is_number least greatest value (take i rest) (omega arith) (text some) (low some) most),
      );
  longest = λ a b e h.
      let t = told least greatest (a ++ h.0) h.1 in
      let most = t.high in
      let not_more : i < length a → ⊥ = λ more.
      past (omega (arith, ap length e, length-append a b)) t.n (a ++ h.0) (omega arith) t.low t.high t.text (omega (arith, length-append a h.0))
      (take-append-le i a h.0 (omega arith) ∙ sym (take-append-le i a b (omega arith)) ∙ ap (take i) e)
      (get_or-append a h.0 0 i more ∙ sym (get_or-append a b 0 i more) ∙ ap (λ (x : List ℕ). get_or x i 0) e) in
      omega arith;
}

pub number_whole : (least greatest value : ℕ) (rest : List ℕ) (i : ℕ) (whole : Bool) → greatest < 2 ^ 64 → (IsTrue whole ↔ (0 < i))
    → (0 < i → take i rest ≡ decimal value) → (0 < i → least ≤ value) → (0 < i → value ≤ greatest)
    → (IsTrue whole ↔ IsWordOf (Number least greatest) (take i rest))
number_whole least greatest value rest i whole small some text low high = (
  λ t. let most = high (some.0 t) in
      is_number least greatest value (take i rest) (omega arith) (text (some.0 t)) (low (some.0 t)) most,
  λ h. let t = told least greatest (take i rest) h in
      let most = t.high in
      let none : i ≡ 0 → ⊥ = λ z.
      not_empty (take i rest) t.n (omega arith) t.text (ap length (ap (λ (k : ℕ). take k rest) z)) in
      some.1 (omega arith),
)

-- after a leading zero
pub after_zero : (value : ℕ) (rest : List ℕ) (i : ℕ) → 0 < i → value ≡ 0 → take i rest ≡ decimal value
    → (n : ℕ) (word : List ℕ) → n < 2 ^ 64 → word ≡ decimal n → i < length word → take i word ≡ take i rest → ⊥
after_zero value rest i some zero_is text n word small e below same =
    let first : get_or word 0 0 ≡ 48 =
    sym (get_or-take i word 0 0 some) ∙ ap (λ (x : List ℕ). get_or x 0 0) (same ∙ text ∙ ap decimal zero_is ∙ decimal_digit 0 (omega arith)) in
    no_zero_before word n small e first (omega arith)

-- at a byte with which there is no number
pub at_no_digit : (value byte : ℕ) (rest : List ℕ) (i : ℕ) → byte ≡ get_or rest i 0 → value ≡ digits_value 10 (take i rest)
    → (48 ≤ byte → byte ≤ 57 → 2 ^ 64 ≤ value * 10 + (byte - 48))
    → (n : ℕ) (word : List ℕ) → n < 2 ^ 64 → word ≡ decimal n → i < length word → take i word ≡ take i rest → get_or word i 0 ≡ get_or rest i 0 → ⊥
at_no_digit value byte rest i at so_far none n word small e below same here =
    stops_at word i byte value below (at ∙ sym here) (so_far ∙ ap (digits_value 10) (sym same)) none n small e

-- at a digit with which the value is past the range
pub too_great : (greatest value byte next : ℕ) (rest : List ℕ) (i : ℕ) → byte ≡ get_or rest i 0 → 48 ≤ byte → byte ≤ 57
    → next ≡ value * 10 + (byte - 48) → value ≡ digits_value 10 (take i rest) → greatest < next
    → (n : ℕ) (word : List ℕ) → n < 2 ^ 64 → n ≤ greatest → word ≡ decimal n → i < length word → take i word ≡ take i rest
    → get_or word i 0 ≡ get_or rest i 0 → ⊥
too_great greatest value byte next rest i at low high is so_far past n word small most e below same here =
    let whole = value_of_text word n small e in
    let front = digits_value-take-le 10 word (i + 1) (omega arith) in
    omega (arith, more_value word i byte value below (at ∙ sym here) low high (so_far ∙ ap (digits_value 10) (sym same)))

-- at a zero where there is no number 0
pub too_small : (least value byte next : ℕ) (rest : List ℕ) (i : ℕ) → least ≤ 1 → byte ≡ get_or rest i 0 → 48 ≤ byte → byte ≤ 57
    → next ≡ value * 10 + (byte - 48) → (0 < i → value ≡ 0 → ⊥) → next < least
    → (n : ℕ) (word : List ℕ) → n < 2 ^ 64 → least ≤ n → word ≡ decimal n → i < length word → get_or word i 0 ≡ get_or rest i 0 → ⊥
too_small least value byte next rest i small at low high is nonzero past n word fits above e below here =
    let none : value ≡ 0 = omega arith in
    let start : i ≡ 0 = let not_some : 0 < i → ⊥ = λ some. nonzero some none in omega arith in
    let first : get_or word 0 0 ≡ byte = ap (λ (k : ℕ). get_or word k 0) (sym start) ∙ here ∙ sym at in
    omega (arith, first_decimal n (omega arith) fits, ap (λ (x : List ℕ). get_or x 0 0) e)

-- one digit more of a number's text
pub text_more : (rest : List ℕ) (i byte value next : ℕ) → i < length rest → byte ≡ get_or rest i 0 → 48 ≤ byte → byte ≤ 57
    → next ≡ value * 10 + (byte - 48) → next < 2 ^ 64 → value < 2 ^ 64 → AllDigits 10 (take i rest) → value ≡ digits_value 10 (take i rest)
    → (0 < i → take i rest ≡ decimal value) → (0 < i → value ≡ 0 → ⊥) → take (i + 1) rest ≡ decimal next
text_more rest i byte value next below at low high is fits small digits so_far text nonzero =
    let all = more_digits rest i byte value below at low high digits in
    let value_is : next ≡ digits_value 10 (take (i + 1) rest) = is ∙ more_value rest i byte value below at low high so_far in
    let size = length-take-le (i + 1) rest (omega arith) in
    let front : get_or (take (i + 1) rest) 0 0 ≡ 48 → length (take (i + 1) rest) ≡ 1 = λ zero_first.
    let not_some : 0 < i → ⊥ = λ some.
    let same : get_or (decimal value) 0 0 ≡ 48 =
    ap (λ (x : List ℕ). get_or x 0 0) (sym (text some)) ∙ get_or-take i rest 0 0 some ∙ sym (get_or-take (i + 1) rest 0 0 (omega arith)) ∙ zero_first in
    let above : 0 < value = let not_zero : value ≡ 0 → ⊥ = nonzero some in omega arith in
    omega (arith, first_decimal value above small, same) in
    omega arith in
    text_of_value (take (i + 1) rest) all (omega arith) front (omega arith) ∙ ap decimal (sym value_is)
