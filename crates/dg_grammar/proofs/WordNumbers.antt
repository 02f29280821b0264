-- Numbers and their decimal text.
use Rattle.std.proofs.Common.{Bool, true, false, cond, ◌&&◌, nat_le, ◌≡◌, ℕ, zero, suc, ◌+◌, ◌*◌, ◌-◌, ◌<◌, ◌≤◌, ◌^◌, List, length, get_or, take, decimal, Option, Some, None, IfNone, refl, sym, ap, ◌∙◌, subst, arith}
use Rattle.dg_text.specs.Words.{number}
use Rattle.std.proofs.lemmas.Slice.Eq.{bytes_eq-Decides}
use Rattle.std.proofs.lemmas.Bool.{leb-true, false≢true}
use Rattle.std.specs.Char.{digit_value}
use Rattle.std.specs.Str.Parse.{AllDigits, digits_value}
use Rattle.std.proofs.lemmas.Fmt.{decimal_nonempty, decimal_digit, first_decimal, decimal_is_IsNumeral, decimal-digits_value, digits_decimal}
use Rattle.std.proofs.lemmas.Bool.Decides.{nat_tests}
use Rattle.std.proofs.lemmas.Int.Digits.{digits_value_more, digits_more}
use Rattle.std.proofs.lemmas.Str.Parse.{IsNumeralModel, numerals_by_value, tells_digits, digit_at, digits_value-take-le}

pub own : IsNumeralModel (AllDigits 10) (digits_value 10)
own = numerals_by_value (AllDigits 10) tells_digits

-- a number's text has a byte
pub not_empty : (word : List ℕ) (n : ℕ) → n < 2 ^ 64 → word ≡ decimal n → length word ≡ 0 → ⊥
not_empty word n small e none = omega (arith, decimal_nonempty n small, ap length e)

-- a number's text has no zero before other bytes
pub no_zero_before : (word : List ℕ) (n : ℕ) → n < 2 ^ 64 → word ≡ decimal n → get_or word 0 0 ≡ 48 → 1 < length word → ⊥
no_zero_before word zero small e front more = omega (arith, ap length (e ∙ decimal_digit 0 (omega arith)))
no_zero_before word (suc n) small e front more =
    omega (arith, first_decimal (suc n) (omega arith) small, ap (λ bs. get_or bs 0 0) e)

-- the digits of a word, with no zero before others, are the text of their value
pub text_of_value : (word : List ℕ) → AllDigits 10 word → 0 < length word → (get_or word 0 0 ≡ 48 → length word ≡ 1)
    → digits_value 10 word < 2 ^ 64 → word ≡ decimal (digits_value 10 word)
text_of_value word digits some front small = sym (decimal-digits_value own word digits some front small)

-- the value of a number's text
pub value_of_text : (word : List ℕ) (n : ℕ) → n < 2 ^ 64 → word ≡ decimal n → digits_value 10 word ≡ n
value_of_text word n small e = ap (digits_value 10) e ∙ (decimal_is_IsNumeral n small).1

-- the value of a digit
pub digit_of : (byte : ℕ) → 48 ≤ byte → byte ≤ 57 → digit_value byte ≡ byte - 48
digit_of byte low high = grind (arith, nat_tests)

-- one digit more
pub more_digits : (word : List ℕ) (i byte value : ℕ) → i < length word → byte ≡ get_or word i 0 → 48 ≤ byte → byte ≤ 57
    → AllDigits 10 (take i word) → AllDigits 10 (take (i + 1) word)
more_digits word i byte value below is low high digits =
    let d : digit_value (get_or word i 0) ≡ byte - 48 = ap digit_value (sym is) ∙ digit_of byte low high in
    digits_more 10 word i below digits (omega arith)

pub more_value : (word : List ℕ) (i byte value : ℕ) → i < length word → byte ≡ get_or word i 0 → 48 ≤ byte → byte ≤ 57
    → value ≡ digits_value 10 (take i word) → value * 10 + (byte - 48) ≡ digits_value 10 (take (i + 1) word)
more_value word i byte value below is low high so_far =
    let d : digit_value (get_or word i 0) ≡ byte - 48 = ap digit_value (sym is) ∙ digit_of byte low high in
    omega (arith, digits_value_more 10 word i below)

-- a byte that is no digit, or with which the value is past the numbers, is in no number's text
pub stops_at : (word : List ℕ) (i byte value : ℕ) → i < length word → byte ≡ get_or word i 0
    → value ≡ digits_value 10 (take i word) → (48 ≤ byte → byte ≤ 57 → 2 ^ 64 ≤ value * 10 + (byte - 48))
    → (n : ℕ) → n < 2 ^ 64 → word ≡ decimal n → ⊥
stops_at word i byte value below is so_far past n small e =
    let digits = digits_decimal own n small in
    let range = digit_at word i (subst (AllDigits 10) (sym e) digits) below in
    let low : 48 ≤ byte = omega (arith, range) in
    let high : byte ≤ 57 = omega (arith, range) in
    let whole = value_of_text word n small e in
    let front = digits_value-take-le 10 word (i + 1) (omega arith) in
    omega (arith, past low high, more_value word i byte value below is low high so_far)

-- a fact for the case of none, where it holds in every case
pub if_none : {A : Type 0} (o : Option A) (P : Type 0) → P → IfNone o P
if_none None P h = h
if_none (Some x) P h = tt

only_range : {A : Type 0} (b r : Bool) (x y : A) → b ≡ true → cond (b && r) x y ≡ cond r x y
only_range true r x y e = refl
only_range false r x y e = absurd (false≢true e)

-- a word that is the text of n is the number n where n is in the range
pub number_is : (low high n : ℕ) (word : List ℕ) → n < 2 ^ 64 → word ≡ decimal n
    → number low high word ≡ cond (nat_le low n && nat_le n high) (Some n) None
number_is low high n word small e =
    let value = value_of_text word n small e in
    let same = (bytes_eq-Decides (decimal (digits_value 10 word)) word).1 (ap decimal value ∙ sym e) in
    only_range _ _ (Some (digits_value 10 word)) None same ∙ ap (λ m. cond (nat_le low m && nat_le m high) (Some m) None) value

none_unless : {A : Type 0} (b r s : Bool) (x : A) → (b ≡ true → s ≡ true → ⊥) → cond (b && (r && s)) (Some x) None ≡ None
none_unless false r s x h = refl
none_unless true false s x h = refl
none_unless true true false x h = refl
none_unless true true true x h = absurd (h refl refl)

-- a word that is no number's text is no number
pub no_number : (low high : ℕ) (word : List ℕ) → high < 2 ^ 64 → ((n : ℕ) → n < 2 ^ 64 → word ≡ decimal n → ⊥)
    → number low high word ≡ None
no_number low high word small none =
    let n = digits_value 10 word in
    none_unless _ _ _ n (λ text below.
    none n (let most : n ≤ high = leb-true n high below in omega arith) (sym ((bytes_eq-Decides (decimal n) word).0 text)))

within : (low high n : ℕ) → low ≤ n → n ≤ high → cond (nat_le low n && nat_le n high) (Some n) None ≡ Some n
within low high n above below = grind (arith, nat_tests)

outside : (low high n : ℕ) → (low ≤ n → n ≤ high → ⊥) → cond (nat_le low n && nat_le n high) (Some n) None ≡ None
outside low high n out = grind (arith, nat_tests)

pub number_within : (low high n : ℕ) (word : List ℕ) → n < 2 ^ 64 → word ≡ decimal n → low ≤ n → n ≤ high
    → number low high word ≡ Some n
number_within low high n word small e above below = number_is low high n word small e ∙ within low high n above below

pub number_outside : (low high n : ℕ) (word : List ℕ) → n < 2 ^ 64 → word ≡ decimal n → (low ≤ n → n ≤ high → ⊥)
    → number low high word ≡ None
number_outside low high n word small e out = number_is low high n word small e ∙ outside low high n out
