-- Lines of rows of symbols, as words with a space between each two.
use Rattle.std.proofs.Common.{◌≡◌, ℕ, suc, ◌+◌, ◌*◌, ◌<◌, ◌≤◌, ◌^◌, ◌⊎◌, inl, inr, max, Bool, true, false, cond, not, ◌&&◌, nat_le, List, [], ◌∷◌, ◌++◌, length, get_or, take, drop, decimal, refl, sym, ap, ◌∙◌, subst, arith, ltb, add-one, drop-cons, length-append}
use Rattle.std.specs.List.{AllByRecursion, AllZip, Contains, list_all, onto_first, position_or_len, before_first, after_first}
use Rattle.std.proofs.lemmas.Bool.{ltb-true, ltb-false, leb-true, eqb-true, false≢true, and_parts, not-true}
use Rattle.std.proofs.lemmas.Fmt.{length-decimal-le, digits_decimal}
use Rattle.std.proofs.lemmas.Grind.{common_steps}
use Rattle.std.proofs.lemmas.List.{take-append-drop, length-take-le, take_more}
use Rattle.std.proofs.lemmas.List.Elements.{All-from_recursion}
use Rattle.std.proofs.lemmas.List.Quantifiers.{Any-push}
use Rattle.std.proofs.lemmas.List.Sums.{split_at_first, fails_before_first, passes_at_first}
use Rattle.std.proofs.lemmas.List.Splits.{slice_split_none, slice_split_at, slice_split_first}
use Rattle.std.specs.Char.{digit_value}
use Rattle.std.specs.Str.Parse.{AllDigits}
use Rattle.dg_text.specs.Words.{words}
use Rattle.dg_grammar.specs.Space.{is_space}
use Rattle.dg_grammar.specs.Prefixes.{IsLongestPrefix, Parted}
use Rattle.dg_grammar.specs.Symbols.{Terminal, One_of, Number, IsWordOf, IsLineOf, IsLineOfOne, is_short_word, is_well_formed}
use Rattle.dg_grammar.proofs.ListElements.{any_none, any_cases, any_left, any_either, contains_none, contains_cases}
use Rattle.dg_grammar.proofs.WordNumbers.{own}
use Rattle.dg_grammar.proofs.SymbolNumbers.{told, is_number}
use Rattle.dg_grammar.proofs.Prefixes.{Plain, stops, goes_on, same_prefix, no_prefix, either}

-- ---- words without spaces

-- a digit is no space
not_space : (c : ℕ) (t : Bool) → is_space c ≡ t → digit_value c < 10 → t ≡ false
not_space c false e d = refl
not_space c true e d =
    let is : c ≡ 32 = eqb-true c 32 e in
    absurd (omega (arith, subst (λ (b : ℕ). digit_value b < 10) is d))

plain_digits : (ds : List ℕ) → AllDigits 10 ds → AllByRecursion (λ b. is_space b ≡ false) ds
plain_digits [] h = tt
plain_digits (c ∷ cs) h = (not_space c (is_space c) refl h.0, plain_digits cs h.1)

spaceless : (word : List ℕ) → list_all (λ b. not (is_space b)) word ≡ true → AllByRecursion (λ b. is_space b ≡ false) word
spaceless [] e = tt
spaceless (b ∷ bs) e =
    let h = and_parts (not (is_space b)) (list_all (λ c. not (is_space c)) bs) e in
    (not-true (is_space b) h.0, spaceless bs h.1)

-- a word of a well-formed symbol has no space, and is short
pub record IsFine (word : List ℕ) : Type 0 where
  pub plain : Plain word
  pub short : length word ≤ 20

fine_text : (texts : List (List ℕ)) (word : List ℕ) → list_all is_short_word texts ≡ true → Contains texts word → IsFine word
fine_text [] word e h = absurd (contains_none word h)
fine_text (text ∷ texts) word e h =
    let here = and_parts (is_short_word text) (list_all is_short_word texts) e in
    let test = and_parts (nat_le (length text) 20) (list_all (λ b. not (is_space b)) text) here.0 in
    elim (contains_cases text word texts h) [
      | inl is ↦ subst IsFine is (record {
        plain = All-from_recursion (λ b. is_space b ≡ false) text (spaceless text test.1);
        short = leb-true (length text) 20 test.0;
      })
      | inr later ↦ fine_text texts word here.1 later
    ]

pub fine_number : (least greatest : ℕ) (word : List ℕ) → greatest < 2 ^ 64 → IsWordOf (Number least greatest) word → IsFine word
fine_number least greatest word small h =
    let t = told least greatest word h in
    let most = t.high in
    let digits : AllDigits 10 word = subst (AllDigits 10) (sym t.text) (digits_decimal own t.n (omega arith)) in
    record {
      plain = All-from_recursion (λ b. is_space b ≡ false) word (plain_digits word digits);
      short = omega (arith, length-decimal-le 20 t.n (omega arith) (omega arith) (omega arith), ap length t.text);
    }

-- the tests of a well-formed number
pub record IsFineRange (least greatest : ℕ) : Type 0 where
  pub low : least ≤ 1
  pub some : 1 ≤ greatest
  pub small : greatest < 2 ^ 64

pub fine_range : (least greatest : ℕ) → is_well_formed (Number least greatest) ≡ true → IsFineRange least greatest
fine_range least greatest e =
    let first = and_parts (nat_le least 1) (nat_le 1 greatest && ltb greatest (2 ^ 64)) e in
    let second = and_parts (nat_le 1 greatest) (ltb greatest (2 ^ 64)) first.1 in
    record { low = leb-true least 1 first.0; some = leb-true 1 greatest second.0; small = ltb-true greatest (2 ^ 64) second.1 }

pub fine_word : (t : Terminal) (word : List ℕ) → is_well_formed t ≡ true → IsWordOf t word → IsFine word
fine_word (One_of texts) word e h = fine_text texts word (and_parts (ltb 0 (length texts)) (list_all is_short_word texts) e).1 h
fine_word (Number least greatest) word e h = let range = fine_range least greatest e in fine_number least greatest word range.small h

-- there is a word of the symbol
pub sample_word : (t : Terminal) → is_well_formed t ≡ true → (word : List ℕ) × IsWordOf t word
sample_word (One_of []) e = absurd (false≢true e)
sample_word (One_of (text ∷ texts)) e = (text, (0, omega arith, refl))
sample_word (Number least greatest) e =
    let range = fine_range least greatest e in
    let low = range.low in
    let some = range.some in
    (decimal 1, is_number least greatest 1 (decimal 1) (omega arith) refl low some)

-- ---- a line is one word, or a word, a space and a line

pub data Cut (line : List ℕ) : Type 0 where
  Whole : Plain line → words line ≡ line ∷ [] → Cut line
  Split : (w b : List ℕ) → line ≡ w ++ 32 ∷ b → words line ≡ w ∷ words b → Cut line

pub cut : (line : List ℕ) → Cut line
cut line = by_test (ltb (position_or_len is_space line) (length line)) refl
  where
    by_test : (t : Bool) → ltb (position_or_len is_space line) (length line) ≡ t → Cut line
    by_test true e =
        let below = ltb-true (position_or_len is_space line) (length line) e in
        let at = position_or_len is_space line in
        let space : get_or line at 0 ≡ 32 = eqb-true (get_or line at 0) 32 (passes_at_first is_space line 0 below) in
        Split (before_first is_space line) (after_first is_space line)
        (split_at_first is_space line 0 below ∙ ap (λ (b : ℕ). before_first is_space line ++ b ∷ after_first is_space line) space)
        (slice_split_first is_space line 0 below)
    by_test false e =
        let past = ltb-false (position_or_len is_space line) (length line) e in
        let plain : Plain line = λ k d below. fails_before_first is_space line k d (omega arith) in
        Whole plain (slice_split_none is_space line plain)

pub words_cut : (w b : List ℕ) → Plain w → words (w ++ 32 ∷ b) ≡ w ∷ words b
words_cut w b plain = slice_split_at is_space w 32 b plain refl

pub words_one : (b : List ℕ) → Plain b → words b ≡ b ∷ []
words_one b plain = slice_split_none is_space b plain

-- a line has a word
pub data SomeWords (ws : List (List ℕ)) : Type 0 where
  Words_are : (w : List ℕ) (rest : List (List ℕ)) → ws ≡ w ∷ rest → SomeWords ws

pub some_words : (line : List ℕ) → SomeWords (words line)
some_words line = elim (cut line) [
  | Whole plain e ↦ Words_are line [] e
  | Split w b parts e ↦ Words_are w (words b) e
]

onto_some : (x : ℕ) (ws more : List (List ℕ)) → SomeWords ws → onto_first x (ws ++ more) ≡ onto_first x ws ++ more
onto_some x ws more (Words_are w rest e) = ap (λ (l : List (List ℕ)). onto_first x (l ++ more)) e ∙ ap (λ (l : List (List ℕ)). onto_first x l ++ more) (sym e)

-- the words of a line, a space and a line
pub words_both : (line b : List ℕ) → words (line ++ 32 ∷ b) ≡ words line ++ words b
words_both [] b = refl
words_both (x ∷ line) b = ap (λ l. cond (is_space x) ([] ∷ l) (onto_first x l)) (words_both line b) ∙ by_test (is_space x)
  where
    by_test : (t : Bool)
        → cond t ([] ∷ words line ++ words b) (onto_first x (words line ++ words b)) ≡ cond t ([] ∷ words line) (onto_first x (words line)) ++ words b
    by_test true = refl
    by_test false = onto_some x (words line) (words b) (some_words line)

abbrev WordsOf : List Terminal → List (List ℕ) → Type 0
WordsOf row ws = AllZip IsWordOf row ws

no_line : (line : List ℕ) → IsLineOf [] line → ⊥
no_line line h = elim (some_words line) [ Words_are w rest e ↦ subst (WordsOf []) e h ]

-- ---- a line of one symbol, and of more

one_is_word : (t : Terminal) (line : List ℕ) → IsLineOf (t ∷ []) line → IsWordOf t line
one_is_word t line h = elim (cut line) [
  | Whole plain e ↦ (subst (WordsOf (t ∷ [])) e h).0
  | Split w b parts e ↦ absurd (no_line b (subst (WordsOf (t ∷ [])) e h).1)
]

word_is_one : (t : Terminal) (line : List ℕ) → is_well_formed t ≡ true → IsWordOf t line → IsLineOf (t ∷ []) line
word_is_one t line e h =
    subst (WordsOf (t ∷ [])) (sym (words_one line (fine_word t line e h).plain)) (h, tt)

line_is_parted : (t u : Terminal) (more : List Terminal) (line : List ℕ) → IsLineOf (t ∷ u ∷ more) line
    → Parted (IsWordOf t) (IsLineOf (u ∷ more)) line
line_is_parted t u more line h = elim (cut line) [
  | Whole plain e ↦ absurd ((subst (WordsOf (t ∷ u ∷ more)) e h).1)
  | Split w b parts e ↦ let both = subst (WordsOf (t ∷ u ∷ more)) e h in
      record { word = w; after = b; parts = parts; taken = both.0; goes_on = both.1 }
]

parted_is_line : (t u : Terminal) (more : List Terminal) (line : List ℕ) → is_well_formed t ≡ true
    → Parted (IsWordOf t) (IsLineOf (u ∷ more)) line → IsLineOf (t ∷ u ∷ more) line
parted_is_line t u more line e p =
    let split : words line ≡ p.word ∷ words p.after = ap words p.parts ∙ words_cut p.word p.after (fine_word t p.word e p.taken).plain in
    subst (WordsOf (t ∷ u ∷ more)) (sym split) (p.taken, p.goes_on)

abbrev pub AreWellFormed : List Terminal → Type 0
AreWellFormed row = list_all is_well_formed row ≡ true

pub well_formed_first : (t : Terminal) (more : List Terminal) → AreWellFormed (t ∷ more) → (is_well_formed t ≡ true) × AreWellFormed more
well_formed_first t more e = and_parts (is_well_formed t) (list_all is_well_formed more) e

-- there is a line of these symbols
sample : (t : Terminal) (more : List Terminal) → AreWellFormed (t ∷ more) → (line : List ℕ) × IsLineOf (t ∷ more) line
sample t [] e =
    let first = (well_formed_first t [] e).0 in
    let word = sample_word t first in
    (word.0, word_is_one t word.0 first word.1)
sample t (u ∷ more) e =
    let tests = well_formed_first t (u ∷ more) e in
    let word = sample_word t tests.0 in
    let rest = sample u more tests.1 in (
      word.0 ++ 32 ∷ rest.0,
      parted_is_line t u more (word.0 ++ 32 ∷ rest.0) tests.0
          (record { word = word.0; after = rest.0; parts = refl; taken = word.1; goes_on = rest.1 }),
    )

-- a line of these symbols is short
pub line_short : (row : List Terminal) (line : List ℕ) → AreWellFormed row → IsLineOf row line → length line + 1 ≤ 21 * length row
line_short [] line e h = absurd (no_line line h)
line_short (t ∷ []) line e h =
    let short = (fine_word t line (well_formed_first t [] e).0 (one_is_word t line h)).short in
    omega arith
line_short (t ∷ u ∷ more) line e h =
    let tests = well_formed_first t (u ∷ more) e in
    let p = line_is_parted t u more line h in
    let short = (fine_word t p.word tests.0 p.taken).short in
    omega (arith, ap length p.parts, length-append p.word (32 ∷ p.after), line_short (u ∷ more) p.after tests.1 p.goes_on)

-- ---- the longest prefix of a row

-- a space behind a front, and there where it ends
pub space_is : (bytes v u : List ℕ) (n : ℕ) → bytes ≡ v ++ 32 ∷ u → length v ≡ n → (n < length bytes) × (get_or bytes n 0 ≡ 32)
space_is bytes v u n e size =
    (omega (arith, ap length e, length-append v (32 ∷ u)), ap (λ (x : List ℕ). get_or x n 0) e ∙ grind (arith, common_steps))

-- where a space is, the bytes are a front, it, and the rest
pub parted_at : (bytes : List ℕ) (n : ℕ) → n < length bytes → get_or bytes n 0 ≡ 32 → bytes ≡ take n bytes ++ 32 ∷ drop (n + 1) bytes
parted_at bytes n below is =
    sym (take-append-drop n bytes) ∙ ap (λ (x : List ℕ). take n bytes ++ x)
    (rw (add-one, drop-cons bytes n 0) (ap (λ (x : ℕ). x ∷ drop (suc n) bytes) is))

pub no_row : (bytes : List ℕ) → IsLongestPrefix (IsLineOf []) bytes 0
no_row bytes = no_prefix (IsLineOf []) bytes no_line

pub row_stops : (t : Terminal) (more : List Terminal) (bytes : List ℕ) (n : ℕ) → AreWellFormed (t ∷ more)
    → IsLongestPrefix (IsWordOf t) bytes n
    → (0 < length more → IsWordOf t (take n bytes) → n < length bytes → get_or bytes n 0 ≡ 32 → ⊥)
    → IsLongestPrefix (IsLineOf (t ∷ more)) bytes n
row_stops t [] bytes n e f never =
    let first = (well_formed_first t [] e).0 in
    same_prefix (IsWordOf t) (IsLineOf (t ∷ [])) bytes n (λ w. word_is_one t w first) (one_is_word t) f
row_stops t (u ∷ more) bytes n e f never =
    let tests = well_formed_first t (u ∷ more) e in
    let rest = sample u more tests.1 in
    same_prefix (Parted (IsWordOf t) (IsLineOf (u ∷ more))) (IsLineOf (t ∷ u ∷ more)) bytes n
    (λ w. parted_is_line t u more w tests.0) (line_is_parted t u more)
    (stops (IsWordOf t) (IsLineOf (u ∷ more)) bytes n f (λ w h. (fine_word t w tests.0 h).plain) rest.0 rest.1 (λ taken v is.
    let at = space_is bytes (take n bytes) v n is (length-take-le n bytes f.within) in
    never (omega arith) taken at.0 at.1))

pub row_goes_on : (t : Terminal) (more : List Terminal) (bytes : List ℕ) (n k : ℕ) → AreWellFormed (t ∷ more) → 0 < length more
    → IsLongestPrefix (IsWordOf t) bytes n → IsWordOf t (take n bytes) → n < length bytes → get_or bytes n 0 ≡ 32
    → IsLongestPrefix (IsLineOf more) (drop (n + 1) bytes) k → IsLongestPrefix (IsLineOf (t ∷ more)) bytes (n + 1 + k)
row_goes_on t [] bytes n k e some f taken below is g = absurd (omega arith)
row_goes_on t (u ∷ more) bytes n k e some f taken below is g =
    let tests = well_formed_first t (u ∷ more) e in
    let rest = sample u more tests.1 in
    let parts = parted_at bytes n below is in
    same_prefix (Parted (IsWordOf t) (IsLineOf (u ∷ more))) (IsLineOf (t ∷ u ∷ more)) bytes (n + 1 + k)
    (λ w. parted_is_line t u more w tests.0) (line_is_parted t u more)
    (goes_on (IsWordOf t) (IsLineOf (u ∷ more)) bytes (take n bytes) (drop (n + 1) bytes) n k parts (length-take-le n bytes f.within)
    f taken (λ w h. (fine_word t w tests.0 h).plain) rest.0 rest.1 g)

-- a line of one of some rows of few symbols is short
pub lines_short : (rows : List (List Terminal)) (line : List ℕ) (most : ℕ) → list_all (list_all is_well_formed) rows ≡ true
    → list_all (λ row. nat_le (length row) most) rows ≡ true → IsLineOfOne rows line → length line < 21 * most
lines_short [] line most e few h = absurd (any_none (λ (row : List Terminal). IsLineOf row line) h)
lines_short (row ∷ rows) line most e few h =
    let formed = and_parts (list_all is_well_formed row) (list_all (list_all is_well_formed) rows) e in
    let sizes = and_parts (nat_le (length row) most) (list_all (λ (r : List Terminal). nat_le (length r) most) rows) few in
    elim (any_cases (λ (r : List Terminal). IsLineOf r line) row rows h) [
      | inl here ↦ omega (arith, line_short row line formed.0 here, leb-true (length row) most sizes.0)
      | inr later ↦ lines_short rows line most formed.1 sizes.1 later
    ]

-- the longest prefix of a line of one of the rows up to one, from that of those before it and its own
pub rows_more : (rows : List (List Terminal)) (i : ℕ) (row : List Terminal) (line : List ℕ) (n m k : ℕ) → i < length rows → get_or rows i [] ≡ row
    → IsLongestPrefix (IsLineOfOne (take i rows)) line n → IsLongestPrefix (IsLineOf row) line m → k ≡ max n m
    → IsLongestPrefix (IsLineOfOne (take (i + 1) rows)) line k
rows_more rows i row line n m k below at f g is =
    either (IsLineOfOne (take i rows)) (IsLineOf row) (IsLineOfOne (take (i + 1) rows)) line n m k f g is before here back
  where
    more : take (i + 1) rows ≡ take i rows ++ row ∷ []
    more = take_more rows i [] below ∙ ap (λ (r : List Terminal). take i rows ++ r ∷ []) at

    before : (w : List ℕ) → IsLineOfOne (take i rows) w → IsLineOfOne (take (i + 1) rows) w
    before w h = subst (λ (rs : List (List Terminal)). IsLineOfOne rs w) (sym more) (any_left (λ (r : List Terminal). IsLineOf r w) (take i rows) (row ∷ []) h)

    here : (w : List ℕ) → IsLineOf row w → IsLineOfOne (take (i + 1) rows) w
    here w h = subst (λ (rs : List (List Terminal)). IsLineOfOne rs w) (sym more) (Any-push (λ (r : List Terminal). IsLineOf r w) (take i rows) row h)

    back : (w : List ℕ) → IsLineOfOne (take (i + 1) rows) w → IsLineOfOne (take i rows) w ⊎ IsLineOf row w
    back w h = elim (any_either (λ (r : List Terminal). IsLineOf r w) (take i rows) (row ∷ []) (subst (λ (rs : List (List Terminal)). IsLineOfOne rs w) more h)) [
      | inl l ↦ inl l
      | inr r ↦ elim (any_cases (λ (r : List Terminal). IsLineOf r w) row [] r) [
        | inl same ↦ inr same
        | inr none ↦ absurd (any_none (λ (r : List Terminal). IsLineOf r w) none)
      ]
    ]
