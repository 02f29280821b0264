-- The symbols of the grammar of commands, and the lines of a row of symbols.
use Rattle.std.specs.Prelude.{ℕ, ◌^◌, Bool, not, ◌&&◌, List, length, map, is_some, IsTrue, nat_le, nat_lt, Any, Contains}
use Rattle.std.specs.Borrow.{Bor}
use Rattle.std.specs.List.{AllZip, list_all}
use Rattle.dg_text.specs.Words.{words, number}
use Rattle.dg_grammar.specs.declared.grammar.Symbol.{Symbol}
use Rattle.dg_grammar.specs.declared.grammar.Symbol.TheVariants as symbol
use Rattle.dg_grammar.specs.Space.{is_space}

-- what a symbol stands for: one of these words, or a number from the least to the greatest
pub data Terminal : Type 0 where
  One_of : List (List ℕ) → Terminal
  Number : ℕ → ℕ → Terminal

abbrev pub word_texts : List (Bor (List ℕ)) → List (List ℕ)
word_texts words = map (λ w. w.now) words

abbrev pub terminal_of : Symbol → Terminal
terminal_of (symbol.OneOf words) = One_of (word_texts words.now)
terminal_of (symbol.Number least greatest) = Number least greatest

abbrev pub row_of : List Symbol → List Terminal
row_of symbols = map terminal_of symbols

abbrev pub rows_of : List (Bor (List Symbol)) → List (List Terminal)
rows_of rows = map (λ row. row_of row.now) rows

-- the symbol stands for the word
abbrev pub IsWordOf : Terminal → List ℕ → Type 0
IsWordOf (One_of texts) word = Contains texts word
IsWordOf (Number least greatest) word = IsTrue (is_some (number least greatest word))

-- the words of the line are, one by one, words of the row
abbrev pub IsLineOf : List Terminal → List ℕ → Type 0
IsLineOf row line = AllZip IsWordOf row (words line)

-- the line is a line of one of the rows
abbrev pub IsLineOfOne : List (List Terminal) → List ℕ → Type 0
IsLineOfOne rows line = Any (λ row. IsLineOf row line) rows

-- the word is short, and has no space
abbrev pub is_short_word : List ℕ → Bool
is_short_word word = nat_le (length word) 20 && list_all (λ b. not (is_space b)) word

-- The symbol stands for some word, and for no long one or one with a space. A number may begin with
-- each digit but 0, so that each prefix of a number of the range is one too.
abbrev pub is_well_formed : Terminal → Bool
is_well_formed (One_of texts) = nat_lt 0 (length texts) && list_all is_short_word texts
is_well_formed (Number least greatest) = nat_le least 1 && (nat_le 1 greatest && nat_lt greatest (2 ^ 64))
