-- The two forms of a command line of `dg_parts`.
use Rattle.std.specs.Prelude.{ℕ, List, [], ◌∷◌, Option, Some, None, codes, string_bytes}
use Rattle.dg_text.specs.Verbs.{Verb, read_by, three, two_words, verb}
use Rattle.dg_text.specs.Words.{number}
use Rattle.dg_parts_words.specs.declared.PartsWords.{PartsWords}
use Rattle.dg_parts_words.specs.declared.PartsWords.TheVariants as words

-- what a command line asks for: an index written as parts, or a script answered over parts
pub data Said : Type 0 where
  Splits : (index out : List ℕ) (parts : ℕ) → Said
  Reads : (out : List ℕ) (parts : ℕ) → Said

abbrev pub said_of : PartsWords → Said
said_of (words.Split index out parts) = Splits (string_bytes index) (string_bytes out) parts
said_of (words.Read out parts) = Reads (string_bytes out) parts

-- how many parts there are by what the words say
abbrev pub parts_said : PartsWords → ℕ
parts_said (words.Split index out parts) = parts
parts_said (words.Read out parts) = parts

-- a word that is not empty
abbrev pub full : List ℕ → Option (List ℕ)
full [] = None
full (byte ∷ rest) = Some (byte ∷ rest)

-- how many parts a word says
abbrev pub parts_of : List ℕ → Option ℕ
parts_of word = number 1 16 word

-- `split INDEX OUT P` and `read OUT P`
abbrev pub parts_verbs : List (Verb Said)
parts_verbs = verb (codes "split") (three full full parts_of Splits) ∷ verb (codes "read") (two_words full parts_of Reads) ∷ []

abbrev pub parts_form : List (List ℕ) → Option Said
parts_form given = read_by parts_verbs given
