-- A grammar as a table of verbs: the first word of a line decides how the words after it are read.
use Rattle.std.specs.Prelude.{ℕ, Bool, List, [], ◌∷◌, Option, Some, None, if◌then◌else◌, option_and_then}
use Rattle.std.specs.Str.{bytes_eq}

abbrev pub is_word : List ℕ → List ℕ → Bool
is_word a b = bytes_eq a b

-- a word, and how the words after it are read
pub record Verb (A : Type 0) : Type 0 where
  pub word : List ℕ
  pub read : List (List ℕ) → Option A

abbrev pub verb : {A : Type 0} → List ℕ → (List (List ℕ) → Option A) → Verb A
verb word read = record { word = word; read = read }

-- what the words after this one are read as
abbrev pub look_up : {A : Type 0} → List ℕ → List (Verb A) → List (List ℕ) → Option A
look_up word [] rest = None
look_up word (v ∷ verbs) rest = if is_word word v.word then v.read rest else look_up word verbs rest

-- what the words are read as, by the first of them
abbrev pub read_by : {A : Type 0} → List (Verb A) → List (List ℕ) → Option A
read_by verbs [] = None
read_by verbs (word ∷ rest) = look_up word verbs rest

-- the value, where no word follows
abbrev pub none_more : {A : Type 0} → A → List (List ℕ) → Option A
none_more x [] = Some x
none_more x (word ∷ rest) = None

-- one word, and what is made of it
abbrev pub one : {A B : Type 0} → (List ℕ → Option A) → (A → B) → List (List ℕ) → Option B
one a make [] = None
one a make (x ∷ rest) = option_and_then (λ v. none_more (make v) rest) (a x)

-- two words, one after the other
abbrev pub two_words : {A B C : Type 0} → (List ℕ → Option A) → (List ℕ → Option B) → (A → B → C) → List (List ℕ) → Option C
two_words a b make [] = None
two_words a b make (x ∷ rest) = option_and_then (λ v. one b (make v) rest) (a x)

-- three words, one after another
abbrev pub three : {A B C D : Type 0} → (List ℕ → Option A) → (List ℕ → Option B) → (List ℕ → Option C) → (A → B → C → D) → List (List ℕ) → Option D
three a b c make [] = None
three a b c make (x ∷ rest) = option_and_then (λ v. two_words b c (make v) rest) (a x)

-- four words, one after another
abbrev pub four_words : {A B C D E : Type 0} → (List ℕ → Option A) → (List ℕ → Option B) → (List ℕ → Option C) → (List ℕ → Option D) → (A → B → C → D → E) → List (List ℕ) → Option E
four_words a b c d make [] = None
four_words a b c d make (x ∷ rest) = option_and_then (λ v. three b c d (make v) rest) (a x)
