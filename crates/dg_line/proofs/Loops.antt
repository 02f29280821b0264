-- One step of each loop over a table, over the symbols of a row, and over the texts of a symbol.
use Rattle.std.proofs.Common.{◌≡◌, ℕ, suc, ◌+◌, ◌<◌, Bool, true, false, cond, List, [], ◌∷◌, length, get_or, drop, map, set, Option, Some, None, option_and_then, refl, sym, ap, ◌∙◌, subst, arith, drop-cons}
use Rattle.std.specs.List.{list_all}
use Rattle.std.specs.Option.{option_map, option_or}
use Rattle.std.proofs.lemmas.List.{get_or-map, length-map}
use Rattle.dg_grammar.proofs.ListElements.{passes_at}
use Rattle.dg_grammar.specs.Symbols.{Terminal}
use Rattle.dg_line.specs.declared.table.End.TheVariants as end
use Rattle.dg_line.specs.declared.table.Make.TheVariants as make
use Rattle.dg_line.specs.declared.table.Row.{Row}
use Rattle.dg_line.specs.Table.{Reading, first_command, is_well_made, read_row, reading_of, row_command, text_index, word_value}
use Rattle.dg_machine.specs.declared.command.Command.{Command}
use Rattle.dg_text.specs.Verbs.{is_word}

-- a row where there is none
abbrev pub no_reading : Reading
no_reading = record { symbols = []; end = end.Made make.Create }

pub well_made_at : (rows : List Row) (i : ℕ) (d : Row) → list_all is_well_made (map reading_of rows) ≡ true → i < length rows → is_well_made (reading_of (get_or rows i d)) ≡ true
well_made_at rows i d e below =
    subst (λ (r : Reading). is_well_made r ≡ true) (get_or-map reading_of rows i d no_reading below)
    (passes_at is_well_made (map reading_of rows) i no_reading e (let size = length-map rows reading_of in omega arith))

pub drop_at : {X : Type 0} (xs : List X) (i : ℕ) (d x : X) → i < length xs → get_or xs i d ≡ x → drop i xs ≡ x ∷ drop (i + 1) xs
drop_at {X} xs i d x below is =
    drop-cons xs i d below ∙ ap (λ (y : X). y ∷ drop (suc i) xs) is ∙ ap (λ (k : ℕ). x ∷ drop k xs) (let e : suc i ≡ i + 1 = omega arith in e)

-- a row that reads nothing
pub rows_next : (rows : List Row) (i : ℕ) (d r : Row) (ws : List (List ℕ)) (o : Option Command) → i < length rows → get_or rows i d ≡ r
    → o ≡ row_command (reading_of r) ws → first_command (drop i rows) ws ≡ option_or o (first_command (drop (i + 1) rows) ws)
rows_next rows i d r ws o below at is =
    ap (λ (l : List Row). first_command l ws) (drop_at rows i d r below at) ∙ ap (λ (p : Option Command). option_or p (first_command (drop (i + 1) rows) ws)) (sym is)

-- a row that reads nothing is passed by
pub row_passed : (rows : List Row) (i : ℕ) (d : Row) (ws : List (List ℕ)) → i < length rows → row_command (reading_of (get_or rows i d)) ws ≡ None
    → first_command (drop i rows) ws ≡ first_command (drop (i + 1) rows) ws
row_passed rows i d ws below none = rows_next rows i d (get_or rows i d) ws None below refl (sym none)

-- and so is a row with another verb
pub other_passed : (rows : List Row) (i : ℕ) (d : Row) (ws : List (List ℕ)) (first : List ℕ) → i < length rows → ws ≡ first ∷ drop 1 ws
    → ((rest : List (List ℕ)) → row_command (reading_of (get_or rows i d)) (first ∷ rest) ≡ None) → first_command (drop i rows) ws ≡ first_command (drop (i + 1) rows) ws
other_passed rows i d ws first below e none = row_passed rows i d ws below (ap (row_command (reading_of (get_or rows i d))) e ∙ none (drop 1 ws))

-- a word of a row
pub words_next : (row : List Terminal) (i j : ℕ) (values : List ℕ) (d t : Terminal) (ws rest : List (List ℕ)) (w : List ℕ) (make : List ℕ → List (List ℕ) → Option Command)
    (o : Option ℕ) → i < length row → get_or row i d ≡ t → ws ≡ w ∷ rest → o ≡ word_value t w
    → read_row j values (drop i row) make ws ≡ option_and_then (λ (v : ℕ). read_row (j + 1) (set values j v) (drop (i + 1) row) make rest) o
words_next row i j values d t ws rest w make o below at is value =
    ap (λ (l : List Terminal). read_row j values l make ws) (drop_at row i d t below at) ∙ ap (read_row j values (t ∷ drop (i + 1) row) make) is
    ∙ ap (λ (k : ℕ). option_and_then (λ (v : ℕ). read_row k (set values j v) (drop (i + 1) row) make rest) (word_value t w)) (let e : suc j ≡ j + 1 = omega arith in e)
    ∙ ap (option_and_then (λ (v : ℕ). read_row (j + 1) (set values j v) (drop (i + 1) row) make rest)) (sym value)

-- no word is left for a row
pub words_end : (row : List Terminal) (i j : ℕ) (values : List ℕ) (d : Terminal) (ws : List (List ℕ)) (make : List ℕ → List (List ℕ) → Option Command) → i < length row
    → ws ≡ [] → read_row j values (drop i row) make ws ≡ None
words_end row i j values d ws make below is =
    ap (read_row j values (drop i row) make) is ∙ ap (λ (l : List Terminal). read_row j values l make []) (drop_at row i d (get_or row i d) below refl)

abbrev pub moved : ℕ → Option ℕ → Option ℕ
moved i o = option_map (λ (n : ℕ). i + n) o

-- a text of a symbol
pub texts_next : (texts : List (List ℕ)) (i : ℕ) (d text word : List ℕ) (b : Bool) → i < length texts → get_or texts i d ≡ text → b ≡ is_word word text
    → moved i (text_index (drop i texts) word) ≡ cond b (Some i) (moved (i + 1) (text_index (drop (i + 1) texts) word))
texts_next texts i d text word b below at is =
    ap (λ (l : List (List ℕ)). moved i (text_index l word)) (drop_at texts i d text below at)
    ∙ ap (λ (b : Bool). moved i (cond b (Some 0) (option_map (λ (n : ℕ). suc n) (text_index (drop (i + 1) texts) word)))) (sym is) ∙ by_test b
  where
    shifted : (o : Option ℕ) → moved i (option_map (λ (n : ℕ). suc n) o) ≡ moved (i + 1) o
    shifted None = refl
    shifted (Some n) = ap (λ (k : ℕ). Some k) (omega arith)

    by_test : (b : Bool) → moved i (cond b (Some 0) (option_map (λ (n : ℕ). suc n) (text_index (drop (i + 1) texts) word)))
        ≡ cond b (Some i) (moved (i + 1) (text_index (drop (i + 1) texts) word))
    by_test true = ap (λ (k : ℕ). Some k) (omega arith)
    by_test false = shifted (text_index (drop (i + 1) texts) word)
