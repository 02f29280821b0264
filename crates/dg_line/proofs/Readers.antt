-- What readers of words read: what is made of the values of the words of a row.
--     bounded_number, plain_number, more_texts, no_text      a reader of a word
--     one_row, two_row, three_row, four_row, no_words, ask_alone, ask_one      a reader of some words
--     row, or_rows, either_rows, table      the rows of a reader
use Rattle.std.proofs.Common.{◌≡◌, ℕ, suc, ◌≤◌, IsTrue, Bool, true, false, cond, not, ◌&&◌, ◌||◌, nat_le, is_some, Option, Some, None, List, [], ◌∷◌, ◌++◌, map, set, decimal, option_and_then, refl, sym, ap, ◌∙◌, subst, arith}
use Rattle.std.specs.List.{AllZip, AllByRecursion, list_any}
use Rattle.std.specs.Option.{option_map, option_or}
use Rattle.std.specs.Str.{bytes_eq}
use Rattle.std.specs.Str.Parse.{digits_value}
use Rattle.std.proofs.lemmas.Bool.{false≢true, and_parts, leb-true}
use Rattle.std.proofs.lemmas.Slice.Eq.{bytes_eq-Decides}
use Rattle.dg_grammar.specs.Symbols.{Terminal, One_of, Number, IsWordOf}
use Rattle.dg_line.specs.declared.table.End.{End}
use Rattle.dg_line.specs.declared.table.End.TheVariants as end
use Rattle.dg_line.specs.declared.table.Make.{Make}
use Rattle.dg_line.specs.Table.{Reading, end_command, first_from, made_of, read_row, text_index, within, word_value}
use Rattle.dg_machine.specs.declared.command.Command.{Command}
use Rattle.dg_machine.specs.declared.command.Command.TheVariants as command
use Rattle.dg_machine.specs.declared.query.Query.{Query}
use Rattle.dg_machine.specs.CommandGrammar.{asking, handle_of}
use Rattle.dg_text.specs.Verbs.{Verb, is_word, look_up, read_by, none_more, one, two_words, three, four_words}
use Rattle.dg_text.specs.Words.{number}

abbrev pub Is : {T : Type 0} → Option T → Type 0
Is o = IsTrue (is_some o)

abbrev pub AreWordsOf : List (List ℕ) → List Terminal → Type 0
AreWordsOf ws row = AllZip IsWordOf row ws

pub bound : {A B : Type 0} (f : A → Option B) (o : Option A) → Is (option_and_then f o) → Is o × ((x : A) × Is (f x))
bound f (Some x) h = (refl, (x, h))
bound f None h = absurd (false≢true h)

pub both : {A B : Type 0} (f : A → Option B) (o : Option A) → Is o → ((x : A) → Is (f x)) → Is (option_and_then f o)
both f (Some x) h g = g x
both f None h g = absurd (false≢true h)

-- ---- one word

-- the reader reads what is made of the value of a word of the symbol
pub record ReadsWord {A : Type 0} (read : List ℕ → Option A) (t : Terminal) (f : ℕ → A) : Type 0 where
  pub is : (word : List ℕ) → read word ≡ option_map f (word_value t word)

pub plain_number : (least greatest : ℕ) → ReadsWord (number least greatest) (Number least greatest) (λ (n : ℕ). n)
plain_number least greatest = record { is = λ word. same (number least greatest word) }
  where
    same : (o : Option ℕ) → o ≡ option_map (λ (n : ℕ). n) o
    same None = refl
    same (Some n) = refl

in_range : (least greatest n : ℕ) → least ≤ n → n ≤ greatest → n ≡ within least greatest n
in_range least greatest n low high = omega (arith, low, high)

-- a number of a range is kept as it is
pub bounded_number : (least greatest : ℕ) → ReadsWord (number least greatest) (Number least greatest) (within least greatest)
bounded_number least greatest = record {
  is = λ word.
      let n = digits_value 10 word in
      kept (bytes_eq (decimal n) word) (nat_le least n) (nat_le n greatest) n refl refl;
}
  where
    kept : (b r s : Bool) (n : ℕ) → nat_le least n ≡ r → nat_le n greatest ≡ s
        → cond (b && (r && s)) (Some n) None ≡ option_map (within least greatest) (cond (b && (r && s)) (Some n) None)
    kept true true true n low high = ap (λ (k : ℕ). Some k) (in_range least greatest n (leb-true least n low) (leb-true n greatest high))
    kept true true false n low high = refl
    kept true false s n low high = refl
    kept false r s n low high = refl

pub no_text : {A : Type 0} {f : ℕ → A} → ReadsWord {A = A} (λ word. None) (One_of []) f
no_text = record { is = λ word. refl }

-- a chain of tests for words, one by one
pub more_texts : {A : Type 0} (text : List ℕ) (texts : List (List ℕ)) (x : A) (read : List ℕ → Option A) (f : ℕ → A) → x ≡ f 0
    → ReadsWord read (One_of texts) (λ (n : ℕ). f (suc n)) → ReadsWord (λ word. cond (is_word word text) (Some x) (read word)) (One_of (text ∷ texts)) f
more_texts {A} text texts x read f first more = record { is = λ word. by_test word (is_word word text) }
  where
    through : (o : Option ℕ) → option_map (λ (n : ℕ). f (suc n)) o ≡ option_map f (option_map (λ (n : ℕ). suc n) o)
    through None = refl
    through (Some n) = refl

    by_test : (word : List ℕ) (b : Bool) → cond b (Some x) (read word) ≡ option_map f (cond b (Some 0) (option_map (λ (n : ℕ). suc n) (text_index texts word)))
    by_test word true = ap (λ (y : A). Some y) first
    by_test word false = more.is word ∙ through (text_index texts word)

-- ---- some words

-- the reader reads what is made of the values of the words of the row, where that of the first has this index
pub record Reads (read : List (List ℕ) → Option Command) (i : ℕ) (values : List ℕ) (row : List Terminal) (e : End) : Type 0 where
  pub is : (ws : List (List ℕ)) → read ws ≡ read_row i values row (end_command e) ws

pub no_words : {x : Command} {i : ℕ} {values : List ℕ} (m : Make) → x ≡ made_of m values → Reads (none_more x) i values [] (end.Made m)
no_words {x} {i} {values} m same = record { is = λ ws. ap (λ (c : Command). none_more c ws) same }

pub after_word : {A : Type 0} {a : List ℕ → Option A} {t : Terminal} {g : ℕ → A} → ReadsWord a t g → (rest : A → List (List ℕ) → Option Command)
    (i : ℕ) (values : List ℕ) (row : List Terminal) (e : End) → ((v : ℕ) → Reads (rest (g v)) (suc i) (set values i v) row e)
    → (w : List ℕ) (ws : List (List ℕ)) → option_and_then (λ (x : A). rest x ws) (a w) ≡ read_row i values (t ∷ row) (end_command e) (w ∷ ws)
after_word {A} {a} {t} {g} r rest i values row e later w ws = ap (option_and_then (λ (x : A). rest x ws)) (r.is w) ∙ through (word_value t w)
  where
    through : (o : Option ℕ) → option_and_then (λ (x : A). rest x ws) (option_map g o)
        ≡ option_and_then (λ (v : ℕ). read_row (suc i) (set values i v) row (end_command e) ws) o
    through None = refl
    through (Some v) = (later v).is ws

pub one_row : {A : Type 0} {a : List ℕ → Option A} {t : Terminal} {g : ℕ → A} (f : A → Command) {i : ℕ} {values : List ℕ} → ReadsWord a t g → (m : Make)
    → ((v : ℕ) → f (g v) ≡ made_of m (set values i v)) → Reads (one a f) i values (t ∷ []) (end.Made m)
one_row {A} {a} {t} {g} f {i} {values} r m made = record { is = is }
  where
    is : (ws : List (List ℕ)) → one a f ws ≡ read_row i values (t ∷ []) (end_command (end.Made m)) ws
    is [] = refl
    is (w ∷ ws) = after_word r (λ (x : A) ws. none_more (f x) ws) i values [] (end.Made m) (λ v. no_words m (made v)) w ws

pub two_row : {A B : Type 0} {a : List ℕ → Option A} {b : List ℕ → Option B} {t u : Terminal} {g : ℕ → A} {h : ℕ → B} (f : A → B → Command) {i : ℕ}
    {values : List ℕ} → ReadsWord a t g → ReadsWord b u h → (m : Make) → ((v w : ℕ) → f (g v) (h w) ≡ made_of m (set (set values i v) (suc i) w))
    → Reads (two_words a b f) i values (t ∷ u ∷ []) (end.Made m)
two_row {A} {B} {a} {b} {t} {u} {g} {h} f {i} {values} r s m made = record { is = is }
  where
    is : (ws : List (List ℕ)) → two_words a b f ws ≡ read_row i values (t ∷ u ∷ []) (end_command (end.Made m)) ws
    is [] = refl
    is (w ∷ ws) = after_word r (λ (x : A) ws. one b (f x) ws) i values (u ∷ []) (end.Made m) (λ v. one_row (f (g v)) s m (made v)) w ws

pub three_row : {A B C : Type 0} {a : List ℕ → Option A} {b : List ℕ → Option B} {c : List ℕ → Option C} {t u q : Terminal} {g : ℕ → A} {h : ℕ → B}
    {k : ℕ → C} (f : A → B → C → Command) {i : ℕ} {values : List ℕ} → ReadsWord a t g → ReadsWord b u h → ReadsWord c q k → (m : Make)
    → ((v w x : ℕ) → f (g v) (h w) (k x) ≡ made_of m (set (set (set values i v) (suc i) w) (suc (suc i)) x))
    → Reads (three a b c f) i values (t ∷ u ∷ q ∷ []) (end.Made m)
three_row {A} {B} {C} {a} {b} {c} {t} {u} {q} {g} {h} {k} f {i} {values} r s p m made = record { is = is }
  where
    is : (ws : List (List ℕ)) → three a b c f ws ≡ read_row i values (t ∷ u ∷ q ∷ []) (end_command (end.Made m)) ws
    is [] = refl
    is (w ∷ ws) = after_word r (λ (x : A) ws. two_words b c (f x) ws) i values (u ∷ q ∷ []) (end.Made m) (λ v. two_row (f (g v)) s p m (made v)) w ws

pub four_row : {A B C D : Type 0} {a : List ℕ → Option A} {b : List ℕ → Option B} {c : List ℕ → Option C} {d : List ℕ → Option D} {t u q y : Terminal}
    {g : ℕ → A} {h : ℕ → B} {k : ℕ → C} {l : ℕ → D} (f : A → B → C → D → Command) {i : ℕ} {values : List ℕ} → ReadsWord a t g → ReadsWord b u h
    → ReadsWord c q k → ReadsWord d y l → (m : Make)
    → ((v w x z : ℕ) → f (g v) (h w) (k x) (l z) ≡ made_of m (set (set (set (set values i v) (suc i) w) (suc (suc i)) x) (suc (suc (suc i))) z))
    → Reads (four_words a b c d f) i values (t ∷ u ∷ q ∷ y ∷ []) (end.Made m)
four_row {A} {B} {C} {D} {a} {b} {c} {d} {t} {u} {q} {y} {g} {h} {k} {l} f {i} {values} r s p n m made = record { is = is }
  where
    is : (ws : List (List ℕ)) → four_words a b c d f ws ≡ read_row i values (t ∷ u ∷ q ∷ y ∷ []) (end_command (end.Made m)) ws
    is [] = refl
    is (w ∷ ws) = after_word r (λ (x : A) ws. three b c d (f x) ws) i values (u ∷ q ∷ y ∷ []) (end.Made m) (λ v. three_row (f (g v)) s p n m (made v)) w ws

-- a query that is its verb alone
pub ask_alone : {asked : Query} {t : Terminal} {g : ℕ → ℕ} {i : ℕ} {values : List ℕ} → ReadsWord handle_of t g → (m : Make)
    → ((v : ℕ) → command.Ask (g v) asked ≡ made_of m (set values i v)) → Reads (asking (none_more asked)) i values (t ∷ []) (end.Made m)
ask_alone {asked} {t} {g} {i} {values} r m made = record { is = is }
  where
    alone : (h : ℕ) (ws : List (List ℕ)) → option_map (λ q. command.Ask h q) (none_more asked ws) ≡ none_more (command.Ask h asked) ws
    alone h [] = refl
    alone h (w ∷ ws) = refl

    is : (ws : List (List ℕ)) → asking (none_more asked) ws ≡ read_row i values (t ∷ []) (end_command (end.Made m)) ws
    is [] = refl
    is (w ∷ ws) =
        after_word r (λ (h : ℕ) ws. option_map (λ q. command.Ask h q) (none_more asked ws)) i values [] (end.Made m)
        (λ v. record { is = λ ws. alone (g v) ws ∙ ap (λ (c : Command). none_more c ws) (made v) }) w ws

-- a query of one word
pub ask_one : {A : Type 0} {a : List ℕ → Option A} (f : A → Query) {t u : Terminal} {g : ℕ → ℕ} {k : ℕ → A} {i : ℕ} {values : List ℕ} → ReadsWord handle_of t g
    → ReadsWord a u k → (m : Make) → ((v w : ℕ) → command.Ask (g v) (f (k w)) ≡ made_of m (set (set values i v) (suc i) w))
    → Reads (asking (one a f)) i values (t ∷ u ∷ []) (end.Made m)
ask_one {A} {a} f {t} {u} {g} {k} {i} {values} r s m made = record { is = is }
  where
    last : (h : ℕ) (ws : List (List ℕ)) (o : Option A) → option_map (λ q. command.Ask h q) (option_and_then (λ (v : A). none_more (f v) ws) o)
        ≡ option_and_then (λ (v : A). none_more (command.Ask h (f v)) ws) o
    last h ws None = refl
    last h [] (Some v) = refl
    last h (w ∷ ws) (Some v) = refl

    alone : (h : ℕ) (ws : List (List ℕ)) → option_map (λ q. command.Ask h q) (one a f ws) ≡ one a (λ (v : A). command.Ask h (f v)) ws
    alone h [] = refl
    alone h (w ∷ ws) = last h ws (a w)

    is : (ws : List (List ℕ)) → asking (one a f) ws ≡ read_row i values (t ∷ u ∷ []) (end_command (end.Made m)) ws
    is [] = refl
    is (w ∷ ws) =
        after_word r (λ (h : ℕ) ws. option_map (λ q. command.Ask h q) (one a f ws)) i values (u ∷ []) (end.Made m)
        (λ v. record { is = λ ws. alone (g v) ws ∙ (one_row (λ (x : A). command.Ask (g v) (f x)) s m (made v)).is ws }) w ws

-- ---- rows

-- The rows of a reader: the first that reads the words reads what it reads.
pub record Rows (read : List (List ℕ) → Option Command) (i : ℕ) (values : List ℕ) : Type 0 where
  pub rows : List Reading
  pub is : (ws : List (List ℕ)) → read ws ≡ first_from i values rows ws

pub or_none : (o : Option Command) → o ≡ option_or o None
or_none None = refl
or_none (Some c) = refl

abbrev pub row : {read : List (List ℕ) → Option Command} {i : ℕ} {values : List ℕ} {symbols : List Terminal} {e : End} → Reads read i values symbols e → Rows read i values
row {i = i} {values = values} {symbols = symbols} {e = e} r =
    record { rows = record { symbols = symbols; end = e } ∷ []; is = λ ws. r.is ws ∙ or_none (read_row i values symbols (end_command e) ws) }

or_both : (a b c : Option Command) → option_or (option_or a b) c ≡ option_or a (option_or b c)
or_both None b c = refl
or_both (Some x) b c = refl

pub append_first : (i : ℕ) (values : List ℕ) (xs ys : List Reading) (ws : List (List ℕ))
    → first_from i values (xs ++ ys) ws ≡ option_or (first_from i values xs ws) (first_from i values ys ws)
append_first i values [] ys ws = refl
append_first i values (x ∷ xs) ys ws =
    ap (option_or (read_row i values x.symbols (end_command x.end) ws)) (append_first i values xs ys ws)
    ∙ sym (or_both (read_row i values x.symbols (end_command x.end) ws) (first_from i values xs ws) (first_from i values ys ws))

-- those of one reader, and behind them those of another
abbrev pub or_rows : {a b : List (List ℕ) → Option Command} {i : ℕ} {values : List ℕ} → Rows a i values → Rows b i values → Rows (λ ws. option_or (a ws) (b ws)) i values
or_rows {a} {b} {i} {values} r s = record {
  rows = r.rows ++ s.rows;
  is = λ ws.
      ap (λ (o : Option Command). option_or o (b ws)) (r.is ws) ∙ ap (option_or (first_from i values r.rows ws)) (s.is ws)
      ∙ sym (append_first i values r.rows s.rows ws);
}

-- a sweep of all cells, or of a number of them
pub sweep_is : {t : Terminal} (i : ℕ) (values : List ℕ) (r : ReadsWord handle_of t (within 1 4294967295)) (text : List ℕ) (m n : Make) → command.CleanAll ≡ made_of m (set values i 0)
    → ((v : ℕ) → command.Clean (within 1 4294967295 v) ≡ made_of n (set values i v)) → (ws : List (List ℕ))
    → one (λ word. cond (is_word word text) (Some command.CleanAll) (option_map (λ n. command.Clean n) (number 1 4294967295 word))) (λ c. c) ws
    ≡ first_from i values (record { symbols = One_of (text ∷ []) ∷ []; end = end.Made m } ∷ record { symbols = t ∷ []; end = end.Made n } ∷ []) ws
sweep_is i values r text m n all cells [] = refl
sweep_is {t} i values r text m n all cells (w ∷ ws) = by_test (is_word w text)
  where
    swept : (o : Option ℕ) → option_and_then (λ (c : Command). none_more c ws) (option_map (λ (k : ℕ). command.Clean k) (option_map (within 1 4294967295) o))
        ≡ option_or (option_and_then (λ (v : ℕ). none_more (made_of n (set values i v)) ws) o) None
    swept None = refl
    swept (Some v) = ap (λ (c : Command). none_more c ws) (cells v) ∙ or_none (none_more (made_of n (set values i v)) ws)

    first : (l : List (List ℕ)) (o : Option ℕ) → none_more command.CleanAll l
        ≡ option_or (none_more (made_of m (set values i 0)) l) (option_or (option_and_then (λ (v : ℕ). none_more (made_of n (set values i v)) l) o) None)
    first [] o = ap (λ (c : Command). Some c) all
    first (x ∷ l) None = refl
    first (x ∷ l) (Some v) = refl

    by_test : (b : Bool) → option_and_then (λ (c : Command). none_more c ws) (cond b (Some command.CleanAll) (option_map (λ (k : ℕ). command.Clean k) (number 1 4294967295 w)))
        ≡ option_or (option_and_then (λ (v : ℕ). none_more (made_of m (set values i v)) ws) (cond b (Some 0) None))
        (option_or (option_and_then (λ (v : ℕ). none_more (made_of n (set values i v)) ws) (word_value t w)) None)
    by_test true = first ws (word_value t w)
    by_test false =
        ap (λ (o : Option ℕ). option_and_then (λ (c : Command). none_more c ws) (option_map (λ (k : ℕ). command.Clean k) o)) (r.is w) ∙ swept (word_value t w)

abbrev pub either_rows : {t : Terminal} {i : ℕ} {values : List ℕ} {text : List ℕ} → ReadsWord handle_of t (within 1 4294967295) → (m n : Make)
    → command.CleanAll ≡ made_of m (set values i 0) → ((v : ℕ) → command.Clean (within 1 4294967295 v) ≡ made_of n (set values i v))
    → Rows (one (λ word. cond (is_word word text) (Some command.CleanAll) (option_map (λ n. command.Clean n) (number 1 4294967295 word))) (λ c. c)) i values
either_rows {t} {i} {values} {text} r m n all cells = record {
  rows = record { symbols = One_of (text ∷ []) ∷ []; end = end.Made m } ∷ record { symbols = t ∷ []; end = end.Made n } ∷ [];
  is = sweep_is i values r text m n all cells;
}

-- ---- a table of verbs

infixr 60 ◌▸◌
-- the rows of a verb, and those of the verbs after it in the table
abbrev pub ◌▸◌ : {A B : Type 0} → A → B → A × B
a ▸ b = (a, b)

-- the verb before each of the rows
abbrev pub behind : List ℕ → List Reading → List Reading
behind word rows = map (λ (r : Reading). record { symbols = One_of (word ∷ []) ∷ r.symbols; end = r.end }) rows

abbrev pub EachRows : List (Verb Command) → ℕ → List ℕ → Type 0
EachRows verbs i values = AllByRecursion (λ (v : Verb Command). Rows v.read (suc i) (set values i 0)) verbs

abbrev pub table_rows : (i : ℕ) (values : List ℕ) (verbs : List (Verb Command)) → EachRows verbs i values → List Reading
table_rows i values [] all = []
table_rows i values (v ∷ verbs) all = behind v.word all.0.rows ++ table_rows i values verbs all.1

-- no two verbs are one word
abbrev pub are_distinct : List (Verb Command) → Bool
are_distinct [] = true
are_distinct (v ∷ verbs) = not (list_any (λ (u : Verb Command). is_word v.word u.word) verbs) && are_distinct verbs

behind_same : (i : ℕ) (values : List ℕ) (word w : List ℕ) (rows : List Reading) (ws : List (List ℕ)) → is_word w word ≡ true
    → first_from i values (behind word rows) (w ∷ ws) ≡ first_from (suc i) (set values i 0) rows ws
behind_same i values word w [] ws e = refl
behind_same i values word w (r ∷ rows) ws e =
    ap (λ b. option_or (option_and_then (λ (v : ℕ). read_row (suc i) (set values i v) r.symbols (end_command r.end) ws) (cond b (Some 0) None))
    (first_from i values (behind word rows) (w ∷ ws))) e
    ∙ ap (option_or (read_row (suc i) (set values i 0) r.symbols (end_command r.end) ws)) (behind_same i values word w rows ws e)

behind_other : (i : ℕ) (values : List ℕ) (word w : List ℕ) (rows : List Reading) (ws : List (List ℕ)) → is_word w word ≡ false
    → first_from i values (behind word rows) (w ∷ ws) ≡ None
behind_other i values word w [] ws e = refl
behind_other i values word w (r ∷ rows) ws e =
    ap (λ b. option_or (option_and_then (λ (v : ℕ). read_row (suc i) (set values i v) r.symbols (end_command r.end) ws) (cond b (Some 0) None))
    (first_from i values (behind word rows) (w ∷ ws))) e
    ∙ behind_other i values word w rows ws e

behind_none : (i : ℕ) (values : List ℕ) (word : List ℕ) (rows : List Reading) → first_from i values (behind word rows) [] ≡ None
behind_none i values word [] = refl
behind_none i values word (r ∷ rows) = behind_none i values word rows

no_words_read : (i : ℕ) (values : List ℕ) (verbs : List (Verb Command)) (all : EachRows verbs i values) → first_from i values (table_rows i values verbs all) [] ≡ None
no_words_read i values [] all = refl
no_words_read i values (v ∷ verbs) all =
    append_first i values (behind v.word all.0.rows) (table_rows i values verbs all.1) []
    ∙ ap (λ (o : Option Command). option_or o (first_from i values (table_rows i values verbs all.1) [])) (behind_none i values v.word all.0.rows)
    ∙ no_words_read i values verbs all.1

-- no row has another verb
no_verb : (i : ℕ) (values : List ℕ) (verbs : List (Verb Command)) (all : EachRows verbs i values) (w : List ℕ) (ws : List (List ℕ))
    → list_any (λ (u : Verb Command). is_word w u.word) verbs ≡ false → first_from i values (table_rows i values verbs all) (w ∷ ws) ≡ None
no_verb i values [] all w ws e = refl
no_verb i values (v ∷ verbs) all w ws e =
    let parts = neither (is_word w v.word) (list_any (λ (u : Verb Command). is_word w u.word) verbs) e in
    append_first i values (behind v.word all.0.rows) (table_rows i values verbs all.1) (w ∷ ws)
    ∙ ap (λ (o : Option Command). option_or o (first_from i values (table_rows i values verbs all.1) (w ∷ ws))) (behind_other i values v.word w all.0.rows ws parts.0)
    ∙ no_verb i values verbs all.1 w ws parts.1
  where
    neither : (b c : Bool) → (b || c) ≡ false → (b ≡ false) × (c ≡ false)
    neither true c e = absurd (false≢true (sym e))
    neither false c e = (refl, e)

not_true : (b : Bool) → not b ≡ true → b ≡ false
not_true true e = absurd (false≢true e)
not_true false e = refl

table_read : (i : ℕ) (values : List ℕ) (verbs : List (Verb Command)) (all : EachRows verbs i values) (w : List ℕ) (ws : List (List ℕ)) → are_distinct verbs ≡ true
    → look_up w verbs ws ≡ first_from i values (table_rows i values verbs all) (w ∷ ws)
table_read i values [] all w ws e = refl
table_read i values (v ∷ verbs) all w ws e =
    by_test (is_word w v.word) refl (table_read i values verbs all.1 w ws tests.1) ∙ sym (append_first i values (behind v.word all.0.rows) (table_rows i values verbs all.1) (w ∷ ws))
  where
    tests : (not (list_any (λ (u : Verb Command). is_word v.word u.word) verbs) ≡ true) × (are_distinct verbs ≡ true)
    tests = and_parts (not (list_any (λ (u : Verb Command). is_word v.word u.word) verbs)) (are_distinct verbs) e

    by_test : (b : Bool) → is_word w v.word ≡ b → look_up w verbs ws ≡ first_from i values (table_rows i values verbs all.1) (w ∷ ws) → cond b (v.read ws) (look_up w verbs ws)
        ≡ option_or (first_from i values (behind v.word all.0.rows) (w ∷ ws)) (first_from i values (table_rows i values verbs all.1) (w ∷ ws))
    by_test true same later =
        let is : v.word ≡ w = sym ((bytes_eq-Decides w v.word).0 same) in
        all.0.is ws ∙ or_none (first_from (suc i) (set values i 0) all.0.rows ws)
        ∙ ap (λ (o : Option Command). option_or o None) (sym (behind_same i values v.word w all.0.rows ws same))
        ∙ ap (option_or (first_from i values (behind v.word all.0.rows) (w ∷ ws)))
        (sym (no_verb i values verbs all.1 w ws (subst (λ (x : List ℕ). list_any (λ (u : Verb Command). is_word x u.word) verbs ≡ false) is (not_true _ tests.0))))
    by_test false other later =
        later ∙ ap (λ (o : Option Command). option_or o (first_from i values (table_rows i values verbs all.1) (w ∷ ws))) (sym (behind_other i values v.word w all.0.rows ws other))

pub table_is : (i : ℕ) (values : List ℕ) (verbs : List (Verb Command)) (all : EachRows verbs i values) → are_distinct verbs ≡ true → (ws : List (List ℕ))
    → read_by verbs ws ≡ first_from i values (table_rows i values verbs all) ws
table_is i values verbs all e [] = sym (no_words_read i values verbs all)
table_is i values verbs all e (w ∷ ws) = table_read i values verbs all w ws e

-- A table has the rows of each of its verbs, behind the verb.
abbrev pub table : {i : ℕ} {values : List ℕ} (verbs : List (Verb Command)) → EachRows verbs i values → are_distinct verbs ≡ true → Rows (read_by verbs) i values
table {i} {values} verbs all e = record { rows = table_rows i values verbs all; is = table_is i values verbs all e }
