-- Which lines a row reads, and where a line leaves a grammar that is a table of rows.
use Rattle.std.proofs.Common.{◌≡◌, ℕ, zero, suc, ◌+◌, ◌-◌, ◌<◌, ◌⊎◌, inl, inr, max, Bool, true, false, cond, ◌&&◌, nat_le, is_some, List, [], ◌∷◌, ◌++◌, length, replicate, set, take, drop, get_or, Option, Some, None, refl, sym, ap, ◌∙◌, subst, arith, append_assoc, length-append}
use Rattle.std.specs.List.{Contains, join_with_byte, list_all}
use Rattle.std.specs.Option.{option_map, option_or}
use Rattle.std.proofs.lemmas.Bool.{and_parts, false≢true, leb-true}
use Rattle.std.proofs.lemmas.List.{length-take-le, take-append-drop, take_more}
use Rattle.std.proofs.lemmas.List.Quantifiers.{Any-push}
use Rattle.std.proofs.lemmas.List.Splits.{join_with_byte-slice_split}
use Rattle.std.proofs.lemmas.Slice.Eq.{bytes_eq-Decides}
use Rattle.dg_changes.specs.ChangeGrammar.{value_text_of}
use Rattle.dg_expr.specs.ExpressionGrammar.{IsExpressionText, expression_of}
use Rattle.dg_graph.specs.declared.element.Columns.{Columns}
use Rattle.dg_grammar.specs.Prefixes.{IsLongestPrefix, IsPrefixOfOne}
use Rattle.dg_grammar.specs.Symbols.{Terminal, One_of, Number, IsLineOf, IsWordOf, is_well_formed}
use Rattle.dg_grammar.proofs.ListElements.{any_cases, any_either, any_first, any_later, any_left, any_none, contains_cases, contains_first, contains_later, contains_none}
use Rattle.dg_grammar.proofs.Prefixes.{either}
use Rattle.dg_grammar.proofs.Symbols.{AreWellFormed, Split, Whole, Words_are, cut, fine_word, lines_short, some_words, well_formed_first, words_cut, words_one}
use Rattle.dg_line.specs.declared.table.End.{End}
use Rattle.dg_line.specs.declared.table.End.TheVariants as end
use Rattle.dg_line.specs.declared.table.Make.{Make}
use Rattle.dg_line.specs.declared.tails.Tail.{Tail}
use Rattle.dg_line.specs.declared.tails.Tail.TheVariants as tail
use Rattle.dg_line.specs.Table.{IsEndOf, IsReadBy, IsReadByOne, Reading, choice_with, end_command, first_from, instants_with, is_well_made, read_row, row_command, search_with, tail_command, text_index, word_value, zeros}
use Rattle.dg_line.specs.Tails.{IsKeyText, IsLineThen, IsTail, IsValueText}
use Rattle.dg_line.proofs.Instants.{few_enough, filled, given, instant, no_zeros, zero_text, zero_words}
use Rattle.dg_line.proofs.LineTails.{then_short}
use Rattle.dg_line.proofs.Readers.{AreWordsOf, Is, both, bound}
use Rattle.dg_line.proofs.TailTexts.{plain_key}
use Rattle.dg_machine.specs.declared.command.Command.{Command}
use Rattle.dg_machine.specs.declared.command.Command.TheVariants as command
use Rattle.dg_machine.specs.declared.command.TheConstants.{TIMES_MAX}
use Rattle.dg_machine.specs.CommandGrammar.{BeginsBy, Grammar, IsColumnBy, key_word}
use Rattle.dg_machine.specs.ValueIndex.{key_of, value_of}
use Rattle.dg_text.specs.Names.{is_key, is_name}
use Rattle.dg_text.specs.Verbs.{is_word, none_more, one}
use Rattle.dg_text.specs.Words.{words}

-- ---- one word

mapped : {A B : Type 0} (f : A → B) (o : Option A) → Is (option_map f o) → Is o
mapped f None h = h
mapped f (Some x) h = refl

remapped : {A B : Type 0} (f : A → B) (o : Option A) → Is o → Is (option_map f o)
remapped f None h = h
remapped f (Some x) h = refl

has_index : (texts : List (List ℕ)) (w : List ℕ) → Is (text_index texts w) → Contains texts w
has_index [] w h = absurd (false≢true h)
has_index (t ∷ ts) w h = by_test (is_word w t) refl h (has_index ts w)
  where
    by_test : (b : Bool) → is_word w t ≡ b → Is (cond b (Some 0) (option_map (λ (n : ℕ). suc n) (text_index ts w)))
        → (Is (text_index ts w) → Contains ts w) → Contains (t ∷ ts) w
    by_test true e h later = subst (Contains (t ∷ ts)) (sym ((bytes_eq-Decides w t).0 e)) (contains_first t ts)
    by_test false e h later = contains_later t w ts (later (mapped (λ (n : ℕ). suc n) (text_index ts w) h))

index_of : (texts : List (List ℕ)) (w : List ℕ) → Contains texts w → Is (text_index texts w)
index_of [] w h = absurd (contains_none w h)
index_of (t ∷ ts) w h = elim (contains_cases t w ts h) [
  | inl same ↦ here (is_word w t) ((bytes_eq-Decides w t).1 (sym same))
  | inr later ↦ either_way (is_word w t) (index_of ts w later)
]
  where
    here : (b : Bool) → b ≡ true → Is (cond b (Some 0) (option_map (λ (n : ℕ). suc n) (text_index ts w)))
    here true e = refl
    here false e = absurd (false≢true e)

    either_way : (b : Bool) → Is (text_index ts w) → Is (cond b (Some 0) (option_map (λ (n : ℕ). suc n) (text_index ts w)))
    either_way true g = refl
    either_way false g = remapped (λ (n : ℕ). suc n) (text_index ts w) g

-- a word has a value where the symbol stands for it
is_word_of : (t : Terminal) (w : List ℕ) → Is (word_value t w) → IsWordOf t w
is_word_of (One_of texts) w h = has_index texts w h
is_word_of (Number least greatest) w h = h

has_value : (t : Terminal) (w : List ℕ) → IsWordOf t w → Is (word_value t w)
has_value (One_of texts) w h = index_of texts w h
has_value (Number least greatest) w h = h

-- ---- lines of words

words_taken : (i : ℕ) (values : List ℕ) (row : List Terminal) (m : Make) (ws : List (List ℕ))
    → Is (read_row i values row (end_command (end.Made m)) ws) → AreWordsOf ws row
words_taken i values [] m [] h = tt
words_taken i values [] m (w ∷ ws) h = absurd (false≢true h)
words_taken i values (t ∷ row) m [] h = absurd (false≢true h)
words_taken i values (t ∷ row) m (w ∷ ws) h =
    let found = bound (λ (v : ℕ). read_row (suc i) (set values i v) row (end_command (end.Made m)) ws) (word_value t w) h in
    (is_word_of t w found.0, words_taken (suc i) (set values i found.1.0) row m ws found.1.1)

words_given : (i : ℕ) (values : List ℕ) (row : List Terminal) (m : Make) (ws : List (List ℕ)) → AreWordsOf ws row
    → Is (read_row i values row (end_command (end.Made m)) ws)
words_given i values [] m [] h = refl
words_given i values [] m (w ∷ ws) h = absurd h
words_given i values (t ∷ row) m [] h = absurd h
words_given i values (t ∷ row) m (w ∷ ws) h =
    both (λ (v : ℕ). read_row (suc i) (set values i v) row (end_command (end.Made m)) ws) (word_value t w) (has_value t w h.0)
    (λ v. words_given (suc i) (set values i v) row m ws h.1)

-- ---- tails

-- a line of more than one word
split_first : (line w x : List ℕ) (ws : List (List ℕ)) → words line ≡ w ∷ x ∷ ws → (b : List ℕ) × (line ≡ w ++ 32 ∷ b) × (words b ≡ x ∷ ws)
split_first line w x ws e = elim (cut line) [
  | Whole plain is ↦ absurd (one_word (sym is ∙ e))
  | Split v b parts is ↦ let both = sym is ∙ e in (b, parts ∙ ap (λ (l : List ℕ). l ++ 32 ∷ b) (first_of both), rest_of both)
]
  where
    one_word : {line w x : List ℕ} {ws : List (List ℕ)} → line ∷ [] ≡ w ∷ x ∷ ws → ⊥
    one_word same = let sizes = ap length same in omega arith

    first_of : {v w x : List ℕ} {us ws : List (List ℕ)} → v ∷ us ≡ w ∷ x ∷ ws → v ≡ w
    first_of same = cc

    rest_of : {v w x : List ℕ} {us ws : List (List ℕ)} → v ∷ us ≡ w ∷ x ∷ ws → us ≡ x ∷ ws
    rest_of same = cc

-- a line is its words
joined : (line : List ℕ) (ws : List (List ℕ)) → words line ≡ ws → join_with_byte 32 ws ≡ line
joined line ws e = ap (join_with_byte 32) (sym e) ∙ join_with_byte-slice_split 32 line

key_is : (word : List ℕ) → Is (key_word word) → IsKeyText word
key_is word h = by_test (is_key word) refl h
  where
    by_test : (b : Bool) → is_key word ≡ b → Is (option_map key_of (cond b (Some word) None)) → IsKeyText word
    by_test true e h = e
    by_test false e h = absurd (false≢true h)

is_key_word : (word : List ℕ) → IsKeyText word → Is (key_word word)
is_key_word word h = ap (λ b. is_some (option_map key_of (cond b (Some word) None))) h

value_is : (text : List ℕ) → Is (value_text_of text) → IsValueText text
value_is text h = by_test (is_name text) refl h
  where
    by_test : (b : Bool) → is_name text ≡ b → Is (cond b (Some text) None) → IsValueText text
    by_test true e h = e
    by_test false e h = absurd (false≢true h)

is_value_text : (text : List ℕ) → IsValueText text → Is (value_text_of text)
is_value_text text h = ap (λ b. is_some (cond b (Some text) None)) h

key_taken : (line : List ℕ) (ws : List (List ℕ)) → words line ≡ ws → Is (one key_word (λ key. command.Index key) ws) → IsKeyText line
key_taken line [] e h = absurd (false≢true h)
key_taken line (key ∷ []) e h =
    subst IsKeyText (joined line (key ∷ []) e) (key_is key (bound (λ v. none_more (command.Index v) []) (key_word key) h).0)
key_taken line (key ∷ x ∷ ws) e h =
    let found = bound (λ v. none_more (command.Index v) (x ∷ ws)) (key_word key) h in
    absurd (false≢true found.1.1)

choice_taken : (cols : Columns) (line : List ℕ) (ws : List (List ℕ)) → words line ≡ ws → Is (choice_with cols ws) → IsExpressionText line
choice_taken cols line [] e h = absurd (false≢true h)
choice_taken cols line (w ∷ ws) e h = subst IsExpressionText (joined line (w ∷ ws) e) (mapped _ (expression_of (join_with_byte 32 (w ∷ ws))) h)

search_taken : (t : ℕ) (line : List ℕ) (ws : List (List ℕ)) → words line ≡ ws → Is (search_with t ws) → IsTail tail.Search line
search_taken t line [] e h = absurd (false≢true h)
search_taken t line (key ∷ []) e h = absurd (false≢true h)
search_taken t line (key ∷ word ∷ more) e h =
    let first = split_first line key word more e in
    let found = bound _ (key_word key) h in
    record {
      word = key;
      after = first.0;
      parts = first.1;
      taken = key_is key found.0;
      goes_on = subst IsValueText (joined first.0 (word ∷ more) first.2)
          (value_is (join_with_byte 32 (word ∷ more)) (mapped (λ v. command.Find t found.1.0 (value_of v)) (value_text_of (join_with_byte 32 (word ∷ more))) found.1.1));
    }

instants_taken : (cols : Columns) (line : List ℕ) (ws : List (List ℕ)) → words line ≡ ws → Is (instants_with cols ws) → (n : ℕ) × IsTail tail.Instants (line ++ zero_text n)
instants_taken cols line [] e h = absurd (false≢true h)
instants_taken cols line (w ∷ ws) e h =
    let few = few_enough cols (w ∷ ws) h in
    let n = TIMES_MAX - length (w ∷ ws) in
    let same : w ∷ ws ++ replicate n (48 ∷ []) ≡ words (line ++ zero_text n) = ap (λ (l : List (List ℕ)). l ++ replicate n (48 ∷ [])) (sym e) ∙ sym (zero_words n line) in
    (n, subst (λ (l : List (List ℕ)). AreWordsOf l (replicate TIMES_MAX instant)) same (filled TIMES_MAX (w ∷ ws) few.0 few.1))

tail_taken : (t : Tail) (values : List ℕ) (line : List ℕ) → Is (tail_command t values (words line)) → (n : ℕ) × IsTail t (line ++ zero_text n)
tail_taken tail.Expression values line h = (0, subst IsExpressionText (no_zeros line) (choice_taken _ line (words line) refl h))
tail_taken tail.Key values line h = (0, subst IsKeyText (no_zeros line) (key_taken line (words line) refl h))
tail_taken tail.Search values line h = (0, subst (IsTail tail.Search) (no_zeros line) (search_taken _ line (words line) refl h))
tail_taken tail.Instants values line h = instants_taken _ line (words line) refl h

tail_given : (t : Tail) (values : List ℕ) (line : List ℕ) → IsTail t line → Is (tail_command t values (words line))
tail_given tail.Expression values line h = elim (some_words line) [
  | Words_are w ws is ↦ subst (λ (l : List (List ℕ)). Is (tail_command tail.Expression values l)) (sym is)
      (remapped _ (expression_of (join_with_byte 32 (w ∷ ws))) (subst IsExpressionText (sym (joined line (w ∷ ws) is)) h))
]
tail_given tail.Key values line h =
    subst (λ (l : List (List ℕ)). Is (tail_command tail.Key values l)) (sym (words_one line (plain_key line h)))
    (both (λ v. none_more (command.Index v) []) (key_word line) (is_key_word line h) (λ v. refl))
tail_given tail.Search values line p = elim (some_words p.after) [
  | Words_are w ws is ↦
      let split : words line ≡ p.word ∷ w ∷ ws = ap words p.parts ∙ words_cut p.word p.after (plain_key p.word p.taken) ∙ ap (λ (l : List (List ℕ)). p.word ∷ l) is in
      let value = is_value_text (join_with_byte 32 (w ∷ ws)) (subst IsValueText (sym (joined p.after (w ∷ ws) is)) p.goes_on) in
      subst (λ (l : List (List ℕ)). Is (tail_command tail.Search values l)) (sym split)
      (both _ (key_word p.word) (is_key_word p.word p.taken) (λ k. remapped _ (value_text_of (join_with_byte 32 (w ∷ ws))) value))
]
tail_given tail.Instants values line h = elim (some_words line) [
  | Words_are w ws is ↦ subst (λ (l : List (List ℕ)). Is (tail_command tail.Instants values l)) (sym is)
      (given _ (w ∷ ws) (subst (λ (l : List (List ℕ)). AreWordsOf l (replicate TIMES_MAX instant)) is h))
]

-- ---- words and a tail

not_ended : (i : ℕ) (values : List ℕ) (row : List Terminal) (t : Tail) → Is (read_row i values row (end_command (end.Then t)) []) → ⊥
not_ended i values [] tail.Expression h = false≢true h
not_ended i values [] tail.Key h = false≢true h
not_ended i values [] tail.Search h = false≢true h
not_ended i values [] tail.Instants h = false≢true h
not_ended i values (s ∷ row) t h = false≢true h

then_taken : (i : ℕ) (values : List ℕ) (row : List Terminal) (t : Tail) (line : List ℕ) → Is (read_row i values row (end_command (end.Then t)) (words line))
    → (n : ℕ) × IsLineThen row (IsTail t) (line ++ zero_text n)
then_taken i values [] t line h = tail_taken t values line h
then_taken i values (s ∷ row) t line h = elim (cut line) [
  | Whole plain is ↦
      let found = bound (λ (v : ℕ). read_row (suc i) (set values i v) row (end_command (end.Then t)) []) (word_value s line)
      (subst (λ (l : List (List ℕ)). Is (read_row i values (s ∷ row) (end_command (end.Then t)) l)) is h) in
      absurd (not_ended (suc i) (set values i found.1.0) row t found.1.1)
  | Split w b parts is ↦
      let found = bound (λ (v : ℕ). read_row (suc i) (set values i v) row (end_command (end.Then t)) (words b)) (word_value s w)
      (subst (λ (l : List (List ℕ)). Is (read_row i values (s ∷ row) (end_command (end.Then t)) l)) is h) in
      let rest = then_taken (suc i) (set values i found.1.0) row t b found.1.1 in (
        rest.0,
        record {
          word = w;
          after = b ++ zero_text rest.0;
          parts = ap (λ (l : List ℕ). l ++ zero_text rest.0) parts ∙ append_assoc w (32 ∷ b) (zero_text rest.0);
          taken = is_word_of s w found.0;
          goes_on = rest.1;
        },
      )
]

then_given : (i : ℕ) (values : List ℕ) (row : List Terminal) (t : Tail) (line : List ℕ) → AreWellFormed row → IsLineThen row (IsTail t) line
    → Is (read_row i values row (end_command (end.Then t)) (words line))
then_given i values [] t line e h = tail_given t values line h
then_given i values (s ∷ row) t line e p =
    let tests = well_formed_first s row e in
    let split : words line ≡ p.word ∷ words p.after = ap words p.parts ∙ words_cut p.word p.after (fine_word s p.word tests.0 p.taken).plain in
    subst (λ (l : List (List ℕ)). Is (read_row i values (s ∷ row) (end_command (end.Then t)) l)) (sym split)
    (both (λ (v : ℕ). read_row (suc i) (set values i v) row (end_command (end.Then t)) (words p.after)) (word_value s p.word) (has_value s p.word p.taken)
    (λ v. then_given (suc i) (set values i v) row t p.after tests.1 p.goes_on))

-- ---- rows

end_taken : (e : End) (row : List Terminal) (line : List ℕ) → Is (read_row 0 zeros row (end_command e) (words line)) → (n : ℕ) × IsEndOf e row (line ++ zero_text n)
end_taken (end.Made m) row line h = (0, subst (IsLineOf row) (no_zeros line) (words_taken 0 zeros row m (words line) h))
end_taken (end.Then t) row line h = then_taken 0 zeros row t line h

end_given : (e : End) (row : List Terminal) (line : List ℕ) → AreWellFormed row → IsEndOf e row line → Is (read_row 0 zeros row (end_command e) (words line))
end_given (end.Made m) row line e h = words_given 0 zeros row m (words line) h
end_given (end.Then t) row line e h = then_given 0 zeros row t line e h

abbrev pub AreWellMade : List Reading → Type 0
AreWellMade rows = list_all is_well_made rows ≡ true

well_made_first : (r : Reading) (rows : List Reading) → AreWellMade (r ∷ rows) → (nat_le (length r.symbols) 5 ≡ true) × AreWellFormed r.symbols × AreWellMade rows
well_made_first r rows e =
    let parts = and_parts (is_well_made r) (list_all is_well_made rows) e in
    let tests = and_parts (nat_le (length r.symbols) 5) (list_all is_well_formed r.symbols) parts.0 in
    (tests.0, tests.1, parts.1)

-- what a row reads is a line of a row, once words `0` stand behind it
rows_taken : (rows : List Reading) (line : List ℕ) → Is (first_from 0 zeros rows (words line)) → (n : ℕ) × IsReadByOne rows (line ++ zero_text n)
rows_taken [] line h = absurd (false≢true h)
rows_taken (r ∷ rows) line h = by_first (row_command r (words line)) refl h (rows_taken rows line)
  where
    by_first : (o : Option Command) → row_command r (words line) ≡ o → Is (option_or o (first_from 0 zeros rows (words line)))
        → (Is (first_from 0 zeros rows (words line)) → (n : ℕ) × IsReadByOne rows (line ++ zero_text n)) → (n : ℕ) × IsReadByOne (r ∷ rows) (line ++ zero_text n)
    by_first None e h later =
        let found = later h in
        (found.0, any_later (λ (q : Reading). IsReadBy q (line ++ zero_text found.0)) r rows found.1)
    by_first (Some c) e h later =
        let found = end_taken r.end r.symbols line (ap is_some e) in
        (found.0, any_first (λ (q : Reading). IsReadBy q (line ++ zero_text found.0)) r rows found.1)

rows_given : (rows : List Reading) (line : List ℕ) → AreWellMade rows → IsReadByOne rows line → Is (first_from 0 zeros rows (words line))
rows_given [] line e h = absurd (any_none (λ (q : Reading). IsReadBy q line) h)
rows_given (r ∷ rows) line e h =
    let tests = well_made_first r rows e in
    elim (any_cases (λ (q : Reading). IsReadBy q line) r rows h) [
      | inl here ↦ first (row_command r (words line)) (end_given r.end r.symbols line tests.1 here)
      | inr later ↦ second (row_command r (words line)) (rows_given rows line tests.2 later)
    ]
  where
    first : (o : Option Command) → Is o → Is (option_or o (first_from 0 zeros rows (words line)))
    first None g = absurd (false≢true g)
    first (Some c) g = refl

    second : (o : Option Command) → Is (first_from 0 zeros rows (words line)) → Is (option_or o (first_from 0 zeros rows (words line)))
    second None g = g
    second (Some c) g = refl

end_short : (e : End) (row : List Terminal) (line : List ℕ) → nat_le (length row) 5 ≡ true → AreWellFormed row → IsEndOf e row line → length line < 2099
end_short (end.Made m) row line few e h =
    let short = lines_short (row ∷ []) line 5 (ap (λ b. b && true) e) (ap (λ b. b && true) few) (any_first (λ (r : List Terminal). IsLineOf r line) row [] h) in
    omega arith
end_short (end.Then t) row line few e h =
    let size = leb-true (length row) 5 few in
    let short = then_short row t line e h in
    omega arith

rows_short : (rows : List Reading) (line : List ℕ) → AreWellMade rows → IsReadByOne rows line → length line < 2099
rows_short [] line e h = absurd (any_none (λ (q : Reading). IsReadBy q line) h)
rows_short (r ∷ rows) line e h =
    let tests = well_made_first r rows e in
    elim (any_cases (λ (q : Reading). IsReadBy q line) r rows h) [
      | inl here ↦ end_short r.end r.symbols line tests.0 tests.1 here
      | inr later ↦ rows_short rows line tests.2 later
    ]

-- ---- the longest prefix

-- the longest prefix of a line of one of the rows up to one, from that of those before it and its own
pub rows_more : (rows : List Reading) (i : ℕ) (d r : Reading) (line : List ℕ) (n m k : ℕ) → i < length rows → get_or rows i d ≡ r
    → IsLongestPrefix (IsReadByOne (take i rows)) line n → IsLongestPrefix (IsReadBy r) line m → k ≡ max n m
    → IsLongestPrefix (IsReadByOne (take (i + 1) rows)) line k
rows_more rows i d r line n m k below at f g is =
    either (IsReadByOne (take i rows)) (IsReadBy r) (IsReadByOne (take (i + 1) rows)) line n m k f g is before here back
  where
    more : take (i + 1) rows ≡ take i rows ++ r ∷ []
    more = take_more rows i d below ∙ ap (λ (q : Reading). take i rows ++ q ∷ []) at

    before : (w : List ℕ) → IsReadByOne (take i rows) w → IsReadByOne (take (i + 1) rows) w
    before w h = subst (λ (rs : List Reading). IsReadByOne rs w) (sym more) (any_left (λ (q : Reading). IsReadBy q w) (take i rows) (r ∷ []) h)

    here : (w : List ℕ) → IsReadBy r w → IsReadByOne (take (i + 1) rows) w
    here w h = subst (λ (rs : List Reading). IsReadByOne rs w) (sym more) (Any-push (λ (q : Reading). IsReadBy q w) (take i rows) r h)

    back : (w : List ℕ) → IsReadByOne (take (i + 1) rows) w → IsReadByOne (take i rows) w ⊎ IsReadBy r w
    back w h = elim (any_either (λ (q : Reading). IsReadBy q w) (take i rows) (r ∷ []) (subst (λ (rs : List Reading). IsReadByOne rs w) more h)) [
      | inl l ↦ inl l
      | inr l ↦ elim (any_cases (λ (q : Reading). IsReadBy q w) r [] l) [
        | inl same ↦ inr same
        | inr none ↦ absurd (any_none (λ (q : Reading). IsReadBy q w) none)
      ]
    ]

-- the longest prefix is short
pub prefix_short : (rows : List Reading) → AreWellMade rows → (line : List ℕ) (longest : ℕ) → IsLongestPrefix (IsReadByOne rows) line longest → longest < 2100
prefix_short rows e line zero f = omega arith
prefix_short rows e line (suc n) f =
    let b = f.begins (omega arith) in
    let short = rows_short rows (take (suc n) line ++ b.0) e b.1 in
    omega (arith, length-append (take (suc n) line) b.0, length-take-le (suc n) line f.within)

-- the column behind the longest prefix of a line of a grammar that is a table of rows
pub column_is : (read : Grammar) (rows : List Reading) → AreWellMade rows → ((line : List ℕ) → read line ≡ first_from 0 zeros rows (words line)) → BeginsBy read []
    → (line : List ℕ) (longest : ℕ) → IsLongestPrefix (IsReadByOne rows) line longest → IsColumnBy read line (longest + 1)
column_is read rows made is some line longest f = record {
  from_one = omega arith;
  within = omega (arith, f.within);
  begins = subst (λ (n : ℕ). BeginsBy read (take n line)) (let e : longest ≡ longest + 1 - 1 = omega arith in e) (begins longest f);
  longest = λ n above in_line b.
      let most = f.longest (take n line) (drop n line) (take-append-drop n line) (fills (take n line) b) in
      omega (arith, length-take-le n line in_line);
}
  where
    fills : (bytes : List ℕ) → BeginsBy read bytes → IsPrefixOfOne (IsReadByOne rows) bytes
    fills bytes b =
        let found = rows_taken rows (bytes ++ b.0) (subst (λ (o : Option Command). Is o) (is (bytes ++ b.0)) b.1) in
        (b.0 ++ zero_text found.0, subst (IsReadByOne rows) (append_assoc bytes b.0 (zero_text found.0)) found.1)

    begins : (n : ℕ) → IsLongestPrefix (IsReadByOne rows) line n → BeginsBy read (take n line)
    begins zero g = some
    begins (suc n) g =
        let b = g.begins (omega arith) in
        (b.0, subst (λ (o : Option Command). Is o) (sym (is (take (suc n) line ++ b.0))) (rows_given rows (take (suc n) line ++ b.0) made b.1))
