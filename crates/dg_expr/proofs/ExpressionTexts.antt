-- How a text goes along with the words of an expression.
use Rattle.std.proofs.Common.{◌≡◌, ℕ, zero, suc, ◌+◌, ◌-◌, ◌*◌, ◌<◌, ◌≤◌, ◌⊎◌, inl, inr, Bool, true, false, cond, ◌&&◌, nat_le, is_some, IsTrue, Option, Some, None, List, [], ◌∷◌, ◌++◌, length, get_or, take, drop, set, map, codes, replicate, option_and_then, refl, sym, ap, ◌∙◌, subst, arith, append-nil, append_assoc, length-append, length-set}
use Rattle.std.specs.Fmt.{digits}
use Rattle.std.specs.List.{AllZip, Contains, list_all}
use Rattle.std.specs.Option.{option_map}
use Rattle.std.proofs.lemmas.Bool.{false≢true, leb-true, le-leb, and_parts}
use Rattle.std.proofs.lemmas.Fmt.{decimal_digit}
use Rattle.std.proofs.lemmas.List.{drop-drop, drop-replicate, drop-set-lt, length-map, length-take-le, take-append-drop, take_more_set}
use Rattle.std.proofs.lemmas.Option.{none-some, same_Some}
use Rattle.std.proofs.lemmas.Slice.Eq.{bytes_eq-Decides}
use Rattle.dg_graph.specs.declared.limits.TheConstants.{TIME_MAX}
use Rattle.dg_text.specs.Verbs.{is_word}
use Rattle.dg_text.specs.Words.{words, number}
use Rattle.dg_grammar.specs.Prefixes.{IsLongestPrefix, IsPrefixOfOne}
use Rattle.dg_grammar.specs.Symbols.{Terminal, One_of, Number, IsWordOf, is_well_formed}
use Rattle.dg_grammar.proofs.ListElements.{contains_first, contains_later, contains_none, contains_cases}
use Rattle.dg_grammar.proofs.Prefixes.{AreLinesBy, PartedBy, Plain, goes_on_by, same_prefix, stops_by}
use Rattle.dg_grammar.proofs.Symbols.{Cut, Whole, Split, IsFine, cut, fine_word, line_short, parted_at, space_is, words_cut, words_one}
use Rattle.dg_grammar.proofs.WordNumbers.{number_within}
use Rattle.dg_expr.specs.declared.expression.TheConstants.{EXPRESSION_TIMES_MAX, EXPRESSION_WORDS_MAX}
use Rattle.dg_expr.specs.declared.expression.Word.{Word}
use Rattle.dg_expr.specs.declared.expression.Word.TheVariants as word
use Rattle.dg_expr.specs.declared.reading.Owing.{Owing}
use Rattle.dg_expr.specs.ExpressionGrammar.{IsExpressionText, expression_in, expression_of, word_of, words_in}
use Rattle.dg_expr.specs.Expressions.{are_expressions, expr_of, is_expression, times_in}
use Rattle.dg_expr.specs.Owing.{Completes, MayCome, fits, has_room, operators_of, owing_after, start}

-- ---- what is owed

-- each expression that is owed takes an instant and a word at least
pub owed_times : (n : ℕ) (ws : List Word) → are_expressions n ws ≡ true → n ≤ length (times_in ws)
owed_times zero ws e = omega arith
owed_times (suc n) [] e = absurd (false≢true e)
owed_times (suc n) (word.Time t ∷ ws) e = let more = owed_times n ws e in omega arith
owed_times (suc n) (word.Not ∷ ws) e = owed_times (suc n) ws e
owed_times (suc n) (word.And ∷ ws) e = let more = owed_times (suc (suc n)) ws e in omega arith
owed_times (suc n) (word.Or ∷ ws) e = let more = owed_times (suc (suc n)) ws e in omega arith

pub times_words : (ws : List Word) → length (times_in ws) ≤ length ws
times_words [] = omega arith
times_words (word.Time t ∷ ws) = let more = times_words ws in omega arith
times_words (word.Not ∷ ws) = let more = times_words ws in omega arith
times_words (word.And ∷ ws) = let more = times_words ws in omega arith
times_words (word.Or ∷ ws) = let more = times_words ws in omega arith

both_tests : (a b c : Bool) → a ≡ true → b ≡ true → c ≡ true → (a && (b && c)) ≡ true
both_tests a b c x y z = ap (λ (q : Bool). q && (b && c)) x ∙ ap (λ (q : Bool). q && c) y ∙ z

pub record Fits (o : Owing) (ws : List Word) : Type 0 where
  pub expressions : are_expressions o.expressions ws ≡ true
  pub times : o.times + length (times_in ws) ≤ EXPRESSION_TIMES_MAX
  pub words : o.words + length ws ≤ EXPRESSION_WORDS_MAX

pub fits_parts : (o : Owing) (ws : List Word) → fits o ws ≡ true → Fits o ws
fits_parts o ws e =
    let times = nat_le (o.times + length (times_in ws)) EXPRESSION_TIMES_MAX in
    let count = nat_le (o.words + length ws) EXPRESSION_WORDS_MAX in
    let first = and_parts (are_expressions o.expressions ws) (times && count) e in
    let second = and_parts times count first.1 in
    record { expressions = first.0; times = leb-true _ _ second.0; words = leb-true _ _ second.1 }

pub fits_by : (o : Owing) (ws : List Word) → Fits o ws → fits o ws ≡ true
fits_by o ws f = both_tests _ _ _ f.expressions (le-leb _ _ f.times) (le-leb _ _ f.words)

pub record HasRoom (o : Owing) : Type 0 where
  pub times : o.times + o.expressions ≤ EXPRESSION_TIMES_MAX
  pub words : o.words + o.expressions ≤ EXPRESSION_WORDS_MAX

pub room_parts : (o : Owing) → has_room o ≡ true → HasRoom o
room_parts o e =
    let both = and_parts (nat_le (o.times + o.expressions) EXPRESSION_TIMES_MAX) (nat_le (o.words + o.expressions) EXPRESSION_WORDS_MAX) e in
    record { times = leb-true _ _ both.0; words = leb-true _ _ both.1 }

pub room_by : (o : Owing) → HasRoom o → has_room o ≡ true
room_by o r = ap (λ (q : Bool). q && nat_le (o.words + o.expressions) EXPRESSION_WORDS_MAX) (le-leb _ _ r.times) ∙ le-leb _ _ r.words

-- what fits has room
pub fits_room : (o : Owing) (ws : List Word) → fits o ws ≡ true → has_room o ≡ true
fits_room o ws e =
    let f = fits_parts o ws e in
    let owed = owed_times o.expressions ws f.expressions in
    let times = f.times in
    let count = f.words in
    let more = times_words ws in
    room_by o (record { times = omega arith; words = omega arith })

same_tests : (a b c d x y : Bool) → a ≡ b → c ≡ d → x ≡ y → (a && (c && x)) ≡ (b && (d && y))
same_tests a b c d x y e f g = λ i. e i && (f i && g i)

-- a word more
pub fits_step : (o : Owing) (w : Word) (ws : List Word) → 0 < o.expressions → fits o (w ∷ ws) ≡ fits (owing_after o w) ws
fits_step o w ws some = step o.expressions o.times o.words w some
  where
    more : (c : ℕ) → nat_le (c + suc (length ws)) EXPRESSION_WORDS_MAX ≡ nat_le (c + 1 + length ws) EXPRESSION_WORDS_MAX
    more c = let words : c + suc (length ws) ≡ c + 1 + length ws = omega arith in ap (λ n. nat_le n EXPRESSION_WORDS_MAX) words

    two : (e t c : ℕ)
        → (are_expressions (suc (suc e)) ws && (nat_le (t + length (times_in ws)) EXPRESSION_TIMES_MAX && nat_le (c + suc (length ws)) EXPRESSION_WORDS_MAX))
        ≡ (are_expressions (suc e + 1) ws && (nat_le (t + length (times_in ws)) EXPRESSION_TIMES_MAX && nat_le (c + 1 + length ws) EXPRESSION_WORDS_MAX))
    two e t c =
        let owed : suc (suc e) ≡ suc e + 1 = omega arith in
        same_tests _ _ _ _ _ _ (ap (λ n. are_expressions n ws) owed) refl (more c)

    step : (e t c : ℕ) (w : Word) → 0 < e → fits (record { expressions = e; times = t; words = c }) (w ∷ ws) ≡ fits (owing_after (record { expressions = e; times = t; words = c }) w) ws
    step zero t c w some = absurd (omega arith)
    step (suc e) t c (word.Time u) some =
        let times : t + suc (length (times_in ws)) ≡ t + 1 + length (times_in ws) = omega arith in
        let fewer : e ≡ suc e - 1 = omega arith in
        same_tests _ _ _ _ _ _ (ap (λ n. are_expressions n ws) fewer) (ap (λ n. nat_le n EXPRESSION_TIMES_MAX) times) (more c)
    step (suc e) t c word.Not some = same_tests _ _ _ _ _ _ refl refl (more c)
    step (suc e) t c word.And some = two e t c
    step (suc e) t c word.Or some = two e t c

-- nothing more fits where nothing is owed
pub nothing_owed : (o : Owing) (w : Word) (ws : List Word) → o.expressions ≡ 0 → fits o (w ∷ ws) ≡ true → ⊥
nothing_owed o w ws e f = false≢true (ap (λ n. are_expressions n (w ∷ ws)) (sym e) ∙ (fits_parts o (w ∷ ws) f).expressions)

pub some_owed : (o : Owing) (w : Word) (ws : List Word) → fits o (w ∷ ws) ≡ true → 0 < o.expressions
some_owed o w ws f = by_case o.expressions refl
  where
    by_case : (n : ℕ) → o.expressions ≡ n → 0 < o.expressions
    by_case zero e = absurd (nothing_owed o w ws e f)
    by_case (suc n) e = omega arith

-- ---- the texts of words

pub word_texts_all : List (List ℕ)
word_texts_all = codes "not" ∷ codes "and" ∷ codes "or" ∷ []

-- the symbol of a word
abbrev pub symbol_of : Word → Terminal
symbol_of (word.Time t) = Number 0 TIME_MAX
symbol_of word.Not = One_of (codes "not" ∷ [])
symbol_of word.And = One_of (codes "and" ∷ [])
symbol_of word.Or = One_of (codes "or" ∷ [])

-- the word is of its symbol
pub of_symbol : (text : List ℕ) (w : Word) → word_of text ≡ Some w → IsWordOf (symbol_of w) text
of_symbol text w e = first (is_word text (codes "not")) refl e
  where
    instant : (o : Option ℕ) → number 0 TIME_MAX text ≡ o → option_map (λ t. word.Time t) o ≡ Some w → IsWordOf (symbol_of w) text
    instant None n e = absurd (none-some w e)
    instant (Some t) n e = subst (λ (v : Word). IsWordOf (symbol_of v) text) (same_Some _ _ e) (ap is_some n)

    third : (b : Bool) → is_word text (codes "or") ≡ b → cond b (Some word.Or) (option_map (λ t. word.Time t) (number 0 TIME_MAX text)) ≡ Some w → IsWordOf (symbol_of w) text
    third true b e = subst (λ (v : Word). IsWordOf (symbol_of v) text) (same_Some _ _ e)
        (subst (Contains (codes "or" ∷ [])) (sym ((bytes_eq-Decides text (codes "or")).0 b)) (contains_first (codes "or") []))
    third false b e = instant (number 0 TIME_MAX text) refl e

    second : (b : Bool) → is_word text (codes "and") ≡ b
        → cond b (Some word.And) (cond (is_word text (codes "or")) (Some word.Or) (option_map (λ t. word.Time t) (number 0 TIME_MAX text))) ≡ Some w → IsWordOf (symbol_of w) text
    second true b e = subst (λ (v : Word). IsWordOf (symbol_of v) text) (same_Some _ _ e)
        (subst (Contains (codes "and" ∷ [])) (sym ((bytes_eq-Decides text (codes "and")).0 b)) (contains_first (codes "and") []))
    second false b e = third (is_word text (codes "or")) refl e

    first : (b : Bool) → is_word text (codes "not") ≡ b
        → cond b (Some word.Not) (cond (is_word text (codes "and")) (Some word.And) (cond (is_word text (codes "or")) (Some word.Or) (option_map (λ t. word.Time t) (number 0 TIME_MAX text)))) ≡ Some w
        → IsWordOf (symbol_of w) text
    first true b e = subst (λ (v : Word). IsWordOf (symbol_of v) text) (same_Some _ _ e)
        (subst (Contains (codes "not" ∷ [])) (sym ((bytes_eq-Decides text (codes "not")).0 b)) (contains_first (codes "not") []))
    first false b e = second (is_word text (codes "and")) refl e

fine_symbol : (w : Word) (text : List ℕ) → IsWordOf (symbol_of w) text → IsFine text
fine_symbol (word.Time t) text h = fine_word (Number 0 TIME_MAX) text refl h
fine_symbol word.Not text h = fine_word (One_of (codes "not" ∷ [])) text refl h
fine_symbol word.And text h = fine_word (One_of (codes "and" ∷ [])) text refl h
fine_symbol word.Or text h = fine_word (One_of (codes "or" ∷ [])) text refl h

-- a word has no space
pub plain_word : (text : List ℕ) (w : Word) → word_of text ≡ Some w → Plain text
plain_word text w e = (fine_symbol w text (of_symbol text w e)).plain

not_number : number 0 TIME_MAX (codes "not") ≡ None
unfolding digits
not_number = refl

and_number : number 0 TIME_MAX (codes "and") ≡ None
unfolding digits
and_number = refl

or_number : number 0 TIME_MAX (codes "or") ≡ None
unfolding digits
or_number = refl

-- a number is an instant, and no operator
pub number_is : (text : List ℕ) → IsWordOf (Number 0 TIME_MAX) text → (t : ℕ) × (word_of text ≡ Some (word.Time t))
number_is text h = made (number 0 TIME_MAX text) refl
  where
    not_text : (other : List ℕ) → number 0 TIME_MAX other ≡ None → is_word text other ≡ true → ⊥
    not_text other none e = false≢true (ap is_some (sym none) ∙ ap (λ (l : List ℕ). is_some (number 0 TIME_MAX l)) (sym ((bytes_eq-Decides text other).0 e)) ∙ h)

    is_false : (other : List ℕ) (b : Bool) → number 0 TIME_MAX other ≡ None → is_word text other ≡ b → is_word text other ≡ false
    is_false other true none e = absurd (not_text other none e)
    is_false other false none e = e

    made : (o : Option ℕ) → number 0 TIME_MAX text ≡ o → (t : ℕ) × (word_of text ≡ Some (word.Time t))
    made None n = absurd (false≢true (ap is_some (sym n) ∙ h))
    made (Some t) n = (
      t,
      ap (λ b. cond b (Some word.Not) (cond (is_word text (codes "and")) (Some word.And) (cond (is_word text (codes "or")) (Some word.Or) (option_map (λ t. word.Time t) (number 0 TIME_MAX text)))))
          (is_false (codes "not") _ not_number refl)
          ∙ ap (λ b. cond b (Some word.And) (cond (is_word text (codes "or")) (Some word.Or) (option_map (λ t. word.Time t) (number 0 TIME_MAX text))))
          (is_false (codes "and") _ and_number refl)
          ∙ ap (λ b. cond b (Some word.Or) (option_map (λ t. word.Time t) (number 0 TIME_MAX text))) (is_false (codes "or") _ or_number refl)
          ∙ ap (option_map (λ t. word.Time t)) n,
    )

-- ---- which words may come

-- where an operator of two may come, one of one may too
not_too : (o : Owing) → has_room (owing_after o word.And) ≡ true → has_room (owing_after o word.Not) ≡ true
not_too o e =
    let r = room_parts (owing_after o word.And) e in
    let times = r.times in
    let count = r.words in
    room_by (owing_after o word.Not) (record { times = omega arith; words = omega arith })

-- an instant may come always
time_comes : (o : Owing) (t : ℕ) → 0 < o.expressions → has_room o ≡ true → has_room (owing_after o (word.Time t)) ≡ true
time_comes o t some e =
    let r = room_parts o e in
    let times = r.times in
    let count = r.words in
    room_by (owing_after o (word.Time t)) (record { times = omega arith; words = omega arith })

-- an operator of these may come
pub operator_comes : (o : Owing) (text : List ℕ) → Contains (operators_of o) text → MayCome o text
operator_comes o text h = two (has_room (owing_after o word.And)) refl h
  where
    one_text : (other : List ℕ) (w : Word) → word_of other ≡ Some w → has_room (owing_after o w) ≡ true → other ≡ text → MayCome o text
    one_text other w is room e = (w, ap word_of (sym e) ∙ is, room)

    one : (b : Bool) → has_room (owing_after o word.Not) ≡ b → Contains (cond b (codes "not" ∷ []) []) text → MayCome o text
    one false e h = absurd (contains_none text h)
    one true e h = elim (contains_cases (codes "not") text [] h) [
      | inl is ↦ one_text (codes "not") word.Not refl e is
      | inr none ↦ absurd (contains_none text none)
    ]

    two : (b : Bool) → has_room (owing_after o word.And) ≡ b
        → Contains (cond b (codes "not" ∷ codes "and" ∷ codes "or" ∷ []) (cond (has_room (owing_after o word.Not)) (codes "not" ∷ []) [])) text → MayCome o text
    two false e h = one (has_room (owing_after o word.Not)) refl h
    two true e h = elim (contains_cases (codes "not") text (codes "and" ∷ codes "or" ∷ []) h) [
      | inl is ↦ one_text (codes "not") word.Not refl (not_too o e) is
      | inr more ↦ elim (contains_cases (codes "and") text (codes "or" ∷ []) more) [
        | inl is ↦ one_text (codes "and") word.And refl e is
        | inr last ↦ elim (contains_cases (codes "or") text [] last) [
          | inl is ↦ one_text (codes "or") word.Or refl e is
          | inr none ↦ absurd (contains_none text none)
        ]
      ]
    ]

pub number_comes : (o : Owing) (text : List ℕ) → 0 < o.expressions → has_room o ≡ true → IsWordOf (Number 0 TIME_MAX) text → MayCome o text
number_comes o text some room h = let n = number_is text h in (word.Time n.0, n.1, time_comes o n.0 some room)

-- what may come is an operator of these or an instant
pub comes_as : (o : Owing) (text : List ℕ) → MayCome o text → Contains (operators_of o) text ⊎ IsWordOf (Number 0 TIME_MAX) text
comes_as o text m = by_word m.0 (of_symbol text m.0 m.1) m.2
  where
    of_two : (other : List ℕ) → Contains (codes "not" ∷ codes "and" ∷ codes "or" ∷ []) other → has_room (owing_after o word.And) ≡ true → Contains (operators_of o) other
    of_two other h e = subst (λ b. Contains (cond b (codes "not" ∷ codes "and" ∷ codes "or" ∷ []) (cond (has_room (owing_after o word.Not)) (codes "not" ∷ []) [])) other) (sym e) h

    of_one : (b : Bool) → has_room (owing_after o word.Not) ≡ true
        → Contains (cond b (codes "not" ∷ codes "and" ∷ codes "or" ∷ []) (cond (has_room (owing_after o word.Not)) (codes "not" ∷ []) [])) (codes "not")
    of_one true e = contains_first (codes "not") (codes "and" ∷ codes "or" ∷ [])
    of_one false e = subst (λ b. Contains (cond b (codes "not" ∷ []) []) (codes "not")) (sym e) (contains_first (codes "not") [])

    only : (other : List ℕ) → Contains (other ∷ []) text → other ≡ text
    only other h = elim (contains_cases other text [] h) [ inl is ↦ is | inr none ↦ absurd (contains_none text none) ]

    by_word : (w : Word) → IsWordOf (symbol_of w) text → has_room (owing_after o w) ≡ true → Contains (operators_of o) text ⊎ IsWordOf (Number 0 TIME_MAX) text
    by_word (word.Time t) h e = inr h
    by_word word.Not h e = inl (subst (Contains (operators_of o)) (only (codes "not") h) (of_one (has_room (owing_after o word.And)) e))
    by_word word.And h e = inl (subst (Contains (operators_of o)) (only (codes "and") h)
        (of_two (codes "and") (contains_later (codes "not") (codes "and") (codes "and" ∷ codes "or" ∷ []) (contains_first (codes "and") (codes "or" ∷ []))) e))
    by_word word.Or h e = inl (subst (Contains (operators_of o)) (only (codes "or") h)
        (of_two (codes "or") (contains_later (codes "not") (codes "or") (codes "and" ∷ codes "or" ∷ []) (contains_later (codes "and") (codes "or") (codes "or" ∷ []) (contains_first (codes "or") []))) e))

-- ---- lines of words

-- what completes the expression behind a word
abbrev pub Behind : Owing → List ℕ → List ℕ → Type 0
Behind o text line = (w : Word) × (word_of text ≡ Some w) × Completes (owing_after o w) line

-- the words of some words and others
read_one : (text : List ℕ) (texts : List (List ℕ)) (ws : List Word) → words_in (text ∷ texts) ≡ Some ws
    → (w : Word) × (vs : List Word) × (word_of text ≡ Some w) × (words_in texts ≡ Some vs) × (ws ≡ w ∷ vs)
read_one text texts ws e = by_word (word_of text) refl e
  where
    by_rest : (w : Word) (o : Option (List Word)) → word_of text ≡ Some w → words_in texts ≡ o → option_map (λ vs. w ∷ vs) o ≡ Some ws
        → (w : Word) × (vs : List Word) × (word_of text ≡ Some w) × (words_in texts ≡ Some vs) × (ws ≡ w ∷ vs)
    by_rest w None is more e = absurd (none-some ws e)
    by_rest w (Some vs) is more e = (w, vs, is, more, sym (same_Some _ _ e))

    by_word : (o : Option Word) → word_of text ≡ o → option_and_then (λ w. option_map (λ vs. w ∷ vs) (words_in texts)) o ≡ Some ws
        → (w : Word) × (vs : List Word) × (word_of text ≡ Some w) × (words_in texts ≡ Some vs) × (ws ≡ w ∷ vs)
    by_word None is e = absurd (none-some ws e)
    by_word (Some w) is e = by_rest w (words_in texts) is refl e

pub read_two : (text : List ℕ) (texts : List (List ℕ)) (w : Word) (vs : List Word) → word_of text ≡ Some w → words_in texts ≡ Some vs → words_in (text ∷ texts) ≡ Some (w ∷ vs)
read_two text texts w vs is more = ap (option_and_then (λ w. option_map (λ vs. w ∷ vs) (words_in texts))) is ∙ ap (option_map (λ vs. w ∷ vs)) more

-- a line `0 0 .. 0` of one word more than the number
zero_line : ℕ → List ℕ
zero_line zero = codes "0"
zero_line (suc n) = codes "0" ++ 32 ∷ zero_line n

zero_is : word_of (codes "0") ≡ Some (word.Time 0)
zero_is = ap (option_map (λ t. word.Time t)) (number_within 0 TIME_MAX 0 (codes "0") (omega arith) (sym (decimal_digit 0 (omega arith))) (omega arith) (omega arith))

zero_words : (n : ℕ) → words_in (words (zero_line n)) ≡ Some (replicate (suc n) (word.Time 0))
unfolding zero_line
zero_words zero = ap words_in (words_one (codes "0") (plain_word (codes "0") (word.Time 0) zero_is)) ∙ read_two (codes "0") [] (word.Time 0) [] zero_is refl
zero_words (suc n) =
    ap words_in (words_cut (codes "0") (zero_line n) (plain_word (codes "0") (word.Time 0) zero_is))
    ∙ read_two (codes "0") (words (zero_line n)) (word.Time 0) (replicate (suc n) (word.Time 0)) zero_is (zero_words n)

zero_expressions : (n : ℕ) → are_expressions n (replicate n (word.Time 0)) ≡ true
zero_expressions zero = refl
zero_expressions (suc n) = zero_expressions n

zero_times : (n : ℕ) → length (times_in (replicate n (word.Time 0))) ≡ n
zero_times zero = refl
zero_times (suc n) = ap suc (zero_times n)

zero_length : (n : ℕ) → length (replicate n (word.Time 0)) ≡ n
zero_length zero = refl
zero_length (suc n) = ap suc (zero_length n)

-- there is a line that completes what is owed
pub sample : (o : Owing) → 0 < o.expressions → has_room o ≡ true → (line : List ℕ) × Completes o line
sample o some room = by_case o.expressions refl
  where
    by_case : (n : ℕ) → o.expressions ≡ n → (line : List ℕ) × Completes o line
    by_case zero e = absurd (omega arith)
    by_case (suc n) e =
        let r = room_parts o room in
        let times = r.times in
        let count = r.words in (
          zero_line n,
          (
            replicate (suc n) (word.Time 0),
            zero_words n,
            fits_by o (replicate (suc n) (word.Time 0)) (record {
              expressions = ap (λ k. are_expressions k (replicate (suc n) (word.Time 0))) e ∙ zero_expressions (suc n);
              times = omega (arith, zero_times (suc n));
              words = omega (arith, zero_length (suc n));
            }),
          ),
        )

-- the lines that complete what is owed, by their first word
pub lines_by : (o : Owing) → 0 < o.expressions → has_room o ≡ true → AreLinesBy (Completes o) (MayCome o) (Behind o)
lines_by o some room = record {
  plain = λ w m. plain_word w m.0 m.1;
  splits = λ line h. elim (cut line) [
    | Whole plain e ↦ inl (whole line h e)
    | Split w b parts e ↦ inr (split line h w b parts e)
  ];
  begins = λ w m. by_case w m (owing_after o m.0).expressions refl;
  joins = λ line p. join line p;
}
  where
    whole : (line : List ℕ) → Completes o line → words line ≡ line ∷ [] → MayCome o line
    whole line h e =
        let r = read_one line [] h.0 (ap words_in (sym e) ∙ h.1) in
        let nothing : r.1 ≡ [] = sym (same_Some _ _ r.3) in
        let fit : fits o (r.0 ∷ r.1) ≡ true = ap (fits o) (sym r.4) ∙ h.2 in
        (r.0, r.2, fits_room (owing_after o r.0) r.1 (sym (fits_step o r.0 r.1 some) ∙ fit))

    split : (line : List ℕ) → Completes o line → (w b : List ℕ) → line ≡ w ++ 32 ∷ b → words line ≡ w ∷ words b → PartedBy (MayCome o) (Behind o) line
    split line h w b parts e =
        let r = read_one w (words b) h.0 (ap words_in (sym e) ∙ h.1) in
        let fit : fits o (r.0 ∷ r.1) ≡ true = ap (fits o) (sym r.4) ∙ h.2 in
        let fit_after : fits (owing_after o r.0) r.1 ≡ true = sym (fits_step o r.0 r.1 some) ∙ fit in
        record { word = w; after = b; parts = parts; taken = (r.0, r.2, fits_room (owing_after o r.0) r.1 fit_after); goes_on = (r.0, r.2, (r.1, r.3, fit_after)) }

    join : (line : List ℕ) → PartedBy (MayCome o) (Behind o) line → Completes o line
    join line p =
        let g = p.goes_on in
        let h = g.2 in (
          g.0 ∷ h.0,
          ap words_in (ap words p.parts ∙ words_cut p.word p.after (plain_word p.word g.0 g.1)) ∙ read_two p.word (words p.after) g.0 h.0 g.1 h.1,
          fits_step o g.0 h.0 some ∙ h.2,
        )

    by_case : (w : List ℕ) (m : MayCome o w) (n : ℕ) → (owing_after o m.0).expressions ≡ n → IsPrefixOfOne (Completes o) w
    by_case w m zero e =
        let r = room_parts (owing_after o m.0) m.2 in
        let times = r.times in
        let count = r.words in
        let last : Completes o w = (
          m.0 ∷ [],
          ap words_in (words_one w (plain_word w m.0 m.1)) ∙ read_two w [] m.0 [] m.1 refl,
          fits_step o m.0 [] some ∙ fits_by (owing_after o m.0) [] (record { expressions = ap (λ k. are_expressions k []) e; times = omega arith; words = omega arith }),
        ) in
        ([], subst (Completes o) (sym (append-nil w)) last)
    by_case w m (suc n) e =
        let more = sample (owing_after o m.0) (omega arith) m.2 in
        (32 ∷ more.0, join (w ++ 32 ∷ more.0) (record { word = w; after = more.0; parts = refl; taken = m; goes_on = (m.0, m.1, more.1) }))

-- nothing goes on behind the last word
pub last_word : (o : Owing) (text line : List ℕ) → ((w : Word) → word_of text ≡ Some w → (owing_after o w).expressions ≡ 0) → Behind o text line → ⊥
last_word o text line none g = elim (cut line) [
  | Whole plain e ↦ let r = read_one line [] g.2.0 (ap words_in (sym e) ∙ g.2.1) in over r.0 r.1 r.4
  | Split w b parts e ↦ let r = read_one w (words b) g.2.0 (ap words_in (sym e) ∙ g.2.1) in over r.0 r.1 r.4
]
  where
    over : (v : Word) (vs : List Word) → g.2.0 ≡ v ∷ vs → ⊥
    over v vs is = nothing_owed (owing_after o g.0) v vs (none g.0 g.1) (ap (fits (owing_after o g.0)) (sym is) ∙ g.2.2)

-- the text stops at its first word
pub stops_text : (o : Owing) (bytes : List ℕ) (n : ℕ) → 0 < o.expressions → has_room o ≡ true → IsLongestPrefix (MayCome o) bytes n
    → (MayCome o (take n bytes) → n < length bytes → get_or bytes n 0 ≡ 32 → (line : List ℕ) → Behind o (take n bytes) line → ⊥)
    → IsLongestPrefix (Completes o) bytes n
stops_text o bytes n some room f never =
    stops_by (Completes o) (MayCome o) (Behind o) bytes n (lines_by o some room) f (λ taken u is line behind.
    let at = space_is bytes (take n bytes) u n is (length-take-le n bytes f.within) in
    never taken at.0 at.1 line behind)

-- the text goes on behind its first word
pub goes_on_text : (o next : Owing) (bytes : List ℕ) (n k : ℕ) → 0 < o.expressions → has_room o ≡ true → IsLongestPrefix (MayCome o) bytes n
    → MayCome o (take n bytes) → n < length bytes → get_or bytes n 0 ≡ 32
    → ((w : Word) → word_of (take n bytes) ≡ Some w → next ≡ owing_after o w) → 0 < next.expressions
    → IsLongestPrefix (Completes next) (drop (n + 1) bytes) k → IsLongestPrefix (Completes o) bytes (n + 1 + k)
goes_on_text o next bytes n k some room f taken below is after owes g =
    let w = taken.0 in
    let same : next ≡ owing_after o w = after w taken.1 in
    let more = sample (owing_after o w) (subst (λ (p : Owing). 0 < p.expressions) same owes) taken.2 in
    goes_on_by (Completes o) (MayCome o) (Behind o) bytes (take n bytes) (drop (n + 1) bytes) n k (lines_by o some room) (parted_at bytes n below is)
    (length-take-le n bytes f.within) f taken more.0 (w, taken.1, more.1)
    (same_prefix (Completes next) (Behind o (take n bytes)) (drop (n + 1) bytes) k
    (λ line h. (w, taken.1, subst (λ (p : Owing). Completes p line) same h))
    (λ line b. subst (λ (p : Owing). Completes p line) (sym (after b.0 b.1)) b.2) g)

-- ---- whole expressions

-- one expression is owed before the first word
start_fits : (ws : List Word) → is_expression ws ≡ fits start ws
start_fits ws =
    let times : length (times_in ws) ≡ 0 + length (times_in ws) = omega arith in
    let count : length ws ≡ 0 + length ws = omega arith in
    same_tests _ _ _ _ _ _ refl (ap (λ n. nat_le n EXPRESSION_TIMES_MAX) times) (ap (λ n. nat_le n EXPRESSION_WORDS_MAX) count)

-- what completes one expression is one
pub complete_is : (line : List ℕ) → Completes start line → IsExpressionText line
complete_is line h =
    ap is_some (ap (option_and_then (λ ws. cond (is_expression ws) (Some ws) None)) h.1) ∙ ap (λ b. is_some (cond b (Some h.0) None)) (start_fits h.0 ∙ h.2)

pub is_complete : (line : List ℕ) → IsExpressionText line → Completes start line
is_complete line h = by_words (words_in (words line)) refl h
  where
    by_test : (ws : List Word) (b : Bool) → is_expression ws ≡ b → words_in (words line) ≡ Some ws → is_some (cond b (Some ws) None) ≡ true → Completes start line
    by_test ws true e is h = (ws, is, sym (start_fits ws) ∙ e)
    by_test ws false e is h = absurd (false≢true h)

    by_words : (o : Option (List Word)) → words_in (words line) ≡ o → is_some (option_and_then (λ ws. cond (is_expression ws) (Some ws) None) o) ≡ true → Completes start line
    by_words None is h = absurd (false≢true h)
    by_words (Some ws) is h = by_test ws (is_expression ws) refl is h

-- the line of so many words is a line of their symbols
of_symbols : (texts : List (List ℕ)) (ws : List Word) → words_in texts ≡ Some ws → AllZip IsWordOf (map symbol_of ws) texts
of_symbols [] ws e = subst (λ (l : List Word). AllZip IsWordOf (map symbol_of l) []) (same_Some _ _ e) tt
of_symbols (text ∷ texts) ws e =
    let r = read_one text texts ws e in
    subst (λ (l : List Word). AllZip IsWordOf (map symbol_of l) (text ∷ texts)) (sym r.4) (of_symbol text r.0 r.2, of_symbols texts r.1 r.3)

formed : (ws : List Word) → list_all is_well_formed (map symbol_of ws) ≡ true
formed [] = refl
formed (word.Time t ∷ ws) = formed ws
formed (word.Not ∷ ws) = formed ws
formed (word.And ∷ ws) = formed ws
formed (word.Or ∷ ws) = formed ws

-- an expression is short
pub complete_short : (line : List ℕ) → Completes start line → length line + 1 ≤ 21 * EXPRESSION_WORDS_MAX
complete_short line h =
    let short = line_short (map symbol_of h.0) line (formed h.0) (of_symbols (words line) h.0 h.1) in
    let count = (fits_parts start h.0 h.2).words in
    omega (arith, short, length-map h.0 symbol_of, count)

pub prefix_short : (text : List ℕ) (n : ℕ) → IsLongestPrefix (Completes start) text n → n ≤ 651
prefix_short text zero f = omega arith
prefix_short text (suc n) f =
    let b = f.begins (omega arith) in
    omega (arith, complete_short (take (suc n) text ++ b.0) b.1, length-append (take (suc n) text) b.0, length-take-le (suc n) text f.within)

-- ---- an expression is read word by word

-- the texts are read as these words and those of the texts that are left, with so much owed behind them
pub record ReadsOn (texts : List (List ℕ)) (array : List Word) (o : Owing) (left : List (List ℕ)) : Type 0 where
  pub so_far : words_in texts ≡ option_map (λ ws. take o.words array ++ ws) (words_in left)
  pub behind : drop o.words array ≡ replicate (EXPRESSION_WORDS_MAX - o.words) (word.Time 0)
  pub fitting : (ws : List Word) → is_expression (take o.words array ++ ws) ≡ fits o ws
  pub room : has_room o ≡ true
  pub size : length array ≡ EXPRESSION_WORDS_MAX

abbrev pub if_expression : Option (List Word) → Option (List Word)
if_expression o = option_and_then (λ ws. cond (is_expression ws) (Some ws) None) o

same_map : (o : Option (List Word)) → o ≡ option_map (λ ws. ws) o
same_map None = refl
same_map (Some ws) = refl

pub reads_none : (texts : List (List ℕ)) → ReadsOn texts (replicate EXPRESSION_WORDS_MAX (word.Time 0)) start texts
reads_none texts = record { so_far = same_map (words_in texts); behind = refl; fitting = start_fits; room = refl; size = refl }

pushed : (front : List Word) (w : Word) (o : Option (List Word))
    → option_map (λ ws. front ++ ws) (option_map (λ ws. w ∷ ws) o) ≡ option_map (λ ws. (front ++ w ∷ []) ++ ws) o
pushed front w None = refl
pushed front w (Some ws) = ap (λ l. Some l) (sym (append_assoc front (w ∷ []) ws))

left_is : (left rest : List (List ℕ)) (text : List ℕ) (o : Option Word) → left ≡ text ∷ rest → word_of text ≡ o
    → words_in left ≡ option_and_then (λ w. option_map (λ ws. w ∷ ws) (words_in rest)) o
left_is left rest text o is e = ap words_in is ∙ ap (option_and_then (λ w. option_map (λ ws. w ∷ ws) (words_in rest))) e

-- a word more
pub reads_more : (texts : List (List ℕ)) (array : List Word) (o : Owing) (left rest : List (List ℕ)) (text : List ℕ) (w : Word)
    → left ≡ text ∷ rest → word_of text ≡ Some w → 0 < o.expressions → has_room (owing_after o w) ≡ true → ReadsOn texts array o left
    → ReadsOn texts (set array o.words w) (owing_after o w) rest
reads_more texts array o left rest text w is e some room r = record {
  so_far =
      r.so_far ∙ ap (option_map (λ ws. take o.words array ++ ws)) (left_is left rest text (Some w) is e) ∙ pushed (take o.words array) w (words_in rest)
      ∙ ap (λ (front : List Word). option_map (λ ws. front ++ ws) (words_in rest)) (sym grown);
  behind =
      ap (λ n. drop n (set array o.words w)) count ∙ drop-set-lt (o.words + 1) array o.words w (omega arith) ∙ sym (drop-drop 1 o.words array) ∙ ap (drop 1) r.behind
      ∙ drop-replicate 1 (EXPRESSION_WORDS_MAX - o.words) (word.Time 0) ∙ ap (λ n. replicate n (word.Time 0)) (omega (arith, count));
  fitting = λ ws.
      ap (λ (front : List Word). is_expression (front ++ ws)) grown ∙ ap is_expression (append_assoc (take o.words array) (w ∷ []) ws)
      ∙ r.fitting (w ∷ ws) ∙ fits_step o w ws some;
  room = room;
  size = length-set array o.words w ∙ r.size;
}
  where
    count : (owing_after o w).words ≡ o.words + 1
    count = count_of w
      where
        count_of : (v : Word) → (owing_after o v).words ≡ o.words + 1
        count_of (word.Time t) = refl
        count_of word.Not = refl
        count_of word.And = refl
        count_of word.Or = refl

    below : o.words < length array
    below = let h = room_parts o r.room in let most = h.words in omega (arith, r.size)

    grown : take (owing_after o w).words (set array o.words w) ≡ take o.words array ++ w ∷ []
    grown = ap (λ n. take n (set array o.words w)) count ∙ take_more_set array o.words w below

-- a text that is no word
pub reads_other : (texts : List (List ℕ)) (array : List Word) (o : Owing) (left rest : List (List ℕ)) (text : List ℕ)
    → left ≡ text ∷ rest → word_of text ≡ None → ReadsOn texts array o left → if_expression (words_in texts) ≡ None
reads_other texts array o left rest text is e r =
    ap if_expression (r.so_far ∙ ap (option_map (λ ws. take o.words array ++ ws)) (left_is left rest text None is e))

no_fit : (front : List Word) (w : Word) (o : Option (List Word)) → ((ws : List Word) → is_expression (front ++ w ∷ ws) ≡ false)
    → if_expression (option_map (λ ws. front ++ ws) (option_map (λ ws. w ∷ ws) o)) ≡ None
no_fit front w None none = refl
no_fit front w (Some ws) none = ap (λ b. cond b (Some (front ++ w ∷ ws)) None) (none ws)

-- a word that does not fit
pub reads_past : (texts : List (List ℕ)) (array : List Word) (o : Owing) (left rest : List (List ℕ)) (text : List ℕ) (w : Word)
    → left ≡ text ∷ rest → word_of text ≡ Some w → ((ws : List Word) → fits o (w ∷ ws) ≡ true → ⊥) → ReadsOn texts array o left
    → if_expression (words_in texts) ≡ None
reads_past texts array o left rest text w is e never r =
    ap if_expression (r.so_far ∙ ap (option_map (λ ws. take o.words array ++ ws)) (left_is left rest text (Some w) is e))
    ∙ no_fit (take o.words array) w (words_in rest) (λ ws. r.fitting (w ∷ ws) ∙ not_true (fits o (w ∷ ws)) (never ws))
  where
    not_true : (b : Bool) → (b ≡ true → ⊥) → b ≡ false
    not_true true n = absurd (n refl)
    not_true false n = refl

at_end : (array : List Word) (o : Owing) (b : Bool) (texts left : List (List ℕ)) → left ≡ [] → fits o [] ≡ b → ReadsOn texts array o left
    → if_expression (words_in texts) ≡ cond b (Some (take o.words array)) None
at_end array o b texts left is e r =
    ap if_expression (r.so_far ∙ ap (λ l. option_map (λ ws. take o.words array ++ ws) (words_in l)) is)
    ∙ ap (λ l. cond (is_expression (take o.words array ++ [])) (Some l) None) (append-nil (take o.words array))
    ∙ ap (λ b. cond b (Some (take o.words array)) None) (r.fitting [] ∙ e)

-- the last word, where more is owed
pub reads_short : (texts : List (List ℕ)) (array : List Word) (o : Owing) (left : List (List ℕ)) → left ≡ [] → 0 < o.expressions → ReadsOn texts array o left
    → if_expression (words_in texts) ≡ None
reads_short texts array o left is some r = at_end array o false texts left is (by_owed o.expressions refl some) r
  where
    by_owed : (n : ℕ) → o.expressions ≡ n → 0 < n → fits o [] ≡ false
    by_owed zero e above = absurd (omega arith)
    by_owed (suc n) e above = ap (λ k. are_expressions k [] && (nat_le (o.times + length (times_in [])) EXPRESSION_TIMES_MAX && nat_le (o.words + length {A = Word} []) EXPRESSION_WORDS_MAX)) e

-- the last word, where nothing is owed
pub reads_all : (texts : List (List ℕ)) (array : List Word) (o : Owing) (left : List (List ℕ)) → left ≡ [] → o.expressions ≡ 0 → ReadsOn texts array o left
    → if_expression (words_in texts) ≡ Some (take o.words array)
reads_all texts array o left is none r = at_end array o true texts left is (fits_by o [] (record { expressions = ap (λ k. are_expressions k []) none; times = times; words = count })) r
  where
    times : o.times + length (times_in []) ≤ EXPRESSION_TIMES_MAX
    times = let h = room_parts o r.room in let most = h.times in omega arith

    count : o.words + length {A = Word} [] ≤ EXPRESSION_WORDS_MAX
    count = let h = room_parts o r.room in let most = h.words in omega arith

-- the array of the words that were read
pub array_is : (texts : List (List ℕ)) (array : List Word) (o : Owing) (left : List (List ℕ)) → ReadsOn texts array o left
    → expr_of (take o.words array) ≡ record { words = array; count = o.words }
array_is texts array o left r = λ i. record { words = (whole ∙ take-append-drop o.words array) i; count = size i }
  where
    most : o.words ≤ EXPRESSION_WORDS_MAX
    most = let h = room_parts o r.room in let m = h.words in omega arith

    size : length (take o.words array) ≡ o.words
    size = length-take-le o.words array (let s = r.size in omega (arith, most))

    whole : take o.words array ++ replicate (EXPRESSION_WORDS_MAX - length (take o.words array)) (word.Time 0) ≡ take o.words array ++ drop o.words array
    whole = ap (λ n. take o.words array ++ replicate (EXPRESSION_WORDS_MAX - n) (word.Time 0)) size ∙ ap (λ l. take o.words array ++ l) (sym r.behind)
