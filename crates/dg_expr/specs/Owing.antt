-- What an expression still owes behind the words that are read of it.
use Rattle.std.specs.Prelude.{◌≡◌, ℕ, ◌+◌, ◌-◌, ◌<◌, Bool, true, ◌&&◌, List, [], ◌∷◌, Some, codes, if◌then◌else◌, length, nat_le}
use Rattle.dg_text.specs.Words.{words}
use Rattle.dg_expr.specs.declared.expression.TheConstants.{EXPRESSION_TIMES_MAX, EXPRESSION_WORDS_MAX}
use Rattle.dg_expr.specs.declared.expression.Word.{Word}
use Rattle.dg_expr.specs.declared.expression.Word.TheVariants as word
use Rattle.dg_expr.specs.declared.reading.Owing.{Owing}
use Rattle.dg_expr.specs.ExpressionGrammar.{word_of, words_in}
use Rattle.dg_expr.specs.Expressions.{are_expressions, times_in}

-- before the first word: one expression
abbrev pub start : Owing
start = record { expressions = 1; times = 0; words = 0 }

-- behind a word: an instant is an expression, and an operator of two owes one more
abbrev pub owing_after : Owing → Word → Owing
owing_after o (word.Time t) = record { expressions = o.expressions - 1; times = o.times + 1; words = o.words + 1 }
owing_after o word.Not = record { expressions = o.expressions; times = o.times; words = o.words + 1 }
owing_after o word.And = record { expressions = o.expressions + 1; times = o.times; words = o.words + 1 }
owing_after o word.Or = record { expressions = o.expressions + 1; times = o.times; words = o.words + 1 }

-- each expression that is owed may have an instant and a word at least
abbrev pub has_room : Owing → Bool
has_room o = nat_le (o.times + o.expressions) EXPRESSION_TIMES_MAX && nat_le (o.words + o.expressions) EXPRESSION_WORDS_MAX

-- the words are what is owed, and not too many with those before them
abbrev pub fits : Owing → List Word → Bool
fits o ws =
    are_expressions o.expressions ws
    && (nat_le (o.times + length (times_in ws)) EXPRESSION_TIMES_MAX && nat_le (o.words + length ws) EXPRESSION_WORDS_MAX)

-- the line is of words that complete the expression
abbrev pub Completes : Owing → List ℕ → Type 0
Completes o line = (ws : List Word) × (words_in (words line) ≡ Some ws) × (fits o ws ≡ true)

-- the text is a word with which some line goes on that completes the expression
abbrev pub MayCome : Owing → List ℕ → Type 0
MayCome o text = (w : Word) × (word_of text ≡ Some w) × (has_room (owing_after o w) ≡ true)

-- the operators that may come
abbrev pub operators_of : Owing → List (List ℕ)
operators_of o =
    if has_room (owing_after o word.And) then codes "not" ∷ codes "and" ∷ codes "or" ∷ []
    else (if has_room (owing_after o word.Not) then codes "not" ∷ [] else [])
