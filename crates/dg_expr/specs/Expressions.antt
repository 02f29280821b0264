-- Expressions over instants, as lists of words: an instant, or an operator before what it joins.
use Rattle.std.specs.Prelude.{ℕ, ◌-◌, Bool, true, false, not, ◌&&◌, ◌||◌, List, [], ◌∷◌, ◌++◌, length, take, filter, replicate, suc, zero, nat_le, nat_eq}
use Rattle.dg_expr.specs.declared.expression.Word.{Word}
use Rattle.dg_expr.specs.declared.expression.Word.TheVariants as word
use Rattle.dg_expr.specs.declared.expression.Expr.{Expr}
use Rattle.dg_expr.specs.declared.expression.Instants.{Instants}
use Rattle.dg_expr.specs.declared.expression.TheConstants.{EXPRESSION_TIMES_MAX, EXPRESSION_WORDS_MAX}

-- the words of an expression that is kept in an array
abbrev pub words_of : Expr → List Word
words_of e = take e.count e.words

-- the words as they are kept: behind them instants 0 to the end of the array
abbrev pub expr_of : List Word → Expr
expr_of ws = record { words = ws ++ replicate (EXPRESSION_WORDS_MAX - length ws) (word.Time 0); count = length ws }

-- the instants that are kept in an array
abbrev pub times_of : Instants → List ℕ
times_of i = take i.count i.times

-- the words are so many expressions, one after another
abbrev pub are_expressions : ℕ → List Word → Bool
are_expressions zero [] = true
are_expressions zero (w ∷ ws) = false
are_expressions (suc n) [] = false
are_expressions (suc n) (word.Time t ∷ ws) = are_expressions n ws
are_expressions (suc n) (word.Not ∷ ws) = are_expressions (suc n) ws
are_expressions (suc n) (word.And ∷ ws) = are_expressions (suc (suc n)) ws
are_expressions (suc n) (word.Or ∷ ws) = are_expressions (suc (suc n)) ws

-- the instants among the words, in their order
abbrev pub times_in : List Word → List ℕ
times_in [] = []
times_in (word.Time t ∷ ws) = t ∷ times_in ws
times_in (word.Not ∷ ws) = times_in ws
times_in (word.And ∷ ws) = times_in ws
times_in (word.Or ∷ ws) = times_in ws

-- the words are one expression, of few instants and few words
abbrev pub is_expression : List Word → Bool
is_expression ws =
    are_expressions 1 ws && (nat_le (length (times_in ws)) EXPRESSION_TIMES_MAX && nat_le (length ws) EXPRESSION_WORDS_MAX)

-- the numbers, each where it comes first
abbrev pub distinct : List ℕ → List ℕ
distinct [] = []
distinct (t ∷ ts) = t ∷ filter (λ u. not (nat_eq u t)) (distinct ts)

-- the distinct instants of an expression, in the order in which they first come
abbrev pub instants_of : List Word → List ℕ
instants_of ws = distinct (times_in ws)
