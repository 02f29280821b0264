-- The text of an expression: its words, which exactly one space parts.
use Rattle.std.specs.Prelude.{ℕ, List, [], ◌∷◌, Option, Some, None, if◌then◌else◌, codes, is_some, option_and_then, IsTrue}
use Rattle.std.specs.Option.{option_map}
use Rattle.dg_graph.specs.declared.limits.TheConstants.{TIME_MAX}
use Rattle.dg_text.specs.Verbs.{is_word}
use Rattle.dg_text.specs.Words.{words, number}
use Rattle.dg_expr.specs.declared.expression.Word.{Word}
use Rattle.dg_expr.specs.declared.expression.Word.TheVariants as word
use Rattle.dg_expr.specs.Expressions.{is_expression}

-- an operator, or an instant
abbrev pub word_of : List ℕ → Option Word
word_of text =
    if is_word text (codes "not") then Some word.Not
    else (if is_word text (codes "and") then Some word.And
    else (if is_word text (codes "or") then Some word.Or
    else option_map (λ t. word.Time t) (number 0 TIME_MAX text)))

-- the words that these texts are, where each is one
abbrev pub words_in : List (List ℕ) → Option (List Word)
words_in [] = Some []
words_in (text ∷ texts) = option_and_then (λ w. option_map (λ ws. w ∷ ws) (words_in texts)) (word_of text)

-- the expression that these texts are, where they are one
abbrev pub expression_in : List (List ℕ) → Option (List Word)
expression_in texts = option_and_then (λ ws. if is_expression ws then Some ws else None) (words_in texts)

-- the expression that the text is, where it is one
abbrev pub expression_of : List ℕ → Option (List Word)
expression_of text = expression_in (words text)

-- the text is an expression
abbrev pub IsExpressionText : List ℕ → Type 0
IsExpressionText text = IsTrue (is_some (expression_of text))
