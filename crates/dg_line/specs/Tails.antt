-- Lines of some words, with what comes behind them.
use Rattle.std.specs.Prelude.{ℕ, List, [], ◌∷◌, IsTrue, replicate}
use Rattle.dg_expr.specs.ExpressionGrammar.{IsExpressionText}
use Rattle.dg_grammar.specs.Prefixes.{Parted}
use Rattle.dg_grammar.specs.Symbols.{Terminal, Number, IsLineOf, IsWordOf}
use Rattle.dg_graph.specs.declared.limits.TheConstants.{TIME_MAX}
use Rattle.dg_line.specs.declared.tails.Tail.{Tail}
use Rattle.dg_line.specs.declared.tails.Tail.TheVariants as tail
use Rattle.dg_machine.specs.declared.command.TheConstants.{TIMES_MAX}
use Rattle.dg_text.specs.Names.{is_key, is_name}

abbrev pub IsKeyText : List ℕ → Type 0
IsKeyText text = IsTrue (is_key text)

abbrev pub IsValueText : List ℕ → Type 0
IsValueText text = IsTrue (is_name text)

-- a key, a space and a value
abbrev pub IsSearchText : List ℕ → Type 0
IsSearchText text = Parted IsKeyText IsValueText text

-- As many instants as a command may have at most: a line of fewer is a prefix of one of these.
abbrev pub IsInstantsText : List ℕ → Type 0
IsInstantsText text = IsLineOf (replicate TIMES_MAX (Number 0 TIME_MAX)) text

-- what comes behind the words is of this kind
abbrev pub IsTail : Tail → List ℕ → Type 0
IsTail tail.Expression text = IsExpressionText text
IsTail tail.Key text = IsKeyText text
IsTail tail.Search text = IsSearchText text
IsTail tail.Instants text = IsInstantsText text

-- the line is of words of the row, one by one, and behind them of what comes last
abbrev pub IsLineThen : List Terminal → (List ℕ → Type 0) → List ℕ → Type 0
IsLineThen [] L line = L line
IsLineThen (t ∷ row) L line = Parted (IsWordOf t) (IsLineThen row L) line
