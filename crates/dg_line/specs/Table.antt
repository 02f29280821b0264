-- What the rows of a table of commands read: the values of words, and what is made of them.
use Rattle.std.specs.Prelude.{◌≡◌, ℕ, suc, ◌/◌, ◌%◌, ◌==◌, ◌&&◌, Bool, false, List, [], ◌∷◌, Option, Some, None, if◌then◌else◌, Any, length, map, max, min, nat_le, nat_lt, option_and_then, set, slice_index}
use Rattle.std.specs.List.{join_with_byte, list_all}
use Rattle.std.specs.Option.{option_map, option_or}
use Rattle.dg_changes.specs.ChangeGrammar.{value_text_of}
use Rattle.dg_expr.specs.ExpressionGrammar.{expression_of}
use Rattle.dg_expr.specs.Expressions.{expr_of}
use Rattle.dg_grammar.specs.Symbols.{Terminal, One_of, Number, IsLineOf, is_well_formed, row_of}
use Rattle.dg_graph.specs.declared.element.Columns.{Columns}
use Rattle.dg_graph.specs.declared.function.Function.{Function}
use Rattle.dg_graph.specs.declared.function.Function.TheVariants.{Intersection, Union, Balanced}
use Rattle.dg_history.specs.declared.limits.TheConstants.{BATCH_LINES_MAX}
use Rattle.dg_history.specs.declared.node.NodeId.TheVariants as node
use Rattle.dg_line.specs.declared.table.Row.{Row}
use Rattle.dg_line.specs.declared.table.End.{End}
use Rattle.dg_line.specs.declared.table.End.TheVariants as end
use Rattle.dg_line.specs.declared.table.Make.{Make}
use Rattle.dg_line.specs.declared.table.Make.TheVariants as make
use Rattle.dg_line.specs.declared.tails.Tail.{Tail}
use Rattle.dg_line.specs.declared.tails.Tail.TheVariants as tail
use Rattle.dg_line.specs.Tails.{IsLineThen, IsTail}
use Rattle.dg_machine.specs.declared.command.Command.{Command}
use Rattle.dg_machine.specs.declared.command.Command.TheVariants as command
use Rattle.dg_machine.specs.declared.query.Query.TheVariants as query
use Rattle.dg_machine.specs.declared.selection.Selection.TheVariants.{Chosen, Added}
use Rattle.dg_machine.specs.CommandGrammar.{key_word, several_with, times_of}
use Rattle.dg_machine.specs.ValueIndex.{value_of}
use Rattle.dg_text.specs.Verbs.{is_word, none_more, one}
use Rattle.dg_text.specs.Words.{number}

-- ---- the value of a word

-- which of the texts the word is
abbrev pub text_index : List (List ℕ) → List ℕ → Option ℕ
text_index [] word = None
text_index (text ∷ texts) word = if is_word word text then Some 0 else option_map (λ (n : ℕ). suc n) (text_index texts word)

-- the number that a word of the symbol is, or which of its texts
abbrev pub word_value : Terminal → List ℕ → Option ℕ
word_value (One_of texts) word = text_index texts word
word_value (Number least greatest) word = number least greatest word

-- the values of the first words, from the one of this index on, and what is made of them and of the words behind
abbrev pub read_row : {A : Type 0} → ℕ → List ℕ → List Terminal → (List ℕ → List (List ℕ) → Option A) → List (List ℕ) → Option A
read_row i values [] f ws = f values ws
read_row i values (t ∷ row) f [] = None
read_row i values (t ∷ row) f (w ∷ ws) = option_and_then (λ (v : ℕ). read_row (suc i) (set values i v) row f ws) (word_value t w)

-- ---- what is made of values

abbrev pub within : ℕ → ℕ → ℕ → ℕ
within least greatest value = max (min value greatest) least

abbrev pub function_at : ℕ → Function
function_at index = if index == 0 then Intersection else (if index == 1 then Union else Balanced)

abbrev pub columns_at : ℕ → Columns
columns_at index = record { nodes_attr = index % 2 == 1; edges_attr = (index / 2) % 2 == 1; transient = false }

abbrev pub heard_columns_at : ℕ → Columns
heard_columns_at index = record { nodes_attr = index % 2 == 1; edges_attr = (index / 2) % 2 == 1; transient = nat_lt index 4 }

abbrev pub n32 : ℕ → ℕ
n32 value = within 0 4294967295 value

abbrev pub handle : ℕ → ℕ
handle value = within 1 4294967295 value

abbrev pub count : ℕ → ℕ
count value = within 1 BATCH_LINES_MAX value

abbrev pub made_of : Make → List ℕ → Command
made_of make.Create vs = command.Create (n32 (slice_index vs 1)) (n32 (slice_index vs 2)) (function_at (slice_index vs 3))
made_of make.CreateSkewed vs = command.CreateSkewed (n32 (slice_index vs 1)) (n32 (slice_index vs 2)) (n32 (slice_index vs 4))
made_of make.Load vs = command.Load (count (slice_index vs 1))
made_of make.Append vs = command.Append (count (slice_index vs 1))
made_of make.At vs = command.At (slice_index vs 1) (heard_columns_at (slice_index vs 2))
made_of make.PlainAt vs = command.At (slice_index vs 1) (columns_at (slice_index vs 2))
made_of make.Leaf vs = command.Materialise (node.Leaf (n32 (slice_index vs 2))) (columns_at (slice_index vs 3))
made_of make.Inner vs = command.Materialise (node.Inner (n32 (slice_index vs 2)) (n32 (slice_index vs 3))) (columns_at (slice_index vs 4))
made_of make.List vs = command.Ask (handle (slice_index vs 1)) query.List
made_of make.Counts vs = command.Ask (handle (slice_index vs 1)) query.Counts
made_of make.Node vs = command.Ask (handle (slice_index vs 1)) (query.Node (slice_index vs 2))
made_of make.Neighbours vs = command.Ask (handle (slice_index vs 1)) (query.Neighbours (slice_index vs 2))
made_of make.Release vs = command.Release (handle (slice_index vs 1))
made_of make.CleanAll vs = command.CleanAll
made_of make.Clean vs = command.Clean (within 1 4294967295 (slice_index vs 1))
made_of make.Pool vs = command.Pool
made_of make.Plan vs = command.Plan (slice_index vs 1) (columns_at (slice_index vs 2))
made_of make.Certify vs = command.Certify (slice_index vs 1) (columns_at (slice_index vs 2)) (within 0 BATCH_LINES_MAX (slice_index vs 3))
made_of make.Verify vs = command.Verify
made_of make.Upgrade vs = command.Upgrade
made_of make.Tree vs = command.Tree
made_of make.Workload vs = command.Workload (slice_index vs 1) (count (slice_index vs 2))
made_of make.Interval vs = command.Select (Added (slice_index vs 1) (slice_index vs 2)) (heard_columns_at (slice_index vs 3))

-- ---- what is made of values and of the words behind

abbrev pub choice_with : Columns → List (List ℕ) → Option Command
choice_with cols [] = None
choice_with cols (word ∷ more) = option_map (λ ws. command.Select (Chosen (expr_of ws)) cols) (expression_of (join_with_byte 32 (word ∷ more)))

abbrev pub search_with : ℕ → List (List ℕ) → Option Command
search_with t (key ∷ word ∷ more) = option_and_then (λ k. option_map (λ v. command.Find t k (value_of v)) (value_text_of (join_with_byte 32 (word ∷ more)))) (key_word key)
search_with t rest = None

abbrev pub instants_with : Columns → List (List ℕ) → Option Command
instants_with cols [] = None
instants_with cols (word ∷ rest) = option_and_then (several_with cols) (times_of (word ∷ rest))

abbrev pub tail_command : Tail → List ℕ → List (List ℕ) → Option Command
tail_command tail.Expression vs ws = choice_with (columns_at (slice_index vs 1)) ws
tail_command tail.Key vs ws = one key_word (λ key. command.Index key) ws
tail_command tail.Search vs ws = search_with (slice_index vs 1) ws
tail_command tail.Instants vs ws = instants_with (heard_columns_at (slice_index vs 1)) ws

abbrev pub end_command : End → List ℕ → List (List ℕ) → Option Command
end_command (end.Made m) vs ws = none_more (made_of m vs) ws
end_command (end.Then t) vs ws = tail_command t vs ws

-- ---- rows

abbrev pub zeros : List ℕ
zeros = 0 ∷ 0 ∷ 0 ∷ 0 ∷ 0 ∷ []

-- a row by its symbols: its verb is one text, and the others come behind it
pub record Reading : Type 0 where
  pub symbols : List Terminal
  pub end : End

abbrev pub reading_of : Row → Reading
reading_of row = record { symbols = One_of (row.0.now ∷ []) ∷ row_of row.1.now; end = row.2 }

-- the command that the words are by this row
abbrev pub row_command : Reading → List (List ℕ) → Option Command
row_command row ws = read_row 0 zeros row.symbols (end_command row.end) ws

-- the command that the words are by the first of the rows that reads them, from the word of this index on
abbrev pub first_from : ℕ → List ℕ → List Reading → List (List ℕ) → Option Command
first_from i values [] ws = None
first_from i values (row ∷ rows) ws = option_or (read_row i values row.symbols (end_command row.end) ws) (first_from i values rows ws)

abbrev pub first_command : List Row → List (List ℕ) → Option Command
first_command rows ws = first_from 0 zeros (map reading_of rows) ws

-- the lines of a row
abbrev pub IsEndOf : End → List Terminal → List ℕ → Type 0
IsEndOf (end.Made m) symbols line = IsLineOf symbols line
IsEndOf (end.Then t) symbols line = IsLineThen symbols (IsTail t) line

abbrev pub IsReadBy : Reading → List ℕ → Type 0
IsReadBy row line = IsEndOf row.end row.symbols line

-- no word is behind the verb, and nothing else either
abbrev pub IsVerbAlone : End → List Terminal → Type 0
IsVerbAlone (end.Made m) behind = length behind ≡ 0
IsVerbAlone (end.Then t) behind = ⊥

abbrev pub IsReadByOne : List Reading → List ℕ → Type 0
IsReadByOne rows line = Any (λ (row : Reading). IsReadBy row line) rows

-- its symbols stand for words, and are not too many
abbrev pub is_well_made : Reading → Bool
is_well_made row = nat_le (length row.symbols) 5 && list_all is_well_formed row.symbols
