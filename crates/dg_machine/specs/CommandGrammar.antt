-- The grammar of commands and of plan lines: which line of a script is which.
use Rattle.std.specs.Prelude.{ℕ, ◌+◌, ◌-◌, ◌≤◌, Bool, true, false, List, [], ◌∷◌, ◌++◌, Option, Some, None, if◌then◌else◌, codes, length, map, take, is_some, nat_le, option_and_then, replicate, IsTrue}
use Rattle.std.specs.List.{join_with_byte}
use Rattle.std.specs.Option.{option_map, option_or}
use Rattle.dg_expr.specs.declared.expression.TheConstants.{EXPRESSION_WORDS_MAX}
use Rattle.dg_expr.specs.ExpressionGrammar.{expression_of}
use Rattle.dg_expr.specs.Expressions.{expr_of, is_expression, words_of}
use Rattle.dg_graph.specs.declared.element.Columns.{Columns}
use Rattle.dg_machine.specs.declared.command.Command.{Command}
use Rattle.dg_machine.specs.declared.command.Command.TheVariants as command
use Rattle.dg_machine.specs.declared.query.Query.{Query}
use Rattle.dg_machine.specs.declared.command.TheConstants.{TIMES_MAX}
use Rattle.dg_machine.specs.declared.selection.Selection.TheVariants.{Chosen, Added}
use Rattle.dg_machine.specs.declared.texts.KeyText.{KeyText}
use Rattle.dg_machine.specs.QueryTable.{query_verbs}
use Rattle.dg_machine.specs.ValueIndex.{key_of, value_of}
use Rattle.dg_history.specs.declared.limits.TheConstants.{BATCH_LINES_MAX}
use Rattle.dg_text.specs.declared.limits.TheConstants.{KEY_BYTES_MAX, NAME_BYTES_MAX}
use Rattle.dg_graph.specs.declared.function.Function.{Function}
use Rattle.dg_graph.specs.declared.function.Function.TheVariants.{Intersection, Union, Balanced}
use Rattle.dg_text.specs.Words.{words, number}
use Rattle.dg_text.specs.Lines.{ScriptLine, Text, Long}
use Rattle.dg_text.specs.Verbs.{Verb, verb, is_word, read_by, none_more, one, two_words, three, four_words}
use Rattle.dg_history.specs.declared.node.NodeId.{NodeId}
use Rattle.dg_history.specs.declared.node.NodeId.TheVariants as node
use Rattle.dg_plan.specs.declared.certificate.PlanLine.{PlanLine}
use Rattle.dg_plan.specs.declared.certificate.PlanLine.TheVariants as plan_line
use Rattle.dg_changes.specs.ChangeGrammar.{id_of, key_text_of, time_of, value_text_of}

abbrev pub handle_of : List ℕ → Option ℕ
handle_of word = number 1 4294967295 word

-- a number of 32 bits
abbrev pub n32_of : List ℕ → Option ℕ
n32_of word = number 0 4294967295 word

abbrev pub function_of : List ℕ → Option Function
function_of word =
    if is_word word (codes "intersection") then Some Intersection
    else (if is_word word (codes "union") then Some Union
    else (if is_word word (codes "balanced") then Some Balanced else None))

-- `s`, `sn`, `se` or `sne`: structure, and the attributes of nodes and of edges
abbrev pub columns_of : List ℕ → Option Columns
columns_of word =
    if is_word word (codes "s") then Some (record { nodes_attr = false; edges_attr = false; transient = false })
    else (if is_word word (codes "sn") then Some (record { nodes_attr = true; edges_attr = false; transient = false })
    else (if is_word word (codes "se") then Some (record { nodes_attr = false; edges_attr = true; transient = false })
    else (if is_word word (codes "sne") then Some (record { nodes_attr = true; edges_attr = true; transient = false }) else None)))

-- the same, and behind them a `t` for the messages of the instant
abbrev pub heard_columns_of : List ℕ → Option Columns
heard_columns_of word =
    if is_word word (codes "st") then Some (record { nodes_attr = false; edges_attr = false; transient = true })
    else (if is_word word (codes "snt") then Some (record { nodes_attr = true; edges_attr = false; transient = true })
    else (if is_word word (codes "set") then Some (record { nodes_attr = false; edges_attr = true; transient = true })
    else (if is_word word (codes "snet") then Some (record { nodes_attr = true; edges_attr = true; transient = true })
    else columns_of word)))

abbrev pub skewed_of : List ℕ → Option Bool
skewed_of word = if is_word word (codes "skewed") then Some true else None

-- a leaf list size, an arity and a differential function; the share of a skewed one follows it
abbrev pub create_of : List (List ℕ) → Option Command
create_of words =
    option_or (three n32_of n32_of function_of (λ l k f. command.Create l k f) words)
    (four_words n32_of n32_of skewed_of n32_of (λ l k s r. command.CreateSkewed l k r) words)

abbrev pub count_of : List ℕ → Option ℕ
count_of word = number 1 BATCH_LINES_MAX word

-- the number of lines that follow, where none may
abbrev pub count_from_0 : List ℕ → Option ℕ
count_from_0 word = number 0 BATCH_LINES_MAX word

-- one instant and others: each word one
abbrev pub times_of : List (List ℕ) → Option (List ℕ)
times_of [] = Some []
times_of (word ∷ rest) = option_and_then (λ t. option_map (λ ts. t ∷ ts) (times_of rest)) (time_of word)

-- the instants, with zeros behind them, unless there are too many
abbrev pub several_with : Columns → List ℕ → Option Command
several_with cols times =
    if nat_le (length times) TIMES_MAX then Some (command.Several cols (times ++ replicate (TIMES_MAX - length times) 0) (length times)) else None

-- columns, an instant, and others
abbrev pub several_of : List (List ℕ) → Option Command
several_of (cols ∷ word ∷ rest) = option_and_then (λ c. option_and_then (several_with c) (times_of (word ∷ rest))) (heard_columns_of cols)
several_of rest = None

-- a number of cells, or all
abbrev pub sweep_of : List ℕ → Option Command
sweep_of word = if is_word word (codes "all") then Some command.CleanAll else option_map (λ n. command.Clean n) (number 1 4294967295 word)

-- a leaf or an interior node of the index, and columns
abbrev pub held_node_verbs : List (Verb Command)
held_node_verbs =
    verb (codes "leaf") (two_words n32_of columns_of (λ j cols. command.Materialise (node.Leaf j) cols))
    ∷ verb (codes "inner") (three n32_of n32_of columns_of (λ h j cols. command.Materialise (node.Inner h j) cols))
    ∷ []

-- columns, and an expression over instants, which is the rest of the line
abbrev pub choice_of : List (List ℕ) → Option Command
choice_of (cols ∷ word ∷ more) =
    option_and_then (λ c. option_map (λ ws. command.Select (Chosen (expr_of ws)) c) (expression_of (join_with_byte 32 (word ∷ more)))) (columns_of cols)
choice_of rest = None

abbrev pub key_word : List ℕ → Option KeyText
key_word word = option_map key_of (key_text_of word)

-- an instant, a key and a value, which is the rest of the line: words with a space between each two
abbrev pub search_of : List (List ℕ) → Option Command
search_of (time ∷ key ∷ word ∷ more) =
    option_and_then (λ t. option_and_then (λ k.
    option_map (λ v. command.Find t k (value_of v)) (value_text_of (join_with_byte 32 (word ∷ more)))) (key_word key)) (time_of time)
search_of rest = None

-- a handle, and behind it the words of a query
abbrev pub asking : (List (List ℕ) → Option Query) → List (List ℕ) → Option Command
asking read [] = None
asking read (handle ∷ rest) = option_and_then (λ h. option_map (λ q. command.Ask h q) (read rest)) (handle_of handle)

abbrev pub asking_verb : Verb Query → Verb Command
asking_verb v = verb v.word (asking v.read)

-- the commands, by their first word
abbrev pub command_verbs : List (Verb Command)
command_verbs =
    verb (codes "create") create_of
    ∷ verb (codes "load") (one count_of (λ n. command.Load n))
    ∷ verb (codes "append") (one count_of (λ n. command.Append n))
    ∷ verb (codes "at") (two_words time_of heard_columns_of (λ t cols. command.At t cols))
    ∷ verb (codes "several") several_of
    ∷ verb (codes "materialise") (read_by held_node_verbs)
    ∷ (map asking_verb query_verbs
    ++ verb (codes "release") (one handle_of (λ h. command.Release h))
    ∷ verb (codes "clean") (one sweep_of (λ c. c))
    ∷ verb (codes "pool") (none_more command.Pool)
    ∷ verb (codes "plan") (two_words time_of columns_of (λ t cols. command.Plan t cols))
    ∷ verb (codes "certify") (three time_of columns_of count_from_0 (λ t cols n. command.Certify t cols n))
    ∷ verb (codes "verify") (none_more command.Verify)
    ∷ verb (codes "upgrade") (none_more command.Upgrade)
    ∷ verb (codes "tree") (none_more command.Tree)
    ∷ verb (codes "workload") (two_words id_of count_of (λ seed n. command.Workload seed n))
    ∷ verb (codes "interval") (three time_of time_of heard_columns_of (λ from until cols. command.Select (Added from until) cols))
    ∷ verb (codes "index") (one key_word (λ key. command.Index key))
    ∷ verb (codes "expression") choice_of
    ∷ verb (codes "find") search_of
    ∷ [])

-- the command that the line is
abbrev pub command_of : List ℕ → Option Command
command_of line = read_by command_verbs (words line)

-- ---- where a line leaves a grammar

-- A grammar of commands: which line is which command.
abbrev pub Grammar : Type 0
Grammar = List ℕ → Option Command

-- the bytes begin some command of the grammar
abbrev pub BeginsBy : Grammar → List ℕ → Type 0
BeginsBy read bytes = (rest : List ℕ) × IsTrue (is_some (read (bytes ++ rest)))

-- The column, from 1, at which a line leaves a grammar: one more than the length of the longest front of
-- the line that begins some command of it.
pub record IsColumnBy (read : Grammar) (line : List ℕ) (column : ℕ) : Type 0 where
  pub from_one : 1 ≤ column
  pub within : column ≤ length line + 1
  pub begins : BeginsBy read (take (column - 1) line)
  pub longest : (n : ℕ) → column ≤ n → n ≤ length line → BeginsBy read (take n line) → ⊥

-- the bytes begin some command
abbrev pub BeginsCommand : List ℕ → Type 0
BeginsCommand = BeginsBy command_of

-- the column at which a line leaves the grammar of commands
abbrev pub IsColumn : List ℕ → ℕ → Type 0
IsColumn = IsColumnBy command_of

-- ---- plan lines

-- A node, and behind it a number that is at most the greatest instant. The root is `root` alone.
abbrev pub node_verbs : {A : Type 0} → (NodeId → ℕ → A) → List (Verb A)
node_verbs make =
    verb (codes "root") (one time_of (make node.Root))
    ∷ verb (codes "now") (one time_of (make node.Now))
    ∷ verb (codes "recent") (one time_of (make node.Recent))
    ∷ verb (codes "leaf") (two_words n32_of time_of (λ j n. make (node.Leaf j) n))
    ∷ verb (codes "list") (two_words n32_of time_of (λ i n. make (node.List i) n))
    ∷ verb (codes "inner") (three n32_of n32_of time_of (λ h j n. make (node.Inner h j) n))
    ∷ []

-- the number of an edge, the node that it enters, and its weight
abbrev pub step_of : List (List ℕ) → Option PlanLine
step_of [] = None
step_of (edge ∷ rest) = option_and_then (λ e. read_by (node_verbs (λ n weight. plan_line.Step e n weight)) rest) (n32_of edge)

-- the lines of a certificate, by their first word
abbrev pub plan_verbs : List (Verb PlanLine)
plan_verbs =
    verb (codes "step") step_of
    ∷ verb (codes "potential") (read_by (node_verbs (λ n value. plan_line.Potential n value)))
    ∷ []

-- the plan line that the line is
abbrev pub plan_line_of : List ℕ → Option PlanLine
plan_line_of line = read_by plan_verbs (words line)

-- what a line that follows `certify` says; one of more bytes than a line may have says nothing
abbrev pub plan_line_in : ScriptLine → Option PlanLine
plan_line_in (Text line) = plan_line_of line
plan_line_in Long = None

-- ---- ranges

-- The number of lines that follow is in its range: a batch has one at least, and no command has more than a
-- batch may have; and so is the number of instants, that of cells, and that of the words of an expression, which are one,
-- and of the bytes of a text. Every command that a line is is so.
abbrev pub CountIsInRange : Command → Type 0
CountIsInRange (command.Load count) = (1 ≤ count) × (count ≤ BATCH_LINES_MAX)
CountIsInRange (command.Append count) = (1 ≤ count) × (count ≤ BATCH_LINES_MAX)
CountIsInRange (command.Workload seed count) = (1 ≤ count) × (count ≤ BATCH_LINES_MAX)
CountIsInRange (command.Certify t cols count) = count ≤ BATCH_LINES_MAX
CountIsInRange (command.Several cols times count) = (1 ≤ count) × (count ≤ TIMES_MAX)
CountIsInRange (command.Clean cells) = 1 ≤ cells
CountIsInRange (command.Select (Chosen e) cols) = IsTrue (is_expression (words_of e)) × (e.count ≤ EXPRESSION_WORDS_MAX)
CountIsInRange (command.Index key) = key.count ≤ KEY_BYTES_MAX
CountIsInRange (command.Find t key value) = (key.count ≤ KEY_BYTES_MAX) × (value.count ≤ NAME_BYTES_MAX)
CountIsInRange c = Unit {0}
