-- The rows of the table of commands, and those of the commands of several parts, are what the tables of verbs read.
use Rattle.std.proofs.Common.{◌≡◌, ℕ, true, List, [], ◌∷◌, codes, set, Option, Some, None, option_and_then, is_some, refl, sym, ap, ◌∙◌, arith}
use Rattle.std.proofs.lemmas.Fmt.{decimal_digit}
use Rattle.dg_changes.specs.ChangeGrammar.{id_of, time_of}
use Rattle.dg_graph.specs.declared.limits.TheConstants.{TIME_MAX}
use Rattle.dg_history.specs.declared.limits.TheConstants.{BATCH_LINES_MAX}
use Rattle.dg_grammar.specs.Symbols.{Terminal, One_of, Number}
use Rattle.dg_line.specs.declared.table.End.TheVariants as end
use Rattle.dg_line.specs.declared.table.Make.TheVariants as make
use Rattle.dg_line.specs.declared.tails.Tail.{Tail}
use Rattle.dg_line.specs.declared.tails.Tail.TheVariants as tail
use Rattle.dg_grammar.proofs.WordNumbers.{number_within}
use Rattle.dg_line.specs.PartGrammar.{part_command_of, part_verbs}
use Rattle.dg_line.specs.Table.{choice_with, columns_at, end_command, function_at, heard_columns_at, instants_with, read_row, search_with, within, zeros}
use Rattle.dg_line.proofs.Readers.{EachRows, Reads, ReadsWord, Rows, after_word, ask_alone, ask_one, bounded_number, either_rows, four_row, more_texts, no_text, no_words, one_row, or_rows, plain_number, row, table, three_row, two_row, ◌▸◌}
use Rattle.dg_machine.specs.declared.command.Command.{Command}
use Rattle.dg_machine.specs.declared.command.Command.TheVariants as command
use Rattle.dg_machine.specs.declared.query.Query.TheVariants as query
use Rattle.dg_machine.specs.CommandGrammar.{BeginsBy, choice_of, columns_of, command_of, command_verbs, count_from_0, count_of, function_of, handle_of, heard_columns_of, held_node_verbs, key_word, n32_of, search_of, several_of, skewed_of}
use Rattle.dg_text.specs.Verbs.{one, read_by}

pub n32 : ReadsWord n32_of (Number 0 4294967295) (within 0 4294967295)
n32 = bounded_number 0 4294967295

pub handle : ReadsWord handle_of (Number 1 4294967295) (within 1 4294967295)
handle = bounded_number 1 4294967295

pub count : ReadsWord count_of (Number 1 BATCH_LINES_MAX) (within 1 BATCH_LINES_MAX)
count = bounded_number 1 BATCH_LINES_MAX

pub from_0 : ReadsWord count_from_0 (Number 0 BATCH_LINES_MAX) (within 0 BATCH_LINES_MAX)
from_0 = bounded_number 0 BATCH_LINES_MAX

pub time : ReadsWord time_of (Number 0 TIME_MAX) (λ (n : ℕ). n)
time = plain_number 0 TIME_MAX

pub id : ReadsWord id_of (Number 0 18446744073709551615) (λ (n : ℕ). n)
id = plain_number 0 18446744073709551615

pub function : ReadsWord function_of (One_of (codes "intersection" ∷ codes "union" ∷ codes "balanced" ∷ [])) function_at
function = more_texts _ _ _ _ _ refl (more_texts _ _ _ _ _ refl (more_texts _ _ _ _ _ refl no_text))

pub skewed : ReadsWord skewed_of (One_of (codes "skewed" ∷ [])) (λ (n : ℕ). true)
skewed = more_texts _ _ _ _ _ refl no_text

abbrev column_texts : List (List ℕ)
column_texts = codes "s" ∷ codes "sn" ∷ codes "se" ∷ codes "sne" ∷ []

pub columns : ReadsWord columns_of (One_of column_texts) columns_at
columns = more_texts _ _ _ _ _ refl (more_texts _ _ _ _ _ refl (more_texts _ _ _ _ _ refl (more_texts _ _ _ _ _ refl no_text)))

pub heard_columns : ReadsWord heard_columns_of (One_of (codes "st" ∷ codes "snt" ∷ codes "set" ∷ codes "snet" ∷ column_texts)) heard_columns_at
heard_columns =
    more_texts _ _ _ _ _ refl (more_texts _ _ _ _ _ refl (more_texts _ _ _ _ _ refl (more_texts _ _ _ _ _ refl
    (more_texts _ _ _ _ _ refl (more_texts _ _ _ _ _ refl (more_texts _ _ _ _ _ refl (more_texts _ _ _ _ _ refl no_text)))))))

-- ---- the rows with more than words

-- a word, and what ends the line
pub tail_row : {A : Type 0} {a : List ℕ → Option A} {t : Terminal} {g : ℕ → A} (r : ReadsWord a t g) (read : List (List ℕ) → Option Command)
    (rest : A → List (List ℕ) → Option Command) (i : ℕ) (values : List ℕ) (k : Tail) → read [] ≡ None
    → ((w : List ℕ) (ws : List (List ℕ)) → read (w ∷ ws) ≡ option_and_then (λ (x : A). rest x ws) (a w))
    → ((v : ℕ) (ws : List (List ℕ)) → rest (g v) ws ≡ end_command (end.Then k) (set values i v) ws) → Reads read i values (t ∷ []) (end.Then k)
tail_row {A} {a} {t} {g} r read rest i values k none some same = record { is = is }
  where
    is : (ws : List (List ℕ)) → read ws ≡ read_row i values (t ∷ []) (end_command (end.Then k)) ws
    is [] = none
    is (w ∷ ws) = some w ws ∙ after_word r rest i values [] (end.Then k) (λ v. record { is = same v }) w ws

no_more : {A : Type 0} (o : Option A) → ◌≡◌ {A = Option Command} None (option_and_then (λ (x : A). None) o)
no_more None = refl
no_more (Some x) = refl

pub several : Reads several_of 1 zeros (One_of (codes "st" ∷ codes "snt" ∷ codes "set" ∷ codes "snet" ∷ column_texts) ∷ []) (end.Then tail.Instants)
several = tail_row heard_columns several_of (λ cols ws. instants_with cols ws) 1 zeros tail.Instants refl some (λ v ws. refl)
  where
    some : (w : List ℕ) (ws : List (List ℕ)) → several_of (w ∷ ws) ≡ option_and_then (λ cols. instants_with cols ws) (heard_columns_of w)
    some w [] = no_more (heard_columns_of w)
    some w (x ∷ ws) = refl

pub choice : Reads choice_of 1 zeros (One_of column_texts ∷ []) (end.Then tail.Expression)
choice = tail_row columns choice_of (λ cols ws. choice_with cols ws) 1 zeros tail.Expression refl some (λ v ws. refl)
  where
    some : (w : List ℕ) (ws : List (List ℕ)) → choice_of (w ∷ ws) ≡ option_and_then (λ cols. choice_with cols ws) (columns_of w)
    some w [] = no_more (columns_of w)
    some w (x ∷ ws) = refl

pub search_row : Reads search_of 1 zeros (Number 0 TIME_MAX ∷ []) (end.Then tail.Search)
search_row = tail_row time search_of (λ t ws. search_with t ws) 1 zeros tail.Search refl some (λ v ws. refl)
  where
    some : (w : List ℕ) (ws : List (List ℕ)) → search_of (w ∷ ws) ≡ option_and_then (λ t. search_with t ws) (time_of w)
    some w [] = no_more (time_of w)
    some w (x ∷ []) = no_more (time_of w)
    some w (x ∷ y ∷ ws) = refl

pub key : Reads (one key_word (λ key. command.Index key)) 1 zeros [] (end.Then tail.Key)
key = record { is = λ ws. refl }

-- ---- the tables

-- what `materialise` reads for each kind of node, in the order of the table
abbrev pub held_nodes : Rows (read_by held_node_verbs) 1 zeros
held_nodes = table held_node_verbs (row (two_row _ n32 columns make.Leaf (λ j c. refl)) ▸ row (three_row _ n32 n32 columns make.Inner (λ h j c. refl)) ▸ tt) refl

-- what each command reads, in the order of the table
abbrev pub each_command : EachRows command_verbs 0 zeros
each_command =
    or_rows (row (three_row _ n32 n32 function make.Create (λ l k f. refl))) (row (four_row _ n32 n32 skewed n32 make.CreateSkewed (λ l k s r. refl)))
    ▸ row (one_row _ count make.Load (λ n. refl))
    ▸ row (one_row _ count make.Append (λ n. refl))
    ▸ row (two_row _ time heard_columns make.At (λ t c. refl))
    ▸ row several
    ▸ held_nodes
    ▸ row (ask_alone handle make.List (λ h. refl))
    ▸ row (ask_alone handle make.Counts (λ h. refl))
    ▸ row (ask_one _ handle id make.Node (λ h n. refl))
    ▸ row (ask_one _ handle id make.Neighbours (λ h n. refl))
    ▸ row (one_row _ handle make.Release (λ h. refl))
    ▸ either_rows handle make.CleanAll make.Clean refl (λ n. refl)
    ▸ row (no_words make.Pool refl)
    ▸ row (two_row _ time columns make.Plan (λ t c. refl))
    ▸ row (three_row _ time columns from_0 make.Certify (λ t c n. refl))
    ▸ row (no_words make.Verify refl)
    ▸ row (no_words make.Upgrade refl)
    ▸ row (no_words make.Tree refl)
    ▸ row (two_row _ id count make.Workload (λ s n. refl))
    ▸ row (three_row _ time time heard_columns make.Interval (λ f u c. refl))
    ▸ row key
    ▸ row choice
    ▸ row search_row
    ▸ tt

abbrev pub commands : Rows (read_by command_verbs) 0 zeros
commands = table command_verbs each_command refl

-- the same of the commands of several parts
abbrev pub part_commands : Rows (read_by part_verbs) 0 zeros
part_commands =
    table part_verbs
    (row (two_row _ time columns make.PlainAt (λ t c. refl)) ▸ row (one_row _ handle make.List (λ h. refl)) ▸ row (one_row _ handle make.Release (λ h. refl)) ▸ tt) refl

-- `load 1` is a command
pub some_command : BeginsBy command_of []
some_command = (
  codes "load 1",
  ap (λ (o : Option ℕ). is_some (option_and_then (λ (n : ℕ). Some (command.Load n)) o))
      (number_within 1 BATCH_LINES_MAX 1 (codes "1") (omega arith) (sym (decimal_digit 1 (omega arith))) (omega arith) (omega arith)),
)

-- and so is `list 1`, also of several parts
pub some_part_command : BeginsBy part_command_of []
some_part_command = (
  codes "list 1",
  ap (λ (o : Option ℕ). is_some (option_and_then (λ (n : ℕ). Some (command.Ask n query.List)) o))
      (number_within 1 4294967295 1 (codes "1") (omega arith) (sym (decimal_digit 1 (omega arith))) (omega arith) (omega arith)),
)
