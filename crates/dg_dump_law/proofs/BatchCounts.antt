-- Each command of a script for a batch tells a number of lines that a batch may have, and no more lines follow it.
use Rattle.std.proofs.Common.{◌≡◌, ℕ, zero, suc, ◌+◌, ◌≤◌, Bool, true, false, ◌&&◌, List, [], ◌∷◌, ◌++◌, Option, Some, None, length, map, take, drop, nat_le, refl, subst, arith, decimal}
use Rattle.std.specs.Prelude.{if◌then◌else◌, option_and_then, codes}
use Rattle.std.specs.List.{AllByRecursion, join_with_byte}
use Rattle.std.specs.Option.{option_map, option_or}
use Rattle.std.specs.Str.{bytes_eq}
use Rattle.std.specs.Str.Parse.{digits_value}
use Rattle.std.proofs.lemmas.Bool.{leb-true}
use Rattle.std.proofs.lemmas.Option.{none-some, same_Some}
use Rattle.dg_expr.specs.ExpressionGrammar.{expression_of}
use Rattle.dg_expr.specs.Expressions.{expr_of}
use Rattle.dg_history.specs.declared.limits.TheConstants.{BATCH_LINES_MAX}
use Rattle.dg_machine.specs.declared.command.Command.{Command}
use Rattle.dg_machine.specs.declared.command.Command.TheVariants as command
use Rattle.dg_machine.specs.declared.command.TheConstants.{TIMES_MAX}
use Rattle.dg_machine.specs.declared.query.Query.{Query}
use Rattle.dg_machine.specs.declared.selection.Selection.TheVariants.{Chosen}
use Rattle.dg_machine.specs.CommandGrammar.{asking, asking_verb, choice_of, columns_of, command_of, command_verbs, count_from_0, count_of, create_of, function_of, handle_of, heard_columns_of, held_node_verbs, key_word, n32_of, search_of, several_of, several_with, skewed_of, sweep_of, times_of}
use Rattle.dg_machine.specs.Needs.{following}
use Rattle.dg_machine.specs.QueryTable.{query_verbs}
use Rattle.dg_machine.specs.Script.{Asked, Command_is, Entry, Long_line, Meaning, No_command, Other, Skipped, entries_within, first_entry, is_skipped, meaning, read_as, script}
use Rattle.dg_machine.specs.ValueIndex.{value_of}
use Rattle.dg_machine.proofs.VerbTables.{each_read_by}
use Rattle.dg_changes.specs.ChangeGrammar.{id_of, time_of, value_text_of}
use Rattle.dg_text.specs.Lines.{Long, ScriptLine, Text, lines_of}
use Rattle.dg_text.specs.Verbs.{Verb, four_words, is_word, none_more, one, read_by, three, two_words}
use Rattle.dg_text.specs.Words.{number, words}

-- so many lines make a batch
abbrev pub IsCount : ℕ → Type 0
IsCount n = (1 ≤ n) × (n ≤ BATCH_LINES_MAX)

-- a command for a batch tells such a number
abbrev pub CountsBatch : Command → Type 0
CountsBatch (command.Load n) = IsCount n
CountsBatch (command.Append n) = IsCount n
CountsBatch (command.Workload seed n) = IsCount n
CountsBatch c = Unit {0}

-- the entry is one of a script
abbrev pub IsOfScript : Entry → Type 0
IsOfScript (Asked c lines) = CountsBatch c × (length lines ≤ following c)
IsOfScript (No_command line) = Unit {0}
IsOfScript Long_line = Unit {0}

abbrev pub AreOfScript : List Entry → Type 0
AreOfScript entries = AllByRecursion IsOfScript entries

-- ---- readers of words

-- what the words, or one word, are read as has the property
abbrev Gives : {A : Type 0} → (A → Type 0) → (List (List ℕ) → Option A) → Type 0
Gives {A} P read = (rest : List (List ℕ)) (x : A) → read rest ≡ Some x → P x

abbrev Takes : {A : Type 0} → (A → Type 0) → (List ℕ → Option A) → Type 0
Takes {A} P read = (word : List ℕ) (x : A) → read word ≡ Some x → P x

and_then_is : {A B : Type 0} (f : A → Option B) (o : Option A) (y : B) → option_and_then f o ≡ Some y → (x : A) × (o ≡ Some x) × (f x ≡ Some y)
and_then_is f None y e = absurd (none-some y e)
and_then_is f (Some x) y e = (x, refl, e)

map_is : {A B : Type 0} (f : A → B) (o : Option A) (y : B) → option_map f o ≡ Some y → (x : A) × (o ≡ Some x) × (f x ≡ y)
map_is f None y e = absurd (none-some y e)
map_is f (Some x) y e = (x, refl, same_Some (f x) y e)

-- nothing is asked of the word
any : {A : Type 0} (a : List ℕ → Option A) → Takes (λ x. Unit {0}) a
any a word x e = tt

none_more_gives : {A : Type 0} (P : A → Type 0) (v : A) → P v → Gives P (none_more v)
none_more_gives P v p [] x e = subst P (same_Some v x e) p
none_more_gives P v p (word ∷ rest) x e = absurd (none-some x e)

one_gives : {A B : Type 0} (a : List ℕ → Option A) (make : A → B) (P : A → Type 0) (Q : B → Type 0) → Takes P a → ((v : A) → P v → Q (make v)) → Gives Q (one a make)
one_gives a make P Q t q [] x e = absurd (none-some x e)
one_gives a make P Q t q (word ∷ rest) x e =
    let s = and_then_is (λ v. none_more (make v) rest) (a word) x e in
    none_more_gives Q (make s.0) (q s.0 (t word s.0 s.1)) rest x s.2

-- of two words the property may ask of the second alone
two_gives : {A B C : Type 0} (a : List ℕ → Option A) (b : List ℕ → Option B) (make : A → B → C) (P : B → Type 0) (Q : C → Type 0)
    → Takes P b → ((v : A) (w : B) → P w → Q (make v w)) → Gives Q (two_words a b make)
two_gives a b make P Q t q [] x e = absurd (none-some x e)
two_gives a b make P Q t q (word ∷ rest) x e =
    let s = and_then_is (λ v. one b (make v) rest) (a word) x e in
    one_gives b (make s.0) P Q t (λ w r. q s.0 w r) rest x s.2

three_gives : {A B C D : Type 0} (a : List ℕ → Option A) (b : List ℕ → Option B) (c : List ℕ → Option C) (make : A → B → C → D) (Q : D → Type 0)
    → ((u : A) (v : B) (w : C) → Q (make u v w)) → Gives Q (three a b c make)
three_gives a b c make Q q [] x e = absurd (none-some x e)
three_gives a b c make Q q (word ∷ rest) x e =
    let s = and_then_is (λ y. two_words b c (make y) rest) (a word) x e in
    two_gives b c (make s.0) (λ y. Unit {0}) Q (any c) (λ y z p. q s.0 y z) rest x s.2

four_gives : {A B C D E : Type 0} (a : List ℕ → Option A) (b : List ℕ → Option B) (c : List ℕ → Option C) (d : List ℕ → Option D) (make : A → B → C → D → E) (Q : E → Type 0)
    → ((u : A) (v : B) (w : C) (y : D) → Q (make u v w y)) → Gives Q (four_words a b c d make)
four_gives a b c d make Q q [] x e = absurd (none-some x e)
four_gives a b c d make Q q (word ∷ rest) x e =
    let s = and_then_is (λ y. three b c d (make y) rest) (a word) x e in
    three_gives b c d (make s.0) Q (λ v w y. q s.0 v w y) rest x s.2

both_true : (a b c : Bool) → (a && (b && c)) ≡ true → (b ≡ true) × (c ≡ true)
both_true true true true h = (refl, refl)
both_true true true false h = cc
both_true true false c h = cc
both_true false b c h = cc

number_fits : (low high : ℕ) → Takes (λ n. (low ≤ n) × (n ≤ high)) (number low high)
number_fits low high word = by_test (bytes_eq (decimal (digits_value 10 word)) word && (nat_le low (digits_value 10 word) && nat_le (digits_value 10 word) high)) refl
  where
    by_test : (b : Bool) → (bytes_eq (decimal (digits_value 10 word)) word && (nat_le low (digits_value 10 word) && nat_le (digits_value 10 word) high)) ≡ b
        → (x : ℕ) → (if b then Some (digits_value 10 word) else None) ≡ Some x → (low ≤ x) × (x ≤ high)
    by_test false e x h = absurd (none-some x h)
    by_test true e x h =
        let t = both_true (bytes_eq (decimal (digits_value 10 word)) word) (nat_le low (digits_value 10 word)) (nat_le (digits_value 10 word) high) e in
        let is : digits_value 10 word ≡ x = same_Some (digits_value 10 word) x h in
        (omega (arith, is, leb-true low (digits_value 10 word) t.0), omega (arith, is, leb-true (digits_value 10 word) high t.1))

-- ---- the readers of commands

or_gives : {A : Type 0} (P : A → Type 0) (o p : Option A) (x : A) → option_or o p ≡ Some x → (o ≡ Some x → P x) → (p ≡ Some x → P x) → P x
or_gives P None p x e f g = g e
or_gives P (Some y) p x e f g = f e

create_counts : Gives CountsBatch create_of
create_counts rest x e =
    or_gives CountsBatch (three n32_of n32_of function_of (λ l k f. command.Create l k f) rest)
    (four_words n32_of n32_of skewed_of n32_of (λ l k s r. command.CreateSkewed l k r) rest) x e
    (three_gives n32_of n32_of function_of (λ l k f. command.Create l k f) CountsBatch (λ l k f. tt) rest x)
    (four_gives n32_of n32_of skewed_of n32_of (λ l k s r. command.CreateSkewed l k r) CountsBatch (λ l k s r. tt) rest x)

tested : {A : Type 0} (P : A → Type 0) (b : Bool) (y : A) (o : Option A) (x : A) → (if b then Some y else o) ≡ Some x → P y → (o ≡ Some x → P x) → P x
tested P true y o x e p more = subst P (same_Some y x e) p
tested P false y o x e p more = more e

several_counts : Gives CountsBatch several_of
several_counts [] x e = absurd (none-some x e)
several_counts (cols ∷ []) x e = absurd (none-some x e)
several_counts (cols ∷ word ∷ rest) x e =
    let c = and_then_is (λ c. option_and_then (several_with c) (times_of (word ∷ rest))) (heard_columns_of cols) x e in
    let ts = and_then_is (several_with c.0) (times_of (word ∷ rest)) x c.2 in
    tested CountsBatch (nat_le (length ts.0) TIMES_MAX) _ None x ts.2 tt (λ f. absurd (none-some x f))

-- one word or two of which nothing is asked
one_any : {A : Type 0} (a : List ℕ → Option A) (make : A → Command) → ((v : A) → CountsBatch (make v)) → Gives CountsBatch (one a make)
one_any a make q = one_gives a make (λ v. Unit {0}) CountsBatch (any a) (λ v p. q v)

two_any : {A B : Type 0} (a : List ℕ → Option A) (b : List ℕ → Option B) (make : A → B → Command) → ((v : A) (w : B) → CountsBatch (make v w)) → Gives CountsBatch (two_words a b make)
two_any a b make q = two_gives a b make (λ w. Unit {0}) CountsBatch (any b) (λ v w p. q v w)

node_counts : Gives CountsBatch (read_by held_node_verbs)
node_counts rest x e =
    each_read_by CountsBatch held_node_verbs
    (two_any n32_of columns_of _ (λ j cols. tt), (three_gives n32_of n32_of columns_of _ CountsBatch (λ h j cols. tt), tt)) rest x e

-- a handle, and the words of a query
asking_counts : (read : List (List ℕ) → Option Query) → Gives CountsBatch (asking read)
asking_counts read [] x e = absurd (none-some x e)
asking_counts read (word ∷ rest) x e =
    let h = and_then_is (λ h. option_map (λ q. command.Ask h q) (read rest)) (handle_of word) x e in
    let q = map_is (λ q. command.Ask h.0 q) (read rest) x h.2 in
    subst CountsBatch q.2 tt

sweep_counts : Takes CountsBatch sweep_of
sweep_counts word x e =
    tested CountsBatch (is_word word (codes "all")) command.CleanAll (option_map (λ n. command.Clean n) (number 1 4294967295 word)) x e tt
    (λ f. let n = map_is (λ n. command.Clean n) (number 1 4294967295 word) x f in subst CountsBatch n.2 tt)

choice_counts : Gives CountsBatch choice_of
choice_counts [] x e = absurd (none-some x e)
choice_counts (cols ∷ []) x e = absurd (none-some x e)
choice_counts (cols ∷ word ∷ more) x e =
    let c = and_then_is (λ c. option_map (λ ws. command.Select (Chosen (expr_of ws)) c) (expression_of (join_with_byte 32 (word ∷ more)))) (columns_of cols) x e in
    let ws = map_is (λ ws. command.Select (Chosen (expr_of ws)) c.0) (expression_of (join_with_byte 32 (word ∷ more))) x c.2 in
    subst CountsBatch ws.2 tt

search_counts : Gives CountsBatch search_of
search_counts [] x e = absurd (none-some x e)
search_counts (time ∷ []) x e = absurd (none-some x e)
search_counts (time ∷ key ∷ []) x e = absurd (none-some x e)
search_counts (time ∷ key ∷ word ∷ more) x e =
    let t = and_then_is (λ t. option_and_then (λ k. option_map (λ v. command.Find t k (value_of v)) (value_text_of (join_with_byte 32 (word ∷ more)))) (key_word key)) (time_of time) x e in
    let k = and_then_is (λ k. option_map (λ v. command.Find t.0 k (value_of v)) (value_text_of (join_with_byte 32 (word ∷ more)))) (key_word key) x t.2 in
    let v = map_is (λ v. command.Find t.0 k.0 (value_of v)) (value_text_of (join_with_byte 32 (word ∷ more))) x k.2 in
    subst CountsBatch v.2 tt

-- what each verb reads has the property
abbrev EachCounts : List (Verb Command) → Type 0
EachCounts verbs = AllByRecursion (λ (v : Verb Command). Gives CountsBatch v.read) verbs

-- the verbs of queries, and the verbs behind them
asking_then : (verbs : List (Verb Query)) (more : List (Verb Command)) → EachCounts more → EachCounts (map asking_verb verbs ++ more)
asking_then [] more all = all
asking_then (v ∷ verbs) more all = (asking_counts v.read, asking_then verbs more all)

abbrev behind_queries : List (Verb Command)
behind_queries = drop (6 + length query_verbs) command_verbs

infixr 60 ◌▸◌
-- what a verb reads, and what the verbs after it in the table read
abbrev ◌▸◌ : {A B : Type 0} → A → B → A × B
a ▸ b = (a, b)

each_counts : EachCounts command_verbs
each_counts =
    create_counts
    ▸ one_gives count_of _ IsCount CountsBatch (number_fits 1 BATCH_LINES_MAX) (λ n p. p)
    ▸ one_gives count_of _ IsCount CountsBatch (number_fits 1 BATCH_LINES_MAX) (λ n p. p)
    ▸ two_any time_of heard_columns_of _ (λ t cols. tt)
    ▸ several_counts
    ▸ node_counts
    ▸ asking_then query_verbs behind_queries
    (one_any handle_of _ (λ h. tt)
    ▸ one_gives sweep_of (λ c. c) CountsBatch CountsBatch sweep_counts (λ c p. p)
    ▸ none_more_gives CountsBatch command.Pool tt
    ▸ two_any time_of columns_of _ (λ t cols. tt)
    ▸ three_gives time_of columns_of count_from_0 _ CountsBatch (λ t cols n. tt)
    ▸ none_more_gives CountsBatch command.Verify tt
    ▸ none_more_gives CountsBatch command.Upgrade tt
    ▸ none_more_gives CountsBatch command.Tree tt
    ▸ two_gives id_of count_of _ IsCount CountsBatch (number_fits 1 BATCH_LINES_MAX) (λ seed n p. p)
    ▸ three_gives time_of time_of heard_columns_of _ CountsBatch (λ from until cols. tt)
    ▸ one_any key_word _ (λ key. tt)
    ▸ choice_counts
    ▸ search_counts
    ▸ tt)

command_counts : (line : List ℕ) (c : Command) → command_of line ≡ Some c → CountsBatch c
command_counts line c e = each_read_by CountsBatch command_verbs each_counts (words line) c e

-- ---- the entries of a script

-- what a line means is a command for a batch only with such a number
abbrev MeansCount : Meaning → Type 0
MeansCount Skipped = Unit {0}
MeansCount (Command_is c) = CountsBatch c
MeansCount (Other (Asked c lines)) = ⊥
MeansCount (Other (No_command line)) = Unit {0}
MeansCount (Other Long_line) = Unit {0}

line_counts : (line : ScriptLine) → MeansCount (meaning line)
line_counts (Text line) = by (is_skipped line) (command_of line) refl
  where
    by : (skipped : Bool) (o : Option Command) → command_of line ≡ o → MeansCount (if skipped then Skipped else read_as line o)
    by true o is = tt
    by false None is = tt
    by false (Some c) is = command_counts line c is
line_counts Long = tt

both_all : (xs ys : List Entry) → AreOfScript xs → AreOfScript ys → AreOfScript (xs ++ ys)
both_all [] ys f g = g
both_all (x ∷ xs) ys f g = (f.0, both_all xs ys f.1 g)

-- the first of some entries
pub front_all : (xs ys : List Entry) → AreOfScript (xs ++ ys) → AreOfScript xs
front_all [] ys f = tt
front_all (x ∷ xs) ys f = (f.0, front_all xs ys f.1)

taken_few : {A : Type 0} (n : ℕ) (xs : List A) → length (take n xs) ≤ n
taken_few zero xs = omega arith
taken_few (suc n) [] = omega arith
taken_few (suc n) (x ∷ xs) = omega (arith, taken_few n xs)

first_fits : (m : Meaning) (rest : List ScriptLine) → MeansCount m → AreOfScript (first_entry m rest).0
first_fits Skipped rest f = tt
first_fits (Command_is c) rest f = ((f, taken_few (following c) rest), tt)
first_fits (Other (Asked c lines)) rest f = absurd f
first_fits (Other (No_command line)) rest f = (tt, tt)
first_fits (Other Long_line) rest f = (tt, tt)

entries_fit : (k : ℕ) (lines : List ScriptLine) → AreOfScript (entries_within k lines)
entries_fit zero lines = tt
entries_fit (suc k) [] = tt
entries_fit (suc k) (line ∷ rest) =
    both_all (first_entry (meaning line) rest).0 (entries_within k (first_entry (meaning line) rest).1) (first_fits (meaning line) rest (line_counts line))
    (entries_fit k (first_entry (meaning line) rest).1)

pub script_fits : (bytes : List ℕ) → AreOfScript (script bytes)
script_fits bytes = entries_fit (length (lines_of bytes)) (lines_of bytes)
