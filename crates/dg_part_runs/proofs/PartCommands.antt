-- Each command of the grammar of parts is one of the three.
use Rattle.std.proofs.Common.{◌≡◌, ℕ, Bool, true, false, List, [], ◌∷◌, Option, Some, None, refl, subst}
use Rattle.std.specs.Prelude.{codes, if◌then◌else◌, option_and_then}
use Rattle.dg_changes.specs.ChangeGrammar.{time_of}
use Rattle.dg_graph.specs.declared.element.Columns.{Columns}
use Rattle.dg_line.specs.PartGrammar.{part_command_of, part_verbs}
use Rattle.dg_machine.specs.CommandGrammar.{columns_of, handle_of}
use Rattle.dg_machine.specs.declared.command.Command.{Command}
use Rattle.dg_machine.specs.declared.command.Command.TheVariants as command
use Rattle.dg_machine.specs.declared.query.Query.TheVariants as query
use Rattle.dg_text.specs.Verbs.{is_word, none_more, one, read_by, two_words}
use Rattle.dg_text.specs.Words.{words}
use Rattle.dg_part_runs.specs.PartsMachine.{IsOfParts}

-- one of several, of which the first that passes is taken
one_of : {A : Type 0} (P : A → Type 0) (b : Bool) (x y : Option A) → ((a : A) → x ≡ Some a → P a) → ((a : A) → y ≡ Some a → P a) → (a : A) → (if b then x else y) ≡ Some a → P a
one_of P true x y here more a is = here a is
one_of P false x y here more a is = more a is

nothing : {A : Type 0} (P : A → Type 0) → (a : A) → None ≡ Some a → P a
nothing P a is = absurd (cc)

just : {A : Type 0} (P : A → Type 0) (x : A) → P x → (a : A) → Some x ≡ Some a → P a
just P x holds a is = let same : x ≡ a = cc in subst P same holds

next : {A B : Type 0} (P : B → Type 0) (f : A → Option B) (o : Option A) → ((x : A) → o ≡ Some x → (b : B) → f x ≡ Some b → P b) → (b : B) → option_and_then f o ≡ Some b → P b
next P f None each b is = absurd (cc)
next P f (Some x) each b is = each x refl b is

alone : (c : Command) (rest : List (List ℕ)) → IsOfParts c → (d : Command) → none_more c rest ≡ Some d → IsOfParts d
alone c [] holds d is = just IsOfParts c holds d is
alone c (word ∷ rest) holds d is = absurd (cc)

silent : (word : List ℕ) (cols : Columns) → columns_of word ≡ Some cols → cols.transient ≡ false
silent word cols is =
    one_of P (is_word word (codes "s")) _ _ (just P _ refl)
    (one_of P (is_word word (codes "sn")) _ _ (just P _ refl)
    (one_of P (is_word word (codes "se")) _ _ (just P _ refl)
    (one_of P (is_word word (codes "sne")) _ _ (just P _ refl) (nothing P)))) cols is
  where
    P : Columns → Type 0
    P c = c.transient ≡ false

columns_next : (t : ℕ) (rest : List (List ℕ)) (c : Command) → one columns_of (λ cols. command.At t cols) rest ≡ Some c → IsOfParts c
columns_next t [] c is = absurd (cc)
columns_next t (word ∷ rest) c is =
    next IsOfParts (λ cols. none_more (command.At t cols) rest) (columns_of word) (λ cols at d. alone (command.At t cols) rest (silent word cols at) d) c is

at_command : (rest : List (List ℕ)) (c : Command) → two_words time_of columns_of (λ t cols. command.At t cols) rest ≡ Some c → IsOfParts c
at_command [] c is = absurd (cc)
at_command (word ∷ rest) c is = next IsOfParts (λ t. one columns_of (λ cols. command.At t cols) rest) (time_of word) (λ t at d. columns_next t rest d) c is

list_command : (rest : List (List ℕ)) (c : Command) → one handle_of (λ h. command.Ask h query.List) rest ≡ Some c → IsOfParts c
list_command [] c is = absurd (cc)
list_command (word ∷ rest) c is =
    next IsOfParts (λ h. none_more (command.Ask h query.List) rest) (handle_of word) (λ h at d. alone (command.Ask h query.List) rest tt d) c is

release_command : (rest : List (List ℕ)) (c : Command) → one handle_of (λ h. command.Release h) rest ≡ Some c → IsOfParts c
release_command [] c is = absurd (cc)
release_command (word ∷ rest) c is = next IsOfParts (λ h. none_more (command.Release h) rest) (handle_of word) (λ h at d. alone (command.Release h) rest tt d) c is

read_of_parts : (ws : List (List ℕ)) (c : Command) → read_by part_verbs ws ≡ Some c → IsOfParts c
read_of_parts [] c is = absurd (cc)
read_of_parts (word ∷ rest) c is =
    one_of IsOfParts (is_word word (codes "at")) _ _ (at_command rest)
    (one_of IsOfParts (is_word word (codes "list")) _ _ (list_command rest)
    (one_of IsOfParts (is_word word (codes "release")) _ _ (release_command rest) (nothing IsOfParts))) c is

pub of_parts : (line : List ℕ) (c : Command) → part_command_of line ≡ Some c → IsOfParts c
of_parts line c is = read_of_parts (words line) c is
