-- What the grammar of changes reads, and what is generated, tells keys and values by their texts.
use Rattle.std.proofs.Common.{◌≡◌, ℕ, zero, suc, ◌+◌, ◌/◌, ◌%◌, Bool, true, false, List, [], ◌∷◌, Option, Some, None, if◌then◌else◌, map, refl, subst}
use Rattle.std.specs.Prelude.{◌==◌, option_and_then}
use Rattle.std.specs.List.{AllByRecursion, join_with_byte}
use Rattle.std.specs.Option.{option_map}
use Rattle.std.proofs.lemmas.Option.{none-some, option_and_then_some, same_Some}
use Rattle.dg_graph.specs.declared.event.What.TheVariants as what
use Rattle.dg_text.specs.Lines.{ScriptLine, Text, Long}
use Rattle.dg_text.specs.Verbs.{Verb, none_more, one, two_words, three, four_words}
use Rattle.dg_text.specs.Words.{words}
use Rattle.dg_changes.specs.ChangeGrammar.{ChangeByText, WhatByText, Plain, Sets_node, Unsets_node, Sets_edge, Unsets_edge, Sends, change_by_text_in, change_by_text_of_words, change_verbs, direction_of, id_of, key_text_of, sending_of, setting_of, time_of, value_text_of, what_by_text_of}
use Rattle.dg_changes.specs.GeneratedChanges.{generated_from, generated_what, next_number, part_of}
use Rattle.dg_machine.proofs.VerbTables.{each_read_by}
use Rattle.dg_dump.specs.DumpLaws.{ChangesAreByText}
use Rattle.dg_dump.specs.NamesOfLines.{AreByText, IsByText}

abbrev Gives : (List (List ℕ) → Option WhatByText) → Type 0
Gives read = (rest : List (List ℕ)) (x : WhatByText) → read rest ≡ Some x → IsByText x

none_more_gives : (v : WhatByText) → IsByText v → Gives (none_more v)
none_more_gives v is [] x e = subst IsByText (same_Some v x e) is
none_more_gives v is (word ∷ rest) x e = absurd (none-some x e)

one_gives : {A : Type 0} (a : List ℕ → Option A) (make : A → WhatByText) → ((v : A) → IsByText (make v)) → Gives (one a make)
one_gives a make is [] x e = absurd (none-some x e)
one_gives a make is (word ∷ rest) x e =
    option_and_then_some (λ v. none_more (make v) rest) (a word) x e (λ v found k. none_more_gives (make v) (is v) rest x k)

two_gives : {A B : Type 0} (a : List ℕ → Option A) (b : List ℕ → Option B) (make : A → B → WhatByText) → ((v : A) (w : B) → IsByText (make v w)) → Gives (two_words a b make)
two_gives a b make is [] x e = absurd (none-some x e)
two_gives a b make is (word ∷ rest) x e =
    option_and_then_some (λ v. one b (make v) rest) (a word) x e (λ v found k. one_gives b (make v) (is v) rest x k)

three_gives : {A B C : Type 0} (a : List ℕ → Option A) (b : List ℕ → Option B) (c : List ℕ → Option C) (make : A → B → C → WhatByText)
    → ((u : A) (v : B) (w : C) → IsByText (make u v w)) → Gives (three a b c make)
three_gives a b c make is [] x e = absurd (none-some x e)
three_gives a b c make is (word ∷ rest) x e =
    option_and_then_some (λ v. two_words b c (make v) rest) (a word) x e (λ v found k. two_gives b c (make v) (is v) rest x k)

four_gives : {A B C D : Type 0} (a : List ℕ → Option A) (b : List ℕ → Option B) (c : List ℕ → Option C) (d : List ℕ → Option D) (make : A → B → C → D → WhatByText)
    → ((u : A) (v : B) (w : C) (y : D) → IsByText (make u v w y)) → Gives (four_words a b c d make)
four_gives a b c d make is [] x e = absurd (none-some x e)
four_gives a b c d make is (word ∷ rest) x e =
    option_and_then_some (λ v. three b c d (make v) rest) (a word) x e (λ v found k. three_gives b c d (make v) (is v) rest x k)

mapped : {A : Type 0} (make : A → WhatByText) → ((v : A) → IsByText (make v)) → (o : Option A) (x : WhatByText) → option_map make o ≡ Some x → IsByText x
mapped make is None x e = absurd (none-some x e)
mapped make is (Some v) x e = subst IsByText (same_Some (make v) x e) (is v)

set_gives : (make : ℕ → List ℕ → List ℕ → WhatByText) → ((n : ℕ) (k v : List ℕ) → IsByText (make n k v)) → Gives (setting_of make)
set_gives make is [] x e = absurd (none-some x e)
set_gives make is (id ∷ []) x e = absurd (none-some x e)
set_gives make is (id ∷ key ∷ []) x e = absurd (none-some x e)
set_gives make is (id ∷ key ∷ word ∷ more) x e =
    let text : List ℕ = join_with_byte 32 (word ∷ more) in
    option_and_then_some (λ n. option_and_then (λ k. option_map (λ v. make n k v) (value_text_of text)) (key_text_of key)) (id_of id) x e (λ n found k.
    option_and_then_some (λ t. option_map (λ v. make n t v) (value_text_of text)) (key_text_of key) x k (λ t there h. mapped (λ v. make n t v) (λ v. is n t v) (value_text_of text) x h))

send_gives : Gives sending_of
send_gives [] x e = absurd (none-some x e)
send_gives (src ∷ []) x e = absurd (none-some x e)
send_gives (src ∷ dst ∷ []) x e = absurd (none-some x e)
send_gives (src ∷ dst ∷ word ∷ more) x e =
    let text : List ℕ = join_with_byte 32 (word ∷ more) in
    option_and_then_some (λ a. option_and_then (λ b. option_map (λ v. Sends a b v) (value_text_of text)) (id_of dst)) (id_of src) x e (λ a found k.
    option_and_then_some (λ b. option_map (λ v. Sends a b v) (value_text_of text)) (id_of dst) x k (λ b there h. mapped (λ v. Sends a b v) (λ v. tt) (value_text_of text) x h))

each_change : AllByRecursion (λ (v : Verb WhatByText). Gives v.read) change_verbs
each_change = (
  one_gives id_of (λ n. Plain (what.AddNode n)) (λ n. tt),
  (
    one_gives id_of (λ n. Plain (what.RemoveNode n)) (λ n. tt),
    (
      four_gives id_of id_of id_of direction_of (λ n a b d. Plain (what.AddEdge d n a b)) (λ n a b d. tt),
      (
        one_gives id_of (λ n. Plain (what.RemoveEdge n)) (λ n. tt),
        (
          set_gives (λ n k v. Sets_node n k v) (λ n k v. tt),
          (
            two_gives id_of key_text_of (λ n k. Unsets_node n k) (λ n k. tt),
            (
              set_gives (λ n k v. Sets_edge n k v) (λ n k v. tt),
              (two_gives id_of key_text_of (λ n k. Unsets_edge n k) (λ n k. tt), (send_gives, tt)),
            ),
          ),
        ),
      ),
    ),
  ),
)

-- one that is said, in front of others
in_front : (o : Option ChangeByText) (lines : List (Option ChangeByText)) → ((said : ChangeByText) → o ≡ Some said → IsByText said.asked) → AreByText lines → AreByText (o ∷ lines)
in_front None lines is more = more
in_front (Some said) lines is more = (is said refl, more)

words_by_text : (ws : List (List ℕ)) (said : ChangeByText) → change_by_text_of_words ws ≡ Some said → IsByText said.asked
words_by_text [] said e = absurd (none-some said e)
words_by_text (time ∷ rest) said e =
    option_and_then_some (λ t. option_map (λ a. let c : ChangeByText = record { time = t; asked = a } in c) (what_by_text_of rest)) (time_of time) said e
    (λ t found k. by t (what_by_text_of rest) (each_read_by IsByText change_verbs each_change rest) k)
  where
    by : (t : ℕ) (o : Option WhatByText) → ((x : WhatByText) → o ≡ Some x → IsByText x) → option_map (λ a. let c : ChangeByText = record { time = t; asked = a } in c) o ≡ Some said → IsByText said.asked
    by t None is k = absurd (none-some said k)
    by t (Some a) is k = subst (λ (c : ChangeByText). IsByText c.asked) (same_Some (let c : ChangeByText = record { time = t; asked = a } in c) said k) (is a refl)

line_by_text : (line : ScriptLine) (said : ChangeByText) → change_by_text_in line ≡ Some said → IsByText said.asked
line_by_text (Text line) said e = words_by_text (words line) said e
line_by_text Long said e = absurd (none-some said e)

lines_by_text : (lines : List ScriptLine) → AreByText (map change_by_text_in lines)
lines_by_text [] = tt
lines_by_text (line ∷ lines) = in_front (change_by_text_in line) (map change_by_text_in lines) (line_by_text line) (lines_by_text lines)

either : (b : Bool) (x y : WhatByText) → IsByText x → IsByText y → IsByText (if b then x else y)
either true x y p q = p
either false x y p q = q

what_by_text : (kind g r : ℕ) → IsByText (generated_what kind g r)
what_by_text kind g r =
    either (kind == 0) _ _ tt (either (kind == 1) _ _ tt (either (kind == 2) _ _ tt (either (kind == 3) _ _ tt (either (kind == 4) _ _ tt (either (kind == 5) _ _ tt
    (either (kind == 6) _ _ (either (g % 2 == 0) _ _ tt tt) (either (g % 2 == 0) _ _ tt tt)))))))

generated_by_text : (count i x : ℕ) → AreByText (generated_from count i x)
generated_by_text zero i x = tt
generated_by_text (suc count) i x = (what_by_text (i % 8) (i / 8) (part_of (next_number x)), generated_by_text count (i + 1) (next_number x))

pub by_text : ChangesAreByText
by_text = (lines_by_text, λ seed count. generated_by_text count 0 seed)
