-- Numbers that the grammar of changes gives are in their ranges, their keys may be keys and their values names.
use Rattle.std.proofs.Common.{◌≡◌, ℕ, ◌<◌, ◌≤◌, ◌^◌, Bool, true, false, ◌&&◌, List, [], ◌∷◌, Option, Some, None, if◌then◌else◌, map, nat_le, refl, subst, arith, decimal}
use Rattle.std.specs.Prelude.{IfSome, option_and_then}
use Rattle.std.specs.List.{All, AllByRecursion, join_with_byte}
use Rattle.std.specs.Option.{option_map}
use Rattle.std.specs.Str.{bytes_eq}
use Rattle.std.specs.Str.Parse.{digits_value}
use Rattle.std.proofs.lemmas.List.Elements.{All-nil, All-cons}
use Rattle.std.proofs.lemmas.Option.{none-some, same_Some}
use borrow.Author.Tests.{leb-true}
use Rattle.dg_graph.specs.declared.event.What.{What}
use Rattle.dg_graph.specs.declared.event.What.TheVariants as what
use Rattle.dg_graph.specs.declared.limits.TheConstants.{TIME_MAX}
use Rattle.dg_text.specs.Lines.{ScriptLine, Text, Long}
use Rattle.dg_text.specs.Names.{is_key, is_name}
use Rattle.dg_text.specs.Verbs.{Verb, none_more, one, two_words, three, four_words}
use Rattle.dg_text.specs.Words.{words, number}
use Rattle.dg_changes.specs.ChangeGrammar.{WhatByText, Plain, Sets_node, Unsets_node, Sets_edge, Unsets_edge, Sends, ChangeByText, change_verbs, id_of, time_of, direction_of, key_text_of, value_text_of, sending_of, setting_of, what_by_text_of, change_by_text_of_words, change_by_text_in}
use Rattle.dg_machine.proofs.VerbTables.{each_read_by}

-- what the words, or one word, are read as has the property
abbrev pub Gives : {A : Type 0} → (A → Type 0) → (List (List ℕ) → Option A) → Type 0
Gives {A} P read = (rest : List (List ℕ)) (x : A) → read rest ≡ Some x → P x

abbrev pub Takes : {A : Type 0} → (A → Type 0) → (List ℕ → Option A) → Type 0
Takes {A} P read = (word : List ℕ) (x : A) → read word ≡ Some x → P x

-- what each verb is read as has the property
abbrev pub EachGives : {A : Type 0} → (A → Type 0) → List (Verb A) → Type 0
EachGives {A} P verbs = AllByRecursion (λ (v : Verb A). Gives P v.read) verbs

-- ---- readers of words

and_then_is : {A B : Type 0} (f : A → Option B) (o : Option A) (y : B) → option_and_then f o ≡ Some y → (x : A) × (o ≡ Some x) × (f x ≡ Some y)
and_then_is f None y e = absurd (none-some y e)
and_then_is f (Some x) y e = (x, refl, e)

map_is : {A B : Type 0} (f : A → B) (o : Option A) (y : B) → option_map f o ≡ Some y → (x : A) × (o ≡ Some x) × (f x ≡ y)
map_is f None y e = absurd (none-some y e)
map_is f (Some x) y e = (x, refl, same_Some (f x) y e)

-- nothing is asked of the word
any : {A : Type 0} (a : List ℕ → Option A) → Takes (λ x. Unit {0}) a
any a word x e = tt

none_more_gives : {A : Type 0} (P : A → Type 0) (v : A) → P v → Gives P (none_more v)
none_more_gives P v p [] x e = subst P (same_Some v x e) p
none_more_gives P v p (word ∷ rest) x e = absurd (none-some x e)

one_gives : {A B : Type 0} (a : List ℕ → Option A) (make : A → B) (P : A → Type 0) (Q : B → Type 0) → Takes P a → ((v : A) → P v → Q (make v)) → Gives Q (one a make)
one_gives a make P Q t q [] x e = absurd (none-some x e)
one_gives a make P Q t q (word ∷ rest) x e =
    let s = and_then_is (λ v. none_more (make v) rest) (a word) x e in
    none_more_gives Q (make s.0) (q s.0 (t word s.0 s.1)) rest x s.2

two_gives : {A B C : Type 0} (a : List ℕ → Option A) (b : List ℕ → Option B) (make : A → B → C) (P : A → Type 0) (R : B → Type 0) (Q : C → Type 0)
    → Takes P a → Takes R b → ((v : A) (w : B) → P v → R w → Q (make v w)) → Gives Q (two_words a b make)
two_gives a b make P R Q t u q [] x e = absurd (none-some x e)
two_gives a b make P R Q t u q (word ∷ rest) x e =
    let s = and_then_is (λ v. one b (make v) rest) (a word) x e in
    one_gives b (make s.0) R Q u (λ w r. q s.0 w (t word s.0 s.1) r) rest x s.2

three_gives : {A B C D : Type 0} (a : List ℕ → Option A) (b : List ℕ → Option B) (c : List ℕ → Option C) (make : A → B → C → D) (P : A → Type 0) (R : B → Type 0) (S : C → Type 0) (Q : D → Type 0)
    → Takes P a → Takes R b → Takes S c → ((u : A) (v : B) (w : C) → P u → R v → S w → Q (make u v w)) → Gives Q (three a b c make)
three_gives a b c make P R S Q t u v q [] x e = absurd (none-some x e)
three_gives a b c make P R S Q t u v q (word ∷ rest) x e =
    let s = and_then_is (λ y. two_words b c (make y) rest) (a word) x e in
    two_gives b c (make s.0) R S Q u v (λ y z. q s.0 y z (t word s.0 s.1)) rest x s.2

edge_gives : {D E : Type 0} (a : List ℕ → Option ℕ) (d : List ℕ → Option D) (make : ℕ → ℕ → ℕ → D → E) (P : ℕ → Type 0) (Q : E → Type 0)
    → Takes P a → ((n m k : ℕ) (y : D) → P n → P m → P k → Q (make n m k y)) → Gives Q (four_words a a a d make)
edge_gives a d make P Q t q [] x e = absurd (none-some x e)
edge_gives a d make P Q t q (word ∷ rest) x e =
    let s = and_then_is (λ y. three a a d (make y) rest) (a word) x e in
    three_gives a a d (make s.0) P P (λ y. Unit {0}) Q t t (any d) (λ m k y p r u. q s.0 m k y (t word s.0 s.1) p r) rest x s.2

-- ---- what single words give

both_true : (a b c : Bool) → (a && (b && c)) ≡ true → (b ≡ true) × (c ≡ true)
both_true true true true h = (refl, refl)
both_true true true false h = cc
both_true true false c h = cc
both_true false b c h = cc

number_fits : (low high : ℕ) → Takes (λ n. (low ≤ n) × (n ≤ high)) (number low high)
number_fits low high word = by_test (bytes_eq (decimal (digits_value 10 word)) word && (nat_le low (digits_value 10 word) && nat_le (digits_value 10 word) high)) refl
  where
    by_test : (b : Bool) → (bytes_eq (decimal (digits_value 10 word)) word && (nat_le low (digits_value 10 word) && nat_le (digits_value 10 word) high)) ≡ b
        → (x : ℕ) → (if b then Some (digits_value 10 word) else None) ≡ Some x → (low ≤ x) × (x ≤ high)
    by_test false e x h = absurd (none-some x h)
    by_test true e x h =
        let t = both_true (bytes_eq (decimal (digits_value 10 word)) word) (nat_le low (digits_value 10 word)) (nat_le (digits_value 10 word) high) e in
        let is : digits_value 10 word ≡ x = same_Some (digits_value 10 word) x h in
        (omega (arith, is, leb-true low (digits_value 10 word) t.0), omega (arith, is, leb-true (digits_value 10 word) high t.1))

id_fits : Takes (λ n. n < 2 ^ 64) id_of
id_fits word x e = omega (arith, (number_fits 0 18446744073709551615 word x e).1)

-- a text that passes the test
tested : (test : List ℕ → Bool) (text : List ℕ) (x : List ℕ) → (if test text then Some text else None) ≡ Some x → test x ≡ true
tested test text x e = by (test text) refl e
  where
    by : (b : Bool) → test text ≡ b → (if b then Some text else None) ≡ Some x → test x ≡ true
    by true is h = subst (λ t. test t ≡ true) (same_Some text x h) is
    by false is h = absurd (none-some x h)

-- ---- changes

-- the ids of a change of nodes and edges fit
abbrev pub PlainFits : What → Type 0
PlainFits (what.AddNode id) = id < 2 ^ 64
PlainFits (what.RemoveNode id) = id < 2 ^ 64
PlainFits (what.AddEdge directed id src dst) = (id < 2 ^ 64) × (src < 2 ^ 64) × (dst < 2 ^ 64)
PlainFits (what.RemoveEdge id) = id < 2 ^ 64
PlainFits (what.SetNode id key value) = ⊥
PlainFits (what.UnsetNode id key) = ⊥
PlainFits (what.SetEdge id key value) = ⊥
PlainFits (what.UnsetEdge id key) = ⊥
PlainFits (what.Message src dst value) = ⊥

-- so does what a line asks for; its key may be a key, and its value a name
abbrev pub AskedFits : WhatByText → Type 0
AskedFits (Plain w) = PlainFits w
AskedFits (Sets_node id key value) = (id < 2 ^ 64) × (is_key key ≡ true) × (is_name value ≡ true)
AskedFits (Unsets_node id key) = (id < 2 ^ 64) × (is_key key ≡ true)
AskedFits (Sets_edge id key value) = (id < 2 ^ 64) × (is_key key ≡ true) × (is_name value ≡ true)
AskedFits (Unsets_edge id key) = (id < 2 ^ 64) × (is_key key ≡ true)
AskedFits (Sends src dst value) = (src < 2 ^ 64) × (dst < 2 ^ 64) × (is_name value ≡ true)

abbrev pub SaidFits : ChangeByText → Type 0
SaidFits said = (said.time ≤ TIME_MAX) × AskedFits said.asked

id_gives : (make : ℕ → What) → ((n : ℕ) → n < 2 ^ 64 → PlainFits (make n)) → Gives AskedFits (one id_of (λ n. Plain (make n)))
id_gives make = one_gives id_of (λ n. Plain (make n)) (λ n. n < 2 ^ 64) AskedFits id_fits

set_gives : (make : ℕ → List ℕ → List ℕ → WhatByText) → ((n : ℕ) (k v : List ℕ) → n < 2 ^ 64 → is_key k ≡ true → is_name v ≡ true → AskedFits (make n k v)) → Gives AskedFits (setting_of make)
set_gives make q [] x e = absurd (none-some x e)
set_gives make q (id ∷ []) x e = absurd (none-some x e)
set_gives make q (id ∷ key ∷ []) x e = absurd (none-some x e)
set_gives make q (id ∷ key ∷ word ∷ more) x e =
    let text : List ℕ = join_with_byte 32 (word ∷ more) in
    let s = and_then_is (λ n. option_and_then (λ k. option_map (λ v. make n k v) (value_text_of text)) (key_text_of key)) (id_of id) x e in
    let t = and_then_is (λ k. option_map (λ v. make s.0 k v) (value_text_of text)) (key_text_of key) x s.2 in
    let u = map_is (λ v. make s.0 t.0 v) (value_text_of text) x t.2 in
    subst AskedFits u.2 (q s.0 t.0 u.0 (id_fits id s.0 s.1) (tested is_key key t.0 t.1) (tested is_name text u.0 u.1))

send_gives : Gives AskedFits sending_of
send_gives [] x e = absurd (none-some x e)
send_gives (src ∷ []) x e = absurd (none-some x e)
send_gives (src ∷ dst ∷ []) x e = absurd (none-some x e)
send_gives (src ∷ dst ∷ word ∷ more) x e =
    let text : List ℕ = join_with_byte 32 (word ∷ more) in
    let s = and_then_is (λ a. option_and_then (λ b. option_map (λ v. Sends a b v) (value_text_of text)) (id_of dst)) (id_of src) x e in
    let t = and_then_is (λ b. option_map (λ v. Sends s.0 b v) (value_text_of text)) (id_of dst) x s.2 in
    let u = map_is (λ v. Sends s.0 t.0 v) (value_text_of text) x t.2 in
    subst AskedFits u.2 (id_fits src s.0 s.1, id_fits dst t.0 t.1, tested is_name text u.0 u.1)

unset_gives : (make : ℕ → List ℕ → WhatByText) → ((n : ℕ) (k : List ℕ) → n < 2 ^ 64 → is_key k ≡ true → AskedFits (make n k)) → Gives AskedFits (two_words id_of key_text_of make)
unset_gives make = two_gives id_of key_text_of make (λ n. n < 2 ^ 64) (λ k. is_key k ≡ true) AskedFits id_fits (λ key k e. tested is_key key k e)

each_change : EachGives AskedFits change_verbs
each_change = (
  id_gives (λ n. what.AddNode n) (λ n h. h),
  (
    id_gives (λ n. what.RemoveNode n) (λ n h. h),
    (
      edge_gives id_of direction_of (λ n a b d. Plain (what.AddEdge d n a b)) (λ n. n < 2 ^ 64) AskedFits id_fits (λ n a b d x y z. (x, y, z)),
      (
        id_gives (λ n. what.RemoveEdge n) (λ n h. h),
        (
          set_gives (λ n k v. Sets_node n k v) (λ n k v a b c. (a, b, c)),
          (
            unset_gives (λ n k. Unsets_node n k) (λ n k a b. (a, b)),
            (
              set_gives (λ n k v. Sets_edge n k v) (λ n k v a b c. (a, b, c)),
              (unset_gives (λ n k. Unsets_edge n k) (λ n k a b. (a, b)), (send_gives, tt)),
            ),
          ),
        ),
      ),
    ),
  ),
)

asked_fits : Gives AskedFits what_by_text_of
asked_fits = each_read_by AskedFits change_verbs each_change

words_fit : Gives SaidFits change_by_text_of_words
words_fit [] x e = absurd (none-some x e)
words_fit (time ∷ rest) x e =
    let s = and_then_is (λ t. option_map (λ a. let c : ChangeByText = record { time = t; asked = a } in c) (what_by_text_of rest)) (time_of time) x e in
    let t = map_is (λ a. let c : ChangeByText = record { time = s.0; asked = a } in c) (what_by_text_of rest) x s.2 in
    subst SaidFits t.2 ((number_fits 0 TIME_MAX time s.0 s.1).1, asked_fits rest t.0 t.1)

if_some : {A : Type 0} (P : A → Type 0) (o : Option A) → ((x : A) → o ≡ Some x → P x) → IfSome o P
if_some P None h = tt
if_some P (Some x) h = h x refl

line_fits : (line : ScriptLine) → IfSome (change_by_text_in line) SaidFits
line_fits (Text line) = if_some SaidFits (change_by_text_of_words (words line)) (words_fit (words line))
line_fits Long = tt

pub lines_fit : (got : List ScriptLine) → All (λ s. IfSome s SaidFits) (map change_by_text_in got)
lines_fit [] = All-nil (λ s. IfSome s SaidFits)
lines_fit (line ∷ got) = All-cons (λ s. IfSome s SaidFits) (change_by_text_in line) (map change_by_text_in got) (line_fits line) (lines_fit got)
