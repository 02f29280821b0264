-- What holds of each value that the readers of a table of verbs give.
use Rattle.std.proofs.Common.{◌≡◌, ℕ, Bool, true, false, cond, List, [], ◌∷◌, Some}
use Rattle.std.specs.List.{AllByRecursion}
use Rattle.std.proofs.lemmas.Option.{none-some}
use Rattle.dg_text.specs.Verbs.{Verb, is_word, look_up, read_by}

-- what each reader gives has a property, so what is looked up has it
pub each_read : {A : Type 0} (P : A → Type 0) (verbs : List (Verb A))
    → AllByRecursion (λ (v : Verb A). (rest : List (List ℕ)) (x : A) → v.read rest ≡ Some x → P x) verbs
    → (word : List ℕ) (rest : List (List ℕ)) (x : A) → look_up word verbs rest ≡ Some x → P x
each_read P [] all word rest x e = absurd (none-some x e)
each_read {A} P (v ∷ verbs) all word rest x e = by_test (is_word word v.word) e (each_read P verbs all.1 word rest x)
  where
    by_test : (b : Bool) → cond b (v.read rest) (look_up word verbs rest) ≡ Some x → (look_up word verbs rest ≡ Some x → P x) → P x
    by_test true e later = all.0 rest x e
    by_test false e later = later e

-- and so has what is read by the first of some words
pub each_read_by : {A : Type 0} (P : A → Type 0) (verbs : List (Verb A))
    → AllByRecursion (λ (v : Verb A). (rest : List (List ℕ)) (x : A) → v.read rest ≡ Some x → P x) verbs
    → (ws : List (List ℕ)) (x : A) → read_by verbs ws ≡ Some x → P x
each_read_by P verbs all [] x e = absurd (none-some x e)
each_read_by P verbs all (word ∷ rest) x e = each_read P verbs all word rest x e
