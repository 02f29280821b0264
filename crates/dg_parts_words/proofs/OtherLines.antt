-- A line of fewer than three words or of more than four has neither form.
use Rattle.std.proofs.Common.{arith, ◌≡◌, ℕ, ◌<◌, Bool, true, false, List, [], ◌∷◌, length, Option, Some, None, refl, if◌then◌else◌, option_and_then}
use Rattle.std.specs.Prelude.{codes}
use Rattle.dg_text.specs.Verbs.{is_word, none_more, one, three, two_words}
use Rattle.dg_parts_words.specs.PartsForm.{Said, Splits, Reads, full, parts_form, parts_of}

-- both ways lead to None
no_form : (b c : Bool) (x y : Option Said) → x ≡ None → y ≡ None → (if b then x else (if c then y else None)) ≡ None
no_form true c x y is same = is
no_form false true x y is same = same
no_form false false x y is same = refl

nothing : {A : Type 0} (o : Option A) (f : A → Option Said) → ((v : A) → f v ≡ None) → option_and_then f o ≡ None
nothing None f is = refl
nothing (Some v) f is = is v

pub few : (given : List (List ℕ)) → length given < 3 → parts_form given ≡ None
few [] short = refl
few (verb ∷ []) short = no_form (is_word verb (codes "split")) (is_word verb (codes "read")) None None refl refl
few (verb ∷ a ∷ []) short =
    no_form (is_word verb (codes "split")) (is_word verb (codes "read")) (three full full parts_of Splits (a ∷ [])) (two_words full parts_of Reads (a ∷ []))
    (nothing (full a) (λ v. two_words full parts_of (Splits v) []) (λ v. refl))
    (nothing (full a) (λ v. one parts_of (Reads v) []) (λ v. refl))
few (verb ∷ a ∷ b ∷ rest) short = absurd (omega (arith, short))

pub many : (given : List (List ℕ)) → 4 < length given → parts_form given ≡ None
many [] long = absurd (omega (arith, long))
many (verb ∷ []) long = absurd (omega (arith, long))
many (verb ∷ a ∷ []) long = absurd (omega (arith, long))
many (verb ∷ a ∷ b ∷ []) long = absurd (omega (arith, long))
many (verb ∷ a ∷ b ∷ c ∷ []) long = absurd (omega (arith, long))
many (verb ∷ a ∷ b ∷ c ∷ d ∷ rest) long =
    no_form (is_word verb (codes "split")) (is_word verb (codes "read")) (three full full parts_of Splits (a ∷ b ∷ c ∷ d ∷ rest)) (two_words full parts_of Reads (a ∷ b ∷ c ∷ d ∷ rest))
    (nothing (full a) (λ v. two_words full parts_of (Splits v) (b ∷ c ∷ d ∷ rest))
    (λ v. nothing (full b) (λ w. one parts_of (Splits v w) (c ∷ d ∷ rest))
    (λ w. nothing (parts_of c) (λ n. none_more (Splits v w n) (d ∷ rest)) (λ n. refl))))
    (nothing (full a) (λ v. one parts_of (Reads v) (b ∷ c ∷ d ∷ rest))
    (λ v. nothing (parts_of b) (λ n. none_more (Reads v n) (c ∷ d ∷ rest)) (λ n. refl)))
