-- Distinct names that are copied one after another.
--     new_with      the next of them is new
--     copied_with      and is added last
use Rattle.std.proofs.Common.{◌≡◌, ℕ, zero, suc, ◌+◌, ◌<◌, true, not, List, [], ◌∷◌, ◌++◌, take, Option, Some, None, is_some, refl, sym, ap, ◌∙◌, arith}
use Rattle.std.specs.Prelude.{◌&&◌, slice_get}
use Rattle.std.proofs.lemmas.Bool.{and_from}
use Rattle.dg_index.proofs.ImageTextNames.{new_append}
use Rattle.dg_names.proofs.NameLimitNumbers.{added_last, number_stands}
use Rattle.dg_text.specs.Names.{added, are_new, is_name, number_of}

-- what stands among the first stands there in all
in_all : {X : Type 0} (n : ℕ) (xs : List X) (m : ℕ) (x : X) → slice_get (take n xs) m ≡ Some x → (m < n) × (slice_get xs m ≡ Some x)
in_all zero xs m x at = absurd cc
in_all (suc n) [] m x at = absurd cc
in_all (suc n) (y ∷ ys) zero x at = (omega arith, at)
in_all (suc n) (y ∷ ys) (suc m) x at =
    let rest = in_all n ys m x at in
    (omega (arith, rest.0), rest.1)

-- the first so many, and the next
with_next : {X : Type 0} (n : ℕ) (xs : List X) (x : X) → slice_get xs n ≡ Some x → take (suc n) xs ≡ take n xs ++ x ∷ []
with_next zero [] x at = absurd cc
with_next zero (y ∷ ys) x at = let e : y ≡ x = cc in ap (λ z. z ∷ []) e
with_next (suc n) [] x at = absurd cc
with_next (suc n) (y ∷ ys) x at = ap (λ l. y ∷ l) (with_next n ys x at)

module _ (names : List (List ℕ)) (n : ℕ) (text : List ℕ) (there : slice_get names n ≡ Some text) (same : (m : ℕ) → slice_get names m ≡ Some text → m ≡ n) where
  not_before : number_of (take n names) text ≡ None
  not_before = by (number_of (take n names) text) refl
    where
      by : (o : Option ℕ) → number_of (take n names) text ≡ o → number_of (take n names) text ≡ None
      by None is = is
      by (Some m) is =
          let here = in_all n names m text (number_stands (take n names) text m is) in
          absurd (omega (arith, here.0, same m here.1))

  one_more : take (n + 1) names ≡ take (suc n) names
  one_more = ap (λ k. take k names) (let e : n + 1 ≡ suc n = omega arith in e)

  pub new_with : is_name text ≡ true → are_new [] (take n names) ≡ true → are_new [] (take (n + 1) names) ≡ true
  new_with name before =
      ap (are_new []) (one_more ∙ with_next n names text there) ∙ new_append [] (take n names) (text ∷ [])
      ∙ and_from (are_new [] (take n names)) (are_new (take n names) (text ∷ [])) before
      (and_from (is_name text) (not (is_some (number_of (take n names) text)) && true) name (ap (λ o. not (is_some o) && true) not_before))

  pub copied_with : added (take n names) text ≡ take (n + 1) names
  copied_with = added_last (take n names) text not_before ∙ sym (one_more ∙ with_next n names text there)
