-- What the only word is read as.
use Rattle.std.proofs.Common.{◌≡◌, ℕ, List, [], ◌∷◌, Option, Some, None, option_and_then, refl, ap, ◌∙◌}
use Rattle.std.specs.Option.{option_map}
use Rattle.dg_text.specs.Verbs.{none_more, one}

-- what is made of the only word
pub one_made : {A B : Type 0} (a : List ℕ → Option A) (make : A → B) (ws : List (List ℕ)) (r : Option A)
    → r ≡ one a (λ v. v) ws → option_map make r ≡ one a make ws
one_made {A} {B} a make ws r e = ap (option_map make) e ∙ made ws
  where
    last : (rest : List (List ℕ)) (o : Option A)
        → option_map make (option_and_then (λ (v : A). none_more v rest) o) ≡ option_and_then (λ (v : A). none_more (make v) rest) o
    last [] None = refl
    last [] (Some v) = refl
    last (w ∷ rest) None = refl
    last (w ∷ rest) (Some v) = refl

    made : (ws : List (List ℕ)) → option_map make (one a (λ v. v) ws) ≡ one a make ws
    made [] = refl
    made (x ∷ rest) = last rest (a x)
