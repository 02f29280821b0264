-- The texts and the numbers of names.
use Rattle.std.proofs.Common.{◌≡◌, ℕ, None, Option, List, [], slice_get, ap, ◌∙◌}
use Rattle.std.specs.Option.{unwrap_or}
use Rattle.std.proofs.lemmas.Option.{unwrap_or-slice_get}
use Rattle.dg_text.specs.Names.{name_text}

-- the text of a number that no name has
pub no_name : (names : List (List ℕ)) (n : ℕ) (text : List ℕ) → None ≡ slice_get names n → text ≡ [] → text ≡ name_text names n
no_name names n text at none = none ∙ ap (λ (s : Option (List ℕ)). unwrap_or s []) at ∙ unwrap_or-slice_get names n []
