use Rattle.std.proofs.Common.{◌≡◌, ℕ, zero, suc, List, [], ◌∷◌, ◌∙◌, sym, ap, refl, None, slice_get}
use Rattle.std.specs.Option.{option_copied}
use Rattle.dg_text.specs.Names.{is_key, name_text}
use Rattle.dg_start.proofs.keys.is_key_number.Goals as goal

no_text : (names : List (List ℕ)) (n : ℕ) → slice_get names n ≡ None → name_text names n ≡ []
no_text [] n none = refl
no_text (x ∷ names) zero none = cc
no_text (x ∷ names) (suc n) none = no_text names n none

pub returns-in-None : goal.returns-in-None
returns-in-None c =
    let none : slice_get c.args.names.now c.args.number ≡ None = sym c.text.ensures.text ∙ ap option_copied c.in-None.is in
    sym (ap is_key (no_text c.args.names.now c.args.number none))
