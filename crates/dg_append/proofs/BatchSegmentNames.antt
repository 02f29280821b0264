-- How the segment of a batch gets its names.
use Rattle.std.proofs.Common.{◌≡◌, ℕ, zero, suc, ◌+◌, List, [], ◌∷◌, ◌++◌, Some, None, drop, slice_get, refl, sym, ◌∙◌, ap, append_assoc, add-one}
use Rattle.std.proofs.lemmas.List.{append-nil}
use Rattle.dg_index.specs.FileOfHistory.{Segment}
use Rattle.dg_text.specs.Names.{name_text}

from_here : (names : List (List ℕ)) (n : ℕ) (text : List ℕ) → slice_get names n ≡ Some text → drop n names ≡ text ∷ drop (suc n) names
from_here [] n text there = cc
from_here (x ∷ names) zero text there = let e : x ≡ text = cc in ap (λ (t : List ℕ). t ∷ names) e
from_here (x ∷ names) (suc n) text there = from_here names n text there

none_here : (names : List (List ℕ)) (n : ℕ) → slice_get names n ≡ None → drop n names ≡ []
none_here [] zero none = refl
none_here [] (suc n) none = refl
none_here (x ∷ names) zero none = cc
none_here (x ∷ names) (suc n) none = none_here names n none

pub no_text : (names : List (List ℕ)) (n : ℕ) → slice_get names n ≡ None → name_text names n ≡ []
no_text [] n none = refl
no_text (x ∷ names) zero none = cc
no_text (x ∷ names) (suc n) none = no_text names n none

-- the segment with these names behind its own
abbrev pub with_names : Segment → List (List ℕ) → Segment
with_names s more = record s { names = s.names ++ more }

pub name_more : (old new : Segment) (names : List (List ℕ)) (n : ℕ) (text : List ℕ) → new ≡ record old { names = old.names ++ text ∷ [] } → slice_get names n ≡ Some text
    → with_names new (drop (n + 1) names) ≡ with_names old (drop n names)
name_more old new names n text is there =
    let next : drop (n + 1) names ≡ drop (suc n) names = ap (λ (k : ℕ). drop k names) (add-one n) in
    ap (λ (s : Segment). with_names s (drop (n + 1) names)) is
    ∙ ap (λ (xs : List (List ℕ)). let s : Segment = record old { names = xs } in s)
    (append_assoc old.names (text ∷ []) (drop (n + 1) names) ∙ ap (λ (xs : List (List ℕ)). old.names ++ text ∷ xs) next ∙ ap (λ (xs : List (List ℕ)). old.names ++ xs) (sym (from_here names n text there)))

pub names_done : (s due : Segment) (names : List (List ℕ)) (n : ℕ) → with_names s (drop n names) ≡ due → slice_get names n ≡ None → s ≡ due
names_done s due names n is none =
    sym (ap (λ (xs : List (List ℕ)). with_names s xs) (none_here names n none)
    ∙ ap (λ (xs : List (List ℕ)). let x : Segment = record s { names = xs } in x) (append-nil s.names))
    ∙ is
