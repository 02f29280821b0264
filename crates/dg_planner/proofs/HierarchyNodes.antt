-- Nodes that are listed one after another.
use Rattle.std.proofs.Common.{◌≡◌, ℕ, ◌+◌, List, [], ◌∷◌, ◌++◌, map, sym, ap, ◌∙◌}
use Rattle.std.specs.List.{flat_map}
use Rattle.std.proofs.lemmas.List.{append_assoc, append-nil, map-append}
use Rattle.std.proofs.lemmas.List.Concat.{flat_map-append}
use Rattle.dg_index.specs.Hierarchy.{numbers}
use Rattle.dg_plan.proofs.IndexGraphNumbers.{numbers_more}

-- one more number
pub number_more : {X : Type 0} (f : ℕ → X) (old : List X) (first n k : ℕ) → k ≡ first + n → (old ++ map f (numbers first n)) ++ f k ∷ [] ≡ old ++ map f (numbers first (n + 1))
number_more f old first n k is =
    append_assoc old (map f (numbers first n)) (f k ∷ [])
    ∙ ap (λ t. old ++ t) (sym (map-append f (numbers first n) (k ∷ [])) ∙ ap (map f) (ap (λ x. numbers first n ++ x ∷ []) is ∙ sym (numbers_more first n)))

-- one more height
pub height_added : {X : Type 0} (f : ℕ → List X) (old : List X) (hs more : List ℕ) (h : ℕ) → more ≡ hs ++ h ∷ [] → (old ++ flat_map f hs) ++ f h ≡ old ++ flat_map f more
height_added f old hs more h is =
    append_assoc old (flat_map f hs) (f h)
    ∙ ap (λ t. old ++ t) (ap (λ t. flat_map f hs ++ t) (sym (append-nil (f h))) ∙ (sym (flat_map-append f hs (h ∷ [])) ∙ ap (flat_map f) (sym is)))
