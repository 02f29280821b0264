-- What holds of each of a list holds of each of its parts, and so does what follows from it.
use Rattle.std.proofs.Common.{◌≡◌, ℕ, zero, suc, ◌+◌, ◌≤◌, ◌<◌, List, [], ◌∷◌, ◌++◌, map, subst, arith, eq-or-lt_of_le, ⊎_elim}
use Rattle.std.specs.List.{flat_map}
use Rattle.dg_index.specs.Hierarchy.{numbers}
use Rattle.dg_index.proofs.IndexRecordColumns.{Each}

pub each_parts : {A : Type 0} (P : A → Type 0) (xs ys : List A) → Each P (xs ++ ys) → Each P xs × Each P ys
each_parts P [] ys all = (tt, all)
each_parts P (x ∷ xs) ys all =
    let more = each_parts P xs ys all.1 in
    ((all.0, more.0), more.1)

pub each_then : {A : Type 0} (P Q : A → Type 0) (xs : List A) → ((x : A) → P x → Q x) → Each P xs → Each Q xs
each_then P Q [] f all = tt
each_then P Q (x ∷ xs) f all = (f x all.0, each_then P Q xs f all.1)

pub each_unmap : {A B : Type 0} (P : B → Type 0) (f : A → B) (xs : List A) → Each P (map f xs) → Each (λ x. P (f x)) xs
each_unmap P f [] all = tt
each_unmap P f (x ∷ xs) all = (all.0, each_unmap P f xs all.1)

pub each_unflat : {A B : Type 0} (P : B → Type 0) (f : A → List B) (xs : List A) → Each P (flat_map f xs) → Each (λ x. Each P (f x)) xs
each_unflat P f [] all = tt
each_unflat P f (x ∷ xs) all =
    let parts = each_parts P (f x) (flat_map f xs) all in
    (parts.0, each_unflat P f xs parts.1)

-- of so many numbers from the first on
pub of_number : (P : ℕ → Type 0) (a n c : ℕ) → a ≤ c → c < a + n → Each P (numbers a n) → P c
of_number P a zero c le lt all = absurd (omega (arith, le, lt))
of_number P a (suc n) c le lt all =
    ⊎_elim (λ (is : a ≡ c). subst P is all.0) (λ (less : a < c). of_number P (a + 1) n c (omega (arith, less)) (omega (arith, lt)) all.1) (eq-or-lt_of_le le)
