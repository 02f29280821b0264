-- An element of a list that has a property, and an element that is a value.
use Rattle.std.proofs.Common.{◌≡◌, ℕ, zero, suc, ◌<◌, ◌⊎◌, inl, inr, Bool, true, List, [], ◌∷◌, ◌++◌, map, length, get_or, refl, sym, subst, arith}
use Rattle.std.specs.List.{Any, Contains, list_all}
use Rattle.std.proofs.lemmas.Bool.{and_parts}

pub any_first : {X : Type 0} (P : X → Type 0) (x : X) (xs : List X) → P x → Any P (x ∷ xs)
any_first P x xs h = (0, x, omega arith, refl, h)

pub any_later : {X : Type 0} (P : X → Type 0) (x : X) (xs : List X) → Any P xs → Any P (x ∷ xs)
any_later P x xs h = let below = h.2 in (suc h.0, h.1, omega arith, h.3, h.4)

pub any_none : {X : Type 0} (P : X → Type 0) → Any P [] → ⊥
any_none P h = let below = h.2 in omega arith

pub any_cases : {X : Type 0} (P : X → Type 0) (x : X) (xs : List X) → Any P (x ∷ xs) → P x ⊎ Any P xs
any_cases {X} P x xs h = at h.0 h.1 h.2 h.3 h.4
  where
    at : (k : ℕ) (y : X) → k < length (x ∷ xs) → get_or (x ∷ xs) k y ≡ y → P y → P x ⊎ Any P xs
    at zero y below is holds = inl (subst P (sym is) holds)
    at (suc k) y below is holds = inr (k, y, omega arith, is, holds)

pub any_left : {X : Type 0} (P : X → Type 0) (xs ys : List X) → Any P xs → Any P (xs ++ ys)
any_left P [] ys h = absurd (any_none P h)
any_left P (x ∷ xs) ys h = elim (any_cases P x xs h) [
  | inl here ↦ any_first P x (xs ++ ys) here
  | inr later ↦ any_later P x (xs ++ ys) (any_left P xs ys later)
]

pub any_right : {X : Type 0} (P : X → Type 0) (xs ys : List X) → Any P ys → Any P (xs ++ ys)
any_right P [] ys h = h
any_right P (x ∷ xs) ys h = any_later P x (xs ++ ys) (any_right P xs ys h)

pub any_either : {X : Type 0} (P : X → Type 0) (xs ys : List X) → Any P (xs ++ ys) → Any P xs ⊎ Any P ys
any_either P [] ys h = inr h
any_either P (x ∷ xs) ys h = elim (any_cases P x (xs ++ ys) h) [
  | inl here ↦ inl (any_first P x xs here)
  | inr later ↦ elim (any_either P xs ys later) [
    | inl l ↦ inl (any_later P x xs l)
    | inr r ↦ inr r
  ]
]

pub any_mapped : {X Y : Type 0} (P : Y → Type 0) (f : X → Y) (xs : List X) → Any (λ x. P (f x)) xs → Any P (map f xs)
any_mapped P f [] h = absurd (any_none (λ x. P (f x)) h)
any_mapped P f (x ∷ xs) h = elim (any_cases (λ x. P (f x)) x xs h) [
  | inl here ↦ any_first P (f x) (map f xs) here
  | inr later ↦ any_later P (f x) (map f xs) (any_mapped P f xs later)
]

pub any_unmapped : {X Y : Type 0} (P : Y → Type 0) (f : X → Y) (xs : List X) → Any P (map f xs) → Any (λ x. P (f x)) xs
any_unmapped P f [] h = absurd (any_none P h)
any_unmapped P f (x ∷ xs) h = elim (any_cases P (f x) (map f xs) h) [
  | inl here ↦ any_first (λ x. P (f x)) x xs here
  | inr later ↦ any_later (λ x. P (f x)) x xs (any_unmapped P f xs later)
]

pub any_weaker : {X : Type 0} (P Q : X → Type 0) (xs : List X) → ((x : X) → P x → Q x) → Any P xs → Any Q xs
any_weaker P Q xs weaker h = (h.0, h.1, h.2, h.3, weaker h.1 h.4)

pub contains_first : {X : Type 0} (x : X) (xs : List X) → Contains (x ∷ xs) x
contains_first x xs = (0, omega arith, refl)

pub contains_later : {X : Type 0} (x y : X) (xs : List X) → Contains xs y → Contains (x ∷ xs) y
contains_later x y xs h = let below = h.1 in (suc h.0, omega arith, h.2)

pub contains_none : {X : Type 0} (y : X) → Contains [] y → ⊥
contains_none y h = let below = h.1 in omega arith

pub contains_cases : {X : Type 0} (x y : X) (xs : List X) → Contains (x ∷ xs) y → (x ≡ y) ⊎ Contains xs y
contains_cases {X} x y xs h = at h.0 h.1 h.2
  where
    at : (k : ℕ) → k < length (x ∷ xs) → get_or (x ∷ xs) k y ≡ y → (x ≡ y) ⊎ Contains xs y
    at zero below is = inl is
    at (suc k) below is = inr (k, omega arith, is)

-- each element passes the test that all pass
pub passes_at : {X : Type 0} (p : X → Bool) (xs : List X) (i : ℕ) (d : X) → list_all p xs ≡ true → i < length xs → p (get_or xs i d) ≡ true
passes_at p [] i d e below = absurd (omega arith)
passes_at p (x ∷ xs) zero d e below = (and_parts (p x) (list_all p xs) e).0
passes_at p (x ∷ xs) (suc i) d e below = passes_at p xs i d (and_parts (p x) (list_all p xs) e).1 (omega arith)
