-- A list of one value, repeated.
use Rattle.std.proofs.Common.{arith, ◌≡◌, ℕ, ◌<◌, ◌≤◌, ◌⊎◌, inl, inr, get_or}
use Rattle.std.proofs.lemmas.Bool.{cases_lt}
use Rattle.std.proofs.lemmas.List.{get_or-replicate, get_or_past, length-replicate}
use Rattle.std.specs.Prelude.{replicate}

pub all_same : {A : Type 0} → (n s : ℕ) (x : A) → get_or (replicate n x) s x ≡ x
all_same {A} n s x = at (cases_lt s n)
  where
    at : (s < n) ⊎ (n ≤ s) → get_or (replicate n x) s x ≡ x
    at (inl h) = get_or-replicate n s x x h
    at (inr h) = let len = length-replicate n x in get_or_past (replicate n x) s x (omega arith)
