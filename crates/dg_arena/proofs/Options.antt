-- A place that has a value.
use Rattle.std.proofs.Common.{arith, ◌≡◌, ℕ, suc, zero, ◌<◌, List, [], ◌∷◌, length, get_or, refl}
use Rattle.std.specs.Prelude.{Option, Some, None, IsSome}

pub holds : {X : Type 0} (c : Option X) → IsSome c → (x : X) × (c ≡ Some x)
holds None there = cc
holds (Some x) there = (x, refl)

pub stands_within : {X : Type 0} (cs : List (Option X)) (i : ℕ) (x : X) → get_or cs i None ≡ Some x → i < length cs
stands_within [] i x stands = cc
stands_within (c ∷ cs) zero x stands = omega arith
stands_within (c ∷ cs) (suc i) x stands = omega (arith, stands_within cs i x stands)
