-- What a clause says where an image is told.
use Rattle.std.proofs.Common.{◌≡◌, ℕ, List, Option, IfSome, Some, None, refl, subst}

-- it is said where it holds of the image, whatever this is
pub where_told : (image : Option (List ℕ)) (P : List ℕ → Type 0) → ((bytes : List ℕ) → image ≡ Some bytes → P bytes) → IfSome image P
where_told None P has = tt
where_told (Some bytes) P has = has bytes refl

-- it holds of the image where this is told
pub at_told : (image : Option (List ℕ)) (P : List ℕ → Type 0) (bytes : List ℕ) → image ≡ Some bytes → IfSome image P → P bytes
at_told image P bytes is has = subst (λ (o : Option (List ℕ)). IfSome o P) is has
