-- Two lists, one beside the other.
use Rattle.std.proofs.Common.{arith, ◌≡◌, ℕ, zero, suc, ◌+◌, ◌<◌, List, [], ◌∷◌, ◌++◌, Some, length, take, get_or, refl, ap, ◌∙◌}
use Rattle.std.specs.Prelude.{slice_get}
use Rattle.std.specs.List.{AllZip}

pub zip_at : {A B : Type 0} (R : A → B → Type 0) (xs : List A) (ys : List B) (i : ℕ) (d : A) (e : B) → AllZip R xs ys → i < length xs → R (get_or xs i d) (get_or ys i e)
zip_at R [] [] i d e all in_list = absurd (omega (arith, in_list))
zip_at R [] (y ∷ ys) i d e all in_list = absurd all
zip_at R (x ∷ xs) [] i d e all in_list = absurd all
zip_at R (x ∷ xs) (y ∷ ys) zero d e all in_list = all.0
zip_at R (x ∷ xs) (y ∷ ys) (suc i) d e all in_list = zip_at R xs ys i d e all.1 (omega (arith, in_list))

pub zip_length : {A B : Type 0} (R : A → B → Type 0) (xs : List A) (ys : List B) → AllZip R xs ys → length xs ≡ length ys
zip_length R [] [] all = refl
zip_length R [] (y ∷ ys) all = absurd all
zip_length R (x ∷ xs) [] all = absurd all
zip_length R (x ∷ xs) (y ∷ ys) all = ap (λ n. suc n) (zip_length R xs ys all.1)

pub zip_more : {A B : Type 0} (R : A → B → Type 0) (xs : List A) (ys : List B) (x : A) (y : B) → AllZip R xs ys → R x y → AllZip R (xs ++ x ∷ []) (ys ++ y ∷ [])
zip_more R [] [] x y all one = (one, tt)
zip_more R [] (b ∷ ys) x y all one = absurd all
zip_more R (a ∷ xs) [] x y all one = absurd all
zip_more R (a ∷ xs) (b ∷ ys) x y all one = (all.0, zip_more R xs ys x y all.1 one)

pub zip_as : {A B : Type 0} (R S : A → B → Type 0) → ((x : A) (y : B) → R x y → S x y) → (xs : List A) (ys : List B) → AllZip R xs ys → AllZip S xs ys
zip_as R S f [] [] all = tt
zip_as R S f [] (y ∷ ys) all = absurd all
zip_as R S f (x ∷ xs) [] all = absurd all
zip_as R S f (x ∷ xs) (y ∷ ys) all = (f x y all.0, zip_as R S f xs ys all.1)

pub take_more : {A : Type 0} (xs : List A) (i : ℕ) (d : A) → i < length xs → take (i + 1) xs ≡ take i xs ++ get_or xs i d ∷ []
take_more [] i d in_list = absurd (omega (arith, in_list))
take_more (x ∷ xs) zero d in_list = refl
take_more (x ∷ xs) (suc i) d in_list =
    ap (λ n. take n (x ∷ xs)) (let e : suc i + 1 ≡ suc (i + 1) = omega arith in e) ∙ ap (λ l. x ∷ l) (take_more xs i d (omega (arith, in_list)))

pub get_there : {A : Type 0} (xs : List A) (i : ℕ) (d : A) → i < length xs → slice_get xs i ≡ Some (get_or xs i d)
get_there [] i d in_list = absurd (omega (arith, in_list))
get_there (x ∷ xs) zero d in_list = refl
get_there (x ∷ xs) (suc i) d in_list = get_there xs i d (omega (arith, in_list))

-- lists that have the same at each place are the same
pub same_by_get : {A : Type 0} (xs ys : List A) → length xs ≡ length ys → ((k : ℕ) → k < length xs → slice_get xs k ≡ slice_get ys k) → xs ≡ ys
same_by_get [] [] same each = refl
same_by_get [] (y ∷ ys) same each = absurd (omega (arith, same))
same_by_get (x ∷ xs) [] same each = absurd (omega (arith, same))
same_by_get (x ∷ xs) (y ∷ ys) same each =
    let first : Some x ≡ Some y = each 0 (omega arith) in
    let one : x ≡ y = cc in
    let more = same_by_get xs ys (omega (arith, same)) (λ k lt. each (suc k) (omega (arith, lt))) in
    λ i. one i ∷ more i
