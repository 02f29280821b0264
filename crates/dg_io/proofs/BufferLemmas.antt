-- Parts of a buffer.
use Rattle.std.proofs.Common.{◌≡◌, ℕ, ◌+◌, ◌-◌, ◌≤◌, List, [], ◌++◌, take, drop, slice_range, sym, ap, ◌∙◌, arith}
use Rattle.std.proofs.lemmas.List.{drop-take, drop-drop, take-take}
use Rattle.std.proofs.Math.Seq.{take-add}

-- a part less its first n elements
pub range_past : (xs : List ℕ) (a n b : ℕ) → a + n ≤ b → slice_range xs (a + n) b ≡ drop n (slice_range xs a b)
range_past xs a n b within =
    let rest = b - (a + n) in
    let whole : n + rest ≡ b - a = omega arith in
    sym (drop-take n rest (drop a xs) ∙ ap (take rest) (drop-drop n a xs)) ∙ ap (λ k. drop n (take k (drop a xs))) whole

pub range_none : (xs : List ℕ) (a : ℕ) → slice_range xs a a ≡ []
range_none xs a = let none : a - a ≡ 0 = omega arith in ap (λ k. take k (drop a xs)) none

pub range_front : (xs : List ℕ) (a n : ℕ) → slice_range xs a (a + n) ≡ take n (drop a xs)
range_front xs a n = let same : a + n - a ≡ n = omega arith in ap (λ k. take k (drop a xs)) same

-- the first n elements of a part
pub range_take : (xs : List ℕ) (a n b : ℕ) → n ≤ b - a → take n (slice_range xs a b) ≡ take n (drop a xs)
range_take xs a n b within = take-take n (b - a) (drop a xs) within

pub range_from_start : (xs : List ℕ) (n m : ℕ) → slice_range xs 0 (n + m) ≡ take n xs ++ slice_range xs n (n + m)
range_from_start xs n m =
    let whole : n + m - 0 ≡ n + m = omega arith in
    ap (λ k. take k xs) whole ∙ take-add n m xs ∙ ap (λ l. take n xs ++ l) (sym (range_front xs n m))
