-- Words of which none stands in memory until one is used.
use Rattle.std.proofs.Common.{arith, ◌≡◌, ℕ, suc, zero, ◌<◌, ◌≤◌, ◌⊎◌, inl, inr, Bool, true, false, List, [], ◌∷◌, ◌++◌, length, get_or, set, map, replicate, refl, sym, ap, ◌∙◌}
use Rattle.std.specs.Prelude.{Option, Some, None}
use Rattle.std.proofs.lemmas.List.{length-map, get_or-map}
use Rattle.dg_arena.specs.Words.{word_of}
use Rattle.dg_arena.proofs.Vacancies.{below_or_not}

-- words that agree at each index
ext : (xs ys : List ℕ) → length xs ≡ length ys → ((n : ℕ) → n < length xs → get_or xs n 0 ≡ get_or ys n 0) → xs ≡ ys
ext [] [] e h = refl
ext [] (y ∷ ys) e h = absurd (omega (arith, e))
ext (x ∷ xs) [] e h = absurd (omega (arith, e))
ext (x ∷ xs) (y ∷ ys) e h =
    let head : x ≡ y = h 0 (omega arith) in
    let rest : xs ≡ ys = ext xs ys (omega (arith, e)) (λ n l. h (suc n) (omega arith)) in
    cc

-- a place without a word has 0
none_is : (b : Bool) → word_of b None ≡ 0
none_is true = refl
none_is false = refl

unused_is : (o : Option ℕ) → word_of false o ≡ 0
unused_is o = refl

pub word_at : (b : Bool) (places : List (Option ℕ)) (n : ℕ) → n < length (map (word_of b) places) → get_or (map (word_of b) places) n 0 ≡ word_of b (get_or places n None)
word_at b places n within = let len = length-map places (word_of b) in get_or-map (word_of b) places n None 0 (omega (arith, len))

pub grown : (b : Bool) (places : List (Option ℕ)) (k : ℕ) → map (word_of b) (places ++ replicate k None) ≡ map (word_of b) places ++ replicate k 0
grown b [] zero = refl
grown b [] (suc k) = let rest = grown b [] k in let first = none_is b in cc
grown b (p ∷ places) k = ap (λ l. word_of b p ∷ l) (grown b places k)

none_in : (k m : ℕ) → get_or (replicate {A = Option ℕ} k None) m None ≡ None
none_in zero m = refl
none_in (suc k) zero = refl
none_in (suc k) (suc m) = none_in k m

pub none_behind : (places : List (Option ℕ)) (k m : ℕ) → length places ≤ m → get_or (places ++ replicate k None) m None ≡ None
none_behind [] k m h = none_in k m
none_behind (p ∷ places) k zero h = absurd (omega arith)
none_behind (p ∷ places) k (suc m) h = none_behind places k m (omega arith)

-- places without words get 0, and all others stay: no word changes
pub filled : (old new : List (Option ℕ)) (from : ℕ) → length new ≡ length old
    → ((m : ℕ) → from ≤ m → get_or old m None ≡ None)
    → ((m : ℕ) → from ≤ m → m < length old → get_or new m None ≡ Some 0)
    → ((m : ℕ) → m < from → get_or new m None ≡ get_or old m None)
    → map (word_of true) new ≡ map (word_of true) old
filled old new from len none zeros kept = ext (map (word_of true) new) (map (word_of true) old) same_length at
  where
    long_new : length (map (word_of true) new) ≡ length new
    long_new = length-map new (word_of true)

    long_old : length (map (word_of true) old) ≡ length old
    long_old = length-map old (word_of true)

    same_length : length (map (word_of true) new) ≡ length (map (word_of true) old)
    same_length = long_new ∙ len ∙ sym long_old

    by : (n : ℕ) → n < length new → ((n < from) ⊎ (from ≤ n)) → word_of true (get_or new n None) ≡ word_of true (get_or old n None)
    by n l (inl low) = ap (word_of true) (kept n low)
    by n l (inr high) = ap (word_of true) (zeros n high (omega (arith, len))) ∙ sym (ap (word_of true) (none n high))

    at : (n : ℕ) → n < length (map (word_of true) new) → get_or (map (word_of true) new) n 0 ≡ get_or (map (word_of true) old) n 0
    at n l = word_at true new n l ∙ by n (omega (arith, long_new)) (below_or_not n from) ∙ sym (word_at true old n (omega (arith, same_length)))

-- each place gets 0, where no word was used: no word changes
pub begun : (old new : List (Option ℕ)) → length new ≡ length old → ((m : ℕ) → m < length old → get_or new m None ≡ Some 0) → map (word_of true) new ≡ map (word_of false) old
begun old new len zeros = ext (map (word_of true) new) (map (word_of false) old) same_length at
  where
    long_new : length (map (word_of true) new) ≡ length new
    long_new = length-map new (word_of true)

    long_old : length (map (word_of false) old) ≡ length old
    long_old = length-map old (word_of false)

    same_length : length (map (word_of true) new) ≡ length (map (word_of false) old)
    same_length = long_new ∙ len ∙ sym long_old

    at : (n : ℕ) → n < length (map (word_of true) new) → get_or (map (word_of true) new) n 0 ≡ get_or (map (word_of false) old) n 0
    at n l = word_at true new n l ∙ ap (word_of true) (zeros n (omega (arith, long_new, len))) ∙ sym (word_at false old n (omega (arith, same_length)) ∙ unused_is (get_or old n None))

-- 0 is written where no word was used
pub zero_set : (places : List (Option ℕ)) (n : ℕ) → set (map (word_of false) places) n 0 ≡ map (word_of false) places
zero_set [] n = refl
zero_set (p ∷ places) zero = refl
zero_set (p ∷ places) (suc n) = ap (λ l. 0 ∷ l) (zero_set places n)
