-- The ways of a family, one after another, and the last of its downs.
use Rattle.std.proofs.Common.{◌≡◌, ℕ, zero, suc, ◌+◌, ◌-◌, ◌≤◌, ◌<◌, List, [], ◌∷◌, ◌++◌, length, get_or, map, take, drop, refl, sym, ap, ◌∙◌, arith, append_assoc, length-append, length-drop, length-take-le, take-append-drop}
use Rattle.std.proofs.lemmas.List.{length-map, drop-drop, take_at}
use Rattle.dg_graph.specs.Composition.{chained, reversed, nothing, Delta}
use Rattle.dg_index.specs.Hierarchy.{numbers}
use Rattle.dg_index.specs.ExactSteps.{downs, ways_on, ways_of}
use Rattle.dg_build.specs.InteriorDeltas.{last_way}

-- what changes nothing is the last only where there is nothing else
pub after_nothing : (deltas : List Delta) → last_way (nothing ∷ deltas) ≡ last_way deltas
after_nothing [] = refl
after_nothing (d ∷ deltas) = refl

pub last_numbered : (f : ℕ → Delta) (b n : ℕ) → last_way (map f (numbers b (suc n))) ≡ f (b + n)
last_numbered f b zero = ap f (let e : b ≡ b + 0 = omega arith in e)
last_numbered f b (suc n) = last_numbered f (b + 1) n ∙ ap f (let e : b + 1 + n ≡ b + suc n = omega arith in e)

-- the last of the deltas to the children is that to the last of the others, where there is one
pub last_down : (inner first : Delta) (ways : List Delta) → first ≡ reversed inner → 1 ≤ length ways → last_way (map (λ (d : Delta). chained first d) ways) ≡ last_way (downs inner ways)
last_down inner first [] is some = absurd (omega (arith, some))
last_down inner first (w ∷ ways) is some = ap (λ (b : Delta). last_way (map (λ (d : Delta). chained b d) (w ∷ ways))) is

ways_length_on : (d : Delta) (steps : List Delta) → length (ways_on d steps) ≡ length steps
ways_length_on d [] = refl
ways_length_on d (step ∷ steps) = ap suc (ways_length_on (chained d step) steps)

pub ways_length : (steps : List Delta) → length (ways_of steps) ≡ length steps
ways_length [] = refl
ways_length (step ∷ steps) = ap suc (ways_length_on step steps)

pub downs_length : (inner : Delta) (ways : List Delta) → length (downs inner ways) ≡ suc (length ways)
downs_length inner ways = ap suc (length-map ways (λ (d : Delta). chained (reversed inner) d))

-- ---- way after way

ways_on_more : (d step : Delta) (steps : List Delta) → ways_on d (steps ++ step ∷ []) ≡ ways_on d steps ++ chained (last_way (d ∷ ways_on d steps)) step ∷ []
ways_on_more d step [] = refl
ways_on_more d step (s ∷ steps) = ap (λ (l : List Delta). chained d s ∷ l) (ways_on_more (chained d s) step steps)

ways_of_more : (step : Delta) (steps : List Delta) → 1 ≤ length steps → ways_of (steps ++ step ∷ []) ≡ ways_of steps ++ chained (last_way (ways_of steps)) step ∷ []
ways_of_more step [] some = absurd (omega (arith, some))
ways_of_more step (s ∷ steps) some = ap (λ (l : List Delta). s ∷ l) (ways_on_more s step steps)

-- the last of them by its index
last_got : (ways : List Delta) (d : Delta) → 1 ≤ length ways → get_or ways (length ways - 1) d ≡ last_way ways
last_got [] d some = absurd (omega (arith, some))
last_got (w ∷ []) d some = refl
last_got (w ∷ v ∷ ways) d some =
    ap (λ n. get_or (w ∷ v ∷ ways) n d) (let e : length (w ∷ v ∷ ways) - 1 ≡ suc (length ways) = omega arith in e) ∙ ap (λ n. get_or (v ∷ ways) n d) (let e : length ways ≡ length (v ∷ ways) - 1 = omega arith in e)
    ∙ last_got (v ∷ ways) d (omega arith)

-- so many of the ways are made; `left` is what is left of the row
pub record WaysSoFar (count : ℕ) (row ways left : List Delta) : Type 0 where
  pub some : 1 ≤ length ways
  pub within : length ways ≤ count
  pub rest : left ≡ drop (length ways) row
  pub made : ways ≡ ways_of (take (length ways) row)

pub ways_first : (count : ℕ) (row none ways : List Delta) (step : Delta) (left : List Delta) → 1 ≤ count → none ≡ [] → ways ≡ none ++ step ∷ [] → row ≡ step ∷ left → WaysSoFar count row ways left
ways_first count row none ways step left some none_is ways_are is =
    let one : ways ≡ step ∷ [] = ways_are ∙ ap (λ (l : List Delta). l ++ step ∷ []) none_is in
    let n : length ways ≡ 1 = ap (λ (l : List Delta). length l) one in
    record {
      some = omega (arith, n);
      within = omega (arith, some, n);
      rest = sym (ap (λ (l : List Delta). drop 1 l) is) ∙ ap (λ m. drop m row) (sym n);
      made = one ∙ sym (ap (λ (l : List Delta). ways_of (take 1 l)) is) ∙ ap (λ m. ways_of (take m row)) (sym n);
    }

-- there is one more in the row
pub one_left : (count : ℕ) (row ways left : List Delta) → count ≤ length row → length ways < count → WaysSoFar count row ways left → 1 ≤ length left
one_left count row ways left long lt so = omega (arith, long, lt, ap (λ (l : List Delta). length l) so.rest, length-drop (length ways) row)

pub ways_more : (count : ℕ) (row ways ways2 : List Delta) (way step next : Delta) (left left2 : List Delta) → count ≤ length row → length ways < count → WaysSoFar count row ways left
    → way ≡ get_or ways (length ways - 1) way → left ≡ step ∷ left2 → next ≡ chained way step → ways2 ≡ ways ++ next ∷ [] → WaysSoFar count row ways2 left2
ways_more count row ways ways2 way step next left left2 long lt so way_is left_is next_is ways_are =
    let n : length ways2 ≡ length ways + 1 = ap (λ (l : List Delta). length l) ways_are ∙ length-append ways (next ∷ []) in
    let m : ℕ = length ways in
    let front : List Delta = take m row in
    let whole : row ≡ (front ++ step ∷ []) ++ left2 = sym (take-append-drop m row) ∙ ap (λ (l : List Delta). front ++ l) (sym so.rest ∙ left_is) ∙ sym (append_assoc front (step ∷ []) left2) in
    let there : length front ≡ m = length-take-le m row (omega (arith, long, lt)) in
    let cut : take (m + 1) row ≡ front ++ step ∷ [] = ap (take (m + 1)) whole ∙ take_at (front ++ step ∷ []) left2 (m + 1) (omega (arith, length-append front (step ∷ []), there)) in
    let last : way ≡ last_way (ways_of front) = way_is ∙ last_got ways way so.some ∙ ap last_way so.made in
    record {
      some = omega (arith, n);
      within = omega (arith, lt, n);
      rest = sym (ap (λ (l : List Delta). drop 1 l) left_is) ∙ ap (drop 1) so.rest ∙ drop-drop 1 m row ∙ ap (λ i. drop i row) (let e : m + 1 ≡ length ways2 = omega (arith, n) in e);
      made = ways_are ∙ (λ i. so.made i ++ (next_is ∙ ap (λ (d : Delta). chained d step) last) i ∷ []) ∙ sym (ways_of_more step front (omega (arith, there, so.some))) ∙ ap ways_of (sym cut)
          ∙ ap (λ i. ways_of (take i row)) (let e : m + 1 ≡ length ways2 = omega (arith, n) in e);
    }

pub ways_done : (count : ℕ) (row ways left : List Delta) → count ≤ length ways → WaysSoFar count row ways left → ways ≡ ways_of (take count row)
ways_done count row ways left le so = so.made ∙ ap (λ n. ways_of (take n row)) (let e : length ways ≡ count = omega (arith, le, so.within) in e)

pub rest_done : (count : ℕ) (row ways left : List Delta) → count ≤ length ways → WaysSoFar count row ways left → left ≡ drop count row
rest_done count row ways left le so = so.rest ∙ ap (λ n. drop n row) (let e : length ways ≡ count = omega (arith, le, so.within) in e)

-- a row by its first step
pub first_and_rest : (row : List Delta) (d : Delta) → 1 ≤ length row → row ≡ get_or row 0 d ∷ drop 1 row
first_and_rest [] d some = absurd (omega (arith, some))
first_and_rest (step ∷ row) d some = refl

-- ---- down after down

-- the last is not the first, where there is another
pub last_behind : (first way : Delta) (left : List Delta) → 1 ≤ length left → last_way (chained first way ∷ map (λ (d : Delta). chained first d) left) ≡ last_way (map (λ (d : Delta). chained first d) left)
last_behind first way [] some = absurd (omega (arith, some))
last_behind first way (v ∷ left) some = refl

pub none_left : (way : Delta) (left rest : List Delta) → left ≡ way ∷ rest → length left ≤ 1 → rest ≡ []
none_left way left [] is few = refl
none_left way left (v ∷ rest) is few = absurd (omega (arith, ap (λ (l : List Delta). length l) is, few))
