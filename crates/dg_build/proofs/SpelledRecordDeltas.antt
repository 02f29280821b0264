-- No history has a node whose deltas cannot be written.
use Rattle.std.proofs.Common.{◌≡◌, ℕ, suc, ◌+◌, ◌^◌, ◌<◌, ◌≤◌, ◌==◌, Bool, true, false, cond, not, ◌||◌, List, [], ◌∷◌, length, map, filter, Option, Some, None, refl, sym, ap, ◌∙◌, arith, subst}
use Rattle.std.proofs.lemmas.Bool.{lt-leb, false≢true}
use Rattle.dg_graph.specs.declared.element.Element.{Element}
use Rattle.dg_graph.specs.declared.event.Event.{Event}
use Rattle.dg_history.specs.declared.params.Params.{Params}
use Rattle.dg_graph.specs.Composition.{Delta, between, chained, reversed}
use Rattle.dg_graph.specs.Elements.{has}
use Rattle.dg_graph.specs.Sets.{without_all}
use Rattle.dg_index.specs.ExactSteps.{downs}
use Rattle.dg_index.specs.Hierarchy.{children, set_at}
use Rattle.dg_index.proofs.EverAddedBounds.{node_few}
use Rattle.dg_build.specs.declared.fault.BuildFault.{BuildFault}
use Rattle.dg_build.specs.declared.fault.BuildFault.TheVariants.{Memory, Wide}
use Rattle.dg_build.specs.InteriorDeltas.{downs_of}
use Rattle.dg_build.specs.SpelledRecords.{is_wide, first_wide, IsFaultBelow, IsFaultOfDeltas}

filter_few : (p : Element → Bool) (set : List Element) → length (filter p set) ≤ length set
filter_few p [] = omega arith
filter_few p (x ∷ set) = by (p x) (filter_few p set)
  where
    by : (b : Bool) → length (filter p set) ≤ length set → length (cond b (x ∷ filter p set) (filter p set)) ≤ length (x ∷ set)
    by true le = omega (arith, le)
    by false le = omega (arith, le)

-- the exact delta between two sets is no wider than they are
pub narrow : (a b : List Element) (n : ℕ) → length a ≤ n → length b ≤ n → n < 2 ^ 32 → is_wide (between a b) ≡ false
narrow a b n fa fb few =
    (λ i. lt-leb (2 ^ 32) (length (without_all a b)) (let e : length (without_all a b) < 2 ^ 32 = omega (arith, filter_few (λ x. not (has b x)) a, fa, few) in e) i || lt-leb (2 ^ 32) (length (without_all b a)) (let e : length (without_all b a) < 2 ^ 32 = omega (arith, filter_few (λ x. not (has a x)) b, fb, few) in e) i)

abbrev pub AreNarrow : List Delta → Type 0
AreNarrow [] = Unit {0}
AreNarrow (d ∷ deltas) = (is_wide d ≡ false) × AreNarrow deltas

none_wide : (index : ℕ) (deltas : List Delta) → AreNarrow deltas → first_wide index deltas ≡ None
none_wide index [] narrow = refl
none_wide index (d ∷ deltas) narrow = (λ i. cond (narrow.0 i) (Some index) (first_wide (index + 1) deltas)) ∙ none_wide (index + 1) deltas narrow.1

is_there : Option ℕ → Bool
is_there None = false
is_there (Some n) = true

index_or : ℕ → Option ℕ → ℕ
index_or n None = n
index_or n (Some m) = m

-- where all are narrow only memory is wanting
pub only_memory : (index : ℕ) (deltas : List Delta) → AreNarrow deltas → (e : BuildFault) → IsFaultOfDeltas index deltas e → e ≡ Memory
unfolding is_there
only_memory index deltas narrow Memory is = refl
only_memory index deltas narrow (Wide at) is = absurd (false≢true (ap is_there (sym (none_wide index deltas narrow) ∙ is)))

-- it is one of the deltas
pub first_wide_below : (index : ℕ) (deltas : List Delta) (at : ℕ) → first_wide index deltas ≡ Some at → at < index + length deltas
unfolding is_there index_or
first_wide_below index [] at is = absurd (false≢true (ap is_there is))
first_wide_below index (d ∷ deltas) at is = by (is_wide d) is (λ e. first_wide_below (index + 1) deltas at e)
  where
    by : (wide : Bool) → cond wide (Some index) (first_wide (index + 1) deltas) ≡ Some at → (first_wide (index + 1) deltas ≡ Some at → at < index + 1 + length deltas) → at < index + length (d ∷ deltas)
    by true here later = let e : index ≡ at = ap (index_or 0) here in omega (arith, e)
    by false there later = omega (arith, later there)

-- a fault names one of the deltas
pub below_end : (index : ℕ) (deltas : List Delta) (e : BuildFault) → IsFaultOfDeltas index deltas e → IsFaultBelow (index + length deltas) e
below_end index deltas Memory is = tt
below_end index deltas (Wide at) is = first_wide_below index deltas at is

-- where the first that is too wide is the same, so are the faults
fault_moved : (from to : ℕ) (xs ys : List Delta) (e : BuildFault) → first_wide from xs ≡ first_wide to ys → IsFaultOfDeltas from xs e → IsFaultOfDeltas to ys e
fault_moved from to xs ys Memory same is = tt
fault_moved from to xs ys (Wide at) same is = sym same ∙ is

-- of the deltas to the children but the first, from the next of them on
pub others_fault : (from to : ℕ) (first way last : Delta) (left rest ways : List Delta) (e : BuildFault) → left ≡ way ∷ rest → last ≡ chained first way
    → first_wide from (map (λ (d : Delta). chained first d) left) ≡ first_wide to (map (λ (d : Delta). chained first d) ways)
    → IsFaultOfDeltas from (last ∷ map (λ (d : Delta). chained first d) rest) e → IsFaultOfDeltas to (map (λ (d : Delta). chained first d) ways) e
others_fault from to first way last left rest ways e left_is last_is same is =
    let f = λ (d : Delta). chained first d in
    fault_moved from to (last ∷ map f rest) (map f ways) e ((λ i. first_wide from (last_is i ∷ map f rest)) ∙ ap (λ (l : List Delta). first_wide from (map f l)) (sym left_is) ∙ same) is

-- of the deltas to the children, at the first of them, and behind it
pub first_fault : (index : ℕ) (inner first : Delta) (ways : List Delta) (e : BuildFault) → first ≡ reversed inner → IsFaultOfDeltas index (first ∷ map (λ (d : Delta). chained (reversed inner) d) ways) e → IsFaultOfDeltas index (downs inner ways) e
first_fault index inner first ways e is fault =
    let more : List Delta = map (λ (d : Delta). chained (reversed inner) d) ways in
    fault_moved index index (first ∷ more) (downs inner ways) e (ap (λ (d : Delta). first_wide index (d ∷ more)) is) fault

later_wide : (index next : ℕ) (inner first : Delta) (ways : List Delta) → first ≡ reversed inner → is_wide first ≡ false → next ≡ index + 1 → first_wide next (map (λ (d : Delta). chained first d) ways) ≡ first_wide index (downs inner ways)
later_wide index next inner first ways is narrow next_is =
    (λ i. first_wide (next_is i) (map (λ (d : Delta). chained (is i) d) ways))
    ∙ sym (λ i. cond ((ap (λ (d : Delta). is_wide d) (sym is) ∙ narrow) i) (Some index) (first_wide (index + 1) (map (λ (d : Delta). chained (reversed inner) d) ways)))

pub later_narrow : (index next : ℕ) (inner first : Delta) (ways : List Delta) → first ≡ reversed inner → is_wide first ≡ false → next ≡ index + 1 → first_wide next (map (λ (d : Delta). chained first d) ways) ≡ None → first_wide index (downs inner ways) ≡ None
later_narrow index next inner first ways is narrow next_is none = sym (later_wide index next inner first ways is narrow next_is) ∙ none

pub later_fault : (index next : ℕ) (inner first : Delta) (ways : List Delta) (e : BuildFault) → first ≡ reversed inner → is_wide first ≡ false → next ≡ index + 1
    → IsFaultOfDeltas next (map (λ (d : Delta). chained first d) ways) e → IsFaultOfDeltas index (downs inner ways) e
later_fault index next inner first ways e is narrow next_is fault =
    fault_moved next index (map (λ (d : Delta). chained first d) ways) (downs inner ways) e (later_wide index next inner first ways is narrow next_is) fault

-- of the delta from the root, where there is one
pub top_fault : (index below : ℕ) (first top : Delta) (e : BuildFault) → below ≡ 0 → top ≡ first → IsFaultOfDeltas index (top ∷ []) e → IsFaultOfDeltas index (cond (below == 0) (first ∷ []) []) e
top_fault index below first top e none same fault =
    fault_moved index index (top ∷ []) (cond (below == 0) (first ∷ []) []) e (ap (λ (d : Delta). first_wide index (d ∷ [])) same ∙ sym (ap (λ n. first_wide index (cond (n == 0) (first ∷ []) [])) none)) fault

pub below_more : (few many : ℕ) (e : BuildFault) → few ≤ many → IsFaultBelow few e → IsFaultBelow many e
below_more few many Memory le is = tt
below_more few many (Wide at) le is = omega (arith, le, is)

narrow_downs : (p : Params) (events : List Event) → length events < 2 ^ 32 → (h j : ℕ) (ns : List ℕ) → AreNarrow (map (λ c. between (set_at p events (suc h) j) (set_at p events h c)) ns)
narrow_downs p events few h j [] = tt
narrow_downs p events few h j (n ∷ ns) = (narrow (set_at p events (suc h) j) (set_at p events h n) (length events) (node_few p events (suc h) j) (node_few p events h n) few, narrow_downs p events few h j ns)

-- the deltas to the children of a node
pub downs_memory : (p : Params) (events : List Event) → length events < 2 ^ 32 → (h j index : ℕ) (downs : List Delta) (e : BuildFault) → downs ≡ downs_of p events h j → IsFaultOfDeltas index downs e → e ≡ Memory
downs_memory p events few h j index downs e is fault = only_memory index downs (subst AreNarrow (sym is) (narrow_downs p events few h j (children p.k j))) e fault

-- the delta from the root to the first node of a height
pub top_memory : (p : Params) (events : List Event) → length events < 2 ^ 32 → (h j index : ℕ) (first : Bool) (node : List Element) (e : BuildFault) → node ≡ set_at p events h j → IsFaultOfDeltas index (cond first (between [] node ∷ []) []) e → e ≡ Memory
top_memory p events few h j index first node e is fault = only_memory index (cond first (between [] node ∷ []) []) (by first) e fault
  where
    by : (b : Bool) → AreNarrow (cond b (between [] node ∷ []) [])
    by true = (narrow [] node (length events) (omega arith) (let e : length node ≤ length events = omega (arith, ap (λ (l : List Element). length l) is, node_few p events h j) in e) few, tt)
    by false = tt
