-- The nodes of a height, group by group.
use Rattle.std.proofs.Common.{◌≡◌, ℕ, suc, ◌+◌, ◌-◌, ◌*◌, ◌<◌, ◌≤◌, List, [], ◌∷◌, ◌++◌, get_or, length, map, take, drop, refl, sym, ap, ◌∙◌, arith, add-mul, append-nil, append_assoc, length-drop, length-take-le, mul-le-mul_right}
use Rattle.std.specs.List.{flat_map}
use Rattle.std.proofs.lemmas.List.{take_at, drop_at, length-map, map-append}
use Rattle.std.proofs.lemmas.List.Concat.{flat_map-append}
use Rattle.dg_graph.specs.declared.event.Event.{Event}
use Rattle.dg_history.specs.declared.params.Params.{Params}
use Rattle.dg_graph.specs.Composition.{Delta, between, chained}
use Rattle.dg_index.specs.Hierarchy.{numbers, set_at}
use Rattle.dg_index.specs.FileOfHistory.{Segment, Stored}
use Rattle.dg_graph.specs.DifferentialFunction.{inward}
use Rattle.dg_index.specs.ExactSteps.{ways_of, downs, steps_at}
use Rattle.dg_index.proofs.HierarchyCounts.{numbers_length, numbers_append}
use Rattle.dg_index.proofs.HierarchySteps.{ways_node, inward_node, downs_node, step_up}
use Rattle.dg_build.proofs.InteriorDeltaWays.{last_numbered, ways_length, downs_length}
use Rattle.dg_build.specs.InteriorDeltas.{last_way, downs_of, stored_delta, AreMade, IsBehind, IsNextNode}

-- ---- parts of a row of steps

abbrev step_of : Params → List Event → ℕ → ℕ → Delta
step_of p events h c = between (set_at p events h c) (set_at p events h (c + 1))

pub steps_cut : (p : Params) (events : List Event) (h a n r : ℕ) → steps_at p events h a (n + r) ≡ steps_at p events h a n ++ steps_at p events h (a + n) r
steps_cut p events h a n r = ap (map (step_of p events h)) (numbers_append a n r) ∙ map-append (step_of p events h) (numbers a n) (numbers (a + n) r)

steps_length : (p : Params) (events : List Event) (h a n : ℕ) → length (steps_at p events h a n) ≡ n
steps_length p events h a n = length-map (numbers a n) (step_of p events h) ∙ numbers_length a n

pub steps_front : (p : Params) (events : List Event) (h a n r : ℕ) → take n (steps_at p events h a (n + r)) ≡ steps_at p events h a n
steps_front p events h a n r = ap (take n) (steps_cut p events h a n r) ∙ take_at (steps_at p events h a n) (steps_at p events h (a + n) r) n (steps_length p events h a n)

pub steps_back : (p : Params) (events : List Event) (h a n r : ℕ) → drop n (steps_at p events h a (n + r)) ≡ steps_at p events h (a + n) r
steps_back p events h a n r = ap (drop n) (steps_cut p events h a n r) ∙ drop_at (steps_at p events h a n) (steps_at p events h (a + n) r) n (steps_length p events h a n)

-- ---- one group

pub record IsGroup (p : Params) (events : List Event) (h j : ℕ) (inner last : Delta) (more : List Delta) : Type 0 where
  pub inner_is : inner ≡ between (set_at p events h ((j - 1) * p.k + 1)) (set_at p events (suc h) j)
  pub last_is : last ≡ between (set_at p events (suc h) j) (set_at p events h (j * p.k))
  pub more_is : more ≡ downs_of p events h j

pub group_is : (p : Params) (events : List Event) (h j : ℕ) (g : List Delta) (inner last : Delta) (more : List Delta) → 1 ≤ j → 2 ≤ p.k → g ≡ steps_at p events h ((j - 1) * p.k + 1) (p.k - 1)
    → inner ≡ inward p.function (ways_of g) → more ≡ downs inner (ways_of g) → last ≡ last_way more → IsGroup p events h j inner last more
group_is p events h j g inner last more some two same_g is_inner is_more is_last =
    let t = set_at p events (suc h) j in
    let f = λ (c : ℕ). between t (set_at p events h c) in
    let a : ℕ = (j - 1) * p.k + 1 in
    let ways = ap ways_of same_g ∙ ways_node p events h j some two in
    let inner_is = is_inner ∙ ap (λ (l : List Delta). inward p.function (ways_of l)) same_g ∙ inward_node p events h j some two in
    let more_is = is_more ∙ downs_node p events h j some two inner (ways_of g) inner_is ways in
    let long : p.k ≡ suc (p.k - 1) = omega (arith, two) in
    let end : a + (p.k - 1) ≡ j * p.k = omega (arith, sym (add-mul (j - 1) 1 p.k) ∙ ap (λ n. n * p.k) (let e : j - 1 + 1 ≡ j = omega (arith, some) in e), two) in
    record {
      inner_is = inner_is;
      last_is = is_last ∙ ap last_way (more_is ∙ ap (λ n. map f (numbers a n)) long) ∙ last_numbered f a (p.k - 1) ∙ ap f end;
      more_is = more_is;
    }

-- ---- the node behind another

-- the step to its first child, those behind it, and those between its children
record NextGroup (p : Params) (events : List Event) (h j more : ℕ) (step : Delta) (rest : List Delta) : Type 0 where
  pub step_is : step ≡ between (set_at p events h (j * p.k)) (set_at p events h (j * p.k + 1))
  pub rest_are : rest ≡ steps_at p events h (j * p.k + 1) (p.k - 1 + (more - 1) * p.k)
  pub group_are : take (p.k - 1) rest ≡ steps_at p events h ((j + 1 - 1) * p.k + 1) (p.k - 1)

-- the number of its first child
first_child : (j k : ℕ) → j * k + 1 ≡ (j + 1 - 1) * k + 1
first_child j k = ap (λ n. n * k + 1) (let e : j ≡ j + 1 - 1 = omega arith in e)

next_group : (p : Params) (events : List Event) (h j more : ℕ) (last step : Delta) (row rest : List Delta) → 2 ≤ p.k → 1 ≤ more → IsBehind p events h j more last row → row ≡ step ∷ rest → NextGroup p events h j more step rest
next_group p events h j more last step row rest two some so row_is =
    let c : ℕ = j * p.k in
    let m : ℕ = p.k - 1 + (more - 1) * p.k in
    let all : more * p.k ≡ suc m = omega (arith, sym (add-mul (more - 1) 1 p.k) ∙ ap (λ n. n * p.k) (let e : more - 1 + 1 ≡ more = omega (arith, some) in e), two) in
    let whole : step ∷ rest ≡ step_of p events h c ∷ steps_at p events h (c + 1) m = sym row_is ∙ so.row_is ∙ ap (steps_at p events h c) all in
    let rest_are : rest ≡ steps_at p events h (c + 1) m = ap (λ (l : List Delta). drop 1 l) whole in
    record {
      step_is = ap (λ (l : List Delta). get_or l 0 step) whole;
      rest_are = rest_are;
      group_are = ap (take (p.k - 1)) rest_are ∙ steps_front p events h (c + 1) (p.k - 1) ((more - 1) * p.k) ∙ ap (λ n. steps_at p events h n (p.k - 1)) (first_child j p.k);
    }

pub next_is : (p : Params) (events : List Event) (h j more : ℕ) (last step : Delta) (row rest row2 : List Delta) (inner link last2 : Delta) (made : List Delta) (old new : Segment) → 2 ≤ p.k → 1 ≤ more
    → IsBehind p events h j more last row → row ≡ step ∷ rest → row2 ≡ drop (p.k - 1) rest
    → inner ≡ inward p.function (ways_of (take (p.k - 1) rest)) → link ≡ chained (chained last step) inner → made ≡ downs inner (ways_of (take (p.k - 1) rest)) → last2 ≡ last_way made
    → new ≡ record old { deltas = old.deltas ++ map stored_delta made } → IsNextNode p events h j more link last2 row2 old new
next_is p events h j more last step row rest row2 inner link last2 made old new two some so row_is row2_is inner_is link_is made_is last_is new_is =
    let s = set_at p events h in
    let t = set_at p events (suc h) in
    let c : ℕ = j * p.k in
    let n = next_group p events h j more last step row rest two some so row_is in
    let r = group_is p events h (j + 1) (take (p.k - 1) rest) inner last2 made (omega arith) two n.group_are inner_is made_is last_is in
    let inner_here : inner ≡ between (s (c + 1)) (t (j + 1)) = r.inner_is ∙ ap (λ n. between (s n) (t (j + 1))) (sym (first_child j p.k)) in
    record {
      step_is = link_is ∙ (λ i. chained (chained (so.last_is i) (n.step_is i)) (inner_here i)) ∙ step_up p events h j c (c + 1);
      adds = ap (λ (x : Segment). x.deltas) new_is ∙ ap (λ (l : List Delta). old.deltas ++ map stored_delta l) r.more_is;
      behind = record {
        last_is = r.last_is;
        row_is = row2_is ∙ ap (drop (p.k - 1)) n.rest_are ∙ steps_back p events h (c + 1) (p.k - 1) ((more - 1) * p.k)
            ∙ ap (λ n. steps_at p events h n ((more - 1) * p.k)) (let e : c + 1 + (p.k - 1) ≡ (j + 1) * p.k = omega (arith, two, add-mul j 1 p.k) in e);
      };
    }

-- the deltas to its children
pub next_made : (p : Params) (events : List Event) (h j more : ℕ) (last step : Delta) (row rest : List Delta) (inner : Delta) (made : List Delta) → 2 ≤ p.k → 1 ≤ more
    → IsBehind p events h j more last row → row ≡ step ∷ rest → inner ≡ inward p.function (ways_of (take (p.k - 1) rest)) → made ≡ downs inner (ways_of (take (p.k - 1) rest)) → made ≡ downs_of p events h (j + 1)
next_made p events h j more last step row rest inner made two some so row_is inner_is made_is =
    (group_is p events h (j + 1) (take (p.k - 1) rest) inner (last_way made) made (omega arith) two (next_group p events h j more last step row rest two some so row_is).group_are inner_is made_is refl).more_is

-- of any input, the row without the steps of a node, and as many deltas as a node has children
pub rest_is : (k : ℕ) (step : Delta) (row rest row2 : List Delta) → 2 ≤ k → row ≡ step ∷ rest → row2 ≡ drop (k - 1) rest → row2 ≡ drop k row
rest_is k step row rest row2 two row_is row2_is =
    row2_is ∙ ap (λ n. drop n (step ∷ rest)) (let e : suc (k - 1) ≡ k = omega (arith, two) in e) ∙ ap (drop k) (sym row_is)

pub made_length : (k : ℕ) (row made : List Delta) (inner : Delta) → 2 ≤ k → k - 1 ≤ length row → made ≡ downs inner (ways_of (take (k - 1) row)) → length made ≡ k
made_length k row made inner two long is =
    omega (arith, two, ap (λ (l : List Delta). length l) is, downs_length inner (ways_of (take (k - 1) row)), ways_length (take (k - 1) row), length-take-le (k - 1) row long)

-- ---- node after node

-- how much of the row is left, and how many deltas may be added
pub so_many : (k more i : ℕ) → i < more → i * k + k ≤ more * k
so_many k more i lt = omega (arith, mul-le-mul_right k (let e : i + 1 ≤ more = omega (arith, lt) in e), add-mul i 1 k)

pub row_left : (k more i row : ℕ) → i < more → row ≡ (more - i) * k → k ≤ row
row_left k more i row lt is = omega (arith, is, mul-le-mul_right k (let e : 1 ≤ more - i = omega (arith, lt) in e))

pub row_after : (k more i next : ℕ) (row row2 : List Delta) → i < more → next ≡ i + 1 → length row ≡ (more - i) * k → row2 ≡ drop k row → length row2 ≡ (more - next) * k
row_after k more i next row row2 lt next_is long is =
    let split : (more - i) * k ≡ (more - next) * k + 1 * k = ap (λ n. n * k) (let e : more - i ≡ more - next + 1 = omega (arith, lt, next_is) in e) ∙ add-mul (more - next) 1 k in
    omega (arith, ap (λ (l : List Delta). length l) is, length-drop k row, long, split)

-- behind the first node of so many
pub row_behind : (k count : ℕ) (row row2 : List Delta) → 2 ≤ k → 1 ≤ count → length row + 1 ≡ count * k → row2 ≡ drop (k - 1) row → length row2 ≡ (count - 1) * k
row_behind k count row row2 two some long is =
    let split : count * k ≡ (count - 1) * k + 1 * k = ap (λ n. n * k) (let e : count ≡ count - 1 + 1 = omega (arith, some) in e) ∙ add-mul (count - 1) 1 k in
    omega (arith, two, ap (λ (l : List Delta). length l) is, length-drop (k - 1) row, long, split)

-- so many of the nodes are made
pub record NodesSoFar (p : Params) (events : List Event) (h j more i : ℕ) (steps : List Delta) (last : Delta) (row : List Delta) (old now : Segment) : Type 0 where
  pub behind : IsBehind p events h (j + i) (more - i) last row
  pub made : AreMade p events h j i steps old now

pub nodes_first : (p : Params) (events : List Event) (h j more : ℕ) (steps : List Delta) (last : Delta) (row : List Delta) (old : Segment) → steps ≡ [] → IsBehind p events h j more last row → NodesSoFar p events h j more 0 steps last row old old
nodes_first p events h j more steps last row old none so = record {
  behind = record {
    last_is = so.last_is ∙ ap (λ n. between (set_at p events (suc h) n) (set_at p events h (n * p.k))) (let e : j ≡ j + 0 = omega arith in e);
    row_is = so.row_is ∙ (λ i. steps_at p events h (same i * p.k) (all i * p.k));
  };
  made = record { steps_are = none; adds = sym (append-nil old.deltas) };
}
  where
    same : j ≡ j + 0
    same = omega arith

    all : more ≡ more - 0
    all = omega arith

pub nodes_more : (p : Params) (events : List Event) (h j more i : ℕ) (steps : List Delta) (last : Delta) (row : List Delta) (old now : Segment) (link last2 : Delta) (row2 steps2 : List Delta) (new : Segment)
    → NodesSoFar p events h j more i steps last row old now → IsNextNode p events h (j + i) (more - i) link last2 row2 now new → steps2 ≡ steps ++ link ∷ [] → NodesSoFar p events h j more (i + 1) steps2 last2 row2 old new
nodes_more p events h j more i steps last row old now link last2 row2 steps2 new so next steps2_is =
    let before : List Delta = flat_map (downs_of p events h) (numbers (j + 1) i) in
    record {
      behind = record {
        last_is = next.behind.last_is ∙ ap (λ n. between (set_at p events (suc h) n) (set_at p events h (n * p.k))) on;
        row_is = next.behind.row_is ∙ (λ x. steps_at p events h (on x * p.k) (left x * p.k));
      };
      made = record {
        steps_are = steps2_is ∙ (λ x. so.made.steps_are x ++ next.step_is x ∷ []) ∙ sym (steps_cut p events (suc h) j i 1);
        adds = next.adds ∙ (λ x. so.made.adds x ++ map stored_delta (downs_of p events h (there x)))
            ∙ append_assoc old.deltas (map stored_delta before) (map stored_delta (downs_of p events h (j + 1 + i)))
            ∙ ap (λ (l : List Stored). old.deltas ++ l) (sym (map-append stored_delta before (downs_of p events h (j + 1 + i))))
            ∙ ap (λ (l : List Delta). old.deltas ++ map stored_delta (before ++ l)) (sym (append-nil (downs_of p events h (j + 1 + i))))
            ∙ ap (λ (l : List Delta). old.deltas ++ map stored_delta l) (sym (flat_map-append (downs_of p events h) (numbers (j + 1) i) (numbers (j + 1 + i) 1)))
            ∙ ap (λ (l : List ℕ). old.deltas ++ map stored_delta (flat_map (downs_of p events h) l)) (sym (numbers_append (j + 1) i 1));
      };
    }
  where
    on : j + i + 1 ≡ j + (i + 1)
    on = omega arith

    left : more - i - 1 ≡ more - (i + 1)
    left = omega arith

    there : j + i + 1 ≡ j + 1 + i
    there = omega arith

-- ---- the first node, and those behind it

module _ (p : Params) (events : List Event) (h b count : ℕ) (row : List Delta) (two : 2 ≤ p.k) (some : 1 ≤ count) (is : row ≡ steps_at p events h (b * p.k + 1) (count * p.k - 1)) where
  all : count * p.k - 1 ≡ p.k - 1 + (count - 1) * p.k
  all = omega (arith, sym (add-mul (count - 1) 1 p.k) ∙ ap (λ n. n * p.k) (let e : count - 1 + 1 ≡ count = omega (arith, some) in e), two)

  -- the node is made
  pub first_group : (inner last : Delta) (made : List Delta) → inner ≡ inward p.function (ways_of (take (p.k - 1) row)) → made ≡ downs inner (ways_of (take (p.k - 1) row)) → last ≡ last_way made → IsGroup p events h (b + 1) inner last made
  first_group inner last made inner_is made_is last_is =
      let g_is : take (p.k - 1) row ≡ steps_at p events h ((b + 1 - 1) * p.k + 1) (p.k - 1) = ap (take (p.k - 1)) (is ∙ ap (steps_at p events h (b * p.k + 1)) all) ∙ steps_front p events h (b * p.k + 1) (p.k - 1) ((count - 1) * p.k) ∙ ap (λ n. steps_at p events h n (p.k - 1)) (first_child b p.k) in
      group_is p events h (b + 1) (take (p.k - 1) row) inner last made (omega arith) two g_is inner_is made_is last_is

  pub downs_there : (inner : Delta) (made : List Delta) → inner ≡ inward p.function (ways_of (take (p.k - 1) row)) → made ≡ downs inner (ways_of (take (p.k - 1) row)) → made ≡ downs_of p events h (b + 1)
  downs_there inner made inner_is made_is = (first_group inner (last_way made) made inner_is made_is refl).more_is

  pub inner_there : (inner : Delta) → inner ≡ inward p.function (ways_of (take (p.k - 1) row)) → inner ≡ between (set_at p events h (b * p.k + 1)) (set_at p events (suc h) (b + 1))
  inner_there inner inner_is =
      (first_group inner (last_way (downs inner (ways_of (take (p.k - 1) row)))) (downs inner (ways_of (take (p.k - 1) row))) inner_is refl refl).inner_is ∙ ap (λ n. between (set_at p events h n) (set_at p events (suc h) (b + 1))) (sym (first_child b p.k))

  -- and the rest of the row is behind it
  pub first_behind : (inner last : Delta) (made row2 : List Delta) → inner ≡ inward p.function (ways_of (take (p.k - 1) row)) → made ≡ downs inner (ways_of (take (p.k - 1) row)) → last ≡ last_way made → row2 ≡ drop (p.k - 1) row
      → IsBehind p events h (b + 1) (count - 1) last row2
  first_behind inner last made row2 inner_is made_is last_is row2_is =
      record {
        last_is = (first_group inner last made inner_is made_is last_is).last_is;
        row_is = row2_is ∙ ap (drop (p.k - 1)) (is ∙ ap (steps_at p events h (b * p.k + 1)) all) ∙ steps_back p events h (b * p.k + 1) (p.k - 1) ((count - 1) * p.k)
            ∙ ap (λ n. steps_at p events h n ((count - 1) * p.k)) (let e : b * p.k + 1 + (p.k - 1) ≡ (b + 1) * p.k = omega (arith, two, add-mul b 1 p.k) in e);
      }
