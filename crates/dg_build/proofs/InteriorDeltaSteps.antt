-- The steps of a row: between older nodes, and between the new ones.
use Rattle.std.proofs.Common.{◌≡◌, ℕ, zero, suc, ◌+◌, ◌-◌, ◌*◌, ◌/◌, ◌<◌, ◌≤◌, ◌==◌, false, cond, List, [], ◌∷◌, ◌++◌, length, get_or, map, take, refl, sym, ap, ◌∙◌, arith, add-mul, mul-le-mul_right, div-mul-le_self, div-lt_iff_lt-mul, length-append, length-take-le}
use Rattle.std.proofs.lemmas.Bool.{ne_eqb}
use Rattle.std.proofs.lemmas.List.{map-append}
use Rattle.dg_graph.specs.declared.element.Element.{Element}
use Rattle.dg_graph.specs.declared.event.Event.{Event}
use Rattle.dg_history.specs.declared.params.Params.{Params}
use Rattle.dg_graph.specs.Composition.{Delta, applied, between, chained}
use Rattle.dg_graph.specs.Elements.{IsSet}
use Rattle.dg_graph.proofs.DifferentialFunctionDeltas.{chained_between}
use Rattle.dg_delta.proofs.Deltas.{between_leads_on}
use Rattle.dg_index.specs.Hierarchy.{numbers, set_at}
use Rattle.dg_index.specs.ExactSteps.{steps_at}
use Rattle.dg_index.proofs.HierarchyCounts.{numbers_append}
use Rattle.dg_index.proofs.HierarchySteps.{IsSet-node}
use Rattle.dg_build.proofs.InteriorDeltaGroups.{steps_front}
use Rattle.dg_build.specs.InteriorDeltas.{steps_to, AreNewNodes, AreStepsTo, start_above, top_to, up_by}
use Rattle.dg_build.specs.GivenDeltas.{row_to}

-- ---- how long a row is

pub row_length : (older : List Delta) (up : Delta) → length (row_to older up) ≡ length older
row_length [] up = refl
row_length (step ∷ []) up = refl
row_length (step ∷ next ∷ older) up = ap suc (row_length (next ∷ older) up)

-- q is within a group of k, and the last of a row is among the new nodes
pub record NodeBounds (k q end : ℕ) : Type 0 where
  pub back : q / k * k ≤ q
  pub near : q < q / k * k + k
  pub some : q + 1 ≤ end / k * k
  pub within : end / k * k ≤ end

pub node_bounds : (k q end : ℕ) → 2 ≤ k → q / k < end / k → NodeBounds k q end
node_bounds k q end two due =
    let pos : 0 < k = omega (arith, two) in
    let below : q < (q / k + 1) * k = (div-lt_iff_lt-mul pos).0 (let lt : q / k < q / k + 1 = omega arith in lt) in
    let up : (q / k + 1) * k ≤ end / k * k = mul-le-mul_right k (let le : q / k + 1 ≤ end / k = omega (arith, due) in le) in
    record { back = div-mul-le_self q k; near = omega (arith, below, add-mul (q / k) 1 k); some = omega (arith, below, up); within = div-mul-le_self end k }

pub width : (k q end : ℕ) → 2 ≤ k → q / k < end / k → (end / k - q / k) * k ≡ end / k * k - q / k * k
width k q end two due =
    let e : (end / k - q / k) + q / k ≡ end / k = omega (arith, due) in
    let all : end / k * k ≡ (end / k - q / k) * k + q / k * k = ap (λ n. n * k) (sym e) ∙ add-mul (end / k - q / k) (q / k) k in
    omega (arith, all)

pub row_long : (k q end : ℕ) (older : List Delta) (up : Delta) (steps row : List Delta) → 2 ≤ k → q / k < end / k → length steps + 1 ≡ end - q → length older ≡ q - q / k * k
    → row ≡ row_to older up ++ take (end / k * k - q - 1) steps → length row + 1 ≡ (end / k - q / k) * k
row_long k q end older up steps row two due long many is =
    let pl = node_bounds k q end two due in
    let few : end / k * k - q - 1 ≤ length steps = omega (arith, long, pl.within) in
    omega (arith, ap (λ (l : List Delta). length l) is, length-append (row_to older up) (take (end / k * k - q - 1) steps), row_length older up, many, length-take-le (end / k * k - q - 1) steps few, width k q end two due, pl.back, pl.near, pl.some)

-- the steps within its first group are there
pub first_long : (k q end : ℕ) (older : List Delta) (up : Delta) (steps row : List Delta) → 2 ≤ k → q / k < end / k → length steps + 1 ≡ end - q → length older ≡ q - q / k * k
    → row ≡ row_to older up ++ take (end / k * k - q - 1) steps → k - 1 ≤ length row
first_long k q end older up steps row two due long many is =
    omega (arith, row_long k q end older up steps row two due long many is, mul-le-mul_right k (let e : 1 ≤ end / k - q / k = omega (arith, due) in e))

-- ---- what is in it

first_there : (f : ℕ → List Element) (b n : ℕ) → get_or (map f (numbers b n)) 0 (f (b + n)) ≡ f b
first_there f b zero = ap f (let e : b + 0 ≡ b = omega arith in e)
first_there f b (suc n) = refl

row_there : (f : ℕ → List Element) (a n : ℕ) → steps_to (map f (numbers a n)) (f (a + n)) ≡ map (λ c. between (f c) (f (c + 1))) (numbers a n)
row_there f a zero = refl
row_there f a (suc n) =
    let e : a + suc n ≡ a + 1 + n = omega arith in
    ap (λ b. steps_to (map f (numbers a (suc n))) (f b)) e
    ∙ (λ i. between (f a) (first_there f (a + 1) n i) ∷ row_there f (a + 1) n i)

-- the last step is led on
row_on : (f : ℕ → List Element) (a n : ℕ) (start first : List Element) → ((c : ℕ) → IsSet (f c)) → IsSet start → IsSet first → row_to (steps_to (map f (numbers a n)) start) (between start first) ≡ steps_to (map f (numbers a n)) first
row_on f a zero start first sets is_start is_first = refl
row_on f a (suc zero) start first sets is_start is_first = ap (λ (d : Delta). d ∷ []) (chained_between (f a) start first (sets a) is_start is_first)
row_on f a (suc (suc n)) start first sets is_start is_first = ap (λ (l : List Delta). between (f a) (f (a + 1)) ∷ l) (row_on f (a + 1) (suc n) start first sets is_start is_first)

-- where the next height starts
above_set : (f : ℕ → List Element) (a n : ℕ) (start : List Element) → ((c : ℕ) → IsSet (f c)) → IsSet start → IsSet (get_or (map f (numbers a n)) 0 start)
above_set f a zero start sets is_start = is_start
above_set f a (suc n) start sets is_start = sets a

up_on : (f : ℕ → List Element) (a n b : ℕ) (start node : List Element) → a + n ≡ b → ((c : ℕ) → IsSet (f c)) → IsSet start → IsSet node
    → up_by (steps_to (map f (numbers a n)) start) (between start (f b)) (between (f a) node) ≡ between (get_or (map f (numbers a n)) 0 start) node
up_on f a zero b start node e sets is_start is_node =
    let same : b ≡ a = omega (arith, e) in
    ap (λ c. chained (between start (f c)) (between (f a) node)) same ∙ chained_between start (f a) node is_start (sets a) is_node
up_on f a (suc n) b start node e sets is_start is_node = refl

module _ (p : Params) (events : List Event) (h q end : ℕ) (two : 2 ≤ p.k) (due : q / p.k < end / p.k) (start : List Element) (older : List Delta) (up : Delta) (steps : List Delta)
    (new : AreNewNodes p events h q end start up steps) (old : AreStepsTo p events h q start older) where
  -- behind the first node of the row
  edge : q / p.k * p.k + 1 + (q - q / p.k * p.k) ≡ q + 1
  edge = omega (arith, (node_bounds p.k q end two due).back)

  pub row_is : (row : List Delta) → row ≡ row_to older up ++ take (end / p.k * p.k - q - 1) steps → row ≡ steps_at p events h (q / p.k * p.k + 1) ((end / p.k - q / p.k) * p.k - 1)
  row_is row is =
      let k : ℕ = p.k in
      let f = set_at p events h in
      let g = λ (c : ℕ). between (f c) (f (c + 1)) in
      let a : ℕ = q / k * k + 1 in
      let n : ℕ = q - q / k * k in
      let m : ℕ = end / k * k - q - 1 in
      let pl = node_bounds k q end two due in
      let front : row_to older up ≡ steps_at p events h a n =
      (λ i. row_to (old i) (new.up_is i)) ∙ row_on f a n start (f (q + 1)) (λ c. IsSet-node p events h c) new.start_is (IsSet-node p events h (q + 1)) ∙ ap (λ b. steps_to (map f (numbers a n)) (f b)) (sym edge) ∙ row_there f a n in
      let back : take m steps ≡ steps_at p events h (a + n) m =
      ap (take m) (new.steps_are ∙ ap (steps_at p events h (q + 1)) (let e : end - q - 1 ≡ m + (end - q - 1 - m) = omega (arith, pl.within) in e)) ∙ steps_front p events h (q + 1) m (end - q - 1 - m) ∙ ap (λ b. steps_at p events h b m) (let e : q + 1 ≡ a + n = omega (arith, edge) in e) in
      is ∙ (λ i. front i ++ back i) ∙ sym (map-append g (numbers a n) (numbers (a + n) m)) ∙ ap (map g) (sym (numbers_append a n m))
      ∙ ap (steps_at p events h a) (let e : n + m ≡ (end / k - q / k) * k - 1 = omega (arith, width k q end two due, pl.back, pl.near, pl.some) in e)

  -- where the next height starts
  pub above_is : IsSet (start_above p events h q start)
  above_is = above_set (set_at p events h) (q / p.k * p.k + 1) (q - q / p.k * p.k) start (λ c. IsSet-node p events h c) new.start_is

  -- the delta to the first new node of the next height
  pub up_there : (inner above : Delta) → inner ≡ between (set_at p events h (q / p.k * p.k + 1)) (set_at p events (suc h) (q / p.k + 1)) → above ≡ up_by older up inner
      → above ≡ between (start_above p events h q start) (set_at p events (suc h) (q / p.k + 1))
  up_there inner above inner_is above_is =
      above_is ∙ (λ i. up_by (old i) (new.up_is i) (inner_is i))
      ∙ up_on (set_at p events h) (q / p.k * p.k + 1) (q - q / p.k * p.k) (q + 1) start (set_at p events (suc h) (q / p.k + 1)) edge (λ c. IsSet-node p events h c) new.start_is (IsSet-node p events (suc h) (q / p.k + 1))

  -- the delta from the root to the first node of the next height
  pub top_there : (above : Delta) (base : List Element) → above ≡ between (start_above p events h q start) (set_at p events (suc h) (q / p.k + 1)) → (q / p.k ≡ 0 → base ≡ start_above p events h q start)
      → top_to (q / p.k) (applied above base) ≡ top_to (q / p.k) (set_at p events (suc h) 1)
  top_there above base is base_is = by (q / p.k) is base_is
    where
      by : (b : ℕ) → above ≡ between (start_above p events h q start) (set_at p events (suc h) (b + 1)) → (b ≡ 0 → base ≡ start_above p events h q start) → top_to b (applied above base) ≡ top_to b (set_at p events (suc h) 1)
      by zero is base_is =
          ap (λ (s : List Element). between [] s ∷ []) ((λ i. applied (is i) (base_is refl i)) ∙ between_leads_on (start_above p events h q start) (set_at p events (suc h) 1) above_is (IsSet-node p events (suc h) 1))
      by (suc b) is base_is =
          let no : (suc b == 0) ≡ false = ne_eqb (suc b) 0 (λ z. absurd (omega (arith, z))) in
          ap (λ t. cond t (between [] (applied above base) ∷ []) []) no ∙ ap (λ t. cond t (between [] (set_at p events (suc h) 1) ∷ []) []) (sym no)
