-- From the nodes of one height to those above it, by exact deltas alone.
use Rattle.std.proofs.Common.{◌≡◌, ℕ, zero, suc, ◌+◌, ◌-◌, ◌*◌, ◌≤◌, List, [], ◌∷◌, map, take, refl, sym, ap, ◌∙◌, arith}
use Rattle.dg_graph.specs.declared.element.Element.{Element}
use Rattle.dg_graph.specs.declared.event.Event.{Event}
use Rattle.dg_history.specs.declared.node.Key.TheVariants as key
use Rattle.dg_history.specs.declared.params.Params.{Params}
use Rattle.dg_graph.specs.Composition.{Delta, between, chained}
use Rattle.dg_graph.specs.Elements.{IsSet}
use Rattle.dg_graph.proofs.ExactEvents.{IsSet-replay_from}
use Rattle.dg_index.specs.Hierarchy.{numbers, children, set_at}
use Rattle.dg_graph.specs.DifferentialFunction.{combined, inward}
use Rattle.dg_index.specs.IndexRecords.{Exact, record_among}
use Rattle.dg_index.specs.ExactSteps.{ways_of, downs, steps_at}
use Rattle.dg_graph.proofs.DifferentialFunctionDeltas.{AreSets, IsSet-combined, chained_between, inward_is, to_all}
use Rattle.dg_index.proofs.ExactSteps.{steps_between, ways_are, downs_are}
use Rattle.dg_index.proofs.HierarchyStability.{map_numbers}
use Rattle.dg_index.proofs.IndexRecordColumns.{parent_is}

-- ---- the sets of nodes are sets

sets_of : (f : ℕ → List Element) (ns : List ℕ) → ((n : ℕ) → IsSet (f n)) → AreSets (map f ns)
sets_of f [] is = tt
sets_of f (n ∷ ns) is = (is n, sets_of f ns is)

pub IsSet-node : (p : Params) (events : List Event) (h j : ℕ) → IsSet (set_at p events h j)
IsSet-node p events zero j = IsSet-replay_from (take (j * p.l) events) [] tt
IsSet-node p events (suc h) j = IsSet-combined p.function (map (set_at p events h) (children p.k j)) (sets_of (set_at p events h) (children p.k j) (λ n. IsSet-node p events h n))

-- ---- one node and its children

chain_of : (f : ℕ → List Element) (a n : ℕ) → map (λ c. between (f c) (f (c + 1))) (numbers a n) ≡ steps_between (f a) (map f (numbers (a + 1) n))
chain_of f a zero = refl
chain_of f a (suc n) = ap (λ (l : List Delta). between (f a) (f (a + 1)) ∷ l) (chain_of f (a + 1) n)

ways_all : (s : List Element) (rest : List (List Element)) → IsSet s → AreSets rest → ways_of (steps_between s rest) ≡ to_all s rest
ways_all s [] is all = refl
ways_all s (t ∷ ts) is all = ap (λ (l : List Delta). between s t ∷ l) (ways_are s t ts is all)

module _ (p : Params) (events : List Event) (h j : ℕ) (some : 1 ≤ j) (two : 2 ≤ p.k) where
  -- the number of its first child
  first_child : ℕ
  first_child = (j - 1) * p.k + 1

  -- from its first child to each other one
  pub ways_node : ways_of (steps_at p events h ((j - 1) * p.k + 1) (p.k - 1)) ≡ to_all (set_at p events h ((j - 1) * p.k + 1)) (map (set_at p events h) (numbers ((j - 1) * p.k + 1 + 1) (p.k - 1)))
  ways_node =
      let f = set_at p events h in
      let a : ℕ = (j - 1) * p.k + 1 in
      ap ways_of (chain_of f a (p.k - 1)) ∙ ways_all (f a) (map f (numbers (a + 1) (p.k - 1))) (IsSet-node p events h a) (sets_of f (numbers (a + 1) (p.k - 1)) (λ n. IsSet-node p events h n))

  children_are : map (set_at p events h) (children p.k j) ≡ set_at p events h ((j - 1) * p.k + 1) ∷ map (set_at p events h) (numbers ((j - 1) * p.k + 1 + 1) (p.k - 1))
  children_are = ap (λ n. map (set_at p events h) (numbers ((j - 1) * p.k + 1) n)) (let e : p.k ≡ suc (p.k - 1) = omega (arith, two) in e)

  -- from its first child to it
  pub inward_node : inward p.function (ways_of (steps_at p events h ((j - 1) * p.k + 1) (p.k - 1))) ≡ between (set_at p events h ((j - 1) * p.k + 1)) (set_at p events (suc h) j)
  inward_node =
      let f = set_at p events h in
      let a : ℕ = (j - 1) * p.k + 1 in
      let split : numbers (a + 1) (p.k - 1) ≡ (a + 1) ∷ numbers (a + 1 + 1) (p.k - 2) = ap (numbers (a + 1)) (let e : p.k - 1 ≡ suc (p.k - 2) = omega (arith, two) in e) in
      let ts : List (List Element) = map f (numbers (a + 1 + 1) (p.k - 2)) in
      ap (inward p.function) (ways_node ∙ ap (λ (l : List ℕ). to_all (f a) (map f l)) split)
      ∙ inward_is p.function (f a) (f (a + 1)) ts (IsSet-node p events h a) (IsSet-node p events h (a + 1), sets_of f (numbers (a + 1 + 1) (p.k - 2)) (λ n. IsSet-node p events h n))
      ∙ ap (λ (l : List (List Element)). between (f a) (combined p.function l)) (ap (λ (l : List ℕ). f a ∷ map f l) (sym split) ∙ sym children_are)

  -- from it to its children
  pub downs_node : (inner : Delta) (ways : List Delta) → inner ≡ between (set_at p events h ((j - 1) * p.k + 1)) (set_at p events (suc h) j)
      → ways ≡ to_all (set_at p events h ((j - 1) * p.k + 1)) (map (set_at p events h) (numbers ((j - 1) * p.k + 1 + 1) (p.k - 1)))
      → downs inner ways ≡ map (λ c. between (set_at p events (suc h) j) (set_at p events h c)) (children p.k j)
  downs_node inner ways inner_is ways_are =
      let f = set_at p events h in
      let a : ℕ = (j - 1) * p.k + 1 in
      let c = set_at p events (suc h) j in
      (λ i. downs (inner_is i) (ways_are i))
      ∙ downs_are c (f a) (map f (numbers (a + 1) (p.k - 1))) (IsSet-node p events (suc h) j) (IsSet-node p events h a) (sets_of f (numbers (a + 1) (p.k - 1)) (λ n. IsSet-node p events h n))
      ∙ ap (map (λ r. between c r)) (sym children_are) ∙ twice (children p.k j)
    where
      twice : (ns : List ℕ) → map (λ r. between (set_at p events (suc h) j) r) (map (set_at p events h) ns) ≡ map (λ c. between (set_at p events (suc h) j) (set_at p events h c)) ns
      twice [] = refl
      twice (n ∷ ns) = ap (λ (l : List Delta). between (set_at p events (suc h) j) (set_at p events h n) ∷ l) (twice ns)

  -- these are the records of its downs
  pub downs_records : map (λ c. Exact (between (set_at p events (suc h) j) (set_at p events h c))) (children p.k j) ≡ map (λ c. record_among p events [] (key.Down (suc h) c)) (children p.k j)
  downs_records =
      map_numbers (λ c. Exact (between (set_at p events (suc h) j) (set_at p events h c))) (λ c. record_among p events [] (key.Down (suc h) c)) ((j - 1) * p.k + 1) p.k
      (λ c from to. λ i. Exact (between (set_at p events (suc h) (sym (parent_is p.k j c (omega (arith, two)) some from to) i)) (set_at p events (let e : h ≡ suc h - 1 = omega arith in e i) c)))

-- from one node to the next of its height, by the last child of the one and the first of the other
pub step_up : (p : Params) (events : List Event) (h j a b : ℕ)
    → chained (chained (between (set_at p events (suc h) j) (set_at p events h a)) (between (set_at p events h a) (set_at p events h b))) (between (set_at p events h b) (set_at p events (suc h) (j + 1)))
    ≡ between (set_at p events (suc h) j) (set_at p events (suc h) (j + 1))
step_up p events h j a b =
    let t = IsSet-node p events (suc h) j in
    let u = IsSet-node p events (suc h) (j + 1) in
    let x = IsSet-node p events h a in
    let y = IsSet-node p events h b in
    ap (λ (d : Delta). chained d (between (set_at p events h b) (set_at p events (suc h) (j + 1)))) (chained_between (set_at p events (suc h) j) (set_at p events h a) (set_at p events h b) t x y)
    ∙ chained_between (set_at p events (suc h) j) (set_at p events h b) (set_at p events (suc h) (j + 1)) t y u
