-- The deltas of a height, as they stand in a segment: the top of its first node, and the downs.
use Rattle.std.proofs.Common.{◌≡◌, ℕ, zero, suc, ◌+◌, ◌≤◌, cond, List, [], ◌∷◌, ◌++◌, map, refl, sym, ap, ◌∙◌, arith}
use Rattle.std.specs.List.{flat_map}
use Rattle.std.proofs.lemmas.Bool.{ne_eqb}
use Rattle.std.proofs.lemmas.List.{map-append}
use Rattle.dg_graph.specs.declared.event.Event.{Event}
use Rattle.dg_history.specs.declared.node.Key.{Key}
use Rattle.dg_history.specs.declared.node.Key.TheVariants as key
use Rattle.dg_history.specs.declared.params.Params.{Params}
use Rattle.dg_graph.specs.Composition.{Delta, between}
use Rattle.dg_index.specs.Hierarchy.{numbers, children, set_at}
use Rattle.dg_index.specs.IndexRecords.{Record, Exact, record_among, deltas_of}
use Rattle.dg_index.specs.FileOfHistory.{Stored, stored}
use Rattle.dg_index.proofs.HierarchySteps.{downs_records}
use Rattle.dg_build.specs.InteriorDeltas.{downs_of, stored_delta}

abbrev rec : Params → List Event → Key → Record
rec p all k = record_among p all [] k

exact_map : (p : Params) (all : List Event) (h j : ℕ) (ns : List ℕ) → map (λ (d : Delta). Exact d) (map (λ c. between (set_at p all (suc h) j) (set_at p all h c)) ns) ≡ map (λ c. Exact (between (set_at p all (suc h) j) (set_at p all h c))) ns
exact_map p all h j [] = refl
exact_map p all h j (n ∷ ns) = ap (λ (l : List Record). Exact (between (set_at p all (suc h) j) (set_at p all h n)) ∷ l) (exact_map p all h j ns)

map_twice : (p : Params) (all : List Event) (h : ℕ) (ns : List ℕ) → map (rec p all) (map (λ c. key.Down (suc h) c) ns) ≡ map (λ c. rec p all (key.Down (suc h) c)) ns
map_twice p all h [] = refl
map_twice p all h (n ∷ ns) = ap (λ (l : List Record). rec p all (key.Down (suc h) n) ∷ l) (map_twice p all h ns)

downs_exact : (p : Params) (all : List Event) (h j : ℕ) → 1 ≤ j → 2 ≤ p.k → map (rec p all) (map (λ c. key.Down (suc h) c) (children p.k j)) ≡ map (λ (d : Delta). Exact d) (downs_of p all h j)
downs_exact p all h j some two =
    map_twice p all h (children p.k j) ∙ sym (downs_records p all h j some two) ∙ sym (exact_map p all h j (children p.k j))

-- a node that is not the first of its height
node_later : (p : Params) (all : List Event) (h j : ℕ) → 2 ≤ j → 2 ≤ p.k → map (rec p all) (deltas_of p.k (suc h) j) ≡ map (λ (d : Delta). Exact d) (downs_of p all h j)
node_later p all h j far two =
    ap (λ b. map (rec p all) (cond b (key.Top (suc h) ∷ []) [] ++ map (λ c. key.Down (suc h) c) (children p.k j))) (ne_eqb j 1 (λ e. absurd (omega (arith, e, far)))) ∙ downs_exact p all h j (omega (arith, far)) two

later_row : (p : Params) (all : List Event) (h a n : ℕ) → 2 ≤ a → 2 ≤ p.k → map (rec p all) (flat_map (deltas_of p.k (suc h)) (numbers a n)) ≡ map (λ (d : Delta). Exact d) (flat_map (downs_of p all h) (numbers a n))
later_row p all h a zero far two = refl
later_row p all h a (suc n) far two =
    map-append (rec p all) (deltas_of p.k (suc h) a) (flat_map (deltas_of p.k (suc h)) (numbers (a + 1) n))
    ∙ (λ i. node_later p all h a far two i ++ later_row p all h (a + 1) n (omega (arith, far)) two i)
    ∙ sym (map-append (λ (d : Delta). Exact d) (downs_of p all h a) (flat_map (downs_of p all h) (numbers (a + 1) n)))

-- the first node of a height is among them: its top goes before the downs
pub first_row : (p : Params) (all : List Event) (h n : ℕ) → 2 ≤ p.k → map (rec p all) (flat_map (deltas_of p.k (suc h)) (numbers (0 + 1) (suc n))) ≡ Exact (between [] (set_at p all (suc h) 1)) ∷ map (λ (d : Delta). Exact d) (flat_map (downs_of p all h) (numbers (0 + 1) (suc n)))
first_row p all h n two =
    map-append (rec p all) (deltas_of p.k (suc h) 1) (flat_map (deltas_of p.k (suc h)) (numbers 2 n))
    ∙ (λ i. (Exact (between [] (set_at p all (suc h) 1)) ∷ downs_exact p all h 1 (omega arith) two i) ++ later_row p all h 2 n (omega arith) two i)
    ∙ ap (λ (l : List Record). Exact (between [] (set_at p all (suc h) 1)) ∷ l) (sym (map-append (λ (d : Delta). Exact d) (downs_of p all h 1) (flat_map (downs_of p all h) (numbers 2 n))))

-- or else there are only downs
pub other_row : (p : Params) (all : List Event) (h q n : ℕ) → 1 ≤ q → 2 ≤ p.k → map (rec p all) (flat_map (deltas_of p.k (suc h)) (numbers (q + 1) n)) ≡ map (λ (d : Delta). Exact d) (flat_map (downs_of p all h) (numbers (q + 1) n))
other_row p all h q n some two = later_row p all h (q + 1) n (omega (arith, some)) two

-- ---- as they are written

map_stored : (p : Params) (all : List Event) (keys : List Key) → map stored (map (rec p all) keys) ≡ map (λ k. stored (record_among p all [] k)) keys
map_stored p all [] = refl
map_stored p all (k ∷ keys) = ap (λ (l : List Stored). stored (record_among p all [] k) ∷ l) (map_stored p all keys)

map_exact : (deltas : List Delta) → map stored_delta deltas ≡ map stored (map (λ (d : Delta). Exact d) deltas)
map_exact [] = refl
map_exact (d ∷ deltas) = ap (λ (l : List Stored). stored (Exact d) ∷ l) (map_exact deltas)

pub written : (p : Params) (all : List Event) (keys : List Key) (deltas : List Delta) → map (rec p all) keys ≡ map (λ (d : Delta). Exact d) deltas → map stored_delta deltas ≡ map (λ k. stored (record_among p all [] k)) keys
written p all keys deltas are = map_exact deltas ∙ ap (map stored) (sym are) ∙ map_stored p all keys
