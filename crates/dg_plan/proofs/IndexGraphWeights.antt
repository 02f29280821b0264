-- The edges depend on the weights of the records that are due, and on no others.
use Rattle.std.proofs.Common.{◌≡◌, ℕ, suc, ◌+◌, ◌-◌, ◌*◌, ◌<◌, Bool, cond, List as ListOf, [], ◌∷◌, ◌++◌, map, refl, ap, arith}
use Rattle.std.specs.List.{flat_map, Contains}
use Rattle.dg_history.specs.declared.node.NodeId.{NodeId}
use Rattle.dg_history.specs.declared.node.NodeId.TheVariants.{Root, Now, List, Inner}
use Rattle.dg_history.specs.declared.node.Key.{Key}
use Rattle.dg_history.specs.declared.node.Key.TheVariants as key
use Rattle.dg_plan.specs.declared.edge.Via.TheVariants as via
use Rattle.dg_plan.specs.declared.edge.Way.TheVariants.{Same, Forward, Back}
use Rattle.dg_index.specs.Hierarchy.{numbers}
use Rattle.dg_index.specs.IndexRecords.{heights}
use Rattle.dg_plan.specs.IndexGraph.{leaf, level_node, edge, inners_at, kept, base_edge, top_edge, list_edges, child_edges, inner_edges, level_edges, recent_edges, edges_of}
use Rattle.dg_plan.proofs.EnteredRecordTrees.{number_of}

later : {X : Type 0} (y x : X) (xs : ListOf X) → Contains xs x → Contains (y ∷ xs) x
later y x xs c = (suc c.0, (let h = c.1 in omega arith), c.2)

same_flat : {X A : Type 0} (f k : X → ListOf A) (xs : ListOf X) → ((x : X) → Contains xs x → f x ≡ k x) → flat_map f xs ≡ flat_map k xs
same_flat f k [] each = refl
same_flat f k (x ∷ xs) each = λ i. each x (0, omega arith, refl) i ++ same_flat f k xs (λ y c. each y (later x y xs c)) i

same_map : {X A : Type 0} (f k : X → A) (xs : ListOf X) → ((x : X) → Contains xs x → f x ≡ k x) → map f xs ≡ map k xs
same_map f k [] each = refl
same_map f k (x ∷ xs) each = λ i. each x (0, omega arith, refl) i ∷ same_map f k xs (λ y c. each y (later x y xs c)) i

pub same_edges : (leaves arity : ℕ) (bases : ListOf (ℕ × NodeId)) (memory : Bool) (v w : Key → ℕ)
    → ((i : ℕ) → i < leaves → v (key.List i) ≡ w (key.List i))
    → ((h : ℕ) → Contains (heights arity leaves) h → v (key.Top h) ≡ w (key.Top h))
    → ((h j c : ℕ) → Contains (heights arity leaves) h → Contains (numbers 1 (inners_at leaves arity h)) j → Contains (numbers ((j - 1) * arity + 1) arity) c → v (key.Down (h - 1 + 1) c) ≡ w (key.Down (h - 1 + 1) c))
    → edges_of (record { leaves = leaves; arity = arity; bases = bases; memory = memory; weight = v }) ≡ edges_of (record { leaves = leaves; arity = arity; bases = bases; memory = memory; weight = w })
same_edges leaves arity bases memory v w lists tops downs = λ i. kept
    ((cond memory (edge Root Now 0 via.Now ∷ []) [] ++ (map base_edge bases ++ same_tops i)) ++ (same_lists i ++ (same_levels i ++ cond memory (recent_edges leaves) [])))
  where
    same_tops : map (top_edge v) (heights arity leaves) ≡ map (top_edge w) (heights arity leaves)
    same_tops = same_map (top_edge v) (top_edge w) (heights arity leaves) (λ h c. ap (λ x. edge Root (Inner h 1) x (via.Paid (key.Top h) Forward)) (tops h c))

    same_lists : flat_map (list_edges v) (numbers 0 leaves) ≡ flat_map (list_edges w) (numbers 0 leaves)
    same_lists = same_flat (list_edges v) (list_edges w) (numbers 0 leaves) (λ i c.
        ap (λ x. edge (leaf i) (List i) x (via.Paid (key.List i) Same) ∷ edge (leaf (suc i)) (List i) x (via.Paid (key.List i) Back) ∷ edge (List i) (leaf i) 0 (via.Held (key.List i) Same) ∷ edge (List i) (leaf (suc i)) 0 (via.Held (key.List i) Forward) ∷ [])
        (lists i (let r = number_of 0 leaves i c in let a = r.1 in let b = r.2 in omega arith)))

    same_levels : flat_map (level_edges v leaves arity) (heights arity leaves) ≡ flat_map (level_edges w leaves arity) (heights arity leaves)
    same_levels = same_flat (level_edges v leaves arity) (level_edges w leaves arity) (heights arity leaves) (λ h hc.
        same_flat (inner_edges v arity (h - 1)) (inner_edges w arity (h - 1)) (numbers 1 (inners_at leaves arity h)) (λ j jc.
        same_flat (child_edges v (h - 1) j) (child_edges w (h - 1) j) (numbers ((j - 1) * arity + 1) arity) (λ c cc'.
        ap (λ x. edge (Inner (h - 1 + 1) j) (level_node (h - 1) c) x (via.Paid (key.Down (h - 1 + 1) c) Forward) ∷ edge (level_node (h - 1) c) (Inner (h - 1 + 1) j) x (via.Paid (key.Down (h - 1 + 1) c) Back) ∷ [])
        (downs h j c hc jc cc'))))
