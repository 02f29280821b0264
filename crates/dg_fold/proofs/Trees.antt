-- Steps of a tree, and the paths that go on by them.
use Rattle.std.proofs.Common.{◌≡◌, ◌⊎◌, inl, inr, List, [], ◌∷◌, ◌++◌, length, refl, sym, subst, arith}
use Rattle.std.proofs.lemmas.List.{append-nil, append_assoc}
use Rattle.dg_history.specs.declared.node.NodeId.{NodeId}
use Rattle.dg_fold.specs.declared.tree_step.Stepped.{Stepped}
use Rattle.dg_fold.specs.TreeSteps.{IsAmongSteps, AreIn, Walks, Path, Goes_on}

-- a path goes on along a walk
pub path_on : (all seg : List Stepped) (u w : NodeId) (walk : List Stepped) → Path all u walk → Walks u seg w → AreIn seg all → Path all w (walk ++ seg)
path_on all [] u w walk p on among =
    subst (λ l. Path all w l) (sym (append-nil walk)) (subst (λ n. Path all n walk) on p)
path_on all (s ∷ seg) u w walk p on among =
    let next = Goes_on s walk (among s (inl refl)) (subst (λ n. Path all n walk) (sym on.0) p) in
    subst (λ l. Path all w l) (append_assoc walk (s ∷ []) seg)
    (path_on all seg s.edge.to w (walk ++ s ∷ []) next on.1 (λ t h. among t (inr h)))

pub behind : (xs ys : List Stepped) → AreIn ys (xs ++ ys)
behind [] ys s h = h
behind (x ∷ xs) ys s h = inr (behind xs ys s h)

pub either : (xs ys : List Stepped) (s : Stepped) → IsAmongSteps s (xs ++ ys) → IsAmongSteps s xs ⊎ IsAmongSteps s ys
either [] ys s h = inr h
either (x ∷ xs) ys s (inl is) = inl (inl is)
either (x ∷ xs) ys s (inr h) = by (either xs ys s h)
  where
    by : IsAmongSteps s xs ⊎ IsAmongSteps s ys → IsAmongSteps s (x ∷ xs) ⊎ IsAmongSteps s ys
    by (inl a) = inl (inr a)
    by (inr b) = inr b

pub none_left : (xs : List Stepped) → length xs ≡ 0 → xs ≡ []
none_left [] e = refl
none_left (x ∷ xs) e = absurd (omega arith)
