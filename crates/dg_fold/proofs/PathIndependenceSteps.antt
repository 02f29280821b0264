-- A walk by the numbers of edges is a walk of edges.
use Rattle.std.proofs.Common.{◌≡◌, ℕ, zero, suc, List, [], ◌∷◌, ◌++◌, Some, slice_get, refl, sym, ap, subst, ◌∙◌}
use Rattle.std.specs.Option.{option_to_list}
use Rattle.std.specs.List.{All}
use Rattle.std.proofs.lemmas.List.Elements.{All-nil, All-cons, All-head, All-tail}
use Rattle.dg_history.specs.declared.node.NodeId.{NodeId}
use Rattle.dg_plan.specs.declared.edge.Edge.{Edge}
use Rattle.dg_fold.specs.PathIndependence.{IsSoundEdge, IsWalk, StepsAreWalks}
use Rattle.dg_plan.specs.TreePaths.{edges_at}
use Rattle.dg_plan.specs.Walks.{Arc}
use Rattle.dg_plan.specs.IndexGraph.{arc_of, arcs_of}

-- the edge of a number
edge_at : (edges : List Edge) (i : ℕ) (arc : Arc NodeId) → slice_get (arcs_of edges) i ≡ Some arc → (e : Edge) × (slice_get edges i ≡ Some e) × (arc_of e ≡ arc)
edge_at [] i arc h = absurd cc
edge_at (e ∷ edges) zero arc h = (e, refl, cc)
edge_at (e ∷ edges) (suc i) arc h = edge_at edges i arc h

has_fact : (P : Edge → Type 0) (edges : List Edge) (i : ℕ) (e : Edge) → All P edges → slice_get edges i ≡ Some e → P e
has_fact P [] i e h is = absurd cc
has_fact P (f ∷ edges) zero e h is = (let same : f ≡ e = cc in subst P same (All-head P f edges h))
has_fact P (f ∷ edges) (suc i) e h is = has_fact P edges i e (All-tail P f edges h) is

pub steps_are_walks : StepsAreWalks
steps_are_walks edges [] a b w = (w, λ x h. All-nil (IsSoundEdge x))
steps_are_walks edges (i ∷ steps) a b w =
    let at = edge_at edges i w.0 w.1 in
    let rest = steps_are_walks edges steps w.0.to b w.3 in
    let from : at.0.from ≡ a = ap (λ (x : Arc NodeId). x.from) at.2 ∙ w.2 in
    let on : IsWalk at.0.to (edges_at edges steps) b = subst (λ n. IsWalk n (edges_at edges steps) b) (sym (ap (λ (x : Arc NodeId). x.to) at.2)) rest.0 in (
      subst (λ o. IsWalk a (option_to_list o ++ edges_at edges steps) b) (sym at.1) (from, on),
      λ x h.
          subst (λ o. All (IsSoundEdge x) (option_to_list o ++ edges_at edges steps)) (sym at.1)
          (All-cons (IsSoundEdge x) at.0 (edges_at edges steps) (has_fact (IsSoundEdge x) edges i at.0 h at.1) (rest.1 x h)),
    )
