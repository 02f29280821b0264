-- The plan of a small history.
use Rattle.std.proofs.Common.{◌≡◌, ℕ, List as ListOf, [], ◌∷◌, refl, true, map, lit<}
use Rattle.std.proofs.lemmas.List.Elements.{All-from_recursion}
use Rattle.dg_plan.specs.declared.edge.Edge.{Edge}
use Rattle.dg_path.specs.declared.search.Link.{Link}
use Rattle.dg_path.specs.declared.search.Cost.{Cost as Label}
use Rattle.dg_plan.specs.Walks.{IsBest, IsPlan, renamed}
use Rattle.dg_path.specs.Search.{arcs}
use Rattle.dg_path.proofs.SearchPlans.{is_table, first_is_best}
use Rattle.dg_plan.specs.IndexGraph.{edges_of, arcs_of}
use Rattle.dg_planner.specs.Order.{node_index_of}
use Rattle.dg_plan.proofs.GraphRows.{p}

abbrev links : ListOf Link
links = map (λ (e : Edge). record { tail = node_index_of p e.from; head = node_index_of p e.to; weight = e.weight }) (edges_of p)

abbrev cost : ℕ → ℕ → Label
cost weight edges = record { weight = weight; edges = edges }

-- root, now, recent, leaf 1, leaf 2, list 0, list 1, inner 1 1
abbrev costs : ListOf Label
costs = cost 0 0 ∷ cost 0 1 ∷ cost 0 2 ∷ cost 26 2 ∷ cost 0 3 ∷ cost 42 1 ∷ cost 40 4 ∷ cost 26 1 ∷ []

table_shown : is_table links costs ≡ true
table_shown = refl

named : arcs links ≡ renamed (node_index_of p) (arcs_of (edges_of p))
named = refl

best_1 : IsBest (arcs links) (0 ∷ []) 1
best_1 = first_is_best links costs refl 7 1 (record { tail = 0; head = 7; weight = 26 }) refl refl refl (lit< tt)

best_9 : IsBest (arcs links) (0 ∷ []) 9
best_9 = first_is_best links costs refl 3 9 (record { tail = 7; head = 3; weight = 0 }) refl refl refl (lit< tt)

plan_of_leaf_1 : IsPlan (arcs links) (0 ∷ []) 3 (1 ∷ 9 ∷ [])
plan_of_leaf_1 = record {
  walk = (0, (0, lit< tt, refl), (record { from = 0; to = 7; weight = 26 }, refl, refl, (record { from = 7; to = 3; weight = 0 }, refl, refl, refl)));
  best = All-from_recursion (IsBest (arcs links) (0 ∷ [])) (1 ∷ 9 ∷ []) (best_1, (best_9, tt));
}
