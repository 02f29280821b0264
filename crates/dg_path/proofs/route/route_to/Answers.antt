use Rattle.std.proofs.Common.{◌≡◌, ℕ, ◌<◌, [], ◌∷◌, length, min, refl, sym, ap, ◌∙◌, arith}
use Rattle.std.specs.Prelude.{slice_index, slice_index_or}
use Rattle.std.proofs.lemmas.List.{get_or_default, get_or-map}
use Rattle.dg_path.specs.declared.search.Cost.{Cost as Label}
use Rattle.dg_path.specs.declared.search.TheConstants.{UNREACHED}
use Rattle.dg_plan.specs.Walks.{Cost, IsLeast}
use Rattle.dg_path.specs.Search.{arcs, label_at, cost_at}
use Rattle.dg_path.proofs.SearchTables.{least_at, weight_is, potential_is, certificate_is}
use Rattle.dg_plan.proofs.WalkLeastCosts.{plan_is_least}
use Rattle.dg_path.proofs.route.route_to.Goals as goal

pub returns-clause-plan : goal.returns-clause-plan
returns-clause-plan c = c.in_ok-steps.ensures.plan _ c.requires.table

same : (c : goal.In_ok-potentials) → (slice_index_or c.args.costs.now c.args.target (record { weight = 0; edges = 0 })).weight ≡ (label_at c.args.costs.now c.args.target).weight
same c = ap (λ (l : Label). l.weight) (get_or_default c.args.costs.now c.args.target (record { weight = 0; edges = 0 }) UNREACHED c.requires.target.within)

pub returns-clause-weight : goal.returns-clause-weight
returns-clause-weight c = same c ∙ weight_is c.args.links.now c.args.costs.now (0 ∷ []) c.requires.table c.args.target c.requires.target.near _ (c.in_ok-steps.ensures.plan _ c.requires.table)

-- the potential of a node that has a least cost
potential_at : (c : goal.In_ok-potentials) (v : ℕ) → v < length c.args.costs.now → (cost : Cost) → IsLeast (arcs c.args.links.now) (0 ∷ []) v cost
    → slice_index c.in_ok-potentials.potentials.items v ≡ min cost.0 (slice_index_or c.args.costs.now c.args.target (record { weight = 0; edges = 0 })).weight
potential_at c v within cost least =
    let w : ℕ = (slice_index_or c.args.costs.now c.args.target (record { weight = 0; edges = 0 })).weight in
    let is : slice_index c.in_ok-potentials.potentials.items v ≡ min (label_at c.args.costs.now v).weight w =
    ap (λ ps. slice_index ps v) c.in_ok-potentials.ensures ∙ get_or-map (λ (l : Label). min l.weight w) c.args.costs.now v UNREACHED 0 within in
    is ∙ (ap (λ x. min (label_at c.args.costs.now v).weight x) (same c)
    ∙ (potential_is c.args.links.now c.args.costs.now (0 ∷ []) c.requires.table c.args.target c.requires.target.near v cost least ∙ ap (λ x. min cost.0 x) (sym (same c))))

pub returns-clause-potentials : goal.returns-clause-potentials
returns-clause-potentials c = λ v reached.
    let least = least_at c.args.links.now c.args.costs.now (0 ∷ []) c.requires.table v reached.near in
    (cost_at c.args.costs.now v, least, potential_at c v reached.within (cost_at c.args.costs.now v) least)

pub returns-clause-least : goal.returns-clause-least
returns-clause-least c = λ others leads.
    let plan = c.in_ok-steps.ensures.plan _ c.requires.table in
    let low = (plan_is_least (arcs c.args.links.now) (0 ∷ []) c.args.target c.in_ok-steps.steps.items plan).least others (0, (0, omega arith, refl), leads) in
    let w = returns-clause-weight c in
    let l = low.0 in
    omega arith

pub returns-clause-certificate : goal.returns-clause-certificate
returns-clause-certificate c = λ reached.
    certificate_is c.args.links.now c.args.costs.now c.requires.table c.requires.links reached c.args.target c.in_ok-steps.steps.items _ (λ v. slice_index c.in_ok-potentials.potentials.items v)
    (c.in_ok-steps.ensures.plan _ c.requires.table) (returns-clause-weight c) (potential_at c) c.requires.target.within
