use Rattle.std.proofs.Common.{◌≡◌, ◌+◌, ◌≤◌, is_some, sym, ap, subst, ◌∙◌, length, filter_map, refl, arith}
use Rattle.dg_graph.specs.declared.element.Element.TheVariants.{NodeAttr}
use Rattle.dg_pool.specs.Graphs.{slot_graph}
use Rattle.dg_pool.specs.Sweeps.{members_as}
use Rattle.dg_query.specs.Queries.{edge_at, degree_of}
use Rattle.dg_pool.specs.Listing.{members_from}
use Rattle.dg_view.proofs.WalkSearches.{edges_from_first, no_edge_behind, none_up_to, most_edges, one_counted, all_counted}
use Rattle.dg_view.proofs.queries.degree.Goals as goal

pub loop-element-init : goal.loop-element-init
loop-element-init c =
    let p = c.args.pool.now in
    let s = c.args.slot.0 in
    let n = c.args.node in
    let set = members_as (slot_graph p s) in
    let all : length (filter_map (edge_at n) (members_from p s c.seek-at.result)) ≡ degree_of set n = ap (λ l. length (filter_map (edge_at n) l)) c.seek-at.ensures.from ∙ ap length (edges_from_first n set) in
    omega arith

pub overflow_add-degree : goal.overflow_add-degree
overflow_add-degree c =
    let p = c.args.pool.now in
    let s = c.args.slot.0 in
    let n = c.args.node in
    let set = members_as (slot_graph p s) in
    let most : degree_of set n ≤ c.edges-most.result = subst (λ k. degree_of set n ≤ k) (sym c.edges-most.ensures) (most_edges n set) in
    let counted : c.loop-element.degree + 1 ≤ c.edges-most.result =
    one_counted c.loop-element.degree c.edges-most.result (edge_at n) c.in-Some.element (members_from p s c.loop-element.at) (members_from p s c.in-Some.behind) (degree_of set n)
    c.in-Some.ensures.some (ap is_some (sym c.edge_at.ensures) ∙ sym c.is_some.ensures ∙ c.if-is_some.true) c.loop-element.invariant most in
    let fits = c.edges-most.type_inv in
    omega arith

pub returns : goal.returns
returns c =
    let p = c.args.pool.now in
    let s = c.args.slot.0 in
    let n = c.args.node in
    let from = members_from p s c.loop-element.at in
    all_counted c.loop-element.degree (length (filter_map (edge_at n) from)) (degree_of (members_as (slot_graph p s)) n) (filter_map (edge_at n) from) refl
    (none_up_to (edge_at n) (NodeAttr 0 0 0) from (no_edge_behind n) c.in_default.ensures.none) c.loop-element.invariant
