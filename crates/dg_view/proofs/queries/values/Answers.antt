use Rattle.std.proofs.Common.{◌++◌, ap, ◌∙◌, filter_map}
use Rattle.dg_pool.specs.Graphs.{slot_graph}
use Rattle.dg_pool.specs.Sweeps.{members_as}
use Rattle.dg_query.specs.Queries.{value_at, values_of}
use Rattle.dg_pool.specs.Listing.{members_from}
use Rattle.dg_view.proofs.WalkAttributes.{values_from_first}
use Rattle.dg_view.proofs.WalkSearches.{nothing_left, none_up_to}
use Rattle.dg_view.proofs.queries.values.Goals as goal

pub loop-element-init : goal.loop-element-init
loop-element-init c =
    let p = c.args.pool.now in
    let s = c.args.slot.0 in
    let n = c.args.node in
    ap (λ l. l ++ filter_map (value_at n) (members_from p s c.seek-at.result)) c.new-list.ensures.items
    ∙ ap (filter_map (value_at n)) c.seek-at.ensures.from
    ∙ values_from_first n (members_as (slot_graph p s))

pub returns : goal.returns
returns c =
    let p = c.args.pool.now in
    let s = c.args.slot.0 in
    let n = c.args.node in
    let from = members_from p s c.loop-element.at in
    nothing_left c.loop-element.list.items (filter_map (value_at n) from) (values_of (members_as (slot_graph p s)) n)
    (none_up_to (value_at n) c.behind_node-end.result from c.behind_node-end.ensures c.in_default.ensures.none) c.loop-element.invariant
