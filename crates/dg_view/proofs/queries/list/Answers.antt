use Rattle.std.proofs.Common.{◌++◌, ◌∷◌, [], sym, ap, ◌∙◌}
use Rattle.std.proofs.lemmas.List.{append_assoc}
use Rattle.dg_pool.specs.Graphs.{slot_graph}
use Rattle.dg_pool.specs.Sweeps.{members_as}
use Rattle.dg_pool.specs.Listing.{members_from}
use Rattle.dg_view.proofs.WalkSearches.{nothing_left}
use Rattle.dg_view.proofs.queries.list.Goals as goal

pub loop-element-init : goal.loop-element-init
loop-element-init c =
    let p = c.args.pool.now in
    let s = c.args.slot.0 in
    ap (λ l. l ++ members_from p s c.first-at.result) c.in_ok-list.ensures.items ∙ c.first-at.ensures s

pub loop-element-preserved : goal.loop-element-preserved
loop-element-preserved c =
    let behind = members_from c.args.pool.now c.args.slot.0 c.in-Some.behind in
    ap (λ l. l ++ behind) c.in_ok-push.ensures.items
    ∙ append_assoc c.loop-element.list.items (c.in-Some.element ∷ []) behind
    ∙ ap (λ l. c.loop-element.list.items ++ l) (sym c.in-Some.ensures.some)
    ∙ c.loop-element.invariant

pub returns : goal.returns
returns c =
    nothing_left c.loop-element.list.items (members_from c.args.pool.now c.args.slot.0 c.loop-element.at) (members_as (slot_graph c.args.pool.now c.args.slot.0))
    c.in_default.ensures.none c.loop-element.invariant
