use Rattle.std.proofs.Common.{sym, subst, ◌∙◌}
use Rattle.dg_graph.specs.declared.element.Element.TheVariants.{NodeAttr}
use Rattle.dg_graph.specs.Elements.{IsSet}
use Rattle.dg_pool.specs.Graphs.{slot_graph}
use Rattle.dg_pool.specs.Sweeps.{members_as}
use Rattle.dg_pool.specs.Listing.{members_from}
use Rattle.dg_view.specs.Walk.{NoneBefore}
use Rattle.dg_view.proofs.WalkAttributes.{least_none, least_some}
use Rattle.dg_view.proofs.queries.attribute.Goals as goal

pub returns-in-Some : goal.returns-in-Some
returns-in-Some c =
    let p = c.args.pool.now in
    let s = c.args.slot.0 in
    let n = c.args.node in
    let key = c.args.key in
    let some = c.in-Some.ensures.some in
    c.value_of_key.ensures
    ∙ sym (least_some n key (members_as (slot_graph p s)) c.in-Some.element (members_from p s c.in-Some.field-0-1) (subst IsSet some c.seek-at.ensures.rises) (subst (NoneBefore (NodeAttr n key 0)) some c.seek-at.ensures.low) (sym c.seek-at.ensures.from ∙ some))

pub returns-in-None : goal.returns-in-None
returns-in-None c =
    let p = c.args.pool.now in
    let s = c.args.slot.0 in
    sym (least_none c.args.node c.args.key (members_as (slot_graph p s)) (members_from p s c.seek-at.result) c.behind_key.result c.seek-at.ensures.from c.behind_key.ensures c.in-None.ensures.none)
