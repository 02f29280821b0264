use Rattle.std.proofs.Common.{not, sym, subst}
use Rattle.dg_graph.specs.Elements.{IsSet, before}
use Rattle.dg_graph.proofs.Sets.{IsSet-filter}
use Rattle.dg_pool.specs.Graphs.{slot_graph}
use Rattle.dg_pool.specs.Sweeps.{members_as}
use Rattle.dg_view.specs.Walk.{NoneBefore}
use Rattle.dg_view.proofs.WalkAttributes.{none_before}
use Rattle.dg_view.proofs.walk.seek.Goals as goal

pub returns-clause-from : goal.returns-clause-from
returns-clause-from c = c.seek.ensures c.args.slot.0

pub returns-clause-rises : goal.returns-clause-rises
returns-clause-rises c =
    let s = c.args.slot.0 in
    let x = c.args.element.now in
    subst IsSet (sym (c.seek.ensures s)) (IsSet-filter (λ y. not (before y x)) (members_as (slot_graph c.args.pool.now s)) (c.facts.ensures.sets s))

pub returns-clause-low : goal.returns-clause-low
returns-clause-low c =
    let x = c.args.element.now in
    subst (NoneBefore x) (sym (c.seek.ensures c.args.slot.0)) (none_before x (members_as (slot_graph c.args.pool.now c.args.slot.0)))
