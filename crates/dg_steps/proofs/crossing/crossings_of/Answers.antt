use Rattle.std.proofs.Common.{sym, ◌∙◌}
use Rattle.dg_history.specs.declared.node.NodeId.TheVariants.{Root}
use Rattle.dg_plan.specs.declared.edge.Edge.{Edge}
use Rattle.dg_plan.specs.declared.edge.Via.TheVariants.{Now}
use Rattle.dg_steps.proofs.CrossingSteps.{all_kept, fails_next, going_none, going_on, none_left}
use Rattle.dg_steps.proofs.crossing.crossings_of.Goals as goal

pub loop-takes-init : goal.loop-takes-init
loop-takes-init g c =
    going_none c.args.name_count c.args.edges.now c.args.parts.now c.args.paths.items c.new-kept.result.items c.new-kept.ensures.items

pub returns-in-Err-clause-err : goal.returns-in-Err-clause-err
returns-in-Err-clause-err g c =
    let old = c.loop-takes in
    let d : Edge = record { from = Root; to = Root; weight = 0; via = Now } in
    fails_next c.args.name_count c.args.edges.now c.args.parts.now c.args.paths.items old.done old.rest.now old.left.items c.pop.new.self.items c.in-Some.takes old.kept.items
    old.invariant c.requires c.in-Some.ensures.items d c.in-Err.fault c.in-Err.ensures.err

pub loop-takes-preserved : goal.loop-takes-preserved
loop-takes-preserved g c =
    let old = c.loop-takes in
    let d : Edge = record { from = Root; to = Root; weight = 0; via = Now } in
    going_on c.args.name_count c.args.edges.now c.args.parts.now c.args.paths.items old.done old.rest.now old.left.items c.pop.new.self.items c.in-Some.takes old.kept.items
    old.invariant c.requires c.in-Some.ensures.items d c.in-Ok.crossing c.parts_behind-rest.result.now c.keep.new.kept.items
    c.in-Ok.ensures.ok c.parts_behind-rest.ensures c.in_ok-keep.ensures

pub returns-clause-kept : goal.returns-clause-kept
returns-clause-kept g c =
    let old = c.loop-takes in
    all_kept c.args.name_count c.args.edges.now c.args.parts.now c.args.paths.items old.done old.rest.now old.left.items old.kept.items old.invariant c.requires
    (none_left old.left.items (sym old.left.ok.0 ∙ c.in_default.ensures.cases.0))
