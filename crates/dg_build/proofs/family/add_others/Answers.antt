use Rattle.std.proofs.Common.{length, map, refl, arith}
use Rattle.std.proofs.lemmas.Result.{err_from_is_err_and, MatchResult-weaker}
use Rattle.dg_graph.specs.Composition.{Delta, chained}
use Rattle.dg_build.proofs.InteriorDeltaDowns.{downs_first, downs_more, downs_done, downs_narrow, last_done}
use Rattle.dg_build.proofs.SpelledRecordDeltas.{others_fault}
use Rattle.dg_build.proofs.family.add_others.Goals as goal

pub loop-left-init : goal.loop-left-init
loop-left-init c = downs_first c.args.to_first.now c.args.ways.items c.from_vec-left.result.items c.args.segment.now c.requires c.from_vec-left.ensures.items

pub loop-left-preserved : goal.loop-left-preserved
loop-left-preserved c =
    downs_more c.args.to_first.now c.next_step.result c.args.ways.items c.loop-left.left.items c.next_step.new.row.items c.args.segment.now c.loop-left.segment c.add_down.new.segment (omega (arith, c.loop-left-test.true))
    c.loop-left.invariant c.next_step.ensures c.in_ok-add_down.ensures.ok c.in_ok-add_down.ensures.narrow

pub returns-clause-ok : goal.returns-clause-ok
returns-clause-ok c =
    MatchResult-weaker c.add_down-2.result c.add_down-2.ensures.ok
    (λ _ is. downs_done c.args.to_first.now c.next_step-2.result c.args.ways.items c.loop-left.left.items c.next_step-2.new.row.items c.args.segment.now c.loop-left.segment c.add_down-2.new.segment (omega (arith, c.loop-left-test.false))
    c.loop-left.invariant c.next_step-2.ensures is) (λ _ none. none)

pub returns-clause-last : goal.returns-clause-last
returns-clause-last c =
    MatchResult-weaker c.add_down-2.result c.add_down-2.ensures.down
    (λ down is. last_done c.args.to_first.now c.next_step-2.result down c.args.ways.items c.loop-left.left.items c.next_step-2.new.row.items c.args.segment.now c.loop-left.segment (omega (arith, c.loop-left-test.false))
    c.loop-left.invariant c.next_step-2.ensures is) (λ _ none. none)

pub returns-clause-narrow : goal.returns-clause-narrow
returns-clause-narrow c =
    MatchResult-weaker c.add_down-2.result c.add_down-2.ensures.narrow
    (λ _ narrow. downs_narrow c.args.to_first.now c.next_step-2.result c.args.ways.items c.loop-left.left.items c.next_step-2.new.row.items c.args.segment.now c.loop-left.segment (omega (arith, c.loop-left-test.false))
    c.loop-left.invariant c.next_step-2.ensures narrow) (λ _ none. none)

pub returns-in_err-add_down-clause-fault : goal.returns-in_err-add_down-clause-fault
returns-in_err-add_down-clause-fault c =
    let failed = err_from_is_err_and c.from_residual.result c.from_residual.ensures.1 in
    let f = λ (d : Delta). chained c.args.to_first.now d in
    rw (failed.1, failed.2)
    (others_fault (length c.loop-left.segment.deltas) (length c.args.segment.now.deltas) c.args.to_first.now c.next_step.result (f c.next_step.result) c.loop-left.left.items c.next_step.new.row.items c.args.ways.items c.in_err-add_down.field-0.0
    c.next_step.ensures refl c.loop-left.invariant.wide (c.in_err-add_down.ensures.fault (map f c.next_step.new.row.items)))

pub returns-clause-fault : goal.returns-clause-fault
returns-clause-fault c =
    let f = λ (d : Delta). chained c.args.to_first.now d in
    MatchResult-weaker c.add_down-2.result c.add_down-2.ensures.fault (λ _ none. none)
    (λ e is. others_fault (length c.loop-left.segment.deltas) (length c.args.segment.now.deltas) c.args.to_first.now c.next_step-2.result (f c.next_step-2.result) c.loop-left.left.items c.next_step-2.new.row.items c.args.ways.items e
    c.next_step-2.ensures refl c.loop-left.invariant.wide (is (map f c.next_step-2.new.row.items)))
