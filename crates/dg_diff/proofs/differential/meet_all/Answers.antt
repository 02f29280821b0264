use Rattle.std.proofs.Common.{◌+◌, arith}
use Rattle.dg_diff.proofs.DifferentialFunctionElements.{past_two, met_first, met_more}
use Rattle.dg_diff.proofs.differential.meet_all.Goals as goal

pub loop-set-init : goal.loop-set-init
loop-set-init c =
    let sets = c.args.sets.now in
    let first = c.index-sets-0.result in
    met_more sets 1 2 c.index-sets-1.result first c.in_ok-all.all (omega arith) (omega arith) c.index-sets-1.is c.in_ok-all.ensures.members
    (met_first sets first (omega arith) c.index-sets-0.is)

pub loop-set-preserved : goal.loop-set-preserved
loop-set-preserved c =
    let sets = c.args.sets.now in
    let i = c.loop-set.set-index in
    let set = c.set-item.result in
    met_more sets (i + 2) (i + 1 + 2) set c.loop-set.all c.in_ok-all-2.all (omega arith) (omega arith)
    (past_two sets i set c.set-item.is) c.in_ok-all-2.ensures.members c.loop-set.invariant
