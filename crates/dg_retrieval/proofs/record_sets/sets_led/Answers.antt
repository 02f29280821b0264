use Rattle.std.proofs.Common.{arith, ◌∙◌}
use Rattle.dg_fold.specs.Writings.{composed_all, written_for}
use Rattle.dg_retrieval.proofs.NodeSetLeads.{sets_all, sets_more}
use Rattle.dg_retrieval.proofs.record_sets.sets_led.Goals as goal

pub loop-n-preserved : goal.loop-n-preserved
loop-n-preserved c =
    let long = c.len-n-end.ensures in
    let ok = c.args.leads.now.begins.ok.0 in
    let test = c.loop-n-test.true in
    sets_more c.args.leads.now c.loop-n.n c.in_ok-delta.delta c.into_sets-set.result.1 c.loop-n.sets.items c.push.new.self.items (omega arith)
    (c.in_ok-delta.ensures ∙ (λ j. composed_all (written_for c.loop-n.n (c.deref.ensures.value j)))) c.into_sets-set.ensures.delta c.into_sets-set.ensures.plus c.loop-n.invariant c.in_ok-push.ensures.items

pub returns : goal.returns
returns c =
    let long = c.len-n-end.ensures in
    let ok = c.args.leads.now.begins.ok.0 in
    let test = c.loop-n-test.false in
    sets_all c.args.leads.now c.loop-n.n c.loop-n.sets.items (omega arith) c.loop-n.invariant
