use Rattle.std.proofs.Common.{◌<◌, ◌+◌, ◌-◌, ℕ, ap, arith, get_or, length, subst, sym, ◌≡◌, ◌∙◌}
use Rattle.dg_fold.specs.WritingSteps.{GoesBack}
use Rattle.dg_fold.proofs.WritingSteps.{put_back}
use Rattle.dg_history.specs.declared.node.NodeId.TheVariants.{Root}
use Rattle.dg_plan.specs.declared.edge.Edge.{Edge}
use Rattle.dg_plan.specs.declared.edge.Via.TheVariants.{Now}
use Rattle.dg_steps.specs.TreeStepWalks.{takes_it}
use Rattle.dg_steps.proofs.GoingBack.{Back, back_all, back_none, back_on}
use Rattle.dg_steps.proofs.paths.paths_to.Goals as goal

pub loop-left-init : goal.loop-left-init
loop-left-init c =
    let paths = c.in_ok-paths.paths.items in
    subst (λ l. Back c.args.edges.now c.args.nodes.now l (length c.args.edges.now) paths) (sym c.in_ok-at.ensures.items)
    (back_none c.args.edges.now c.args.nodes.now paths c.requires.entered c.in_ok-paths.ensures.items)

pub loop-left-preserved : goal.loop-left-preserved
loop-left-preserved c =
    let old = c.loop-left in
    let d : Edge = record { from = Root; to = Root; weight = 0; via = Now } in
    let next = c.all_go_back.new.at in
    let value = c.deref_mut.ensures.value in
    let as_long = ap length value in
    let long = c.all_go_back.ensures.len in
    let more = c.loop-left-test.true in
    let less : (old.left - 1) + 1 ≡ old.left = omega arith in
    let edge = get_or c.args.edges.now (old.left - 1) d in
    let takes = c.in_ok-all_go_back.field-0 in
    subst (λ l. Back c.args.edges.now c.args.nodes.now l (old.left - 1) c.push.new.self.items) (sym (put_back old.at.len next old.at.items (let ok = old.at.ok.0 in omega arith)))
    (back_on c.args.edges.now c.args.nodes.now old.at.items old.left (old.left - 1) old.paths.items c.requires.rooted old.invariant less d next takes c.push.new.self.items
    (long ∙ as_long) (c.in_ok-all_go_back.ensures.count ∙ as_long)
    (subst (λ l. (n : ℕ) → n < length l → GoesBack edge (get_or l n Root) (get_or next n Root) (takes_it n takes.items)) value c.in_ok-all_go_back.ensures.back)
    c.in_ok-push.ensures.items)

pub returns-clause-paths : goal.returns-clause-paths
returns-clause-paths c =
    let end = c.loop-left-test.false in
    back_all c.args.edges.now c.args.nodes.now c.loop-left.at.items c.loop-left.left c.loop-left.paths.items c.loop-left.invariant (omega arith)

pub returns-clause-count : goal.returns-clause-count
returns-clause-count c =
    let end = c.loop-left-test.false in
    let count = c.loop-left.invariant.count in
    omega arith

pub returns-clause-all : goal.returns-clause-all
returns-clause-all c = c.loop-left.invariant.all
