use Rattle.std.proofs.Common.{◌≡◌, ◌+◌, map, refl, subst, sym, take, ◌∙◌}
use Rattle.dg_steps.specs.TreeStepWalks.{ons}
use Rattle.dg_steps.proofs.CrossingWalks.{ons_more, ons_still}
use Rattle.dg_steps.proofs.between.ons_of.Goals as goal
use Rattle.dg_steps.proofs.between.ons_of.Goals.{else-is_own, then-is_own+in_ok-push}

pub loop-step-preserved : goal.loop-step-preserved
loop-step-preserved c =
    let old = c.loop-step in
    let n = c.args.from in
    let m = c.args.to in
    let i = old.step-index in
    let kept = c.args.kept.now in
    let step = c.step-item.result in
    let is = sym c.is_own.ensures in
    elim c.if-is_own.branch [
      | then-is_own+in_ok-push w ↦ ons_more n m i kept step c.loop-step-test.true c.step-item.is _ old.deltas.items c.if-is_own.deltas.items _ old.invariant (is ∙ w.if-is_own.true) refl ((λ j. (w.deltas-is j).items) ∙ w.in_ok-push.ensures.items)
      | else-is_own w ↦ subst (λ l. l ≡ ons n m (take (i + 1) kept)) (λ j. map (λ d. d.now) (sym w.deltas-is j).items) (ons_still n m i kept step c.loop-step-test.true c.step-item.is _ old.invariant (is ∙ w.if-is_own.false))
    ]
