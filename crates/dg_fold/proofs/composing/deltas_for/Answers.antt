use Rattle.std.proofs.Common.{◌+◌, ap, map, refl, subst, sym, ◌∙◌}
use Rattle.std.proofs.lemmas.List.{take_all}
use Rattle.dg_fold.specs.Writings.{written_for}
use Rattle.dg_fold.proofs.WritingCompositions.{Gathered, gathered_more, gathered_still}
use Rattle.dg_fold.proofs.composing.deltas_for.Goals as goal
use Rattle.dg_fold.proofs.composing.deltas_for.Goals.{else-is_for, then-is_for+in_ok-push}

pub loop-writing-preserved : goal.loop-writing-preserved
loop-writing-preserved c =
    let old = c.loop-writing in
    let n = c.args.target in
    let i = old.writing-index in
    let ws = c.args.writings.now in
    let w = c.writing-item.result in
    let is = sym c.is_for.ensures in
    elim c.if-is_for.branch [
      | then-is_for+in_ok-push v ↦ gathered_more n i ws w c.loop-writing-test.true c.writing-item.is _ old.deltas.items c.if-is_for.deltas.items _ old.invariant (is ∙ v.if-is_for.true) v.minus.ensures.delta refl ((λ j. (v.deltas-is j).items) ∙ v.in_ok-push.ensures.items)
      | else-is_for v ↦ subst (Gathered n (i + 1) ws) ((λ j. map (λ d. d.now) (sym v.deltas-is j).items)) (gathered_still n i ws w c.loop-writing-test.true c.writing-item.is _ old.invariant (is ∙ v.if-is_for.false))
    ]

pub returns-clause-deltas : goal.returns-clause-deltas
returns-clause-deltas c =
    c.loop-writing.invariant.written ∙ ap (written_for c.args.target) (take_all c.loop-writing.writing-index c.args.writings.now c.loop-writing-test.false)

pub returns-clause-each : goal.returns-clause-each
returns-clause-each c = c.loop-writing.invariant.each
