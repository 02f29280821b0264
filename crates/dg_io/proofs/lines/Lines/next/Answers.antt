use Rattle.std.proofs.Common.{Some, sym, subst, ◌∙◌}
use Rattle.std.specs.Prelude.{IsTrue}
use Rattle.dg_io.specs.LinesState.{LinesState, LineComes, NeedsByte, TookNone, ahead}
use Rattle.dg_io.specs.Frame.{Advances}
use Rattle.dg_io.proofs.FrameLemmas.{Going, going_more, advances_both, on_err, took_more}
use Rattle.dg_io.proofs.lines.Lines.next.Goals as goal

pub loop-line-preserved : goal.loop-line-preserved
loop-line-preserved g c =
    let none = c.in_default.ensures.none in
    let fill = c.in_ok-fill.ensures in
    let cut = c.cut.new.self in
    let first = c.args.self.now in
    let left = g.S.Source.left in
    let faults = g.S.Source.faults in
    let going = subst (λ (r : LinesState). Going first r (left c.args.source.now) (left c.loop-line.source) (faults c.args.source.now) (faults c.loop-line.source)) (sym none.1) c.loop-line.invariant in
    going_more first cut c.fill.new.self _ _ _ _ _ _ going (subst NeedsByte (sym none.1) none.0) (λ full. let e = fill.due full in cc)
    fill.told fill.took fill.advances

pub returns-in_err-fill-clause-advances : goal.returns-in_err-fill-clause-advances
returns-in_err-fill-clause-advances g c =
    let left = g.S.Source.left c.loop-line.source in
    let faults = g.S.Source.faults c.loop-line.source in
    let fill = subst (λ (r : LinesState). Advances r left faults c.fill.new.self (g.S.Source.left c.fill.new.source) (g.S.Source.faults c.fill.new.source)) c.in_default.ensures.none.1 c.fill.ensures.advances in
    advances_both _ c.loop-line.self _ _ left _ _ faults _ c.loop-line.invariant.advances fill

pub returns-in-Some-clause-whole : goal.returns-in-Some-clause-whole
returns-in-Some-clause-whole g c =
    let p = c.loop-line.invariant.took in
    let cut = c.in-Some.ensures.some in
    let new = c.cut.new.self in (
      p.0,
      p.1,
      cut.taken ∙ p.2,
      λ more ended. subst (λ l. LineComes c.in-Some.line (Some l) (Some (ahead new more)) new.text) (sym (p.3 more (λ e. ended (subst IsTrue (sym cut.ended) e)))) (cut.comes (Some more)),
    )

pub returns-in_err-fill-clause-kept : goal.returns-in_err-fill-clause-kept
returns-in_err-fill-clause-kept g c =
    let none = c.in_default.ensures.none in
    let first = c.args.self.now in
    let cut = c.cut.new.self in
    let left = g.S.Source.left in
    let going = subst (λ (r : LinesState). TookNone first (left c.args.source.now) r (left c.loop-line.source)) (sym none.1) c.loop-line.invariant.took in
    on_err c.from_residual.result _ (took_more first cut c.fill.new.self _ _ _ (subst NeedsByte (sym none.1) none.0) going c.fill.ensures.took)
