use Rattle.std.proofs.Common.{ap, sym, ◌∙◌}
use Rattle.std.specs.Option.{option_copied}
use Rattle.std.proofs.lemmas.Result.{IfOk-weaker}
use Rattle.dg_fold.proofs.WritingCompositions.{composes_behind_first, composes_one, composes_parts}
use Rattle.dg_fold.proofs.composing.+composed.Goals as goal

pub returns : goal.returns
returns t c =
    IfOk-weaker c.joined.result _ _
    (λ d both.
    composes_parts _ d c.in_ok-first.first c.in_ok-then.then c.split_at.result.0.now c.split_at.result.1.now c.args.deltas.now c.split_at.ensures.by_index.0
    c.in_ok-first.ensures c.in_ok-then.ensures both)
    c.joined.ensures

pub returns-in-Some : goal.returns-in-Some
returns-in-Some t c =
    IfOk-weaker c.copy.result _ _
    (λ d same. composes_one _ d c.args.deltas.now c.in-Some.delta.now same c.if-deltas-le1.true (ap option_copied (sym c.in-Some.is) ∙ c.first.ensures.value))
    c.copy.ensures

pub returns-then-left-eq1 : goal.returns-then-left-eq1
returns-then-left-eq1 t c =
    IfOk-weaker c.joined_on.result _ _
    (λ d both.
    composes_behind_first _ d c.in_ok-then.then c.split_at.result.0.now c.split_at.result.1.now c.args.deltas.now c.index-left-0.result c.split_at.ensures.by_index.0
    c.if-left-eq1.true c.index-left-0.is c.in_ok-then.ensures both)
    c.joined_on.ensures
