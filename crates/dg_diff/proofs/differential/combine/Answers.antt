use Rattle.std.proofs.Common.{ap, sym, ◌∙◌}
use Rattle.std.proofs.lemmas.Result.{IfOk-weaker}
use Rattle.dg_graph.specs.DifferentialFunction.{in_combined}
use Rattle.dg_graph.specs.Elements.{has}
use Rattle.dg_diff.proofs.DifferentialFunctionElements.{combined_one, skewed_ends}
use Rattle.dg_diff.proofs.differential.combine.Goals as goal

pub returns-then-sets-eq1 : goal.returns-then-sets-eq1
returns-then-sets-eq1 c =
    let only = c.index-sets-0 in
    IfOk-weaker c.copy.result _ _
    (λ set is x.
    ap (λ s. has s x) is
    ∙ combined_one c.args.f c.args.sets.now only.result x c.if-sets-eq1.true only.is)
    c.copy.ensures

pub returns-in-Balanced : goal.returns-in-Balanced
returns-in-Balanced c =
    let first = c.index-sets-0-in-Balanced in
    let last = c.index-sets-sets in
    IfOk-weaker c.skew.result _ _
    (λ set is x.
    is x
    ∙ skewed_ends 128 c.args.sets.now first.result last.result x c.requires first.is last.is
    ∙ ap (λ f. in_combined f c.args.sets.now x) (sym c.in-Balanced.is))
    c.skew.ensures

pub returns-in-Skewed : goal.returns-in-Skewed
returns-in-Skewed c =
    let first = c.index-sets-0-in-Skewed in
    let last = c.index-sets-sets-in-Skewed in
    IfOk-weaker c.skew-in-Skewed.result _ _
    (λ set is x.
    is x
    ∙ skewed_ends c.in-Skewed.r c.args.sets.now first.result last.result x c.requires first.is last.is
    ∙ ap (λ f. in_combined f c.args.sets.now x) (sym c.in-Skewed.is))
    c.skew-in-Skewed.ensures
