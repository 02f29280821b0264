use Rattle.std.proofs.Common.{◌∙◌, sym, ap}
use Rattle.std.proofs.lemmas.Result.{IfOk-weaker}
use Rattle.dg_graph.specs.DifferentialFunction.{parted, inward}
use Rattle.dg_diff.proofs.DifferentialFunctionDeltas.{parted_last_is}
use Rattle.dg_diff.proofs.interior.inward.Goals as goal

pub returns-in-Balanced : goal.returns-in-Balanced
returns-in-Balanced c =
    let ways = c.args.ways.now in
    let last = c.index-ways-last in
    IfOk-weaker c.part_of.result _ _
    (λ d is.
    is ∙ ap (parted 128) last.is ∙ parted_last_is 128 ways last.result c.requires ∙ ap (λ f. inward f ways) (sym c.in-Balanced.is))
    c.part_of.ensures

pub returns-in-Skewed : goal.returns-in-Skewed
returns-in-Skewed c =
    let ways = c.args.ways.now in
    let last = c.index-ways-last-in-Skewed in
    IfOk-weaker c.part_of-in-Skewed.result _ _
    (λ d is.
    is ∙ ap (parted c.in-Skewed.r) last.is ∙ parted_last_is c.in-Skewed.r ways last.result c.requires ∙ ap (λ f. inward f ways) (sym c.in-Skewed.is))
    c.part_of-in-Skewed.ensures
