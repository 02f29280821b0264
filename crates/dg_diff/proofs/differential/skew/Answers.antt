use Rattle.std.proofs.lemmas.Result.{IfOk-weaker}
use Rattle.dg_graph.specs.DifferentialFunction.{part}
use Rattle.dg_graph.specs.Sets.{without_all}
use Rattle.dg_diff.proofs.DifferentialFunctionElements.{balanced, in_part}
use Rattle.dg_diff.proofs.differential.skew.Goals as goal

pub returns : goal.returns
returns c =
    let first = c.args.first.now in
    let last = c.args.last.now in
    let gone = c.last_part.result in
    let come = c.last_part-2.result in
    IfOk-weaker c.replaced-3.result _ _
    (λ set is x.
    balanced first last gone come set (part x c.args.r) x (is x)
    (in_part c.args.r c.in_ok-gone.gone (without_all first last) gone c.last_part.ensures c.in_ok-gone.ensures.first x)
    (in_part c.args.r c.in_ok-gone.come (without_all last first) come c.last_part-2.ensures c.in_ok-gone.ensures.second x))
    c.replaced-3.ensures.members
