use Rattle.std.proofs.Common.{◌∙◌, filter, sym, ap}
use Rattle.dg_graph.specs.DifferentialFunction.{part}
use Rattle.dg_graph.specs.Elements.{has}
use Rattle.dg_diff.proofs.DifferentialFunctionDeltas.{apart_parted}
use Rattle.dg_diff.proofs.interior.part_of.Goals as goal

pub of-requires : goal.of-requires
of-requires c x e =
    let d = c.in_ok-copy.field-0 in
    let minus = c.last_part.ensures ∙ ap (filter (λ x. part x c.args.r)) c.into_sets-minus.ensures.minus in
    let plus = c.last_part-2.ensures ∙ ap (filter (λ x. part x c.args.r)) c.into_sets-minus.ensures.plus in
    ap (λ s. has s x) plus ∙ apart_parted c.args.r d.minus d.plus c.into_sets-minus.ensures.delta.apart x (sym (ap (λ s. has s x) minus) ∙ e)
