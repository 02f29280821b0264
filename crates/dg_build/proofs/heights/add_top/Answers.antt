use Rattle.std.proofs.Common.{List, [], length, ap, ◌∙◌}
use Rattle.std.proofs.lemmas.Result.{err_from_is_err_and}
use Rattle.dg_graph.specs.declared.element.Element.{Element}
use Rattle.dg_graph.specs.Composition.{applied, between}
use Rattle.dg_build.proofs.SpelledRecordDeltas.{top_fault}
use Rattle.dg_build.proofs.heights.add_top.Goals as goal

pub returns-in_err-add_delta-clause-fault : goal.returns-in_err-add_delta-clause-fault
returns-in_err-add_delta-clause-fault c =
    let failed = err_from_is_err_and c.from_residual-in_err-add_delta.result c.from_residual-in_err-add_delta.ensures.1 in
    let node : List Element = applied c.args.up.now c.args.base.now in
    rw (failed.1, failed.2)
    (top_fault (length c.args.segment.now.deltas) c.args.below (between [] node) c.in_ok-top.top c.in_err-add_delta.field-0.0 c.if-below-eq0.true
    (c.in_ok-top.ensures ∙ ap (λ (set : List Element). between set c.in_ok-first.first) c.new.ensures ∙ ap (between []) c.in_ok-first.ensures) (c.in_err-add_delta.ensures.fault []))
