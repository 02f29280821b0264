use Rattle.std.proofs.Common.{◌++◌, ◌∷◌, [], length, sym, ap, subst, ◌∙◌}
use Rattle.std.proofs.lemmas.Result.{err_from_is_err_and}
use Rattle.dg_graph.specs.Composition.{Delta}
use Rattle.dg_build.specs.InteriorDeltas.{stored_delta}
use Rattle.dg_build.specs.SpelledRecords.{is_wide, IsFaultOfDeltas}
use Rattle.dg_build.proofs.family.add_down.Goals as goal

pub returns-clause-ok : goal.returns-clause-ok
returns-clause-ok c = c.in_ok-add_delta.ensures.ok ∙ ap (λ (d : Delta). record c.args.segment.now { deltas = c.args.segment.now.deltas ++ stored_delta d ∷ [] }) c.in_ok-down.ensures

pub returns-clause-narrow : goal.returns-clause-narrow
returns-clause-narrow c = ap (λ (d : Delta). is_wide d) (sym c.in_ok-down.ensures) ∙ c.in_ok-add_delta.ensures.narrow

pub returns-in_err-add_delta-clause-fault : goal.returns-in_err-add_delta-clause-fault
returns-in_err-add_delta-clause-fault c =
    let failed = err_from_is_err_and c.from_residual-in_err-add_delta.result c.from_residual-in_err-add_delta.ensures.1 in
    rw (failed.1, failed.2) (λ more.
    subst (λ (d : Delta). IsFaultOfDeltas (length c.args.segment.now.deltas) (d ∷ more) c.in_err-add_delta.field-0.0) c.in_ok-down.ensures (c.in_err-add_delta.ensures.fault more))
