use Rattle.std.proofs.Common.{None, refl, subst, sym, slice_get, Ok}
use Rattle.dg_fold.specs.Parts.{Folds}
use Rattle.dg_fold.specs.Steps.{step_by}
use Rattle.dg_index.specs.IndexRecords.{Events}
use Rattle.dg_fold.specs.PathIndependence.{taken}
use Rattle.dg_fold.proofs.tree_step.step_delta.Goals as goal

pub returns-in_ok-net_of-in-Recent : goal.returns-in_ok-net_of-in-Recent
returns-in_ok-net_of-in-Recent g c =
    subst (λ v. Folds (Ok c.in_ok-net_of-in-Recent.field-0) (step_by c.args.name_count c.args.recent.now v (slice_get c.args.parts.now 0))) (sym c.in-Recent.is)
    (taken c.in-Recent.way None (Events c.args.recent.now), refl, c.in_ok-net_of-in-Recent.ensures)
