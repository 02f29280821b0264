use Rattle.std.proofs.Common.{sym, subst, refl, Ok, Some}
use Rattle.dg_plan.specs.declared.edge.Way.TheVariants.{Forward}
use Rattle.dg_fold.specs.Parts.{Folds}
use Rattle.dg_index.specs.IndexRecords.{Events}
use Rattle.dg_fold.specs.PathIndependence.{taken}
use Rattle.dg_fold.specs.Ends.{last_in}
use Rattle.dg_fold.proofs.ends.last_delta.Goals as goal

pub returns-in_ok-net_of-in-Recent : goal.returns-in_ok-net_of-in-Recent
returns-in_ok-net_of-in-Recent g c =
    subst (λ v. Folds (Ok c.in_ok-net_of-in-Recent.field-0) (last_in c.args.name_count c.args.recent.now c.args.parts.now v c.args.time)) (sym c.in-Recent.is)
    (taken Forward (Some c.args.time) (Events c.args.recent.now), refl, c.in_ok-net_of-in-Recent.ensures)
