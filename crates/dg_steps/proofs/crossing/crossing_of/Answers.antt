use Rattle.std.proofs.Common.{Bool, List, Ok, refl, subst}
use Rattle.dg_fold.specs.Parts.{Folds, deltas_in_part, taken_as}
use Rattle.dg_steps.proofs.PartWays.{fails_alike}
use Rattle.dg_steps.proofs.crossing.crossing_of.Goals as goal

pub returns-clause-ok : goal.returns-clause-ok
returns-clause-ok g c =
    let part = c.args.part.now in (
      refl {A = List Bool},
      c.in-Ok.ensures,
      subst (λ way. Folds (Ok c.in-Ok-part_delta_as.back) (deltas_in_part c.args.name_count (taken_as part way part.until))) c.turned-way.ensures c.in-Ok-part_delta_as.ensures,
    )

pub returns-in-Err-part_delta_as-clause-err : goal.returns-in-Err-part_delta_as-clause-err
returns-in-Err-part_delta_as-clause-err g c =
    let part = c.args.part.now in
    fails_alike c.args.name_count part c.turned-way.result part.way part.until c.in-Err-part_delta_as.fault c.in-Err-part_delta_as.ensures
