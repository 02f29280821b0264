use Rattle.std.proofs.Common.{sym, subst, ◌∙◌}
use Rattle.dg_fold.specs.Parts.{Folds}
use Rattle.dg_fold.specs.Ends.{part_until}
use Rattle.dg_fold.proofs.EndTargets.{found}
use Rattle.dg_fold.proofs.ends.list_delta.Goals as goal

pub returns-then-is_list : goal.returns-then-is_list
returns-then-is_list g c =
    let part = c.part-item.result in
    subst (λ o. Folds c.part_delta_as.result (part_until c.args.name_count c.args.time o))
    (sym (c.loop-part.invariant ∙ found c.args.list c.args.parts.now c.loop-part.part-index part c.loop-part-test.true c.part-item.is (sym c.is_list.ensures ∙ c.if-is_list.true)))
    c.part_delta_as.ensures
