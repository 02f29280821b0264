use Rattle.std.proofs.Common.{sym, subst, ap, ◌∙◌}
use Rattle.std.specs.Option.{option_copied}
use Rattle.dg_fold.specs.Parts.{parts_in, Folds}
use Rattle.dg_fold.proofs.PartCompositions.{one_part, one_only, cut_anywhere}
use Rattle.dg_fold.proofs.plan.+compose_alone.Goals as goal

pub returns : goal.returns
returns g t c =
    let names = c.args.name_count in
    let left = c.split_at.result.0.now in
    let right = c.split_at.result.1.now in
    subst (Folds c.both.result) (sym (ap (parts_in names) c.split_at.ensures.by_index.0 ∙ cut_anywhere names left right))
    (c.both.ensures (parts_in names left) (parts_in names right) c.compose_alone-first.ensures c.compose_alone-then.ensures)

pub returns-in-Some : goal.returns-in-Some
returns-in-Some g t c =
    let part = c.in-Some.part.now in
    let only = one_only c.args.parts.now part c.if-parts-le1.true (ap option_copied (sym c.in-Some.is) ∙ c.first.ensures.value) in
    subst (Folds c.part_delta.result) (one_part c.args.name_count part ∙ ap (parts_in c.args.name_count) only) c.part_delta.ensures
