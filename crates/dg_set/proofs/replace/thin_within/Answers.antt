use Rattle.std.proofs.Common.{◌-◌, ◌++◌, take, ap, ◌∙◌, arith}
use Rattle.dg_set.proofs.SetsWithin.{closed}
use Rattle.dg_set.proofs.replace.thin_within.Goals as goal

pub returns-clause-left : goal.returns-clause-left
returns-clause-left c =
    let items = c.args.items.now in
    let start = c.args.start in
    let middle = c.args.middle in
    let thin = c.thin-place in
    closed items thin.new.cells c.move_down.new.cells start (middle - start) middle thin.result.0 thin.result.1 (omega arith) (omega arith) thin.ensures.order thin.ensures.within c.move_down.ensures.front
    ∙ ap (λ l. take start items ++ l) thin.ensures.left
