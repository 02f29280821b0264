use Rattle.std.proofs.Common.{◌≤◌, ◌-◌, ◌∷◌, ◌++◌, drop, set, ap, ◌∙◌, arith, length-take-le}
use Rattle.dg_set.proofs.SetUnions.{moved_back}
use Rattle.dg_set.proofs.replace.put_behind.Goals as goal

pub returns-clause-back : goal.returns-clause-back
returns-clause-back c =
    let cells = c.args.cells.now in
    let left = c.args.left in
    let free = c.args.free in
    let element = c.args.element.now in
    let start = c.range_to-end.result.1 in
    let at = free - (left - start) - 1 in
    let in_left : start ≤ left = omega (arith, c.range_to-end.ensures.within, length-take-le left cells (omega arith)) in
    ap (λ l. drop at (set l at element)) c.copy_within.ensures.after
    ∙ moved_back cells start left free element in_left c.requires.room c.requires.within
    ∙ ap (λ l. element ∷ l ++ drop free cells) c.range_to-end.ensures.back
