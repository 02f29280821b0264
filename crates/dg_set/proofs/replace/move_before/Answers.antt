use Rattle.std.proofs.Common.{◌+◌, sym, ◌∙◌, arith}
use Rattle.std.proofs.lemmas.List.{drop-drop, take_rest}
use Rattle.dg_set.proofs.SetThinnings.{drop_further}
use Rattle.dg_set.proofs.replace.move_before.Goals as goal

pub returns-clause-back : goal.returns-clause-back
returns-clause-back c =
    let cells = c.args.cells.now in
    let next = c.args.next in
    let end = next + c.range_near-end.result.0 in
    let start = next + c.range_near-end.result.1 in
    let range = c.range_near-end.ensures in
    let rest = rw (take_rest cells next) at range.back in
    drop_further c.move_down.new.cells cells end start (omega (arith, range.order)) c.move_down.ensures.back
    ∙ sym (drop-drop c.range_near-end.result.1 next cells)
    ∙ rest
