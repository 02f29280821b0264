use Rattle.std.proofs.Common.{◌≤◌, length, arith}
use Rattle.dg_cells.proofs.PieceEdits.{strung_more}
use Rattle.dg_cells.proofs.pieces.Pieces.of_numbers.Goals as goal

pub loop-at-preserved : goal.loop-at-preserved
loop-at-preserved c =
    let l = c.args.numbers.now in
    let test = c.loop-at-test.true in
    let sum = c.saturating_add.ensures in
    let end = c.min-end.ensures in
    let high : c.min-end.result ≤ length l = omega arith in
    record {
      so_far = strung_more c.loop-at.pieces c.push.new.self l c.loop-at.at c.min-end.result c.loop-at.invariant.so_far (omega arith) high c.in_ok-push.ensures.ok;
      within = high;
    }
