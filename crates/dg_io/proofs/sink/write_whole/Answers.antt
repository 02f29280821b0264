use Rattle.std.proofs.Common.{◌-◌, length, take, drop, ap, ◌∙◌, arith, length-take}
use Rattle.dg_io.specs.Told.{grown}
use Rattle.dg_io.proofs.ToldLemmas.{both_pieces, take_next}
use Rattle.dg_io.proofs.sink.write_whole.Goals as goal

pub loop-done-preserved : goal.loop-done-preserved
loop-done-preserved g c =
    let piece = c.args.piece.now in
    let done = c.loop-done.done in
    let count = c.in_ok-done.field-0 in
    record {
      within = omega (arith, c.in_ok-done.ensures.bound, c.loop-done-test.true, length-take (length piece - done) (drop done piece));
      grown = both_pieces _ _ _ (take done piece) (take count (take (length piece - done) (drop done piece))) c.loop-done.invariant.grown c.in_ok-done.ensures.gained
          ∙ ap (grown (g.K.Sink.written c.args.sink.now)) (take_next done count piece);
      counted = omega (arith, c.loop-done.invariant.counted, c.write.ensures.counted);
    }
