use Rattle.std.proofs.Common.{◌≡◌, ◌+◌, sym, ap, ◌∙◌, take, set, length, arith}
use Rattle.std.proofs.lemmas.List.{length-set}
use Rattle.std.proofs.lemmas.List.Edits.{map_over_more}
use Rattle.dg_expr.specs.Rests.{begins, past}
use Rattle.dg_expr.proofs.Walks.{read_over, written_more}
use Rattle.dg_expr.proofs.selection.skip_all.Goals as goal

pub loop-i-preserved : goal.loop-i-preserved
loop-i-preserved c =
    let xs = c.args.rests.now in
    let ys = c.loop-i.rests in
    let i = c.loop-i.i in
    let x = c.args.x.now in
    let rest = c.index-rests-i.result in
    let inv = c.loop-i.invariant in
    let as_it_was = read_over (past x) xs ys i rest c.loop-i-test.true inv.past c.index-rests-i.is in
    record {
      past = ap (set ys i) (c.skip.ensures.after ∙ ap (past x) (sym c.index-rests-i.is))
          ∙ map_over_more (past x) xs ys i rest c.loop-i-test.true inv.past c.index-rests-i.is;
      there = ap (λ b. take (i + 1) (set c.loop-i.there i b)) (c.skip.ensures.was ∙ ap (begins x) (sym c.index-rests-i.is))
          ∙ written_more (begins x) xs c.loop-i.there i rest c.loop-i-test.true (omega (arith, inv.size)) as_it_was inv.there;
      size = length-set _ _ _ ∙ inv.size;
    }
