use Rattle.std.proofs.Common.{◌≡◌, ◌≤◌, length, take, arith, sym, ap, ◌∙◌}
use Rattle.dg_expr.specs.Expressions.{distinct, times_in, times_of}
use Rattle.dg_expr.proofs.Expressions.{room_more, count_more, count_few, times_more}
use Rattle.dg_expr.proofs.expression.Expr.instants.Goals as goal

pub add-requires : goal.add-requires
add-requires c =
    room_more c.args.self.now.words c.args.self.now.count c.loop-i.i _ c.loop-i.instants.count c.requires.expression c.loop-i-test.true (omega arith) c.loop-i.invariant.count

pub loop-i-preserved : goal.loop-i-preserved
loop-i-preserved c =
    let ws = c.args.self.now.words in
    let i = c.loop-i.i in
    record {
      times = times_more ws i _ (times_of c.loop-i.instants) _ (omega arith) c.loop-i.invariant.times c.add.ensures.times;
      count = count_more ws i _ c.loop-i.instants.count _ (omega arith) c.loop-i.invariant.count c.add.ensures.count;
      within = omega arith;
    }

pub returns-clause-times : goal.returns-clause-times
returns-clause-times c =
    let ended : c.loop-i.i ≡ c.args.self.now.count = omega (arith, c.loop-i.invariant.within) in
    c.loop-i.invariant.times ∙ ap (λ n. distinct (times_in (take n c.args.self.now.words))) ended

pub returns-clause-count : goal.returns-clause-count
returns-clause-count c = count_few c.args.self.now.words c.args.self.now.count c.loop-i.i c.loop-i.instants.count c.requires.expression c.loop-i.invariant.within c.loop-i.invariant.count
