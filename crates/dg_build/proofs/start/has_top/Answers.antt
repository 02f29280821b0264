use Rattle.std.proofs.Common.{◌<◌, ◌≤◌, refl, arith}
use Rattle.std.proofs.lemmas.Bool.{false≢true}
use Rattle.dg_build.proofs.OlderSteps.{top_above, top_below, top_here, top_there}
use Rattle.dg_build.proofs.start.has_top.Goals as goal

pub returns-then-q-k : goal.returns-then-q-k
returns-then-q-k c =
    let lt : c.loop-end.q < c.args.k = omega (arith, c.if-q-k.true) in
    let le : c.args.k ≤ c.loop-end.end = omega (arith, c.loop-end-test.true) in
    (λ _. c.loop-end.invariant.1 (top_here c.args.k c.loop-end.q c.loop-end.end lt le), λ _. refl)

pub loop-end-preserved : goal.loop-end-preserved
loop-end-preserved c =
    let le : c.args.k ≤ c.loop-end.q = omega (arith, c.if-q-k.false) in
    (λ top. top_below c.args.k c.loop-end.q c.loop-end.end c.requires le (c.loop-end.invariant.0 top), λ top. c.loop-end.invariant.1 (top_above c.args.k c.loop-end.q c.loop-end.end c.requires top))

pub returns : goal.returns
returns c = (
  λ no. absurd (false≢true no),
  λ top. absurd (omega (arith, c.loop-end-test.false, top_there c.args.k c.loop-end.q c.loop-end.end c.requires (c.loop-end.invariant.0 top))),
)
