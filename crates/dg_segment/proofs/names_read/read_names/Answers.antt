use Rattle.std.proofs.Common.{◌≡◌, [], ◌∷◌, Err, length, ap, arith, length-append}
use Rattle.std.proofs.lemmas.Result.{err_from_is_err_and}
use Rattle.dg_segment.specs.declared.names_read.DirectoryFault.TheVariants.{Broken}
use Rattle.dg_segment.proofs.DirectoryTexts.{taken_first, taken_next, taken_last, taken_wrong}
use Rattle.dg_segment.proofs.names_read.read_names.Goals as goal

pub loop-init : goal.loop-init
loop-init c = record { taken = taken_first c.args.bytes.now c.args.count c.args.names.now; within = omega arith; counted = omega arith }

pub loop-preserved : goal.loop-preserved
loop-preserved c = record {
  taken = taken_next c.args.bytes.now c.args.count c.loop.counter c.loop.at c.in_ok-at.at c.args.names.now c.loop.names c.read_name.new.names (omega (arith, c.loop-test.true)) c.loop.invariant.taken c.in_ok-at.ensures.taken;
  within = c.in_ok-at.ensures.within;
  counted = omega (arith, ap length c.in_ok-at.ensures.taken.gained, length-append c.loop.names (c.in_ok-at.ensures.taken.text ∷ []), c.loop.invariant.counted);
}

pub returns-in_err-at-clause-broken : goal.returns-in_err-at-clause-broken
returns-in_err-at-clause-broken c = λ broken.
    let p = err_from_is_err_and c.from_residual.result c.from_residual.ensures.1 in
    let is : c.read_name.result ≡ Err Broken = cc (c.in_err-at.was, p.1, p.2, broken) in
    taken_wrong c.args.bytes.now c.args.count c.loop.counter c.loop.at c.args.names.now c.loop.names (omega (arith, c.loop-test.true)) c.loop.invariant.taken (c.read_name.ensures.broken is)

pub returns-clause-taken : goal.returns-clause-taken
returns-clause-taken c = taken_last c.args.bytes.now c.args.count c.loop.counter c.loop.at c.args.names.now c.loop.names (omega (arith, c.loop-test.false)) c.loop.invariant.taken
