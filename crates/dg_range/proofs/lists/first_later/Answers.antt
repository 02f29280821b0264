use Rattle.std.proofs.Common.{ℕ, ◌+◌, ◌-◌, ◌/◌, sym, ◌∙◌, arith}
use Rattle.dg_range.proofs.ListTimes.{begun_up_to, later_from}
use Rattle.dg_range.proofs.lists.first_later.Goals as goal

pub loop-low-init : goal.loop-low-init
loop-low-init c = record {
  begun = omega arith;
  ordered = omega (arith, c.requires.ordered);
  few = omega arith;
  passed = λ i low high. absurd (omega arith);
  rest = λ i low high. absurd (omega arith);
}

pub loop-low-preserved-then-begins_before : goal.loop-low-preserved-then-begins_before
loop-low-preserved-then-begins_before c =
    let l = c.loop-low in
    let middle : ℕ = l.low + (l.high - l.low) / 2 in
    record {
      begun = omega (arith, l.invariant.begun);
      ordered = omega arith;
      few = l.invariant.few;
      passed = λ i low high. begun_up_to c.args.lists.now c.requires.rise c.args.t i middle (omega arith) (sym c.begins_before.ensures ∙ c.if-begins_before.true);
      rest = l.invariant.rest;
    }

pub loop-low-preserved : goal.loop-low-preserved
loop-low-preserved c =
    let l = c.loop-low in
    let middle : ℕ = l.low + (l.high - l.low) / 2 in
    record {
      begun = l.invariant.begun;
      ordered = omega arith;
      few = omega (arith, l.invariant.few);
      passed = l.invariant.passed;
      rest = λ i low high. later_from c.args.lists.now c.requires.rise c.args.t middle i (omega arith) (sym c.begins_before.ensures ∙ c.if-begins_before.false);
    }

pub returns : goal.returns
returns c =
    let l = c.loop-low in
    record {
      within = (l.invariant.begun, omega (arith, l.invariant.ordered, l.invariant.few));
      begun = l.invariant.passed;
      later = λ i low high. l.invariant.rest i (omega (arith, low, c.loop-low-test.false)) high;
    }
