use Rattle.std.proofs.Common.{ℕ, ◌+◌, ◌-◌, ◌/◌, sym, ◌∙◌, arith}
use Rattle.dg_heard.proofs.HeardLists.{ended_up_to, open_from}
use Rattle.dg_heard.proofs.lists.first_open.Goals as goal

pub loop-low-init : goal.loop-low-init
loop-low-init c = record {
  begun = omega arith;
  ordered = omega (arith, c.requires.ordered);
  few = omega arith;
  ended = λ i low high. absurd (omega arith);
  rest = λ i low high. absurd (omega arith);
}

pub loop-low-preserved-then-has_ended : goal.loop-low-preserved-then-has_ended
loop-low-preserved-then-has_ended c =
    let l = c.loop-low in
    let middle : ℕ = l.low + (l.high - l.low) / 2 in
    record {
      begun = omega (arith, l.invariant.begun);
      ordered = omega arith;
      few = l.invariant.few;
      ended = λ i low high. ended_up_to c.args.lists.now c.requires.rise c.args.t i middle (omega arith) (sym c.has_ended.ensures ∙ c.if-has_ended.true);
      rest = l.invariant.rest;
    }

pub loop-low-preserved : goal.loop-low-preserved
loop-low-preserved c =
    let l = c.loop-low in
    let middle : ℕ = l.low + (l.high - l.low) / 2 in
    record {
      begun = l.invariant.begun;
      ordered = omega arith;
      few = omega (arith, l.invariant.few);
      ended = l.invariant.ended;
      rest = λ i low high. open_from c.args.lists.now c.requires.rise c.args.t middle i (omega arith) (sym c.has_ended.ensures ∙ c.if-has_ended.false);
    }

pub returns : goal.returns
returns c =
    let l = c.loop-low in
    record {
      within = (l.invariant.begun, omega (arith, l.invariant.ordered, l.invariant.few));
      ended = l.invariant.ended;
      rest = λ i low high. l.invariant.rest i (omega (arith, low, c.loop-low-test.false)) high;
    }
