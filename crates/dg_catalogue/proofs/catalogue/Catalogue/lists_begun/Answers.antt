use Rattle.std.proofs.Common.{ℕ, ◌+◌, ◌-◌, ◌/◌, sym, ◌∙◌, arith}
use Rattle.dg_history.specs.declared.node.Key.TheVariants as key
use Rattle.dg_catalogue.proofs.PointLists.{earlier_begun, later_not_begun, none_beyond, begun_is}
use Rattle.dg_catalogue.proofs.catalogue.Catalogue.lists_begun.Goals as goal

pub loop-low-init : goal.loop-low-init
loop-low-init c = record {
  ordered = omega arith;
  few = omega arith;
  begun = λ i lt. absurd (omega (arith, lt));
  rest = none_beyond c.args.self.now c.args.t (λ r i e. (c.facts.ensures.held (key.List i) r e).1);
}

pub loop-low-preserved-then-has_begun : goal.loop-low-preserved-then-has_begun
loop-low-preserved-then-has_begun c =
    let l = c.loop-low in
    let middle : ℕ = l.low + (l.high - l.low) / 2 in
    record {
      ordered = omega arith;
      few = l.invariant.few;
      begun = λ i lt. earlier_begun c.args.self.now c.args.t c.requires i middle (omega (arith, lt)) (sym c.has_begun.ensures ∙ c.if-has_begun.true);
      rest = l.invariant.rest;
    }

pub loop-low-preserved : goal.loop-low-preserved
loop-low-preserved c =
    let l = c.loop-low in
    let middle : ℕ = l.low + (l.high - l.low) / 2 in
    record {
      ordered = omega arith;
      few = omega (arith, l.invariant.few);
      begun = l.invariant.begun;
      rest = λ i le. later_not_begun c.args.self.now c.args.t c.requires middle i (omega (arith, le)) (sym c.has_begun.ensures ∙ c.if-has_begun.false);
    }

pub returns : goal.returns
returns c = begun_is c.args.self.now c.args.t c.loop-low.low c.loop-low.invariant.begun (λ i le. c.loop-low.invariant.rest i (omega (arith, le, c.loop-low-test.false)))
