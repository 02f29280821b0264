use Rattle.std.proofs.Common.{◌∙◌, length, sym, arith}
use Rattle.std.proofs.lemmas.Bool.{false≢true}
use Rattle.dg_line.proofs.TailTexts.{value_longest}
use Rattle.dg_line.proofs.tails.value_prefix.Goals as goal

pub returns-then-i-eq-NAME_BYTES_MAX : goal.returns-then-i-eq-NAME_BYTES_MAX
returns-then-i-eq-NAME_BYTES_MAX c =
    let most = c.if-i-eq-NAME_BYTES_MAX.true in
    value_longest c.args.rest.now c.loop-i.i c.loop-i.auto.i-end c.loop-i.invariant.few c.loop-i.invariant.each (λ below more pass. omega arith)

pub returns-then-ends_line : goal.returns-then-ends_line
returns-then-ends_line c =
    value_longest c.args.rest.now c.loop-i.i c.loop-i.auto.i-end c.loop-i.invariant.few c.loop-i.invariant.each
    (λ below more pass. false≢true (sym pass ∙ sym c.ends_line.ensures ∙ c.if-ends_line.true))

pub returns : goal.returns
returns c =
    let f = c.loop-i.invariant.few in
    let e = c.loop-i.auto.i-end in
    let d = c.loop-i-test.false in
    value_longest c.args.rest.now (length c.args.rest.now) (omega arith) (omega arith) (λ k below. c.loop-i.invariant.each k (omega arith)) (λ below more pass. omega arith)
