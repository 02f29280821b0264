use Rattle.std.proofs.Common.{◌≤◌, ◌∙◌, get_or, length, sym, arith}
use Rattle.std.proofs.lemmas.Bool.{leb-true}
use Rattle.dg_line.proofs.TailTexts.{front_key, key_longest}
use Rattle.dg_line.proofs.tails.key_prefix.Goals as goal

pub returns-then-i-eq-KEY_BYTES_MAX-clause-longest : goal.returns-then-i-eq-KEY_BYTES_MAX-clause-longest
returns-then-i-eq-KEY_BYTES_MAX-clause-longest c =
    let most = c.if-i-eq-KEY_BYTES_MAX.true in
    key_longest c.args.rest.now c.loop-i.i c.loop-i.auto.i-end c.loop-i.invariant.few c.loop-i.invariant.each (λ below more pass. omega arith)

pub returns-then-i-eq-KEY_BYTES_MAX-clause-whole : goal.returns-then-i-eq-KEY_BYTES_MAX-clause-whole
returns-then-i-eq-KEY_BYTES_MAX-clause-whole c = front_key c.args.rest.now c.loop-i.i c.loop-i.auto.i-end c.loop-i.invariant.few c.loop-i.invariant.each

pub returns-then-is_in_no_key-clause-longest : goal.returns-then-is_in_no_key-clause-longest
returns-then-is_in_no_key-clause-longest c =
    let low : get_or c.args.rest.now c.loop-i.i 0 ≤ 32 = leb-true (get_or c.args.rest.now c.loop-i.i 0) 32 (sym c.is_in_no_key.ensures ∙ c.if-is_in_no_key.true) in
    key_longest c.args.rest.now c.loop-i.i c.loop-i.auto.i-end c.loop-i.invariant.few c.loop-i.invariant.each (λ below more pass. omega arith)

pub returns-then-is_in_no_key-clause-whole : goal.returns-then-is_in_no_key-clause-whole
returns-then-is_in_no_key-clause-whole c = front_key c.args.rest.now c.loop-i.i c.loop-i.auto.i-end c.loop-i.invariant.few c.loop-i.invariant.each

pub returns-clause-longest : goal.returns-clause-longest
returns-clause-longest c =
    let f = c.loop-i.invariant.few in
    let e = c.loop-i.auto.i-end in
    let d = c.loop-i-test.false in
    key_longest c.args.rest.now (length c.args.rest.now) (omega arith) (omega arith) (λ k below. c.loop-i.invariant.each k (omega arith)) (λ below more pass. omega arith)

pub returns-clause-whole : goal.returns-clause-whole
returns-clause-whole c =
    let f = c.loop-i.invariant.few in
    let e = c.loop-i.auto.i-end in
    let d = c.loop-i-test.false in
    front_key c.args.rest.now (length c.args.rest.now) (omega arith) (omega arith) (λ k below. c.loop-i.invariant.each k (omega arith))
