-- Each weight is below the sum of those that were there and what is heard so far.
use Rattle.std.proofs.Common.{arith, ◌+◌, get_or, ap, refl}
use Rattle.dg_messages.proofs.MessageWeights.{single_light, weighed_all, weighed_next, weighed_none}
use Rattle.dg_messages.proofs.hearing.heard_weights.Goals as goal

pub loop-n-init : goal.loop-n-init
loop-n-init c = weighed_none c.args.index.now.opening c.args.times.now c.args.singles.now c.in_ok-weights.weights.items c.in_ok-weights.ensures.items

pub loop-n-preserved : goal.loop-n-preserved
loop-n-preserved c =
    let bytes = c.heard_bytes.ensures.bytes in
    let within = c.heard_bytes.ensures.within in
    weighed_next c.args.index.now.opening c.args.times.now c.args.singles.now c.requires.count c.loop-n.n c.loop-n-test.true c.loop-n.weights.items c.loop-n.sum c.loop-n.invariant
    (get_or c.args.singles.now c.loop-n.n 0 + c.heard_bytes.result) c.push.new.self.items (c.loop-n.sum + (get_or c.args.singles.now c.loop-n.n 0 + c.heard_bytes.result))
    (ap (λ b. get_or c.args.singles.now c.loop-n.n 0 + b) bytes) (omega arith) c.in_ok-push.ensures.items refl

pub overflow_add-weight : goal.overflow_add-weight
overflow_add-weight c =
    let low = single_light c.args.index.now.opening c.args.times.now c.args.singles.now c.requires.count c.loop-n.n c.loop-n-test.true c.loop-n.weights.items c.loop-n.sum c.loop-n.invariant in
    let within = c.heard_bytes.ensures.within in
    let light = c.requires.light in
    let few = c.requires.few in
    let test = c.loop-n-test.true in
    omega arith

pub overflow_add-sum : goal.overflow_add-sum
overflow_add-sum c =
    let low = single_light c.args.index.now.opening c.args.times.now c.args.singles.now c.requires.count c.loop-n.n c.loop-n-test.true c.loop-n.weights.items c.loop-n.sum c.loop-n.invariant in
    let within = c.heard_bytes.ensures.within in
    let light = c.requires.light in
    let few = c.requires.few in
    let test = c.loop-n-test.true in
    omega arith

pub returns-clause-singles : goal.returns-clause-singles
returns-clause-singles c =
    weighed_all c.args.index.now.opening c.args.times.now c.args.singles.now c.loop-n.weights.items c.loop-n.n c.loop-n.sum c.loop-n-test.false c.loop-n.invariant
