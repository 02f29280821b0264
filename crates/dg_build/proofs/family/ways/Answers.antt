use Rattle.std.proofs.Common.{◌≡◌, ◌-◌, ◌<◌, length, get_or, ap, ◌∙◌, arith}
use Rattle.dg_build.proofs.InteriorDeltaWays.{ways_first, one_left, ways_more, ways_done, rest_done}
use Rattle.dg_build.proofs.family.ways.Goals as goal

pub loop-ways-init : goal.loop-ways-init
loop-ways-init c =
    ways_first c.args.count c.args.row.now.items c.in_ok-ways.ways.items c.push.new.self.items c.next_step.result c.next_step.new.row.items c.requires.some c.in_ok-ways.ensures.items c.in_ok-push.ensures.items c.next_step.ensures

pub loop-ways-preserved : goal.loop-ways-preserved
loop-ways-preserved c =
    ways_more c.args.count c.args.row.now.items c.loop-ways.ways.items c.push-in-loop-ways.new.self.items c.index.result.now c.next_step-in-loop-ways.result c.in_ok-way.way c.loop-ways.row.items c.next_step-in-loop-ways.new.row.items c.requires.there
    (let lt : length c.loop-ways.ways.items < c.args.count = omega (arith, c.loop-ways-test.true) in lt) c.loop-ways.invariant (c.index.ensures ∙ ap (λ n. get_or c.loop-ways.ways.items n c.index.result.now) (let e : c.len-in-loop-ways.result - 1 ≡ length c.loop-ways.ways.items - 1 = omega (arith, c.len-in-loop-ways.ensures) in e)) c.next_step-in-loop-ways.ensures c.in_ok-way.ensures c.in_ok-push-2.ensures.items

pub returns-clause-ways : goal.returns-clause-ways
returns-clause-ways c = ways_done c.args.count c.args.row.now.items c.loop-ways.ways.items c.loop-ways.row.items (omega (arith, c.loop-ways-test.false)) c.loop-ways.invariant

pub returns-clause-rest : goal.returns-clause-rest
returns-clause-rest c = rest_done c.args.count c.args.row.now.items c.loop-ways.ways.items c.loop-ways.row.items (omega (arith, c.loop-ways-test.false)) c.loop-ways.invariant

pub next_step-requires-in-loop-ways : goal.next_step-requires-in-loop-ways
next_step-requires-in-loop-ways c = one_left c.args.count c.args.row.now.items c.loop-ways.ways.items c.loop-ways.row.items c.requires.there (let lt : length c.loop-ways.ways.items < c.args.count = omega (arith, c.loop-ways-test.true) in lt) c.loop-ways.invariant
