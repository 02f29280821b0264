use Rattle.std.proofs.Common.{◌≡◌, ◌<◌, arith, get_or, length}
use Rattle.dg_aux.specs.Turns.{said_by}
use Rattle.dg_session.specs.ValuesSaid.{said_with}
use Rattle.dg_session.proofs.IndexRuns.{next_has_room, passed_front, passed_rest, passed_said}
use Rattle.dg_session.proofs.session.indexes.pass.Goals as goal

pub apply-requires : goal.apply-requires
apply-requires c =
    let here : c.loop-aux.aux-index < length c.loop-aux.indexes = omega (arith, c.loop-aux-test.true, c.loop-aux.auto.indexes) in
    record { room = next_has_room c.loop-aux.indexes c.args.indexes.now c.loop-aux.aux-index c.aux-item.result here c.loop-aux.invariant.rest (length c.args.events.now) c.requires }

pub loop-aux-preserved : goal.loop-aux-preserved
loop-aux-preserved c =
    let xs = c.loop-aux.indexes in
    let old = c.args.indexes.now in
    let i = c.loop-aux.aux-index in
    let d = c.aux-item.result in
    let events = c.args.events.now in
    let here : i < length xs = omega (arith, c.loop-aux-test.true, c.loop-aux.auto.indexes) in
    let says_so : said_by c.tidy.new.self ≡ said_with events (said_by (get_or xs i d)) =
    passed_said (get_or xs i d) c.apply.new.self c.tidy.new.self events c.apply.ensures.key c.apply.ensures.turns c.tidy.ensures.key c.tidy.ensures.alike in
    record {
      front = passed_front xs old i d here c.loop-aux.invariant.rest events c.tidy.new.self says_so c.loop-aux.invariant.front;
      rest = passed_rest xs old i d here c.loop-aux.invariant.rest events c.tidy.new.self says_so;
    }
