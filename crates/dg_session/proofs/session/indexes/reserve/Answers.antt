use Rattle.std.proofs.Common.{◌≤◌, ◌<◌, ◌∙◌, arith, length}
use Rattle.dg_session.proofs.IndexRuns.{all_reserved, reserved_room, reserved_kept}
use Rattle.dg_session.proofs.session.indexes.reserve.Goals as goal

pub returns-in_err-reserve-clause-kept : goal.returns-in_err-reserve-clause-kept
returns-in_err-reserve-clause-kept c =
    reserved_kept c.loop-aux.indexes c.loop-aux.aux-index c.reserve.new.self c.aux-item.result c.reserve.ensures.key c.reserve.ensures.turns ∙ c.loop-aux.invariant.kept

pub loop-aux-preserved : goal.loop-aux-preserved
loop-aux-preserved c =
    let here : c.loop-aux.aux-index < length c.loop-aux.indexes = omega (arith, c.loop-aux-test.true, c.loop-aux.auto.indexes) in
    record {
      kept = reserved_kept c.loop-aux.indexes c.loop-aux.aux-index c.reserve.new.self c.aux-item.result c.reserve.ensures.key c.reserve.ensures.turns ∙ c.loop-aux.invariant.kept;
      room = reserved_room c.args.count c.loop-aux.indexes c.loop-aux.aux-index c.reserve.new.self here c.in_ok-reserve.ensures.room c.loop-aux.invariant.room;
    }

pub returns-clause-room : goal.returns-clause-room
returns-clause-room c =
    let end : length c.loop-aux.indexes ≤ c.loop-aux.aux-index = omega (arith, c.loop-aux-test.false, c.loop-aux.auto.indexes) in
    all_reserved c.args.count c.loop-aux.indexes c.loop-aux.aux-index end c.loop-aux.invariant.room
