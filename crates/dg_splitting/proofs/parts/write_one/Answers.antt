use Rattle.std.proofs.Common.{Err, ap, ◌∙◌}
use Rattle.dg_part_files.specs.declared.fault.PartFault.{PartFault}
use Rattle.dg_splitting.specs.WholeHistory.{AreWhole}
use Rattle.dg_splitting.proofs.PartEnds.{events_may, part_front, part_stops}
use Rattle.dg_splitting.proofs.parts.write_one.Goals as goal

pub write_part-requires-clause-follow : goal.write_part-requires-clause-follow
write_part-requires-clause-follow g c =
    (events_may c.args.whole.now.names.now c.args.parts c.args.part c.args.whole.now.events.now c.in_ok-events.events.items c.deref.result.now c.requires.whole.are_whole c.in_ok-events.ensures c.deref.ensures.value).follow

pub write_part-requires-clause-named : goal.write_part-requires-clause-named
write_part-requires-clause-named g c =
    (events_may c.args.whole.now.names.now c.args.parts c.args.part c.args.whole.now.events.now c.in_ok-events.events.items c.deref.result.now c.requires.whole.are_whole c.in_ok-events.ensures c.deref.ensures.value).named

pub write_part-requires-clause-timed : goal.write_part-requires-clause-timed
write_part-requires-clause-timed g c =
    (events_may c.args.whole.now.names.now c.args.parts c.args.part c.args.whole.now.events.now c.in_ok-events.events.items c.deref.result.now c.requires.whole.are_whole c.in_ok-events.ensures c.deref.ensures.value).timed

pub write_part-requires-clause-few : goal.write_part-requires-clause-few
write_part-requires-clause-few g c =
    (events_may c.args.whole.now.names.now c.args.parts c.args.part c.args.whole.now.events.now c.in_ok-events.events.items c.deref.result.now c.requires.whole.are_whole c.in_ok-events.ensures c.deref.ensures.value).few

pub returns-clause-stops : goal.returns-clause-stops
returns-clause-stops g c =
    part_stops g.D.Disk c.args.limit c.args.part c.args.whole.now.params c.args.whole.now.names.now c.deref.result.now _ (c.deref.ensures.value ∙ c.in_ok-events.ensures) c.in-Err.fault c.part_status.result c.part_status.ensures
    c.args.out.now c.write_part.new.out
    (events_may c.args.whole.now.names.now c.args.parts c.args.part c.args.whole.now.events.now c.in_ok-events.events.items c.deref.result.now c.requires.whole.are_whole c.in_ok-events.ensures c.deref.ensures.value).apart
    c.in-Err.ensures.stops (λ e. c.in-Err.ensures.cause (ap (λ (f : PartFault). Err f) e)) c.in-Err.ensures.used.told

pub returns-clause-front : goal.returns-clause-front
returns-clause-front g c =
    part_front g.D.Disk c.args.limit c.args.part c.args.whole.now.params c.args.whole.now.names.now c.deref.result.now _ (c.deref.ensures.value ∙ c.in_ok-events.ensures) c.in-Err.fault c.part_status.result c.part_status.ensures
    c.args.out.now c.write_part.new.out c.in-Err.ensures.front
