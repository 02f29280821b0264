use Rattle.std.proofs.Common.{[], sym, subst}
use Rattle.dg_history.specs.EventTimes.{RisesFrom}
use Rattle.dg_splitting.proofs.PartEvents.{rises_of}
use Rattle.dg_splitting.proofs.ReadEvents.{never_crowded}
use Rattle.dg_splitting.proofs.events.read_events.Goals as goal

pub first_crowded-requires : goal.first_crowded-requires
first_crowded-requires g c = subst (RisesFrom 0) (sym c.deref.ensures.value) (rises_of c.args.session.now.parts.names [] 0 c.in_ok-events.events.items c.in_ok-events.ensures.follow)

pub returns-in-Some-clause-stops : goal.returns-in-Some-clause-stops
returns-in-Some-clause-stops g c =
    never_crowded c.args.session.now.parts (g.D.Disk.image c.args.disk.now) c.in_ok-events.events.items c.deref.result.now c.in-Some.number
    c.in_ok-events.ensures.events c.deref.ensures.value c.in-Some.ensures.crowded
