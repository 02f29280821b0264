use Rattle.dg_session.proofs.PoolOverlays.{none_given_up, none_lost}
use Rattle.dg_session.proofs.session.handles.give_up.Goals as goal

pub returns-in_default-clause-table : goal.returns-in_default-clause-table
returns-in_default-clause-table c = none_given_up c.args.handles.now c.args.pool.now c.in_default.is c.requires.tied c.args.handle

pub returns-in_default-clause-graphs : goal.returns-in_default-clause-graphs
returns-in_default-clause-graphs c = none_lost c.args.handles.now c.args.pool.now c.in_default.is c.requires.tied c.args.handle
