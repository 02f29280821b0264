use Rattle.std.proofs.Common.{sym}
use Rattle.dg_session.proofs.PoolOverlays.{none_found, none_stands}
use Rattle.dg_session.proofs.session.queries.view_of.Goals as goal

pub returns-in-None : goal.returns-in-None
returns-in-None c = record {
  graph = sym (none_found c.args.handles.now c.args.pool.now c.in-None.is c.requires.tied c.args.handle);
  there = sym (none_stands c.args.handles.now c.args.pool.now c.in-None.is c.requires.tied c.args.handle);
}
