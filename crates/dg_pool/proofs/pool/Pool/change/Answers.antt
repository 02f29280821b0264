use Rattle.dg_pool.proofs.GrownCells.{grown_names}
use Rattle.dg_pool.proofs.pool.Pool.change.Goals as goal

pub returns-clause-explicit : goal.returns-clause-explicit
returns-clause-explicit c =
    grown_names c.args.delta.now c.args.self.now.rows c.make_numbered.new.self.rows c.write.new.self.rows c.make_numbered.ensures.grows c.write.ensures.explicit
