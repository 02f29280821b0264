use Rattle.dg_file.proofs.HeaderSegments.{ended}
use Rattle.dg_file.proofs.index.Index.read_segments.Goals as goal

pub returns-clause-opened : goal.returns-clause-opened
returns-clause-opened g c =
    ended (g.D.Disk.image c.args.disk.now) c.loop-gate.self.opening c.loop-gate.names c.loop-gate.gate c.loop-gate-test.false c.loop-gate.invariant.so_far
