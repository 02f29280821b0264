use Rattle.dg_disk.specs.Calls.{ReadsDisk}
use Rattle.dg_fold.proofs.BytesReadGrowth.{SoFar}
use Rattle.dg_fold.proofs.fetch.fetch_walk.Given as goal

abbrev pub invariant-loop-edge : goal.invariant-loop-edge
invariant-loop-edge g l = record {
  so_far : SoFar (g.D.Disk.image l.fn.disk) l.fn.index.opening l.cols l.walk l.edge-index l.parts.items (g.D.Disk.taken l.fn.disk) (g.D.Disk.taken l.disk);
  frame : ReadsDisk g.D.Disk l.fn.disk l.disk;
}
