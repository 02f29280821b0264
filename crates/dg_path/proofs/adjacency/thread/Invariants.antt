use Rattle.dg_path.specs.Search.{AreThreaded}
use Rattle.dg_path.proofs.adjacency.thread.Given as goal

abbrev pub invariant-loop-i : goal.invariant-loop-i
invariant-loop-i l = AreThreaded l.leaving l.links l.first.items l.next.items l.nodes l.i
