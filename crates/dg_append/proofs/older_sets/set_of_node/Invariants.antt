use Rattle.std.proofs.Common.{◌≡◌, drop}
use Rattle.dg_append.proofs.older_sets.set_of_node.Given as goal
use Rattle.dg_append.specs.OlderChildSteps.{set_among}

abbrev pub invariant-loop-i : goal.invariant-loop-i
invariant-loop-i l = set_among (drop l.i l.nodes) (drop l.i l.sets) l.other l.node ≡ set_among l.nodes l.sets l.other l.node
