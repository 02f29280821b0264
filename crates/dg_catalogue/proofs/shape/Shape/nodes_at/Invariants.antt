use Rattle.std.proofs.Common.{◌≡◌, ◌/◌, ◌^◌, ◌≤◌}
use Rattle.dg_catalogue.proofs.shape.Shape.nodes_at.Given as goal

abbrev pub invariant-loop-below : goal.invariant-loop-below
invariant-loop-below l = record {
  nodes : l.nodes ≡ l.self.events / l.self.l / l.self.k ^ l.below;
  within : l.below ≤ l.height;
}

abbrev pub decreases-loop-below : goal.decreases-loop-below
decreases-loop-below l = l.nodes
