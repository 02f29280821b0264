use Rattle.std.proofs.Common.{◌≡◌, ◌≤◌, true, length, take}
use Rattle.std.specs.List.{list_all}
use Rattle.dg_graph.specs.Graph.{has_needs}
use Rattle.dg_current.proofs.SortedGraphs.{HoldersPast, NeighboursDiffer}
use Rattle.dg_current.proofs.graph_test.are_sound.Given as goal

abbrev pub invariant-loop-index : goal.invariant-loop-index
invariant-loop-index l = record {
  apart : NeighboursDiffer l.items l.index;
  fed : list_all (has_needs l.items) (take l.index l.items) ≡ true;
  within : l.at ≤ length l.items;
  past : HoldersPast l.items l.at l.index;
}
