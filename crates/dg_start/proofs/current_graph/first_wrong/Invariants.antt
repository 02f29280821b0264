use Rattle.std.proofs.Common.{◌≡◌, []}
use Rattle.dg_start.specs.EventSources.{sources_in}
use Rattle.dg_start.proofs.EventSourceTests.{TestedSoFar}
use Rattle.dg_start.proofs.current_graph.first_wrong.Given as goal

abbrev pub invariant-loop-source : goal.invariant-loop-source
invariant-loop-source l = record {
  none_pending : l.current.pending ≡ [];
  so_far : TestedSoFar l.names l.first l.fn.current.graph (sources_in l.sources) l.events l.source-index l.at l.current.graph;
}
