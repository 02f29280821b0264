use Rattle.std.proofs.Common.{◌-◌, length}
use Rattle.std.specs.List.{All}
use Rattle.dg_start.specs.declared.event_source.EventSource.{EventSource}
use Rattle.dg_start.specs.EventSources.{CanBeRead, source_of}
use Rattle.dg_start.proofs.EventSourceSources.{PiecesSoFar}
use Rattle.dg_start.proofs.event_source.recent_sources.Given as goal

abbrev pub invariant-loop-batch : goal.invariant-loop-batch
invariant-loop-batch l = record {
  so_far : PiecesSoFar l.index.opening l.number l.before l.found.items;
  readable : All (λ (s : EventSource). CanBeRead l.index.opening (source_of s)) l.found.items;
}

abbrev pub decreases-loop-batch : goal.decreases-loop-batch
decreases-loop-batch l = length l.index.opening.batches - l.number
