use Rattle.std.specs.List.{All}
use Rattle.dg_columns.specs.NamesInRange.{NamesFit}
use Rattle.dg_disk.specs.Calls.{ReadsDisk}
use Rattle.dg_graph.specs.declared.event.Event.{Event}
use Rattle.dg_records.specs.EventNames.{EventNamesAreThere}
use Rattle.dg_start.specs.EventSources.{sources_in}
use Rattle.dg_start.proofs.RecentEventSources.{ReadSoFar}
use Rattle.dg_start.proofs.source_events.read_sources.Given as goal

abbrev pub invariant-loop-source : goal.invariant-loop-source
invariant-loop-source g l = record {
  frame : ReadsDisk g.D.Disk l.fn.disk l.disk;
  so_far : ReadSoFar (g.D.Disk.image l.fn.disk) l.names l.index.opening (sources_in l.sources) l.source-index l.events.items (g.D.Disk.taken l.fn.disk) (g.D.Disk.taken l.disk);
  fit : All (λ (e : Event). NamesFit e.body) l.events.items;
  named : EventNamesAreThere l.names l.events.items;
}
