use Rattle.std.proofs.Common.{◌≡◌, ◌-◌, ◌≤◌, ◌++◌, List}
use Rattle.dg_aux.specs.Turns.{turns_of}
use Rattle.dg_disk.specs.Calls.{ReadsDisk}
use Rattle.dg_graph.specs.declared.event.Event.{Event}
use Rattle.dg_heard.specs.Heard.{list_total}
use Rattle.dg_index.specs.Hierarchy.{numbers}
use Rattle.dg_range.proofs.ValueRuns.{ValuesSoFar}
use Rattle.dg_range.proofs.values.push_values.Given as goal

abbrev pub invariant-loop-list : goal.invariant-loop-list
invariant-loop-list g l = record {
  frame : ReadsDisk g.D.Disk l.initial.disk l.disk;
  few : l.list ≤ l.total;
  key : l.aux.key ≡ l.initial.aux.key;
  so_far :
      ValuesSoFar l.name_count (g.D.Disk.image l.initial.disk) l.index.opening (numbers l.list (list_total l.index.opening - l.list))
      (λ (events : List Event). l.aux.turns ≡ l.initial.aux.turns ++ turns_of l.initial.aux.key events) (g.D.Disk.taken l.initial.disk) (g.D.Disk.taken l.disk);
}

abbrev pub decreases-loop-list : goal.decreases-loop-list
decreases-loop-list g l = l.total - l.list
