use Rattle.std.proofs.Common.{◌≡◌, ◌-◌, drop}
use Rattle.dg_columns.specs.MergeWalk.{walked}
use Rattle.dg_columns.proofs.MergeWalk.{after_walked}
use Rattle.dg_columns.proofs.column_merge.merge_rising.Given as goal

abbrev pub invariant-loop-position : goal.invariant-loop-position
invariant-loop-position l =
    after_walked l.events.items (walked (l.len - l.position) l.position l.earliest (drop l.next.structure l.structure) (drop l.next.node_attrs l.node_attrs) (drop l.next.edge_attrs l.edge_attrs) (drop l.next.transient l.transient))
    ≡ walked l.len 0 0 l.structure l.node_attrs l.edge_attrs l.transient
