use Rattle.std.proofs.Common.{◌≡◌, ◌+◌, ◌-◌, ◌*◌, ◌/◌, ◌^◌, ◌≤◌, ◌++◌}
use Rattle.std.specs.List.{flat_map}
use Rattle.dg_index.specs.Hierarchy.{numbers}
use Rattle.dg_index.specs.IndexRecords.{deltas_due_at, deltas_due}
use Rattle.dg_catalogue.proofs.segment_keys.add_deltas.Given as goal

abbrev pub invariant-loop-low : goal.invariant-loop-low
invariant-loop-low l = record {
  low : l.low ≡ l.from / l.arity ^ l.height;
  high : l.high ≡ l.until / l.arity ^ l.height;
  up : l.low ≤ l.high;
  few : l.high * l.arity ≤ l.until;
  some : 1 ≤ l.height;
  far : l.height ≤ l.until + 1;
  is : l.out.items ++ flat_map (deltas_due_at l.arity l.from l.until) (numbers l.height (l.until + 1 - l.height)) ≡ l.fn.out.items ++ deltas_due l.arity l.from l.until;
}

abbrev pub decreases-loop-low : goal.decreases-loop-low
decreases-loop-low l = l.high
