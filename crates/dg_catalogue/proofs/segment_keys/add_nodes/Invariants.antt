use Rattle.std.proofs.Common.{◌≡◌, ◌+◌, ◌-◌, ◌++◌}
use Rattle.std.specs.List.{flat_map}
use Rattle.dg_index.specs.Hierarchy.{numbers}
use Rattle.dg_index.specs.IndexRecords.{deltas_of}
use Rattle.dg_catalogue.proofs.segment_keys.add_nodes.Given as goal

abbrev pub invariant-loop-node : goal.invariant-loop-node
invariant-loop-node l = l.out.items ++ flat_map (deltas_of l.arity l.height) (numbers (l.node + 1) (l.until - l.node)) ≡ l.fn.out.items ++ flat_map (deltas_of l.arity l.height) (numbers (l.from + 1) (l.until - l.from))
