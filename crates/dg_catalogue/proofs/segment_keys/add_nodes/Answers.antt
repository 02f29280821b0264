use Rattle.std.proofs.Common.{◌+◌, ◌-◌, arith}
use Rattle.dg_index.specs.IndexRecords.{deltas_of}
use Rattle.dg_catalogue.proofs.HierarchyRecords.{next_flat}
use Rattle.dg_catalogue.proofs.segment_keys.add_nodes.Goals as goal

pub loop-node-preserved : goal.loop-node-preserved
loop-node-preserved c = next_flat (deltas_of c.args.arity c.args.height) (c.loop-node.node + 1) (c.args.until - c.loop-node.node) (c.args.until - (c.loop-node.node + 1)) c.loop-node.out.items _ _ (omega arith) c.in_ok-add_node.ensures c.loop-node.invariant
