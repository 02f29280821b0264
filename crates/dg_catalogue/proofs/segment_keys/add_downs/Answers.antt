use Rattle.std.proofs.Common.{◌+◌, ◌-◌, arith}
use Rattle.dg_history.specs.declared.node.Key.TheVariants as key
use Rattle.dg_catalogue.proofs.HierarchyRecords.{next_map}
use Rattle.dg_catalogue.proofs.segment_keys.add_downs.Goals as goal

pub loop-c-preserved : goal.loop-c-preserved
loop-c-preserved c = next_map (λ i. key.Down c.args.height i) c.loop-c.c (c.args.until - c.loop-c.c) (c.args.until - (c.loop-c.c + 1)) c.loop-c.out.items _ _ (omega arith) c.in_ok-push.ensures.items c.loop-c.invariant
