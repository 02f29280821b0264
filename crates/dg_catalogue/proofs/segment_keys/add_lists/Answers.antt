use Rattle.std.proofs.Common.{◌+◌, ◌-◌, arith}
use Rattle.dg_history.specs.declared.node.Key.TheVariants as key
use Rattle.dg_catalogue.proofs.HierarchyRecords.{next_map}
use Rattle.dg_catalogue.proofs.segment_keys.add_lists.Goals as goal

pub loop-i-preserved : goal.loop-i-preserved
loop-i-preserved c = next_map (λ i. key.List i) c.loop-i.i (c.args.until - c.loop-i.i) (c.args.until - (c.loop-i.i + 1)) c.loop-i.out.items _ _ (omega arith) c.in_ok-push.ensures.items c.loop-i.invariant
