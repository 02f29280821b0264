use Rattle.std.proofs.Common.{◌++◌}
use Rattle.dg_build.proofs.SpelledRecordLists.{lists_next}
use Rattle.dg_build.proofs.records.add_lists.Goals as goal

pub loop-i-preserved : goal.loop-i-preserved
loop-i-preserved c =
    lists_next c.args.messages c.args.l c.loop-i.i (c.args.first.now ++ c.args.later.now) c.list_at.result.now c.args.segment.now c.loop-i.segment c.add_list.new.segment c.loop-i.invariant c.list_at.ensures c.in_ok-add_list.ensures
