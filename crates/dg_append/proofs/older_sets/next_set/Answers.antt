use Rattle.std.proofs.Common.{◌+◌, ◌∙◌, arith}
use Rattle.dg_append.proofs.OlderChildSteps.{last_set, next_set}
use Rattle.dg_append.proofs.older_sets.next_set.Goals as goal
use Rattle.dg_append.specs.OlderChildSteps.{set_among}

pub returns-then-index-in_time : goal.returns-then-index-in_time
returns-then-index-in_time c =
    c.set_of_node.ensures
    ∙ next_set (set_among c.args.nodes.now c.args.sets.now c.args.end.now) c.args.in_time.now (c.args.index + 1) c.args.end.now _ (omega (arith, c.if-index-in_time.true))

pub returns-else-index-in_time : goal.returns-else-index-in_time
returns-else-index-in_time c = last_set (set_among c.args.nodes.now c.args.sets.now c.args.end.now) c.args.in_time.now (c.args.index + 1) c.args.end.now (omega (arith, c.if-index-in_time.false))
