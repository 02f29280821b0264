use Rattle.std.proofs.Common.{◌+◌, ◌-◌, ◌*◌, ◌∙◌}
use Rattle.dg_append.proofs.BatchSegmentParts.{less_times}
use Rattle.dg_append.proofs.recent.closed_by.Goals as goal
use Rattle.dg_index.specs.Hierarchy.{leaves}

pub returns : goal.returns
returns c =
    less_times c.leaves.result c.leaves-2.result c.params-params.result.l
    ∙ (λ i. c.leaves.ensures.leaves i * (c.params-params.ensures i).l - c.leaves-2.ensures.leaves i * (c.params-params.ensures i).l)
    ∙ (λ i. leaves (c.params-params.ensures i) (c.events_len-events.ensures.events i + c.args.count) * c.args.index.now.opening.params.l
    - leaves (c.params-params.ensures i) (c.events_len-events.ensures.events i) * c.args.index.now.opening.params.l)
