use Rattle.std.proofs.Common.{filter}
use Rattle.std.proofs.lemmas.Result.{IfOk-weaker}
use Rattle.dg_graph.specs.declared.event.Event.{Event}
use Rattle.dg_graph.specs.Effect.{removed_by, added_by}
use Rattle.dg_net.specs.Lists.{counts}
use Rattle.dg_net.proofs.EventMarks.{events_net}
use Rattle.dg_net.proofs.net.net_on.Goals as goal

pub returns : goal.returns
returns c =
    IfOk-weaker c.net_of.result _ _
    (λ d composes. events_net d (λ (e : Event). removed_by e.body) (λ (e : Event). added_by e.body) (filter (counts c.args.until) c.args.events.now) c.in_ok-marks.marks.items c.in_ok-marks.ensures composes)
    c.net_of.ensures
