use Rattle.std.proofs.Common.{reverse}
use Rattle.std.proofs.lemmas.Result.{IfOk-weaker}
use Rattle.dg_graph.specs.declared.event.Event.{Event}
use Rattle.dg_graph.specs.Effect.{removed_by, added_by}
use Rattle.dg_net.proofs.ReplayNets.{leads_back}
use Rattle.dg_net.proofs.EventMarks.{events_net}
use Rattle.dg_net.proofs.net.net_back.Goals as goal

pub returns-clause-composes : goal.returns-clause-composes
returns-clause-composes c =
    IfOk-weaker c.net_of.result _ _
    (λ d composes. events_net d (λ (e : Event). added_by e.body) (λ (e : Event). removed_by e.body) (reverse c.args.events.now) c.in_ok-marks.marks.items c.in_ok-marks.ensures composes)
    c.net_of.ensures

pub returns-clause-leads_back : goal.returns-clause-leads_back
returns-clause-leads_back c =
    IfOk-weaker c.net_of.result _ _ (λ d composes. leads_back d c.args.events.now composes) (returns-clause-composes c)
