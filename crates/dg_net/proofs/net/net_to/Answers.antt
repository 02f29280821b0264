use Rattle.std.proofs.lemmas.Result.{IfOk-weaker}
use Rattle.dg_graph.specs.Replay.{events_until}
use Rattle.dg_net.proofs.ReplayNets.{replays}
use Rattle.dg_net.proofs.net.net_to.Goals as goal

pub returns-clause-applies : goal.returns-clause-applies
returns-clause-applies c =
    IfOk-weaker c.net_on.result _ _ (λ d composes. replays d (events_until c.args.events.now c.args.t) composes) c.net_on.ensures
