use Rattle.std.proofs.Common.{List, map, subst}
use Rattle.std.proofs.lemmas.Result.{IfOk-weaker}
use Rattle.dg_graph.specs.declared.event.Event.{Event}
use Rattle.dg_graph.specs.Composition.{Composes}
use Rattle.dg_graph.specs.ExactEvents.{effect_of}
use Rattle.dg_net.proofs.ReplayNets.{all_count, replays}
use Rattle.dg_net.proofs.net.whole_net.Goals as goal

pub returns-clause-composes : goal.returns-clause-composes
returns-clause-composes c =
    IfOk-weaker c.net_on.result _ _
    (λ d composes. subst (λ (es : List Event). Composes d (map effect_of es)) (all_count c.args.events.now) composes)
    c.net_on.ensures

pub returns-clause-applies : goal.returns-clause-applies
returns-clause-applies c =
    IfOk-weaker c.net_on.result _ _ (λ d composes. replays d c.args.events.now composes) (returns-clause-composes c)
