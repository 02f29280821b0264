use Rattle.std.proofs.Common.{◌++◌, map, filter, None}
use Rattle.std.proofs.lemmas.Result.{IfOk-weaker}
use Rattle.dg_graph.specs.ExactEvents.{effect_of}
use Rattle.dg_net.specs.Lists.{counts}
use Rattle.dg_net.proofs.ReplayNets.{composes_halves, cut_whole, replays}
use Rattle.dg_net.proofs.net.merge_lists.Goals as goal

pub returns-clause-composes : goal.returns-clause-composes
returns-clause-composes g c =
    let left = c.args.left.now in
    let right = c.args.right.now in
    let first = c.in_ok-first in
    let then = c.in_ok-then in
    IfOk-weaker c.compose.result _ _
    (λ d composes.
    composes_halves d first.first then.then (map effect_of (filter (counts None) left)) (map effect_of (filter (counts None) right))
    (map effect_of (left ++ right)) composes first.ensures then.ensures (cut_whole left right))
    c.compose.ensures.composes

pub returns-clause-applies : goal.returns-clause-applies
returns-clause-applies g c =
    IfOk-weaker c.compose.result _ _ (λ d composes. replays d (c.args.left.now ++ c.args.right.now) composes) (returns-clause-composes g c)
