use Rattle.std.proofs.Common.{map, subst, sym, ◌∙◌}
use Rattle.std.proofs.lemmas.Result.{IfOk-weaker}
use Rattle.dg_graph.specs.Composition.{Composes}
use Rattle.dg_graph.specs.ExactEvents.{effect_of}
use Rattle.dg_net.proofs.ReplayNets.{all_count}
use Rattle.dg_fold.proofs.net.net.Goals as goal

pub returns : goal.returns
returns g c =
    IfOk-weaker c.merge_lists.result _ _
    (λ d composes. subst (λ l. Composes d (map effect_of l)) (sym c.split_at.ensures.by_index.0 ∙ sym (all_count c.args.events.now)) composes)
    c.merge_lists.ensures.composes
