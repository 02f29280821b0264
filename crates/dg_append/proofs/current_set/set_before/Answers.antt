use Rattle.std.proofs.Common.{◌≡◌, ◌∙◌, List, sym, ap, subst}
use Rattle.std.proofs.lemmas.Result.{MatchResult-weaker}
use Rattle.dg_append.proofs.current_set.set_before.Goals as goal
use Rattle.dg_graph.specs.Composition.{applied}
use Rattle.dg_graph.specs.declared.element.Element.{Element}
use Rattle.dg_graph.specs.ExactEvents.{AreChangesOf}
use Rattle.dg_graph.specs.Replay.{replay_from}

pub returns : goal.returns
returns c =
    let graph : List Element = c.args.current.now.graph in
    let same : c.pending.result.now ≡ c.args.current.now.pending = c.pending.ensures in
    MatchResult-weaker c.apply.result c.apply.ensures
    (λ set is.
    is ∙ ap (applied c.in_ok-back.back) (c.in_ok-past.ensures ∙ ap (replay_from graph) (sym same))
    ∙ c.in_ok-back.ensures.leads_back graph c.facts.ensures.graph.rises (subst (AreChangesOf graph) (sym same) c.facts.ensures.changes))
    (λ _ none. none)
