use Rattle.std.proofs.Common.{ap, ◌∙◌, map, reverse}
use Rattle.std.proofs.lemmas.Result.{MatchResult-weaker}
use Rattle.dg_append.proofs.older_sets.last_leaf.Goals as goal
use Rattle.dg_delta.proofs.Deltas.{applies_each_in_turn}
use Rattle.dg_delta.specs.Deltas.{applied_in_turn}
use Rattle.dg_graph.specs.Composition.{applied, reversed}
use Rattle.dg_graph.specs.declared.event.Event.{Event}
use Rattle.dg_graph.specs.ExactEvents.{effect_of}

pub returns-clause-is : goal.returns-clause-is
returns-clause-is c =
    MatchResult-weaker c.apply.result c.apply.ensures
    (λ leaf is set is_set changes now_is. is ∙ ap (applied c.in_ok-back.back) (c.in_ok-now.ensures ∙ now_is) ∙ c.in_ok-back.ensures.leads_back set is_set changes) (λ _ none. none)

pub returns-clause-back : goal.returns-clause-back
returns-clause-back c =
    MatchResult-weaker c.apply.result c.apply.ensures
    (λ leaf is.
    is ∙ applies_each_in_turn c.in_ok-back.back (map (λ (e : Event). reversed (effect_of e)) (reverse c.args.recent.now)) c.in_ok-now.now c.in_ok-back.ensures.composes c.items.ensures.set
    ∙ (λ i. applied_in_turn (map (λ (e : Event). reversed (effect_of e)) (reverse c.args.recent.now)) (c.in_ok-now.ensures i))) (λ _ none. none)
