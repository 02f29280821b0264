use Rattle.std.proofs.Common.{◌≡◌, Option, IfSome, sym, subst, ◌∙◌}
use Rattle.dg_graph.specs.declared.element.Element.{Element}
use Rattle.dg_graph.specs.Effect.{added_by, forwards, backwards}
use Rattle.dg_graph.specs.Elements.{without}
use Rattle.dg_current.specs.HeldGraph.{IsKnown}
use Rattle.dg_current.proofs.EventEffect.{if_some, IsLoose, IsWelcome, loose_backwards, welcome_backwards, alike_backwards, room_first}
use Rattle.dg_current.proofs.event_effect.undo_one.Goals as goal

pub replace-requires-clause-loose : goal.replace-requires-clause-loose
replace-requires-clause-loose c =
    let set = c.args.graph.now.set in
    let e = c.args.event.now in
    if_some c.effect-removed.result.1 (IsLoose set)
    (λ y is. subst (λ s. IsLoose s y) (sym c.requires.came.comes)
    (loose_backwards (backwards set e) e.body c.requires.came.graph c.requires.came.happened y (sym c.effect-removed.ensures.added ∙ is)))

pub replace-requires-clause-fits : goal.replace-requires-clause-fits
replace-requires-clause-fits c =
    let set = c.args.graph.now.set in
    let e = c.args.event.now in
    let left : without (forwards (backwards set e) e) (added_by e.body) ≡ without set c.effect-removed.result.1 =
    λ i. without (sym c.requires.came.comes i) (sym c.effect-removed.ensures.added i) in
    if_some c.effect-removed.result.0 (IsWelcome (without set c.effect-removed.result.1))
    (λ x is. subst (λ s. IsWelcome s x) left
    (welcome_backwards (backwards set e) e.body c.requires.came.graph c.requires.came.happened x (sym c.effect-removed.ensures.removed ∙ is)))

pub replace-requires-clause-alike : goal.replace-requires-clause-alike
replace-requires-clause-alike c =
    alike_backwards c.args.event.now.body c.effect-removed.result.0 c.effect-removed.result.1 c.effect-removed.ensures.removed c.effect-removed.ensures.added

pub replace-requires-clause-room : goal.replace-requires-clause-room
replace-requires-clause-room c =
    let graph = c.args.graph.now in
    room_first graph c.effect-removed.result.1 c.effect-removed.result.0
    (subst (λ (o : Option Element). IfSome o (IsKnown graph)) (sym c.effect-removed.ensures.added) c.requires.known.added)
    (subst (λ (o : Option Element). IfSome o (IsKnown graph)) (sym c.effect-removed.ensures.removed) c.requires.known.removed)
