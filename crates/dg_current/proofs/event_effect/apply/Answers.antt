use Rattle.std.proofs.Common.{◌≡◌, true, Option, IfSome, sym, subst, ◌∙◌}
use Rattle.dg_graph.specs.declared.element.Element.{Element}
use Rattle.dg_graph.specs.Effect.{removed_by}
use Rattle.dg_graph.specs.Elements.{without, with_one}
use Rattle.dg_graph.specs.Graph.{has_needs}
use Rattle.dg_current.specs.HeldGraph.{HasRoom, IsKnown}
use Rattle.dg_current.proofs.EventEffect.{if_some, IsLoose, IsWelcome, loose_forwards, welcome_forwards, fed_first, alike_forwards}
use Rattle.dg_current.proofs.event_effect.apply.Goals as goal

pub make_room-requires : goal.make_room-requires
make_room-requires c =
    let set = c.args.graph.now.set in
    subst (λ (o : Option Element). IfSome o (λ x. has_needs set x ≡ true)) (sym c.or.ensures)
    (fed_first set c.args.event.now.body c.requires.graph c.requires.happens c.effect-removed.result.0 c.effect-removed.result.1 c.effect-removed.ensures.removed c.effect-removed.ensures.added)

pub replace-requires-clause-loose : goal.replace-requires-clause-loose
replace-requires-clause-loose c =
    let set = c.args.graph.now.set in
    if_some c.effect-removed.result.0 (IsLoose c.make_room.new.graph.set)
    (λ x e. subst (λ s. IsLoose s x) (sym c.in_ok-make_room.ensures.set)
    (loose_forwards set c.args.event.now.body c.requires.graph c.requires.happens x (sym c.effect-removed.ensures.removed ∙ e)))

pub replace-requires-clause-fits : goal.replace-requires-clause-fits
replace-requires-clause-fits c =
    let set = c.args.graph.now.set in
    let before = c.make_room.new.graph.set in
    let removed : without set (removed_by c.args.event.now.body) ≡ without before c.effect-removed.result.0 =
    λ i. without (sym c.in_ok-make_room.ensures.set i) (sym c.effect-removed.ensures.removed i) in
    if_some c.effect-removed.result.1 (IsWelcome (without before c.effect-removed.result.0))
    (λ y e. subst (λ s. IsWelcome s y) removed
    (welcome_forwards set c.args.event.now.body c.requires.graph c.requires.happens y (sym c.effect-removed.ensures.added ∙ e)))

pub replace-requires-clause-alike : goal.replace-requires-clause-alike
replace-requires-clause-alike c =
    alike_forwards c.args.event.now.body c.effect-removed.result.0 c.effect-removed.result.1 c.effect-removed.ensures.removed c.effect-removed.ensures.added

pub replace-requires-clause-room : goal.replace-requires-clause-room
replace-requires-clause-room c =
    subst (λ (o : Option Element). IfSome o (HasRoom c.make_room.new.graph)) c.or.ensures c.in_ok-make_room.ensures.room

pub returns-clause-known : goal.returns-clause-known
returns-clause-known c =
    let new = c.replace.new.graph in
    record {
      removed = subst (λ (o : Option Element). IfSome o (IsKnown new)) c.effect-removed.ensures.removed c.replace.ensures.out;
      added = subst (λ (o : Option Element). IfSome o (IsKnown new)) c.effect-removed.ensures.added c.replace.ensures.into;
    }

pub returns-clause-set : goal.returns-clause-set
returns-clause-set c =
    c.replace.ensures.set
    ∙ (λ i. with_one (without (c.in_ok-make_room.ensures.set i) (c.effect-removed.ensures.removed i)) (c.effect-removed.ensures.added i))
