use Rattle.std.proofs.Common.{◌≡◌, ◌++◌, ◌∙◌, List, sym, ap}
use Rattle.std.proofs.lemmas.List.{take-append-drop}
use Rattle.dg_append.proofs.nets.nets_of.Goals as goal
use Rattle.dg_delta.proofs.Deltas.{IsSet-applied}
use Rattle.dg_graph.proofs.ExactEvents.{replay_append}
use Rattle.dg_graph.specs.declared.element.Element.{Element}
use Rattle.dg_graph.specs.declared.event.Event.{Event}
use Rattle.dg_graph.specs.Composition.{applied}
use Rattle.dg_graph.specs.Replay.{replay_from}

pub returns : goal.returns
returns c = λ set is.
    let front : List Event = c.split_at.result.0.now in
    let back : List Event = c.split_at.result.1.now in
    let events : List Event = c.args.events.now in
    let whole : front ++ back ≡ events = (λ i. c.split_at.ensures.front i ++ c.split_at.ensures.back i) ∙ take-append-drop _ events in
    c.in_ok-later.ensures.applies (applied c.in_ok-earlier.earlier set) (IsSet-applied c.in_ok-earlier.earlier set is)
    ∙ ap (λ (s : List Element). replay_from s back) (c.in_ok-earlier.ensures.applies set is)
    ∙ sym (replay_append set front back)
    ∙ ap (replay_from set) whole
