-- Worked rows: what the events of some time add in a small history, computed.
use Rattle.std.proofs.Common.{◌≡◌, ℕ, true, List, [], ◌∷◌, None, Some, refl}
use Rattle.dg_graph.specs.declared.element.Element.TheVariants as element
use Rattle.dg_graph.specs.declared.event.Body.TheVariants as body
use Rattle.dg_graph.specs.declared.event.Event.{Event}
use Rattle.dg_added.specs.Additions.{added_between}

abbrev five : List Event
five =
    record { time = 10; body = body.NodeAdded 1 }
    ∷ record { time = 20; body = body.NodeAdded 2 }
    ∷ record { time = 30; body = body.EdgeAdded true 5 1 2 }
    ∷ record { time = 40; body = body.NodeAttr 0 1 None (Some 1) }
    ∷ record { time = 50; body = body.EdgeRemoved true 5 1 2 }
    ∷ []

-- the end is not in the range
twenty_to_forty : added_between 20 40 five ≡ element.Node 2 ∷ element.Edge true 5 1 2 ∷ []
twenty_to_forty = refl

-- what goes is not added
fifty : added_between 50 51 five ≡ []
fifty = refl

empty_range : added_between 40 20 five ≡ []
empty_range = refl

-- a message is sent once, however often
messages : added_between 20 21 (record { time = 20; body = body.Message 1 2 4 } ∷ record { time = 20; body = body.Message 1 2 3 } ∷ record { time = 20; body = body.Message 1 2 4 } ∷ [])
    ≡ element.Message 1 2 3 ∷ element.Message 1 2 4 ∷ []
messages = refl
