-- Worked rows: the values of a key in a small history, computed.
use Rattle.std.proofs.Common.{◌≡◌, ℕ, true, false, List, [], ◌∷◌, ◌++◌, None, Some, refl}
use Rattle.dg_graph.specs.declared.event.Body.TheVariants as body
use Rattle.dg_graph.specs.declared.event.Event.{Event}
use Rattle.dg_graph.specs.Replay.{replay_at}
use Rattle.dg_aux.specs.Turns.{additions, says, turns_of}
use Rattle.dg_aux.specs.Values.{additions_of, nodes_with}

-- the key 0, and its values 1 and 2
abbrev five : List Event
five =
    record { time = 10; body = body.NodeAdded 1 }
    ∷ record { time = 20; body = body.NodeAdded 2 }
    ∷ record { time = 30; body = body.EdgeAdded true 5 1 2 }
    ∷ record { time = 40; body = body.NodeAttr 0 1 None (Some 1) }
    ∷ record { time = 50; body = body.EdgeRemoved true 5 1 2 }
    ∷ []

abbrev more : List Event
more = record { time = 60; body = body.NodeAttr 0 1 (Some 1) (Some 2) } ∷ record { time = 70; body = body.NodeAttr 0 1 (Some 2) None } ∷ []

abbrev all : List Event
all = five ++ more

one_span : additions (turns_of 0 five) ≡ 1
one_span = refl

two_spans : additions_of 0 all ≡ 2
two_spans = refl

not_yet : says (turns_of 0 all) 1 1 30 ≡ false
not_yet = refl

from_then_on : says (turns_of 0 all) 1 1 40 ≡ true
from_then_on = refl

other_value : says (turns_of 0 all) 2 1 60 ≡ true
other_value = refl

no_more : says (turns_of 0 all) 1 1 60 ≡ false
no_more = refl

gone : says (turns_of 0 all) 2 1 70 ≡ false
gone = refl

found_at_forty : nodes_with 0 1 (replay_at all 40) ≡ 1 ∷ []
found_at_forty = refl

found_at_thirty : nodes_with 0 1 (replay_at all 30) ≡ []
found_at_thirty = refl

-- a value that is set to itself, and a message, are no turns
no_turns : turns_of 0 (record { time = 80; body = body.NodeAttr 0 1 (Some 1) (Some 1) } ∷ record { time = 80; body = body.Message 1 2 3 } ∷ []) ≡ []
no_turns = refl
