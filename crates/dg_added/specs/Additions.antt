-- What the events of some time add, whether or not it is there later.
use Rattle.std.specs.Prelude.{ℕ, Bool, ◌&&◌, List, [], ◌∷◌, Option, None, if◌then◌else◌, nat_le, nat_lt}
use Rattle.std.specs.Option.{option_or}
use Rattle.dg_graph.specs.declared.element.Element.{Element}
use Rattle.dg_graph.specs.declared.event.Body.{Body}
use Rattle.dg_graph.specs.declared.event.Event.{Event}
use Rattle.dg_graph.specs.Effect.{added_by}
use Rattle.dg_graph.specs.Elements.{with_one}
use Rattle.dg_graph.specs.Replay.{message_of}

-- the element that an event adds, or the message that it is
abbrev pub put_by : Body → Option Element
put_by b = option_or (added_by b) (message_of b)

-- the event comes from the first instant on, and before the second
abbrev pub lies_within : ℕ → ℕ → Event → Bool
lies_within from until e = nat_le from e.time && nat_lt e.time until

-- the elements that the events between two instants add, with the messages of these events, as a set
abbrev pub added_between : ℕ → ℕ → List Event → List Element
added_between from until [] = []
added_between from until (e ∷ events) =
    with_one (added_between from until events) (if lies_within from until e then put_by e.body else None)
