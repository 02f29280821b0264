-- The names that events have are there: the number of each is below the number of names.
use Rattle.std.specs.Prelude.{◌<◌, ℕ, List, Option, IfSome}
use Rattle.std.specs.List.{All}
use Rattle.dg_graph.specs.declared.event.Body.{Body}
use Rattle.dg_graph.specs.declared.event.Body.TheVariants as body
use Rattle.dg_graph.specs.declared.event.Event.{Event}

-- the key of a value's change and the values that it has, if it has them, are among so many names
abbrev pub ChangeHasNamesThere : ℕ → ℕ → Option ℕ → Option ℕ → Type 0
ChangeHasNamesThere name_count key old new = (key < name_count) × IfSome old (λ n. n < name_count) × IfSome new (λ n. n < name_count)

-- so are those of an event's body
abbrev pub BodyHasNamesThere : ℕ → Body → Type 0
BodyHasNamesThere name_count (body.NodeAttr key id old new) = ChangeHasNamesThere name_count key old new
BodyHasNamesThere name_count (body.EdgeAttr key id old new) = ChangeHasNamesThere name_count key old new
BodyHasNamesThere name_count (body.Message src dst value) = value < name_count
BodyHasNamesThere name_count _ = Unit {0}

-- and of all these events
abbrev pub EventNamesAreThere : ℕ → List Event → Type 0
EventNamesAreThere name_count events = All (λ (e : Event). BodyHasNamesThere name_count e.body) events
