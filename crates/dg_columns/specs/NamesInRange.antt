-- The numbers of names that a column can spell.
use Rattle.std.specs.Prelude.{ℕ, ◌^◌, ◌<◌, Option, IfSome}
use Rattle.dg_graph.specs.declared.event.Body.{Body}
use Rattle.dg_graph.specs.declared.event.Body.TheVariants as body

-- the names of a key and of two values
abbrev pub ValueNamesFit : ℕ → Option ℕ → Option ℕ → Type 0
ValueNamesFit key old new = (key < 2 ^ 30) × IfSome old (λ n. n < 2 ^ 30) × IfSome new (λ n. n < 2 ^ 30)

-- the numbers of the names that an event has are below 2 ^ 30
abbrev pub NamesFit : Body → Type 0
NamesFit (body.NodeAdded id) = Unit {0}
NamesFit (body.NodeRemoved id) = Unit {0}
NamesFit (body.EdgeAdded directed id src dst) = Unit {0}
NamesFit (body.EdgeRemoved directed id src dst) = Unit {0}
NamesFit (body.NodeAttr key id old new) = ValueNamesFit key old new
NamesFit (body.EdgeAttr key id old new) = ValueNamesFit key old new
NamesFit (body.Message src dst value) = Unit {0}
