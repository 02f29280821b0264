-- What can be spelled: ids, names and instants in their ranges.
use Rattle.std.specs.Prelude.{ℕ, ◌≡◌, ◌<◌, ◌≤◌, ◌^◌, ◌||◌, true, List, [], ◌∷◌, Option, IfSome, is_some}
use Rattle.dg_graph.specs.declared.element.Element.{Element}
use Rattle.dg_graph.specs.declared.element.Element.TheVariants as element
use Rattle.dg_graph.specs.declared.event.Body.{Body}
use Rattle.dg_graph.specs.declared.event.Body.TheVariants as body
use Rattle.dg_graph.specs.declared.event.Event.{Event}
use Rattle.dg_graph.specs.declared.limits.TheConstants.{TIME_MAX}

-- an edge's id and ends
abbrev pub EdgeFits : ℕ → ℕ → ℕ → Type 0
EdgeFits id src dst = (id < 2 ^ 64) × (src < 2 ^ 64) × (dst < 2 ^ 64)

-- a value's change, which has an old value or a new one
pub record ChangeFits (names id key : ℕ) (old new : Option ℕ) : Type 0 where
  pub id_fits : id < 2 ^ 64
  pub key_fits : key < names
  pub old_fits : IfSome old (λ n. n < names)
  pub new_fits : IfSome new (λ n. n < names)
  pub some : (is_some old || is_some new) ≡ true

-- what an event changes, in a history with so many names
abbrev pub BodyFits : ℕ → Body → Type 0
BodyFits names (body.NodeAdded id) = id < 2 ^ 64
BodyFits names (body.NodeRemoved id) = id < 2 ^ 64
BodyFits names (body.EdgeAdded directed id src dst) = EdgeFits id src dst
BodyFits names (body.EdgeRemoved directed id src dst) = EdgeFits id src dst
BodyFits names (body.NodeAttr key id old new) = ChangeFits names id key old new
BodyFits names (body.EdgeAttr key id old new) = ChangeFits names id key old new
BodyFits names (body.Message src dst value) = (src < 2 ^ 64) × (dst < 2 ^ 64) × (value < names)

-- instants do not fall, from the earliest on and up to the last instant
pub record EventFits (names earliest : ℕ) (e : Event) : Type 0 where
  pub not_before : earliest ≤ e.time
  pub not_after : e.time ≤ TIME_MAX
  pub fits : BodyFits names e.body

abbrev pub EventsFit : ℕ → ℕ → List Event → Type 0
EventsFit names earliest [] = Unit {0}
EventsFit names earliest (e ∷ events) = EventFits names earliest e × EventsFit names e.time events

-- an element, in a history with so many names
abbrev pub ElementFits : ℕ → Element → Type 0
ElementFits names (element.Node id) = id < 2 ^ 64
ElementFits names (element.Edge directed id src dst) = EdgeFits id src dst
ElementFits names (element.NodeAttr id key value) = (id < 2 ^ 64) × (key < names) × (value < names)
ElementFits names (element.EdgeAttr id key value) = (id < 2 ^ 64) × (key < names) × (value < names)
ElementFits names (element.Message src dst value) = (src < 2 ^ 64) × (dst < 2 ^ 64) × (value < names)

abbrev pub ElementsFit : ℕ → List Element → Type 0
ElementsFit names [] = Unit {0}
ElementsFit names (x ∷ set) = ElementFits names x × ElementsFit names set
