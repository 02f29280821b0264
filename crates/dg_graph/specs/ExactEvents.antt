-- Events as deltas, and which events are changes of a set.
use Rattle.std.specs.Prelude.{◌≡◌, true, false, List, [], ◌∷◌, IfSome}
use Rattle.std.specs.Option.{option_to_list}
use Rattle.dg_graph.specs.declared.element.Element.{Element}
use Rattle.dg_graph.specs.declared.event.Event.{Event}
use Rattle.dg_graph.specs.Composition.{Delta}
use Rattle.dg_graph.specs.Effect.{removed_by, added_by, forwards}
use Rattle.dg_graph.specs.Elements.{has}

-- the event as a delta: it takes out what the event removes, and puts in what the event adds
abbrev pub effect_of : Event → Delta
effect_of e = record { minus = option_to_list (removed_by e.body); plus = option_to_list (added_by e.body) }

-- the event is exact in the set: what it removes is there, and what it adds is not
pub record IsExact (set : List Element) (e : Event) : Type 0 where
  pub removed : IfSome (removed_by e.body) (λ x. has set x ≡ true)
  pub added : IfSome (added_by e.body) (λ x. has set x ≡ false)

-- each event in turn is exact in the set after those before it
abbrev pub AreChangesOf : List Element → List Event → Type 0
AreChangesOf set [] = Unit {0}
AreChangesOf set (e ∷ events) = IsExact set e × AreChangesOf (forwards set e) events
