-- The law of events: they can be applied forwards and then backwards.
use Rattle.std.specs.Prelude.{◌≡◌, true, false, List, IfSome}
use Rattle.dg_graph.specs.declared.element.Element.{Element}
use Rattle.dg_graph.specs.declared.event.Event.{Event}
use Rattle.dg_graph.specs.Elements.{IsSet, has}
use Rattle.dg_graph.specs.Effect.{removed_by, added_by, forwards, backwards}

-- the event can happen in the set: it has what the event removes, and lacks what the event adds
pub record Applies (set : List Element) (e : Event) : Type 0 where
  pub is_set : IsSet set
  pub removed : IfSome (removed_by e.body) (λ x. has set x ≡ true)
  pub added : IfSome (added_by e.body) (λ x. has set x ≡ false)

-- an event that can happen, applied forwards and then backwards, gives the set again
abbrev pub LeadsBack : Type 0
LeadsBack = (set : List Element) (e : Event) → Applies set e → backwards (forwards set e) e ≡ set
