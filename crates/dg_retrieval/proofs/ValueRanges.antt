-- The values of what is read of records are numbers of names, and so are those of the graphs that these lead to.
use Rattle.std.proofs.Common.{ℕ, ◌≤◌, ◌^◌, List, arith}
use Rattle.std.specs.Prelude.{IfSome}
use Rattle.std.specs.List.{All}
use Rattle.dg_columns.specs.NamesInRange.{NamesFit}
use Rattle.dg_graph.specs.declared.element.Element.{Element}
use Rattle.dg_graph.specs.declared.element.Element.TheVariants as element
use Rattle.dg_graph.specs.declared.event.Body.{Body}
use Rattle.dg_graph.specs.declared.event.Body.TheVariants as body
use Rattle.dg_graph.specs.declared.event.Event.{Event}
use Rattle.dg_graph.specs.Effect.{added_by, forwards}
use Rattle.dg_graph.specs.Replay.{replay_from}
use Rattle.dg_retrieval.specs.NamesThere.{HasNamesThere, NamesAreThere}
use Rattle.dg_retrieval.specs.ValueRange.{ValueFits, ValuesFit}
use Rattle.dg_retrieval.proofs.NamesMoved.{moved_value}
use Rattle.dg_retrieval.proofs.PutElements.{past_event, past_events}

-- names that are there fit, where there are no more
pub values_fit : (name_count : ℕ) → name_count ≤ 2 ^ 30 → (set : List Element) → NamesAreThere name_count set → ValuesFit set
values_fit name_count few set there x h = own x (there x h)
  where
    own : (x : Element) → HasNamesThere name_count x → ValueFits x
    own (element.Node id) named = tt
    own (element.Edge directed id src dst) named = tt
    own (element.NodeAttr id key value) named = let below = named.1 in omega (arith, below, few)
    own (element.EdgeAttr id key value) named = let below = named.1 in omega (arith, below, few)
    own (element.Message src dst value) named = omega (arith, named, few)

added_value : (b : Body) → NamesFit b → IfSome (added_by b) ValueFits
added_value (body.NodeAdded id) f = tt
added_value (body.NodeRemoved id) f = tt
added_value (body.EdgeAdded directed id src dst) f = tt
added_value (body.EdgeRemoved directed id src dst) f = tt
added_value (body.NodeAttr key id old new) f = moved_value (2 ^ 30) ValueFits (element.NodeAttr id key) new old (λ n h. h) f.2
added_value (body.EdgeAttr key id old new) f = moved_value (2 ^ 30) ValueFits (element.EdgeAttr id key) new old (λ n h. h) f.2
added_value (body.Message src dst value) f = tt

-- the graph past the event
pub forwards_fit : (set : List Element) (e : Event) → ValuesFit set → NamesFit e.body → ValuesFit (forwards set e)
forwards_fit = past_event ValueFits NamesFit added_value

abbrev pub EventFits : Event → Type 0
EventFits e = NamesFit e.body

pub replay_fits : (set : List Element) (events : List Event) → ValuesFit set → All EventFits events → ValuesFit (replay_from set events)
replay_fits = past_events ValueFits NamesFit added_value
