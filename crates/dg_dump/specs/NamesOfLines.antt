-- Which histories have the names that their lines bring.
use Rattle.std.specs.Prelude.{◌≡◌, ℕ, List, [], ◌∷◌, ◌++◌, Option, Some, None, map}
use Rattle.dg_graph.specs.declared.event.Body.{Body}
use Rattle.dg_graph.specs.declared.event.Body.TheVariants as body
use Rattle.dg_graph.specs.declared.event.Change.{Change}
use Rattle.dg_graph.specs.declared.event.Event.{Event}
use Rattle.dg_graph.specs.declared.event.What.{What}
use Rattle.dg_graph.specs.declared.event.What.TheVariants as what
use Rattle.dg_text.specs.Names.{name_text}
use Rattle.dg_changes.specs.Batch.{names_after}
use Rattle.dg_changes.specs.ChangeGrammar.{ChangeByText, WhatByText, Plain, Sets_node, Unsets_node, Sets_edge, Unsets_edge, Sends}
use Rattle.dg_history.specs.History.{Batch, History, names_of}

-- what is asked for by the change that comes to this, with the texts of its key and value
abbrev pub asked_by : List (List ℕ) → Body → WhatByText
asked_by names (body.NodeAdded id) = Plain (what.AddNode id)
asked_by names (body.NodeRemoved id) = Plain (what.RemoveNode id)
asked_by names (body.EdgeAdded directed id src dst) = Plain (what.AddEdge directed id src dst)
asked_by names (body.EdgeRemoved directed id src dst) = Plain (what.RemoveEdge id)
asked_by names (body.NodeAttr key id old (Some value)) = Sets_node id (name_text names key) (name_text names value)
asked_by names (body.NodeAttr key id old None) = Unsets_node id (name_text names key)
asked_by names (body.EdgeAttr key id old (Some value)) = Sets_edge id (name_text names key) (name_text names value)
asked_by names (body.EdgeAttr key id old None) = Unsets_edge id (name_text names key)
asked_by names (body.Message src dst value) = Sends src dst (name_text names value)

abbrev pub said_by : List (List ℕ) → Event → ChangeByText
said_by names e = record { time = e.time; asked = asked_by names e.body }

-- what the lines of the events say
abbrev pub said_in : List (List ℕ) → List Event → List (Option ChangeByText)
said_in names events = map (λ (e : Event). Some (said_by names e)) events

-- each batch brings the names that its lines bring, in their order, a key before its value
abbrev pub AreOfLines : List (List ℕ) → List (List ℕ) → List Batch → Type 0
AreOfLines names before [] = Unit {0}
AreOfLines names before (b ∷ batches) =
    (names_after before (said_in names b.events) ≡ before ++ b.names) × AreOfLines names (before ++ b.names) batches

-- the names of each batch are those that its lines bring
abbrev pub NamesAreOfLines : History → Type 0
NamesAreOfLines z = AreOfLines (names_of z) [] z.batches

-- its key and its value are told by their texts: so is all that the grammar of changes reads, and all that is generated
abbrev pub IsByText : WhatByText → Type 0
IsByText (Plain (what.AddNode id)) = Unit {0}
IsByText (Plain (what.RemoveNode id)) = Unit {0}
IsByText (Plain (what.AddEdge directed id src dst)) = Unit {0}
IsByText (Plain (what.RemoveEdge id)) = Unit {0}
IsByText (Plain (what.SetNode id key value)) = ⊥
IsByText (Plain (what.UnsetNode id key)) = ⊥
IsByText (Plain (what.SetEdge id key value)) = ⊥
IsByText (Plain (what.UnsetEdge id key)) = ⊥
IsByText (Plain (what.Message src dst value)) = ⊥
IsByText (Sets_node id key value) = Unit {0}
IsByText (Unsets_node id key) = Unit {0}
IsByText (Sets_edge id key value) = Unit {0}
IsByText (Unsets_edge id key) = Unit {0}
IsByText (Sends src dst value) = Unit {0}

abbrev pub AreByText : List (Option ChangeByText) → Type 0
AreByText [] = Unit {0}
AreByText (None ∷ lines) = AreByText lines
AreByText (Some said ∷ lines) = IsByText said.asked × AreByText lines
