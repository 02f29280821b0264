-- The names of the events that some changes come to are there, where those of the changes and of the graph are.
use Rattle.std.proofs.Common.{◌≡◌, ℕ, ◌<◌, ◌≤◌, ◌^◌, Bool, List, [], ◌∷◌, Option, Some, None, Ok, get_or, find, refl, subst, arith}
use Rattle.std.specs.Prelude.{IfSome, option_and_then}
use Rattle.std.specs.List.{All}
use Rattle.std.proofs.lemmas.List.Elements.{All-nil, All-cons, All-head, All-tail}
use Rattle.dg_append.specs.AddedBatches.{WhatHasNamesThere}
use Rattle.dg_columns.specs.NamesInRange.{NamesFit}
use Rattle.dg_graph.specs.declared.element.Element.{Element}
use Rattle.dg_graph.specs.declared.element.Element.TheVariants as element
use Rattle.dg_graph.specs.declared.event.Body.{Body}
use Rattle.dg_graph.specs.declared.event.Body.TheVariants as body
use Rattle.dg_graph.specs.declared.event.Change.{Change}
use Rattle.dg_graph.specs.declared.event.Event.{Event}
use Rattle.dg_graph.specs.declared.event.What.{What}
use Rattle.dg_graph.specs.declared.event.What.TheVariants as what
use Rattle.dg_graph.specs.Completion.{node_value, edge_value, complete, is_node_value, is_edge_value, value_in}
use Rattle.dg_graph.specs.Effect.{forwards}
use Rattle.dg_graph.specs.Elements.{has}
use Rattle.dg_graph.proofs.Completions.{AllCome, IsCompletion, completion, found_in}
use Rattle.dg_retrieval.proofs.NamesThere.{forwards_there}
use Rattle.dg_retrieval.specs.NamesThere.{BodyHasNamesThere, EventNamesAreThere, HasNamesThere, NamesAreThere}

-- the value that is found in a set is one of its names
value_found : (n : ℕ) (p : Element → Bool) (set : List Element) → NamesAreThere n set → IfSome (option_and_then value_in (find p set)) (λ v. v < n)
value_found n p set there = by (find p set) refl
  where
    own : (x : Element) → HasNamesThere n x → IfSome (value_in x) (λ v. v < n)
    own (element.Node id) f = tt
    own (element.Edge directed id src dst) f = tt
    own (element.NodeAttr id key value) f = f.1
    own (element.EdgeAttr id key value) f = f.1
    own (element.Message src dst value) f = tt

    by : (o : Option Element) → find p set ≡ o → IfSome (option_and_then value_in o) (λ v. v < n)
    by None is = tt
    by (Some x) is = own x (there x (found_in p set x is).0)

module _ (n : ℕ) where
  what_there : (w : What) (set : List Element) (b : Body) → NamesAreThere n set → WhatHasNamesThere n w → complete w set ≡ Ok b → BodyHasNamesThere n b
  what_there w set b there names h = by w names (completion w set b h)
    where
      so : (x : Body) → x ≡ b → BodyHasNamesThere n x → BodyHasNamesThere n b
      so x is has = subst (BodyHasNamesThere n) is has

      taken : (t : Element → Bool) (v : ℕ) → option_and_then value_in (find t set) ≡ Some v → v < n
      taken t v is = subst (λ (o : Option ℕ). IfSome o (λ v. v < n)) is (value_found n t set there)

      by : (w : What) → WhatHasNamesThere n w → IsCompletion w set b → BodyHasNamesThere n b
      by (what.AddNode id) names c = so (body.NodeAdded id) c.0 tt
      by (what.RemoveNode id) names c = so (body.NodeRemoved id) c.0 tt
      by (what.AddEdge directed id src dst) names c = so (body.EdgeAdded directed id src dst) c.0 tt
      by (what.RemoveEdge id) names c = so (body.EdgeRemoved c.directed c.id c.src c.dst) c.is tt
      by (what.SetNode id key value) names c =
          so (body.NodeAttr key id (node_value set id key) (Some value)) c.0 (names.0, value_found n (is_node_value id key) set there, names.1)
      by (what.UnsetNode id key) names c =
          so (body.NodeAttr key id (Some c.0.value) None) c.0.is (names, taken (is_node_value id key) c.0.value c.0.found_is, tt)
      by (what.SetEdge id key value) names c =
          so (body.EdgeAttr key id (edge_value set id key) (Some value)) c.0 (names.0, value_found n (is_edge_value id key) set there, names.1)
      by (what.UnsetEdge id key) names c =
          so (body.EdgeAttr key id (Some c.0.value) None) c.0.is (names, taken (is_edge_value id key) c.0.value c.0.found_is, tt)
      by (what.Message src dst value) names c = so (body.Message src dst value) c.0 names

  -- the names of the events of changes over a graph are there, where those of the changes and of the graph are
  pub events_there : (earliest : ℕ) (set : List Element) (changes : List (Option Change)) (events : List Event)
      → AllCome earliest set changes events → NamesAreThere n set → All (λ c. IfSome c (λ (c : Change). WhatHasNamesThere n c.what)) changes → EventNamesAreThere n events
  events_there earliest set [] [] h there f = All-nil (λ (e : Event). BodyHasNamesThere n e.body)
  events_there earliest set [] (e ∷ events) h there f = absurd h
  events_there earliest set (None ∷ changes) events h there f = absurd h
  events_there earliest set (Some c ∷ changes) [] h there f = absurd h
  events_there earliest set (Some c ∷ changes) (e ∷ events) h there f =
      let here : BodyHasNamesThere n e.body = what_there c.what set e.body there (All-head (λ c. IfSome c (λ (c : Change). WhatHasNamesThere n c.what)) (Some c) changes f) h.0.body in
      All-cons (λ (e : Event). BodyHasNamesThere n e.body) e events here
      (events_there e.time (forwards set e) changes events h.1 (forwards_there n set e there here) (All-tail (λ c. IfSome c (λ (c : Change). WhatHasNamesThere n c.what)) (Some c) changes f))

-- names that are there can be spelled, where there are not too many
value_fits : (n : ℕ) (o : Option ℕ) → n ≤ 2 ^ 30 → IfSome o (λ v. v < n) → IfSome o (λ v. v < 2 ^ 30)
value_fits n None few f = tt
value_fits n (Some v) few f = omega (arith, few, f)

body_fits : (n : ℕ) (b : Body) → n ≤ 2 ^ 30 → BodyHasNamesThere n b → NamesFit b
body_fits n (body.NodeAdded id) few f = tt
body_fits n (body.NodeRemoved id) few f = tt
body_fits n (body.EdgeAdded directed id src dst) few f = tt
body_fits n (body.EdgeRemoved directed id src dst) few f = tt
body_fits n (body.NodeAttr key id old new) few f = (omega (arith, few, f.0), value_fits n old few f.1, value_fits n new few f.2)
body_fits n (body.EdgeAttr key id old new) few f = (omega (arith, few, f.0), value_fits n old few f.1, value_fits n new few f.2)
body_fits n (body.Message src dst value) few f = tt

pub events_fit : (n : ℕ) (events : List Event) → n ≤ 2 ^ 30 → EventNamesAreThere n events → All (λ (e : Event). NamesFit e.body) events
events_fit n events few there k d lt = body_fits n (get_or events k d).body few (there k d lt)
