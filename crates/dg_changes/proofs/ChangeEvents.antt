-- Events are what the changes that come to them come to.
use Rattle.std.proofs.Common.{◌≡◌, ℕ, ◌+◌, Bool, true, false, cond, not, is_some, List, [], ◌∷◌, map, Option, Some, None, Result, Ok, Err, refl, sym, ap, ◌∙◌}
use Rattle.std.specs.Prelude.{nat_eq}
use Rattle.std.specs.Option.{option_eq}
use Rattle.std.specs.List.{list_any}
use Rattle.std.proofs.lemmas.Bool.{and_parts, le-ltb, not-true}
use Rattle.dg_graph.specs.declared.element.Element.{Element}
use Rattle.dg_graph.specs.declared.element.Element.TheVariants as element
use Rattle.dg_graph.specs.declared.event.Body.{Body}
use Rattle.dg_graph.specs.declared.event.Body.TheVariants as body
use Rattle.dg_graph.specs.declared.event.Change.{Change}
use Rattle.dg_graph.specs.declared.event.Event.{Event}
use Rattle.dg_graph.specs.declared.event.TheConstants.{REASON_EDGE_EXISTS, REASON_NODE_EXISTS, REASON_NODE_IN_USE, REASON_NO_EDGE, REASON_NO_END, REASON_NO_NODE, REASON_TIME}
use Rattle.dg_graph.specs.CompletedChanges.{completed, event_of, go_on, on_value}
use Rattle.dg_graph.specs.Completion.{complete, edge_of, edge_removal, edge_value, has_node, is_change_of, is_found, is_value_change, needs_edge, needs_node, node_value, value_removal}
use Rattle.dg_graph.specs.Effect.{forwards}
use Rattle.dg_graph.specs.MadeByChanges.{AreMadeByChanges}
use Rattle.dg_history.specs.EventTimes.{RisesFrom}
use Rattle.dg_graph.proofs.Completions.{old_is}
use Rattle.dg_graph.proofs.Sets.{element_exact}
use Rattle.dg_changes.specs.EventChanges.{ChangesCome, change_of, what_of}

edge_comes : (id src dst : ℕ) (directed : Bool) (found : Option Element) → is_found found (element.Edge directed id src dst) ≡ true → edge_removal false found ≡ Ok (body.EdgeRemoved directed id src dst)
edge_comes id src dst directed None e = absurd cc
edge_comes id src dst directed (Some y) e = ap (λ (y : Element). edge_removal false (Some y)) (element_exact y (element.Edge directed id src dst) e)

no_change : (there : Option ℕ) → is_value_change there None None ≡ true → ⊥
no_change there e = let t = and_parts (option_eq nat_eq None there) _ e in let no : false ≡ true = t.1 in cc

-- the change of a body comes to it where some change does
comes : (set : List Element) (b : Body) → is_change_of set b ≡ true → complete (what_of b) set ≡ Ok b
comes set (body.NodeAdded id) e = ap (λ b. cond b (Err REASON_NODE_EXISTS) (Ok (body.NodeAdded id))) (not-true (has_node set id) e)
comes set (body.NodeRemoved id) e =
    let t = and_parts (has_node set id) _ e in
    let free = not-true (list_any (needs_node id) set) t.1 in
    λ i. cond (not (t.0 i)) (Err REASON_NO_NODE) (cond (free i) (Err REASON_NODE_IN_USE) (Ok (body.NodeRemoved id)))
comes set (body.EdgeAdded directed id src dst) e =
    let t = and_parts (not (is_some (edge_of set id))) _ e in
    let free = not-true (is_some (edge_of set id)) t.0 in
    λ i. cond (free i) (Err REASON_EDGE_EXISTS) (cond (t.1 i) (Ok (body.EdgeAdded directed id src dst)) (Err REASON_NO_END))
comes set (body.EdgeRemoved directed id src dst) e =
    let t = and_parts (is_found (edge_of set id) (element.Edge directed id src dst)) _ e in
    let free = not-true (list_any (needs_edge id) set) t.1 in
    ap (λ b. edge_removal b (edge_of set id)) free ∙ edge_comes id src dst directed (edge_of set id) t.0
comes set (body.NodeAttr key id old (Some v)) e =
    let t = and_parts (has_node set id) _ e in
    let is = old_is (node_value set id key) old (Some v) t.1 in
    λ i. cond (t.0 i) (Ok (body.NodeAttr key id (sym is i) (Some v))) (Err REASON_NO_NODE)
comes set (body.NodeAttr key id (Some v) None) e =
    let t = and_parts (has_node set id) _ e in
    let is = old_is (node_value set id key) (Some v) None t.1 in
    λ i. cond (t.0 i) (value_removal (λ old new. body.NodeAttr key id old new) (sym is i)) (Err REASON_NO_NODE)
comes set (body.NodeAttr key id None None) e = absurd (no_change (node_value set id key) (and_parts (has_node set id) _ e).1)
comes set (body.EdgeAttr key id old (Some v)) e =
    let t = and_parts (is_some (edge_of set id)) _ e in
    let is = old_is (edge_value set id key) old (Some v) t.1 in
    λ i. cond (t.0 i) (Ok (body.EdgeAttr key id (sym is i) (Some v))) (Err REASON_NO_EDGE)
comes set (body.EdgeAttr key id (Some v) None) e =
    let t = and_parts (is_some (edge_of set id)) _ e in
    let is = old_is (edge_value set id key) (Some v) None t.1 in
    λ i. cond (t.0 i) (value_removal (λ old new. body.EdgeAttr key id old new) (sym is i)) (Err REASON_NO_EDGE)
comes set (body.EdgeAttr key id None None) e = absurd (no_change (edge_value set id key) (and_parts (is_some (edge_of set id)) _ e).1)
comes set (body.Message src dst value) e = ap (λ b. cond b (Ok (body.Message src dst value)) (Err REASON_NO_END)) e

come_from : (n earliest : ℕ) (set : List Element) (events : List Event) → AreMadeByChanges set events → RisesFrom earliest events
    → completed n earliest set (map (λ (c : Change). Some c) (map change_of events)) ≡ Ok events
come_from n earliest set [] is rises = refl
come_from n earliest set (x ∷ events) is rises =
    let here = comes set x.body is.0 in
    let one : event_of earliest set (change_of x) ≡ Ok x =
    (λ i. cond (le-ltb x.time earliest rises.0 i) (Err REASON_TIME) (on_value (λ (b : Body). record { time = x.time; body = b }) (here i))) in
    let rest : Event → Result (List Event) (ℕ × ℕ) = λ e. completed (n + 1) e.time (forwards set e) (map (λ (c : Change). Some c) (map change_of events)) in
    ap (go_on n rest) one ∙ ap (on_value (λ (l : List Event). x ∷ l)) (come_from (n + 1) x.time (forwards set x) events is.1 rises.1)

pub changes_come : ChangesCome
changes_come set earliest events is rises = come_from 1 earliest set events is rises
