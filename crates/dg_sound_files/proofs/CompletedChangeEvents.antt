-- Events that complete some changes after one another are what these changes come to.
use Rattle.std.proofs.Common.{◌≡◌, ℕ, ◌+◌, ◌≤◌, Bool, true, false, cond, List, [], ◌∷◌, map, Option, Some, None, Result, Ok, Err, is_some, refl, sym, ap, ◌∙◌}
use Rattle.std.specs.Prelude.{not, nat_eq, nat_le}
use Rattle.std.specs.List.{list_any}
use Rattle.std.specs.Option.{option_eq}
use Rattle.std.proofs.lemmas.Bool.{leb-true, le-ltb, not-true, and_parts}
use Rattle.dg_graph.specs.declared.element.Element.{Element}
use Rattle.dg_graph.specs.declared.element.Element.TheVariants as element
use Rattle.dg_graph.specs.declared.event.Body.{Body}
use Rattle.dg_graph.specs.declared.event.Body.TheVariants as body
use Rattle.dg_graph.specs.declared.event.Change.{Change}
use Rattle.dg_graph.specs.declared.event.Event.{Event}
use Rattle.dg_graph.specs.declared.event.TheConstants.{REASON_EDGE_EXISTS, REASON_NODE_EXISTS, REASON_NODE_IN_USE, REASON_NO_EDGE, REASON_NO_END, REASON_NO_NODE, REASON_TIME}
use Rattle.dg_graph.specs.declared.event.What.{What}
use Rattle.dg_graph.specs.declared.event.What.TheVariants.{AddNode, RemoveNode, AddEdge, RemoveEdge, SetNode, UnsetNode, SetEdge, UnsetEdge, Message}
use Rattle.dg_graph.specs.CompletedChanges.{completed, event_of, go_on, on_value}
use Rattle.dg_graph.specs.Completion.{complete, completes, edge_of, edge_removal, edge_value, has_key, has_node, is_change_of, is_found, is_value_change, needs_edge, needs_node, node_value, value_removal}
use Rattle.dg_graph.specs.Effect.{forwards}
use Rattle.dg_graph.proofs.Completions.{old_is}
use Rattle.dg_graph.proofs.Sets.{element_exact}
use Rattle.dg_index.proofs.IndexRecordColumns.{Each}
use Rattle.dg_sound.specs.OwnEvents.{are_completions}

-- ---- the change of an event

-- a change that comes to this after the set
abbrev pub IsMade : List Element → Body → Type 0
IsMade set b = (w : What) × (complete w set ≡ Ok b)

edge_made : (id src dst : ℕ) (directed : Bool) (found : Option Element) → is_found found (element.Edge directed id src dst) ≡ true → edge_removal false found ≡ Ok (body.EdgeRemoved directed id src dst)
edge_made id src dst directed None e = absurd cc
edge_made id src dst directed (Some y) e = ap (λ (y : Element). edge_removal false (Some y)) (element_exact y (element.Edge directed id src dst) e)

-- a value is set or is taken away
value_made : (set : List Element) (there : Bool) (held : Option ℕ) (make : Option ℕ → Option ℕ → Body) (put : ℕ → What) (drop : What) (reason : ℕ) → ((v : ℕ) → complete (put v) set ≡ cond there (Ok (make held (Some v))) (Err reason)) → complete drop set ≡ cond there (value_removal make held) (Err reason)
    → there ≡ true → (old new : Option ℕ) → is_value_change held old new ≡ true → IsMade set (make old new)
value_made set there held make put drop reason puts drops is_there old (Some v) e =
    let is : old ≡ held = old_is held old (Some v) e in
    (put v, puts v ∙ ap (λ b. cond b (Ok (make held (Some v))) (Err reason)) is_there ∙ ap (λ (o : Option ℕ). Ok (make o (Some v))) (sym is))
value_made set there held make put drop reason puts drops is_there (Some v) None e =
    let is : Some v ≡ held = old_is held (Some v) None e in
    (drop, drops ∙ ap (λ b. cond b (value_removal make held) (Err reason)) is_there ∙ ap (value_removal make) (sym is))
value_made set there held make put drop reason puts drops is_there None None e =
    let t = and_parts (option_eq nat_eq None held) _ e in
    absurd (let no : false ≡ true = t.1 in cc)

pub made : (set : List Element) (b : Body) → is_change_of set b ≡ true → IsMade set b
made set (body.NodeAdded id) e =
    let free = not-true (has_node set id) e in
    (AddNode id, ap (λ b. cond b (Err REASON_NODE_EXISTS) (Ok (body.NodeAdded id))) free)
made set (body.NodeRemoved id) e =
    let t = and_parts (has_node set id) _ e in
    let free = not-true (list_any (needs_node id) set) t.1 in
    (RemoveNode id, λ i. cond (not (t.0 i)) (Err REASON_NO_NODE) (cond (free i) (Err REASON_NODE_IN_USE) (Ok (body.NodeRemoved id))))
made set (body.EdgeAdded directed id src dst) e =
    let t = and_parts (not (is_some (edge_of set id))) _ e in
    let free = not-true (is_some (edge_of set id)) t.0 in
    (AddEdge directed id src dst, λ i. cond (free i) (Err REASON_EDGE_EXISTS) (cond (t.1 i) (Ok (body.EdgeAdded directed id src dst)) (Err REASON_NO_END)))
made set (body.EdgeRemoved directed id src dst) e =
    let t = and_parts (is_found (edge_of set id) (element.Edge directed id src dst)) _ e in
    let free = not-true (list_any (needs_edge id) set) t.1 in
    (RemoveEdge id, ap (λ b. edge_removal b (edge_of set id)) free ∙ edge_made id src dst directed (edge_of set id) t.0)
made set (body.NodeAttr key id old new) e =
    let t = and_parts (has_node set id) _ e in
    value_made set (has_node set id) (node_value set id key) (λ old new. body.NodeAttr key id old new) (λ v. SetNode id key v) (UnsetNode id key) REASON_NO_NODE (λ v. refl) refl t.0 old new t.1
made set (body.EdgeAttr key id old new) e =
    let t = and_parts (is_some (edge_of set id)) _ e in
    value_made set (is_some (edge_of set id)) (edge_value set id key) (λ old new. body.EdgeAttr key id old new) (λ v. SetEdge id key v) (UnsetEdge id key) REASON_NO_EDGE (λ v. refl) refl t.0 old new t.1
made set (body.Message src dst value) e =
    (Message src dst value, ap (λ b. cond b (Ok (body.Message src dst value)) (Err REASON_NO_END)) e)

-- ---- the changes of events

-- the first event is not before the time
abbrev pub StartsFrom : ℕ → List Event → Type 0
StartsFrom earliest [] = Unit {0}
StartsFrom earliest (e ∷ events) = earliest ≤ e.time

starts_next : (names : List (List ℕ)) (set : List Element) (t : ℕ) (events : List Event) → are_completions names set t events ≡ true → StartsFrom t events
starts_next names set t [] e = tt
starts_next names set t (x ∷ events) e =
    let a = and_parts (completes names set x.body) _ e in
    leb-true t x.time (and_parts (nat_le t x.time) _ a.1).0

pub changes_come : (names : List (List ℕ)) (n earliest t : ℕ) (set : List Element) (events : List Event) → StartsFrom earliest events → are_completions names set t events ≡ true
    → (changes : List Change) × (completed n earliest set (map (λ (c : Change). Some c) changes) ≡ Ok events)
changes_come names n earliest t set [] from e = ([], refl)
changes_come names n earliest t set (x ∷ events) from e =
    let a = and_parts (completes names set x.body) _ e in
    let b = and_parts (nat_le t x.time) _ a.1 in
    let k = and_parts (has_key names x.body) _ a.0 in
    let w = made set x.body k.1 in
    let c : Change = record { time = x.time; what = w.0 } in
    let one : event_of earliest set c ≡ Ok x = (λ i. cond (le-ltb x.time earliest from i) (Err REASON_TIME) (on_value (λ (b : Body). record { time = x.time; body = b }) (w.1 i))) in
    let more = changes_come names (n + 1) x.time x.time (forwards set x) events (starts_next names (forwards set x) x.time events b.1) b.1 in
    let rest : Event → Result (List Event) (ℕ × ℕ) = λ e. completed (n + 1) e.time (forwards set e) (map (λ (c : Change). Some c) more.0) in
    (c ∷ more.0, ap (go_on n rest) one ∙ ap (on_value (λ (l : List Event). x ∷ l)) more.1)

-- the keys of completions may be keys
pub keys_of_completions : (names : List (List ℕ)) (t : ℕ) (set : List Element) (events : List Event) → are_completions names set t events ≡ true → Each (λ (e : Event). has_key names e.body ≡ true) events
keys_of_completions names t set [] e = tt
keys_of_completions names t set (x ∷ events) e =
    let a = and_parts (completes names set x.body) _ e in
    let b = and_parts (nat_le t x.time) _ a.1 in
    ((and_parts (has_key names x.body) _ a.0).0, keys_of_completions names x.time (forwards set x) events b.1)
