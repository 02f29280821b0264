-- What a change comes to can happen in the graph.
use Rattle.std.proofs.Common.{◌≡◌, ℕ, Bool, true, false, cond, not, ◌&&◌, ◌||◌, ltb, nat_eq, IfSome, List, Option, Some, None, Result, Ok, Err, is_some, refl, sym, ap, subst, ◌∙◌}
use Rattle.std.proofs.lemmas.Bool.{false≢true, eqb-true}
use Rattle.std.specs.List.{list_any}
use Rattle.std.specs.Option.{option_map, option_and_then, option_eq}
use Rattle.dg_graph.specs.declared.element.Element.{Element}
use Rattle.dg_graph.specs.declared.element.Element.TheVariants as element
use Rattle.dg_graph.specs.declared.event.Body.{Body}
use Rattle.dg_graph.specs.declared.event.Body.TheVariants as body
use Rattle.dg_graph.specs.declared.event.Change.{Change}
use Rattle.dg_graph.specs.declared.event.Event.{Event}
use Rattle.dg_graph.specs.declared.event.What.{What}
use Rattle.dg_graph.specs.declared.event.What.TheVariants as what
use Rattle.dg_graph.specs.declared.event.What.TheVariants.{AddNode, RemoveNode, AddEdge, RemoveEdge, SetNode, UnsetNode, SetEdge, UnsetEdge}
use Rattle.dg_graph.specs.declared.event.TheConstants.{REASON_NODE_EXISTS, REASON_NO_NODE, REASON_NODE_IN_USE, REASON_EDGE_EXISTS, REASON_NO_EDGE, REASON_NO_END, REASON_TIME}
use Rattle.dg_graph.specs.CompletedChanges.{event_of, on_value}
use Rattle.dg_graph.specs.Completion.{complete, has_node, edge_of, needs_node, needs_edge, edge_removal, node_value, edge_value, value_in, value_removal, is_found, is_value_change, is_change_of}
use Rattle.dg_graph.specs.Graph.{IsGraph, has_needs}
use Rattle.dg_graph.proofs.Sets.{element_exact}
use Rattle.dg_current.specs.declared.element_id.ElementId.TheVariants.{Node, Edge, NodeValue, EdgeValue, Message}
use Rattle.dg_current.specs.EventEffect.{CanHappen}
use Rattle.dg_current.specs.ElementIds.{element_id_of, at, needs_id}
use Rattle.dg_current.proofs.ElementIds.{both, at_has, has_node_is, node_from, at_is}
use Rattle.dg_current.proofs.EventEffect.{none_needs}

-- the change that is done
abbrev done : {X : Type 0} → X → Result X ℕ
done x = Ok x

ok_is : {X : Type 0} (x y : X) → done x ≡ done y → x ≡ y
ok_is x y e = cc

err_ok : {X E : Type 0} (e : E) (x : X) → Err e ≡ Ok x → ⊥
err_ok e x is = cc

pub none_from : {X : Type 0} (o : Option X) → is_some o ≡ false → o ≡ None
none_from None e = refl
none_from (Some x) e = absurd (false≢true (sym e))

edge_at : (x : Element) (id : ℕ) → element_id_of x ≡ Edge id → (n s d : ℕ) (b : Bool) → x ≡ element.Edge b n s d → n ≡ id
edge_at x id p n s d b e = let same : Edge n ≡ Edge id = sym (ap element_id_of e) ∙ p in cc

node_attr_at : (x : Element) (id key : ℕ) → element_id_of x ≡ NodeValue key id → Some x ≡ option_map (element.NodeAttr id key) (value_in x)
node_attr_at (element.Node n) id key e = cc
node_attr_at (element.Edge b n s d) id key e = cc
node_attr_at (element.NodeAttr n k v) id key e =
    let ids : n ≡ id = cc in
    let keys : k ≡ key = cc in
    λ i. Some (element.NodeAttr (ids i) (keys i) v)
node_attr_at (element.EdgeAttr n k v) id key e = cc
node_attr_at (element.Message s d v) id key e = cc

edge_attr_at : (x : Element) (id key : ℕ) → element_id_of x ≡ EdgeValue key id → Some x ≡ option_map (element.EdgeAttr id key) (value_in x)
edge_attr_at (element.Node n) id key e = cc
edge_attr_at (element.Edge b n s d) id key e = cc
edge_attr_at (element.Message s d v) id key e = cc
edge_attr_at (element.NodeAttr n k v) id key e = cc
edge_attr_at (element.EdgeAttr n k v) id key e =
    let ids : n ≡ id = cc in
    let keys : k ≡ key = cc in
    λ i. Some (element.EdgeAttr (ids i) (keys i) v)

-- no graph has a message
none_some : {X : Type 0} {x : X} → None ≡ Some x → ⊥
none_some e = cc

not_message : (set : List Element) (x : Element) → has_needs set x ≡ true → element_id_of x ≡ Message → ⊥
not_message set (element.Node n) h e = cc
not_message set (element.Edge b n s d) h e = cc
not_message set (element.NodeAttr n k v) h e = cc
not_message set (element.EdgeAttr n k v) h e = cc
not_message set (element.Message s d v) h e = false≢true h

no_message : (set : List Element) → IsGraph set → at set Message ≡ None
no_message set g = at_is set Message None (λ x e. absurd (none_some e)) (λ x there is. absurd (not_message set x (g.needs x there) is))

not_true : (b : Bool) → not b ≡ true → b ≡ false
not_true true e = absurd (false≢true e)
not_true false e = refl

found_is : (o : Option Element) (x : Element) → is_found o x ≡ true → o ≡ Some x
found_is None x e = absurd (false≢true e)
found_is (Some y) x e = ap (λ z. Some z) (element_exact y x e)

same_value : (a b : Option ℕ) → option_eq nat_eq a b ≡ true → a ≡ b
same_value None None e = refl
same_value None (Some n) e = absurd (false≢true e)
same_value (Some m) None e = absurd (false≢true e)
same_value (Some m) (Some n) e = ap (λ v. Some v) (eqb-true m n e)

old_is : (there old new : Option ℕ) → is_value_change there old new ≡ true → old ≡ there
old_is there old new e = same_value old there (both (option_eq nat_eq old there) (is_some old || is_some new) e).0

if_mapped : (f : ℕ → Element) (o : Option ℕ) (P : Element → Type 0) → ((v : ℕ) → P (f v)) → IfSome (option_map f o) P
if_mapped f None P h = tt
if_mapped f (Some v) P h = h v

module _ (set : List Element) where
  -- a node that is in the set is the element with its id
  node_there : (id : ℕ) → has_node set id ≡ true → at set (Node id) ≡ Some (element.Node id)
  node_there id h = found (at set (Node id)) refl (has_node_is set id ∙ h)
    where
      found : (o : Option Element) → at set (Node id) ≡ o → is_some (at set (Node id)) ≡ true → at set (Node id) ≡ Some (element.Node id)
      found None is f = absurd (false≢true (sym (ap is_some is) ∙ f))
      found (Some x) is f = is ∙ ap (λ z. Some z) (node_from x id (at_has set (Node id) x is).1)

  -- the value of a key is the element with its id
  node_value_at : (id key : ℕ) → at set (NodeValue key id) ≡ option_map (element.NodeAttr id key) (node_value set id key)
  node_value_at id key = by (at set (NodeValue key id)) refl
    where
      by : (o : Option Element) → at set (NodeValue key id) ≡ o → o ≡ option_map (element.NodeAttr id key) (option_and_then value_in o)
      by None e = refl
      by (Some x) e = node_attr_at x id key (at_has set (NodeValue key id) x e).1

  edge_value_at : (id key : ℕ) → at set (EdgeValue key id) ≡ option_map (element.EdgeAttr id key) (edge_value set id key)
  edge_value_at id key = by (at set (EdgeValue key id)) refl
    where
      by : (o : Option Element) → at set (EdgeValue key id) ≡ o → o ≡ option_map (element.EdgeAttr id key) (option_and_then value_in o)
      by None e = refl
      by (Some x) e = edge_attr_at x id key (at_has set (EdgeValue key id) x e).1

  as_body : (b c : Body) → CanHappen set b → done b ≡ done c → CanHappen set c
  as_body b c h e = subst (CanHappen set) (ok_is b c e) h

  add_node : (id : ℕ) (c : Body) → complete (AddNode id) set ≡ Ok c → CanHappen set c
  add_node id c e = by (has_node set id) refl e
    where
      by : (t : Bool) → has_node set id ≡ t → cond t (Err REASON_NODE_EXISTS) (Ok (body.NodeAdded id)) ≡ Ok c → CanHappen set c
      by true h f = absurd (err_ok _ c f)
      by false h f =
          as_body (body.NodeAdded id) c (record {
            before = none_from (at set (Node id)) (has_node_is set id ∙ h);
            fed = refl;
            free = λ none. cc;
          }) f

  remove_node : (id : ℕ) (c : Body) → complete (RemoveNode id) set ≡ Ok c → CanHappen set c
  remove_node id c e = by (has_node set id) refl (list_any (needs_node id) set) refl e
    where
      by : (t : Bool) → has_node set id ≡ t → (n : Bool) → list_any (needs_node id) set ≡ n
          → cond (not t) (Err REASON_NO_NODE) (cond n (Err REASON_NODE_IN_USE) (Ok (body.NodeRemoved id))) ≡ Ok c → CanHappen set c
      by false h n k f = absurd (err_ok _ c f)
      by true h true k f = absurd (err_ok _ c f)
      by true h false k f =
          as_body (body.NodeRemoved id) c (record {
            before = node_there id h;
            fed = tt;
            free = λ none. k;
          }) f

  add_edge : (id s d : ℕ) (b : Bool) (c : Body) → complete (AddEdge b id s d) set ≡ Ok c → CanHappen set c
  add_edge id s d b c e = by (is_some (edge_of set id)) refl (has_node set s && has_node set d) refl e
    where
      by : (t : Bool) → is_some (edge_of set id) ≡ t → (n : Bool) → (has_node set s && has_node set d) ≡ n
          → cond t (Err REASON_EDGE_EXISTS) (cond n (Ok (body.EdgeAdded b id s d)) (Err REASON_NO_END)) ≡ Ok c → CanHappen set c
      by true h n k f = absurd (err_ok _ c f)
      by false h false k f = absurd (err_ok _ c f)
      by false h true k f =
          as_body (body.EdgeAdded b id s d) c (record {
            before = none_from (at set (Edge id)) h;
            fed = k;
            free = λ none. cc;
          }) f

  remove_edge : (id : ℕ) (c : Body) → complete (RemoveEdge id) set ≡ Ok c → CanHappen set c
  remove_edge id c e = by (edge_of set id) refl (list_any (needs_edge id) set) refl e
    where
      by : (o : Option Element) → edge_of set id ≡ o → (n : Bool) → list_any (needs_edge id) set ≡ n → edge_removal n o ≡ Ok c → CanHappen set c
      by None is n k f = absurd (err_ok _ c f)
      by (Some (element.Node m)) is n k f = absurd (err_ok _ c f)
      by (Some (element.NodeAttr m key v)) is n k f = absurd (err_ok _ c f)
      by (Some (element.EdgeAttr m key v)) is n k f = absurd (err_ok _ c f)
      by (Some (element.Message t d v)) is n k f = absurd (err_ok _ c f)
      by (Some (element.Edge b m s d)) is true k f = absurd (err_ok _ c f)
      by (Some (element.Edge b m s d)) is false k f =
          let same = edge_at (element.Edge b m s d) id (at_has set (Edge id) (element.Edge b m s d) is).1 m s d b refl in
          as_body (body.EdgeRemoved b m s d) c (record {
            before = ap (λ q. at set (Edge q)) same ∙ is;
            fed = tt;
            free = λ none. ap (λ q. list_any (needs_id (Edge q)) set) same ∙ k;
          }) f

  set_node : (id key v : ℕ) (c : Body) → complete (SetNode id key v) set ≡ Ok c → CanHappen set c
  set_node id key v c e = by (has_node set id) refl e
    where
      by : (t : Bool) → has_node set id ≡ t → cond t (Ok (body.NodeAttr key id (node_value set id key) (Some v))) (Err REASON_NO_NODE) ≡ Ok c → CanHappen set c
      by false h f = absurd (err_ok _ c f)
      by true h f =
          as_body (body.NodeAttr key id (node_value set id key) (Some v)) c (record {
            before = node_value_at id key;
            fed = h;
            free = λ none. cc;
          }) f

  unset_node : (id key : ℕ) (c : Body) → complete (UnsetNode id key) set ≡ Ok c → CanHappen set c
  unset_node id key c e = by (has_node set id) refl (node_value set id key) refl e
    where
      by : (t : Bool) → has_node set id ≡ t → (o : Option ℕ) → node_value set id key ≡ o
          → cond t (value_removal (λ old new. body.NodeAttr key id old new) o) (Err REASON_NO_NODE) ≡ Ok c → CanHappen set c
      by false h o is f = absurd (err_ok _ c f)
      by true h None is f = absurd (err_ok _ c f)
      by true h (Some v) is f =
          as_body (body.NodeAttr key id (Some v) None) c (record {
            before = node_value_at id key ∙ ap (option_map (element.NodeAttr id key)) is;
            fed = tt;
            free = λ none. none_needs set;
          }) f

  set_edge : (id key v : ℕ) (c : Body) → complete (SetEdge id key v) set ≡ Ok c → CanHappen set c
  set_edge id key v c e = by (is_some (edge_of set id)) refl e
    where
      by : (t : Bool) → is_some (edge_of set id) ≡ t → cond t (Ok (body.EdgeAttr key id (edge_value set id key) (Some v))) (Err REASON_NO_EDGE) ≡ Ok c → CanHappen set c
      by false h f = absurd (err_ok _ c f)
      by true h f =
          as_body (body.EdgeAttr key id (edge_value set id key) (Some v)) c (record {
            before = edge_value_at id key;
            fed = h;
            free = λ none. cc;
          }) f

  unset_edge : (id key : ℕ) (c : Body) → complete (UnsetEdge id key) set ≡ Ok c → CanHappen set c
  unset_edge id key c e = by (is_some (edge_of set id)) refl (edge_value set id key) refl e
    where
      by : (t : Bool) → is_some (edge_of set id) ≡ t → (o : Option ℕ) → edge_value set id key ≡ o
          → cond t (value_removal (λ old new. body.EdgeAttr key id old new) o) (Err REASON_NO_EDGE) ≡ Ok c → CanHappen set c
      by false h o is f = absurd (err_ok _ c f)
      by true h None is f = absurd (err_ok _ c f)
      by true h (Some v) is f =
          as_body (body.EdgeAttr key id (Some v) None) c (record {
            before = edge_value_at id key ∙ ap (option_map (element.EdgeAttr id key)) is;
            fed = tt;
            free = λ none. none_needs set;
          }) f

  told : IsGraph set → (s d v : ℕ) → CanHappen set (body.Message s d v)
  told g s d v = record {
    before = no_message set g;
    fed = tt;
    free = λ none. none_needs set;
  }

  message : IsGraph set → (s d v : ℕ) (c : Body) → complete (what.Message s d v) set ≡ Ok c → CanHappen set c
  message g s d v c e = by (has_node set s && has_node set d) e
    where
      by : (t : Bool) → cond t (Ok (body.Message s d v)) (Err REASON_NO_END) ≡ Ok c → CanHappen set c
      by false f = absurd (err_ok _ c f)
      by true f = as_body (body.Message s d v) c (told g s d v) f

  completed_happens : IsGraph set → (w : What) (c : Body) → complete w set ≡ Ok c → CanHappen set c
  completed_happens g (AddNode id) c e = add_node id c e
  completed_happens g (RemoveNode id) c e = remove_node id c e
  completed_happens g (AddEdge b id s d) c e = add_edge id s d b c e
  completed_happens g (RemoveEdge id) c e = remove_edge id c e
  completed_happens g (SetNode id key v) c e = set_node id key v c e
  completed_happens g (UnsetNode id key) c e = unset_node id key c e
  completed_happens g (SetEdge id key v) c e = set_edge id key v c e
  completed_happens g (UnsetEdge id key) c e = unset_edge id key c e
  completed_happens g (what.Message s d v) c e = message g s d v c e

  -- the event of a change can happen, and has its time
  pub event_happens : IsGraph set → (earliest : ℕ) (change : Change) (e : Event) → event_of earliest set change ≡ Ok e → CanHappen set e.body
  event_happens g earliest change e is = by (ltb change.time earliest) (complete change.what set) refl is
    where
      by : (t : Bool) (r : Result Body ℕ) → complete change.what set ≡ r
          → cond t (Err REASON_TIME) (on_value (λ (b : Body). record { time = change.time; body = b }) r) ≡ Ok e → CanHappen set e.body
      by true r h f = absurd (err_ok _ e f)
      by false (Err reason) h f = absurd (err_ok _ e f)
      by false (Ok b) h f = subst (λ (x : Event). CanHappen set x.body) (ok_is _ e f) (completed_happens g change.what b h)

  -- ---- an event that is followed

  added_node : (id : ℕ) → is_change_of set (body.NodeAdded id) ≡ true → CanHappen set (body.NodeAdded id)
  added_node id e = record {
    before = none_from (at set (Node id)) (has_node_is set id ∙ not_true (has_node set id) e);
    fed = refl;
    free = λ none. cc;
  }

  removed_node : (id : ℕ) → is_change_of set (body.NodeRemoved id) ≡ true → CanHappen set (body.NodeRemoved id)
  removed_node id e =
      let parts = both (has_node set id) (not (list_any (needs_node id) set)) e in
      record {
        before = node_there id parts.0;
        fed = tt;
        free = λ none. not_true (list_any (needs_node id) set) parts.1;
      }

  added_edge : (id s d : ℕ) (b : Bool) → is_change_of set (body.EdgeAdded b id s d) ≡ true → CanHappen set (body.EdgeAdded b id s d)
  added_edge id s d b e =
      let parts = both (not (is_some (edge_of set id))) (has_node set s && has_node set d) e in
      record {
        before = none_from (at set (Edge id)) (not_true (is_some (edge_of set id)) parts.0);
        fed = parts.1;
        free = λ none. cc;
      }

  removed_edge : (id s d : ℕ) (b : Bool) → is_change_of set (body.EdgeRemoved b id s d) ≡ true → CanHappen set (body.EdgeRemoved b id s d)
  removed_edge id s d b e =
      let parts = both (is_found (edge_of set id) (element.Edge b id s d)) (not (list_any (needs_edge id) set)) e in
      record {
        before = found_is (edge_of set id) (element.Edge b id s d) parts.0;
        fed = tt;
        free = λ none. not_true (list_any (needs_edge id) set) parts.1;
      }

  moved_node_value : (id key : ℕ) (old new : Option ℕ) → is_change_of set (body.NodeAttr key id old new) ≡ true → CanHappen set (body.NodeAttr key id old new)
  moved_node_value id key old new e =
      let parts = both (has_node set id) (is_value_change (node_value set id key) old new) e in
      record {
        before = node_value_at id key ∙ ap (option_map (element.NodeAttr id key)) (sym (old_is (node_value set id key) old new parts.1));
        fed = if_mapped (element.NodeAttr id key) new (λ x. has_needs set x ≡ true) (λ v. parts.0);
        free = λ none. none_needs set;
      }

  moved_edge_value : (id key : ℕ) (old new : Option ℕ) → is_change_of set (body.EdgeAttr key id old new) ≡ true → CanHappen set (body.EdgeAttr key id old new)
  moved_edge_value id key old new e =
      let parts = both (is_some (edge_of set id)) (is_value_change (edge_value set id key) old new) e in
      record {
        before = edge_value_at id key ∙ ap (option_map (element.EdgeAttr id key)) (sym (old_is (edge_value set id key) old new parts.1));
        fed = if_mapped (element.EdgeAttr id key) new (λ x. has_needs set x ≡ true) (λ v. parts.0);
        free = λ none. none_needs set;
      }

  -- an event to which some change comes can happen
  followed_happens : IsGraph set → (b : Body) → is_change_of set b ≡ true → CanHappen set b
  followed_happens g (body.NodeAdded id) e = added_node id e
  followed_happens g (body.NodeRemoved id) e = removed_node id e
  followed_happens g (body.EdgeAdded b id s d) e = added_edge id s d b e
  followed_happens g (body.EdgeRemoved b id s d) e = removed_edge id s d b e
  followed_happens g (body.NodeAttr key id old new) e = moved_node_value id key old new e
  followed_happens g (body.EdgeAttr key id old new) e = moved_edge_value id key old new e
  followed_happens g (body.Message s d v) e = told g s d v

-- the same by an answer that was given in a set that is this one
pub followed_still : (old new : List Element) (b : Body) (answer : Bool) → IsGraph new → new ≡ old → answer ≡ is_change_of old b → answer ≡ true → CanHappen new b
followed_still old new b answer g is exact holds = followed_happens new g b (ap (λ s. is_change_of s b) is ∙ sym exact ∙ holds)
