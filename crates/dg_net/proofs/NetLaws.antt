-- An event to which some change comes in a graph is exact there.
use Rattle.std.proofs.Common.{◌≡◌, ℕ, Bool, true, false, cond, not, ◌&&◌, List, [], ◌∷◌, Option, Some, None, IfSome, find, is_some, nat_eq, refl, sym, ap, subst, ◌∙◌}
use Rattle.std.specs.Option.{option_map, option_and_then, option_eq}
use Rattle.std.specs.List.{list_any}
use Rattle.std.proofs.lemmas.Bool.{true≢false, false≢true, and_parts, eq-eqb, not-true}
use Rattle.dg_graph.specs.declared.element.Element.{Element}
use Rattle.dg_graph.specs.declared.element.Element.TheVariants as element
use Rattle.dg_graph.specs.declared.event.Body.{Body}
use Rattle.dg_graph.specs.declared.event.Body.TheVariants as body
use Rattle.dg_graph.specs.Completion.{has_node, edge_of, is_edge, needs_node, needs_edge, is_node_value, is_edge_value, value_in, node_value, edge_value, is_found, is_value_change, is_change_of}
use Rattle.dg_graph.specs.Effect.{moved, removed_by, added_by, forwards}
use Rattle.dg_graph.specs.Elements.{has}
use Rattle.dg_graph.specs.Graph.{IsGraph}
use Rattle.dg_graph.proofs.Sets.{element_exact}
use Rattle.dg_net.specs.NetLaws.{ChangesAreExact, ChangesKeepGraphs}
use Rattle.dg_graph.proofs.Completions.{found_in, old_is}
use Rattle.dg_net.proofs.Completion.{two_itself, other_value, found_none, absent, none_from, node_attr_found, edge_attr_found, node_valued, edge_valued}
use Rattle.dg_net.proofs.Graph.{graph_forwards}

-- Values of a key, each in an element that the test finds, of which the set has one at the most.
module _ (set : List Element) (t : Element → Bool) (make : ℕ → Element)
    (made : (x : Element) → t x ≡ true → (v : ℕ) → value_in x ≡ Some v → x ≡ make v)
    (valued : (x : Element) → t x ≡ true → is_some (value_in x) ≡ true)
    (finds : (v : ℕ) → t (make v) ≡ true)
    (one : (v w : ℕ) → has set (make v) ≡ true → has set (make w) ≡ true → v ≡ w) where
  value_there : (v : ℕ) → option_and_then value_in (find t set) ≡ Some v → has set (make v) ≡ true
  value_there v e = by (find t set) refl e
    where
      by : (o : Option Element) → find t set ≡ o → option_and_then value_in o ≡ Some v → has set (make v) ≡ true
      by None is f = cc
      by (Some x) is f =
          let got = found_in t set x is in
          subst (λ z. has set z ≡ true) (made x got.1 v f) got.0

  value_absent : (w : ℕ) → (option_and_then value_in (find t set) ≡ Some w → ⊥) → has set (make w) ≡ false
  value_absent w other = by (has set (make w)) refl (find t set) refl
    where
      known : (x : Element) → find t set ≡ Some x → has set (make w) ≡ true → (o : Option ℕ) → value_in x ≡ o → ⊥
      known x is there None none = true≢false (sym (valued x (found_in t set x is).1) ∙ ap is_some none)
      known x is there (Some v) value =
          let got = found_in t set x is in
          let old = subst (λ z. has set z ≡ true) (made x got.1 v value) got.0 in
          other (ap (option_and_then value_in) is ∙ value ∙ ap (λ n. Some n) (one v w old there))

      by : (b : Bool) → has set (make w) ≡ b → (o : Option Element) → find t set ≡ o → b ≡ false
      by false there o is = refl
      by true there None is = absurd (true≢false (sym (finds w) ∙ found_none t set is (make w) there))
      by true there (Some x) is = absurd (known x is there (value_in x) refl)

  module _ (old new : Option ℕ) (was : old ≡ option_and_then value_in (find t set)) where
    value_removed : IfSome (moved make old new) (λ x. has set x ≡ true)
    value_removed = by (option_eq nat_eq old new) old (sym was)
      where
        by : (b : Bool) (o : Option ℕ) → option_and_then value_in (find t set) ≡ o
            → IfSome (cond b None (option_map make o)) (λ x. has set x ≡ true)
        by true o is = tt
        by false None is = tt
        by false (Some v) is = value_there v is

    value_added : IfSome (moved make new old) (λ x. has set x ≡ false)
    value_added = by new (option_eq nat_eq new old) refl
      where
        by : (o : Option ℕ) (b : Bool) → option_eq nat_eq o old ≡ b → IfSome (cond b None (option_map make o)) (λ x. has set x ≡ false)
        by o true e = tt
        by None false e = tt
        by (Some w) false e = value_absent w (λ is. other_value w old e (was ∙ is))

-- ---- each kind of event

edge_found : (set : List Element) (id : ℕ) (x : Element) → is_found (edge_of set id) x ≡ true → has set x ≡ true
edge_found set id x e = by (edge_of set id) refl e
  where
    by : (o : Option Element) → edge_of set id ≡ o → is_found o x ≡ true → has set x ≡ true
    by None is f = absurd (false≢true f)
    by (Some y) is f = subst (λ z. has set z ≡ true) (element_exact y x f) (found_in (is_edge id) set y is).0

module _ (set : List Element) (g : IsGraph set) where
  removed_there : (b : Body) → is_change_of set b ≡ true → IfSome (removed_by b) (λ x. has set x ≡ true)
  removed_there (body.NodeAdded id) e = tt
  removed_there (body.NodeRemoved id) e = (and_parts (has_node set id) (not (list_any (needs_node id) set)) e).0
  removed_there (body.EdgeAdded b id s d) e = tt
  removed_there (body.EdgeRemoved b id s d) e =
      let x = element.Edge b id s d in
      edge_found set id x (and_parts (is_found (edge_of set id) x) (not (list_any (needs_edge id) set)) e).0
  removed_there (body.NodeAttr key id old new) e =
      let value = (and_parts (has_node set id) (is_value_change (node_value set id key) old new) e).1 in
      value_removed set (is_node_value id key) (element.NodeAttr id key) (node_attr_found id key) (node_valued id key) (λ v. two_itself id key)
      (g.one_node_value id key) old new (old_is (node_value set id key) old new value)
  removed_there (body.EdgeAttr key id old new) e =
      let value = (and_parts (is_some (edge_of set id)) (is_value_change (edge_value set id key) old new) e).1 in
      value_removed set (is_edge_value id key) (element.EdgeAttr id key) (edge_attr_found id key) (edge_valued id key) (λ v. two_itself id key)
      (g.one_edge_value id key) old new (old_is (edge_value set id key) old new value)
  removed_there (body.Message src dst value) e = tt

  added_absent : (b : Body) → is_change_of set b ≡ true → IfSome (added_by b) (λ x. has set x ≡ false)
  added_absent (body.NodeAdded id) e = not-true (has_node set id) e
  added_absent (body.NodeRemoved id) e = tt
  added_absent (body.EdgeAdded b id s d) e =
      let none = not-true (is_some (edge_of set id)) (and_parts (not (is_some (edge_of set id))) (has_node set s && has_node set d) e).0 in
      absent (is_edge id) set (element.Edge b id s d) (none_from (edge_of set id) none) (eq-eqb id id refl)
  added_absent (body.EdgeRemoved b id s d) e = tt
  added_absent (body.NodeAttr key id old new) e =
      let value = (and_parts (has_node set id) (is_value_change (node_value set id key) old new) e).1 in
      value_added set (is_node_value id key) (element.NodeAttr id key) (node_attr_found id key) (node_valued id key) (λ v. two_itself id key)
      (g.one_node_value id key) old new (old_is (node_value set id key) old new value)
  added_absent (body.EdgeAttr key id old new) e =
      let value = (and_parts (is_some (edge_of set id)) (is_value_change (edge_value set id key) old new) e).1 in
      value_added set (is_edge_value id key) (element.EdgeAttr id key) (edge_attr_found id key) (edge_valued id key) (λ v. two_itself id key)
      (g.one_edge_value id key) old new (old_is (edge_value set id key) old new value)
  added_absent (body.Message src dst value) e = tt

pub changes_are_exact : ChangesAreExact
changes_are_exact set [] g changes = tt
changes_are_exact set (e ∷ events) g changes = (
  record { removed = removed_there set g e.body changes.0; added = added_absent set g e.body changes.0 },
  changes_are_exact (forwards set e) events (graph_forwards set g e.body changes.0) changes.1,
)

pub changes_keep_graphs : ChangesKeepGraphs
changes_keep_graphs set [] g changes = g
changes_keep_graphs set (e ∷ events) g changes =
    changes_keep_graphs (forwards set e) events (graph_forwards set g e.body changes.0) changes.1
