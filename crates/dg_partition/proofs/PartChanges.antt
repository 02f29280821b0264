-- An event of a part that is a change of a set is one of what the part has of the set.
use Rattle.std.proofs.Common.{◌≡◌, ℕ, Bool, true, false, cond, not, ◌&&◌, ◌||◌, ◌==◌, List, [], ◌∷◌, Some, filter, find, is_some, refl, sym, ap, subst, ◌∙◌}
use Rattle.std.specs.Prelude.{option_and_then}
use Rattle.std.specs.List.{list_any}
use Rattle.std.proofs.lemmas.Bool.{and_from, and_parts, eqb-true, not-true, not_from_false, or_parts}
use Rattle.dg_graph.specs.declared.element.Element.{Element}
use Rattle.dg_graph.specs.declared.element.Element.TheVariants as element
use Rattle.dg_graph.specs.declared.event.Body.{Body}
use Rattle.dg_graph.specs.declared.event.Body.TheVariants as body
use Rattle.dg_graph.specs.declared.event.Event.{Event}
use Rattle.dg_graph.specs.Completion.{edge_of, edge_value, has_node, is_change_of, is_edge, is_edge_value, is_found, is_node_value, is_value_change, needs_edge, needs_node, node_value, value_in}
use Rattle.dg_graph.specs.Effect.{forwards}
use Rattle.dg_graph.specs.Elements.{IsSet}
use Rattle.dg_graph.specs.MadeByChanges.{AreMadeByChanges}
use Rattle.dg_graph.proofs.ExactEvents.{IsSet-forwards}
use Rattle.dg_graph.proofs.Sets.{has-filter}
use Rattle.dg_partition.specs.Owners.{belongs, elements_of_part, events_of_part, is_placed, owner_of, owner_of_body}
use Rattle.dg_partition.proofs.PartReplays.{part_step}

-- ---- a search in a filtered list

find_kept : (t u : Element → Bool) → ((x : Element) → t x ≡ true → u x ≡ true) → (xs : List Element) → find t (filter u xs) ≡ find t xs
find_kept t u k [] = refl
find_kept t u k (x ∷ xs) = by (find_kept t u k xs) (t x) (u x) refl refl
  where
    by : find t (filter u xs) ≡ find t xs → (a b : Bool) → t x ≡ a → u x ≡ b → find t (cond (u x) (x ∷ filter u xs) (filter u xs)) ≡ cond (t x) (Some x) (find t xs)
    by rest true true f g = (λ i. find t (cond (g i) (x ∷ filter u xs) (filter u xs))) ∙ (λ i. cond (f i) (Some x) (find t (filter u xs))) ∙ sym (λ i. cond (f i) (Some x) (find t xs))
    by rest true false f g = absurd (let no : false ≡ true = sym g ∙ k x f in cc)
    by rest false true f g =
        (λ i. find t (cond (g i) (x ∷ filter u xs) (filter u xs))) ∙ (λ i. cond (f i) (Some x) (find t (filter u xs))) ∙ rest ∙ sym (λ i. cond (f i) (Some x) (find t xs))
    by rest false false f g = (λ i. find t (cond (g i) (x ∷ filter u xs) (filter u xs))) ∙ rest ∙ sym (λ i. cond (f i) (Some x) (find t xs))

none_kept : (t u : Element → Bool) (xs : List Element) → list_any t xs ≡ false → list_any t (filter u xs) ≡ false
none_kept t u [] e = refl
none_kept t u (x ∷ xs) e = let f = or_parts (t x) (list_any t xs) e in by (u x) refl f.0 (none_kept t u xs f.1)
  where
    by : (b : Bool) → u x ≡ b → t x ≡ false → list_any t (filter u xs) ≡ false → list_any t (cond (u x) (x ∷ filter u xs) (filter u xs)) ≡ false
    by true f first rest = (λ i. list_any t (cond (f i) (x ∷ filter u xs) (filter u xs))) ∙ ap (λ b. b || list_any t (filter u xs)) first ∙ rest
    by false f first rest = (λ i. list_any t (cond (f i) (x ∷ filter u xs) (filter u xs))) ∙ rest

module _ (p i : ℕ) where
  -- ---- the elements that tests of this id find are in the part

  edge_here : (id : ℕ) → is_placed p i (Some id) ≡ true → (x : Element) → is_edge id x ≡ true → is_placed p i (owner_of x) ≡ true
  edge_here id is (element.Node n) e = refl
  edge_here id is (element.Edge directed n src dst) e = ap (λ (m : ℕ). is_placed p i (Some m)) (eqb-true n id e) ∙ is
  edge_here id is (element.NodeAttr n key value) e = cc
  edge_here id is (element.EdgeAttr n key value) e = cc
  edge_here id is (element.Message src dst value) e = cc

  node_value_here : (id key : ℕ) → is_placed p i (Some id) ≡ true → (x : Element) → is_node_value id key x ≡ true → is_placed p i (owner_of x) ≡ true
  node_value_here id key is (element.Node n) e = refl
  node_value_here id key is (element.Edge directed n src dst) e = cc
  node_value_here id key is (element.NodeAttr n k value) e = ap (λ (m : ℕ). is_placed p i (Some m)) (eqb-true n id (and_parts (n == id) _ e).0) ∙ is
  node_value_here id key is (element.EdgeAttr n k value) e = cc
  node_value_here id key is (element.Message src dst value) e = cc

  edge_value_here : (id key : ℕ) → is_placed p i (Some id) ≡ true → (x : Element) → is_edge_value id key x ≡ true → is_placed p i (owner_of x) ≡ true
  edge_value_here id key is (element.Node n) e = refl
  edge_value_here id key is (element.Edge directed n src dst) e = cc
  edge_value_here id key is (element.NodeAttr n k value) e = cc
  edge_value_here id key is (element.EdgeAttr n k value) e = ap (λ (m : ℕ). is_placed p i (Some m)) (eqb-true n id (and_parts (n == id) _ e).0) ∙ is
  edge_value_here id key is (element.Message src dst value) e = cc

  -- ---- what is looked up in the part is what is looked up in the whole

  node_in_part : (set : List Element) (id : ℕ) → has_node (elements_of_part p i set) id ≡ has_node set id
  node_in_part set id = has-filter (λ x. is_placed p i (owner_of x)) set (element.Node id)

  edge_in_part : (set : List Element) (id : ℕ) → is_placed p i (Some id) ≡ true → edge_of (elements_of_part p i set) id ≡ edge_of set id
  edge_in_part set id is = find_kept (is_edge id) (λ x. is_placed p i (owner_of x)) (edge_here id is) set

  node_value_in_part : (set : List Element) (id key : ℕ) → is_placed p i (Some id) ≡ true → node_value (elements_of_part p i set) id key ≡ node_value set id key
  node_value_in_part set id key is = ap (option_and_then value_in) (find_kept (is_node_value id key) (λ x. is_placed p i (owner_of x)) (node_value_here id key is) set)

  edge_value_in_part : (set : List Element) (id key : ℕ) → is_placed p i (Some id) ≡ true → edge_value (elements_of_part p i set) id key ≡ edge_value set id key
  edge_value_in_part set id key is = ap (option_and_then value_in) (find_kept (is_edge_value id key) (λ x. is_placed p i (owner_of x)) (edge_value_here id key is) set)

  free_in_part : (set : List Element) (t : Element → Bool) → not (list_any t set) ≡ true → not (list_any t (elements_of_part p i set)) ≡ true
  free_in_part set t e = not_from_false (list_any t (elements_of_part p i set)) (none_kept t (λ x. is_placed p i (owner_of x)) set (not-true (list_any t set) e))

  -- ---- a change of the whole is a change of the part to which it belongs

  pub change_of_part : (set : List Element) (b : Body) → is_placed p i (owner_of_body b) ≡ true → is_change_of set b ≡ true → is_change_of (elements_of_part p i set) b ≡ true
  change_of_part set (body.NodeAdded id) is e = ap not (node_in_part set id) ∙ e
  change_of_part set (body.NodeRemoved id) is e =
      let t = and_parts (has_node set id) _ e in
      and_from (has_node (elements_of_part p i set) id) _ (node_in_part set id ∙ t.0) (free_in_part set (needs_node id) t.1)
  change_of_part set (body.EdgeAdded directed id src dst) is e =
      (λ k. not (is_some (edge_in_part set id is k)) && (node_in_part set src k && node_in_part set dst k)) ∙ e
  change_of_part set (body.EdgeRemoved directed id src dst) is e =
      let t = and_parts (is_found (edge_of set id) (element.Edge directed id src dst)) _ e in
      and_from (is_found (edge_of (elements_of_part p i set) id) (element.Edge directed id src dst)) _
      (ap (λ o. is_found o (element.Edge directed id src dst)) (edge_in_part set id is) ∙ t.0) (free_in_part set (needs_edge id) t.1)
  change_of_part set (body.NodeAttr key id old new) is e =
      (λ k. node_in_part set id k && is_value_change (node_value_in_part set id key is k) old new) ∙ e
  change_of_part set (body.EdgeAttr key id old new) is e =
      (λ k. is_some (edge_in_part set id is k) && is_value_change (edge_value_in_part set id key is k) old new) ∙ e
  change_of_part set (body.Message src dst value) is e = (λ k. node_in_part set src k && node_in_part set dst k) ∙ e

  pub part_is_made : (set : List Element) (events : List Event) → IsSet set → AreMadeByChanges set events → AreMadeByChanges (elements_of_part p i set) (events_of_part p i events)
  part_is_made set [] s made = tt
  part_is_made set (e ∷ events) s made = by (belongs p i e) refl (part_is_made (forwards set e) events (IsSet-forwards set e s) made.1)
    where
      by : (b : Bool) → belongs p i e ≡ b → AreMadeByChanges (elements_of_part p i (forwards set e)) (events_of_part p i events)
          → AreMadeByChanges (elements_of_part p i set) (cond (belongs p i e) (e ∷ events_of_part p i events) (events_of_part p i events))
      by true is rest =
          subst (λ (b : Bool). AreMadeByChanges (elements_of_part p i set) (cond b (e ∷ events_of_part p i events) (events_of_part p i events))) (sym is)
          (change_of_part set e.body is made.0, subst (λ (l : List Element). AreMadeByChanges l (events_of_part p i events)) (part_step p i true set e is s) rest)
      by false is rest =
          subst (λ (b : Bool). AreMadeByChanges (elements_of_part p i set) (cond b (e ∷ events_of_part p i events) (events_of_part p i events))) (sym is)
          (subst (λ (l : List Element). AreMadeByChanges l (events_of_part p i events)) (part_step p i false set e is s) rest)
