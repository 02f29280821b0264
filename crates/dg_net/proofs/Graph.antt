-- An event to which some change comes keeps a graph a graph.
use Rattle.std.proofs.Common.{◌≡◌, ℕ, Bool, true, false, cond, not, ◌&&◌, List, Option, Some, None, find, is_some, eqb, refl, sym, ap, subst, ◌∙◌, ◌⊎◌, inl, inr}
use Rattle.std.specs.Option.{option_and_then}
use Rattle.std.specs.List.{list_any}
use Rattle.std.proofs.lemmas.Bool.{true≢false, false≢true, and_parts, eqb-true, eq-eqb, not-true, or_cases, or_left, or_right}
use Rattle.dg_graph.specs.declared.element.Element.{Element}
use Rattle.dg_graph.specs.declared.element.Element.TheVariants as element
use Rattle.dg_graph.specs.declared.event.Body.{Body}
use Rattle.dg_graph.specs.declared.event.Body.TheVariants as body
use Rattle.dg_graph.specs.Completion.{has_node, edge_of, is_edge, needs_node, needs_edge, is_node_value, is_edge_value, value_in, node_value, edge_value, is_found, is_value_change, is_change_of}
use Rattle.dg_graph.specs.Effect.{moved, removed_by, added_by}
use Rattle.dg_graph.specs.Elements.{has, same, put, take_out, with_one, without}
use Rattle.dg_graph.specs.Graph.{IsGraph, has_needs}
use Rattle.dg_graph.proofs.Sets.{element_exact, same_itself, has-put, has-take_out, IsSet-put, IsSet-take_out}
use Rattle.dg_graph.proofs.Completions.{found_in, old_is}
use Rattle.dg_net.proofs.Completion.{two_itself, found_none, find_some, none_passes, differs_from, none_from, node_attr_found, edge_attr_found, node_valued, edge_valued}

-- ---- an element more, an element less

put_keeps : (x : Element) (set : List Element) (q : Element) → has set q ≡ true → has (put x set) q ≡ true
put_keeps x set q h = has-put x set q ∙ or_right (same q x) (has set q) h

put_from : (x : Element) (set : List Element) (q : Element) → has (put x set) q ≡ true → (q ≡ x) ⊎ (has set q ≡ true)
put_from x set q h = by (or_cases (same q x) (has set q) (sym (has-put x set q) ∙ h))
  where
    by : (same q x ≡ true) ⊎ (has set q ≡ true) → (q ≡ x) ⊎ (has set q ≡ true)
    by (inl e) = inl (element_exact q x e)
    by (inr k) = inr k

out_keeps : (x : Element) (set : List Element) (q : Element) → (q ≡ x → ⊥) → has set q ≡ true → has (take_out x set) q ≡ true
out_keeps x set q other h = has-take_out x set q ∙ (λ i. not (differs_from q x other i) && h i)

out_from : (x : Element) (set : List Element) (q : Element) → has (take_out x set) q ≡ true → (same q x ≡ false) × (has set q ≡ true)
out_from x set q h =
    let parts = and_parts (not (same q x)) (has set q) (sym (has-take_out x set q) ∙ h) in
    (not-true (same q x) parts.0, parts.1)

-- ---- what an element needs

needs_keep : (old new : List Element) (y : Element)
    → ((id : ℕ) → needs_node id y ≡ true → has_node old id ≡ true → has_node new id ≡ true)
    → ((id : ℕ) → needs_edge id y ≡ true → is_some (edge_of old id) ≡ true → is_some (edge_of new id) ≡ true)
    → has_needs old y ≡ true → has_needs new y ≡ true
needs_keep old new (element.Node id) f g h = refl
needs_keep old new (element.Edge b id s d) f g h =
    let parts = and_parts (has_node old s) (has_node old d) h in
    let first = f s (or_left (eqb s s) (eqb d s) (eq-eqb s s refl)) parts.0 in
    let last = f d (or_right (eqb s d) (eqb d d) (eq-eqb d d refl)) parts.1 in
    λ i. first i && last i
needs_keep old new (element.NodeAttr id key v) f g h = f id (eq-eqb id id refl) h
needs_keep old new (element.EdgeAttr id key v) f g h = g id (eq-eqb id id refl) h
needs_keep old new (element.Message s d v) f g h = absurd (false≢true h)

-- an edge that stays is found still
edge_keeps : (old new : List Element) (id : ℕ) → ((z : Element) → is_edge id z ≡ true → has old z ≡ true → has new z ≡ true)
    → is_some (edge_of old id) ≡ true → is_some (edge_of new id) ≡ true
edge_keeps old new id f h = by (edge_of old id) refl h
  where
    by : (o : Option Element) → edge_of old id ≡ o → is_some o ≡ true → is_some (edge_of new id) ≡ true
    by None e k = absurd (false≢true k)
    by (Some z) e k = let got = found_in (is_edge id) old z e in find_some (is_edge id) new z (f z got.1 got.0) got.1

put_fed : (x : Element) (set : List Element) (y : Element) → has_needs set y ≡ true → has_needs (put x set) y ≡ true
put_fed x set y h =
    needs_keep set (put x set) y (λ id n k. put_keeps x set (element.Node id) k)
    (λ id n k. edge_keeps set (put x set) id (λ z e there. put_keeps x set z there) k) h

-- nothing that the element needs is taken out
record Spares (x y : Element) : Type 0 where
  node : (id : ℕ) → needs_node id y ≡ true → element.Node id ≡ x → ⊥
  edge : (id : ℕ) → needs_edge id y ≡ true → is_edge id x ≡ true → ⊥

out_fed : (x : Element) (set : List Element) (y : Element) → Spares x y → has_needs set y ≡ true → has_needs (take_out x set) y ≡ true
out_fed x set y spares h =
    needs_keep set (take_out x set) y (λ id n k. out_keeps x set (element.Node id) (spares.node id n) k)
    (λ id n k.
    edge_keeps set (take_out x set) id
    (λ z e there. out_keeps x set z (λ is. spares.edge id n (sym (ap (is_edge id) is) ∙ e)) there) k)
    h

-- ---- a graph with an element less

out_graph : (x : Element) (set : List Element) → IsGraph set → ((y : Element) → has set y ≡ true → Spares x y) → IsGraph (take_out x set)
out_graph x set g spares = record {
  rises = IsSet-take_out x set g.rises;
  needs = λ y h. out_fed x set y (spares y (there y h)) (g.needs y (there y h));
  one_edge = λ id s d s2 d2 b b2 h k.
      g.one_edge id s d s2 d2 b b2 (there (element.Edge b id s d) h) (there (element.Edge b2 id s2 d2) k);
  one_node_value = λ id key v w h k.
      g.one_node_value id key v w (there (element.NodeAttr id key v) h) (there (element.NodeAttr id key w) k);
  one_edge_value = λ id key v w h k.
      g.one_edge_value id key v w (there (element.EdgeAttr id key v) h) (there (element.EdgeAttr id key w) k);
}
  where
    there : (y : Element) → has (take_out x set) y ≡ true → has set y ≡ true
    there y h = (out_from x set y h).1

-- ---- a graph with an element more

-- the other element stands where this one would: it is an edge of the same id, or a value of the same key
abbrev clashes : Element → Element → Bool
clashes (element.Node id) y = false
clashes (element.Edge b id s d) y = is_edge id y
clashes (element.NodeAttr id key v) y = is_node_value id key y
clashes (element.EdgeAttr id key v) y = is_edge_value id key y
clashes (element.Message s d v) y = false

module _ (x : Element) (set : List Element) (g : IsGraph set) (fed : has_needs set x ≡ true)
    (alone : (y : Element) → has set y ≡ true → clashes x y ≡ false) where
  -- two elements that clash are one, or both were there
  one_of : (y z : Element) → clashes y z ≡ true → clashes z y ≡ true → has (put x set) y ≡ true → has (put x set) z ≡ true
      → (y ≡ z) ⊎ ((has set y ≡ true) × (has set z ≡ true))
  one_of y z e f h k = by (put_from x set y h) (put_from x set z k)
    where
      by : (y ≡ x) ⊎ (has set y ≡ true) → (z ≡ x) ⊎ (has set z ≡ true) → (y ≡ z) ⊎ ((has set y ≡ true) × (has set z ≡ true))
      by (inl a) (inl b) = inl (a ∙ sym b)
      by (inl a) (inr b) = absurd (true≢false (sym e ∙ ap (λ q. clashes q z) a ∙ alone z b))
      by (inr a) (inl b) = absurd (true≢false (sym f ∙ ap (λ q. clashes q y) b ∙ alone y a))
      by (inr a) (inr b) = inr (a, b)

  put_graph : IsGraph (put x set)
  put_graph = record {
    rises = IsSet-put x set g.rises;
    needs = λ y h.
        elim (put_from x set y h) [
          | inl e ↦ put_fed x set y (ap (has_needs set) e ∙ fed)
          | inr there ↦ put_fed x set y (g.needs y there)
        ];
    one_edge = λ id s d s2 d2 b b2 h k.
        elim (one_of (element.Edge b id s d) (element.Edge b2 id s2 d2) (eq-eqb id id refl) (eq-eqb id id refl) h k) [
          | inl e ↦ e
          | inr there ↦ g.one_edge id s d s2 d2 b b2 there.0 there.1
        ];
    one_node_value = λ id key v w h k.
        elim (one_of (element.NodeAttr id key v) (element.NodeAttr id key w) (two_itself id key) (two_itself id key) h k) [
          | inl e ↦ node_values id key v w e
          | inr there ↦ g.one_node_value id key v w there.0 there.1
        ];
    one_edge_value = λ id key v w h k.
        elim (one_of (element.EdgeAttr id key v) (element.EdgeAttr id key w) (two_itself id key) (two_itself id key) h k) [
          | inl e ↦ edge_values id key v w e
          | inr there ↦ g.one_edge_value id key v w there.0 there.1
        ];
  }
    where
      node_values : (id key m n : ℕ) → element.NodeAttr id key m ≡ element.NodeAttr id key n → m ≡ n
      node_values id key m n e = cc

      edge_values : (id key m n : ℕ) → element.EdgeAttr id key m ≡ element.EdgeAttr id key n → m ≡ n
      edge_values id key m n e = cc

-- ---- a value that changes

module _ (set : List Element) (g : IsGraph set) (t : Element → Bool) (make : ℕ → Element)
    (made : (x : Element) → t x ≡ true → (v : ℕ) → value_in x ≡ Some v → x ≡ make v)
    (valued : (x : Element) → t x ≡ true → is_some (value_in x) ≡ true)
    (one : (v w : ℕ) → has set (make v) ≡ true → has set (make w) ≡ true → v ≡ w)
    (clash : (v : ℕ) (y : Element) → clashes (make v) y ≡ t y)
    (no_node : (v id : ℕ) → element.Node id ≡ make v → ⊥)
    (no_edge : (v id : ℕ) → is_edge id (make v) ≡ true → ⊥)
    (fed : (v : ℕ) → has_needs set (make v) ≡ true) where
  spared : (v : ℕ) (y : Element) → Spares (make v) y
  spared v y = record { node = λ id n is. no_node v id is; edge = λ id n e. no_edge v id e }

  taken : (v : ℕ) → IsGraph (take_out (make v) set)
  taken v = out_graph (make v) set g (λ y there. spared v y)

  -- an element of the key that is in the set has the value that was found
  one_value : (o : Option ℕ) → o ≡ option_and_then value_in (find t set) → (y : Element) → has set y ≡ true → t y ≡ true
      → (v : ℕ) × (o ≡ Some v) × (y ≡ make v)
  one_value o was y there passes = by (find t set) refl (value_in y) refl
    where
      by : (f : Option Element) → find t set ≡ f → (u : Option ℕ) → value_in y ≡ u → (v : ℕ) × (o ≡ Some v) × (y ≡ make v)
      by None none u value = absurd (true≢false (sym passes ∙ found_none t set none y there))
      by (Some x) is None value = absurd (true≢false (sym (valued y passes) ∙ ap is_some value))
      by (Some x) is (Some w) value =
          let got = found_in t set x is in
          at got.0 got.1 (value_in x) refl
        where
          at : has set x ≡ true → t x ≡ true → (n : Option ℕ) → value_in x ≡ n → (v : ℕ) × (o ≡ Some v) × (y ≡ make v)
          at here tests None none = absurd (true≢false (sym (valued x tests) ∙ ap is_some none))
          at here tests (Some v) some =
              let y_is = made y passes w value in
              let x_is = made x tests v some in
              let equal = one v w (subst (λ z. has set z ≡ true) x_is here) (subst (λ z. has set z ≡ true) y_is there) in
              (v, was ∙ ap (option_and_then value_in) is ∙ some, y_is ∙ ap make (sym equal))

  added : (w : ℕ) → None ≡ option_and_then value_in (find t set) → IsGraph (put (make w) set)
  added w was = put_graph (make w) set g (fed w) (λ y there. clash w y ∙ by y there (t y) refl)
    where
      by : (y : Element) → has set y ≡ true → (b : Bool) → t y ≡ b → b ≡ false
      by y there true e = absurd (none_some (one_value None was y there e))
        where
          none_some : (v : ℕ) × (None ≡ Some v) × (y ≡ make v) → ⊥
          none_some (v, e, f) = cc
      by y there false e = refl

  replaced : (v w : ℕ) → Some v ≡ option_and_then value_in (find t set) → IsGraph (put (make w) (take_out (make v) set))
  replaced v w was =
      put_graph (make w) (take_out (make v) set) (taken v) (out_fed (make v) set (make w) (spared v (make w)) (fed w))
      (λ y h. clash w y ∙ by y (out_from (make v) set y h) (t y) refl)
    where
      by : (y : Element) → (same y (make v) ≡ false) × (has set y ≡ true) → (b : Bool) → t y ≡ b → b ≡ false
      by y h false e = refl
      by y h true e = absurd (still (one_value (Some v) was y h.1 e))
        where
          still : (u : ℕ) × (Some v ≡ Some u) × (y ≡ make u) → ⊥
          still (u, e, f) =
              let equal : v ≡ u = cc in
              true≢false (sym (same_itself y) ∙ ap (same y) (f ∙ ap make (sym equal)) ∙ h.0)

  value_graph : (old new : Option ℕ) → old ≡ option_and_then value_in (find t set)
      → IsGraph (with_one (without set (moved make old new)) (moved make new old))
  value_graph None None was = g
  value_graph None (Some w) was = added w was
  value_graph (Some v) None was = taken v
  value_graph (Some v) (Some w) was = by (eqb v w) refl (eqb w v) refl
    where
      by : (a : Bool) → eqb v w ≡ a → (b : Bool) → eqb w v ≡ b
          → IsGraph (with_one (without set (cond a None (Some (make v)))) (cond b None (Some (make w))))
      by true e true f = g
      by false e false f = replaced v w was
      by true e false f = absurd (true≢false (sym (eq-eqb w v (sym (eqb-true v w e))) ∙ f))
      by false e true f = absurd (true≢false (sym (eq-eqb v w (sym (eqb-true w v f))) ∙ e))

-- ---- each kind of event

module _ (set : List Element) (g : IsGraph set) where
  node_spared : (id : ℕ) → list_any (needs_node id) set ≡ false → (y : Element) → has set y ≡ true → Spares (element.Node id) y
  node_spared id none y there = record {
    node = λ n needs is.
        let equal : n ≡ id = cc in
        none_passes (needs_node id) set none y there (ap (λ q. needs_node q y) (sym equal) ∙ needs);
    edge = λ n needs e. false≢true e;
  }

  edge_spared : (id s d : ℕ) (b : Bool) → list_any (needs_edge id) set ≡ false → (y : Element) → has set y ≡ true
      → Spares (element.Edge b id s d) y
  edge_spared id s d b none y there = record {
    node = λ n needs is. cc;
    edge = λ n needs e. none_passes (needs_edge id) set none y there (ap (λ q. needs_edge q y) (eqb-true id n e) ∙ needs);
  }

  pub graph_forwards : (b : Body) → is_change_of set b ≡ true → IsGraph (with_one (without set (removed_by b)) (added_by b))
  graph_forwards (body.NodeAdded id) e = put_graph (element.Node id) set g refl (λ y there. refl)
  graph_forwards (body.NodeRemoved id) e =
      let free = not-true (list_any (needs_node id) set) (and_parts (has_node set id) (not (list_any (needs_node id) set)) e).1 in
      out_graph (element.Node id) set g (node_spared id free)
  graph_forwards (body.EdgeAdded b id s d) e =
      let parts = and_parts (not (is_some (edge_of set id))) (has_node set s && has_node set d) e in
      let none = none_from (edge_of set id) (not-true (is_some (edge_of set id)) parts.0) in
      put_graph (element.Edge b id s d) set g parts.1 (λ y there. found_none (is_edge id) set none y there)
  graph_forwards (body.EdgeRemoved b id s d) e =
      let found = is_found (edge_of set id) (element.Edge b id s d) in
      let free = not-true (list_any (needs_edge id) set) (and_parts found (not (list_any (needs_edge id) set)) e).1 in
      out_graph (element.Edge b id s d) set g (edge_spared id s d b free)
  graph_forwards (body.NodeAttr key id old new) e =
      let parts = and_parts (has_node set id) (is_value_change (node_value set id key) old new) e in
      value_graph set g (is_node_value id key) (element.NodeAttr id key) (node_attr_found id key) (node_valued id key)
      (g.one_node_value id key) (λ v y. refl) (λ v n is. cc) (λ v n f. false≢true f) (λ v. parts.0) old new
      (old_is (node_value set id key) old new parts.1)
  graph_forwards (body.EdgeAttr key id old new) e =
      let parts = and_parts (is_some (edge_of set id)) (is_value_change (edge_value set id key) old new) e in
      value_graph set g (is_edge_value id key) (element.EdgeAttr id key) (edge_attr_found id key) (edge_valued id key)
      (g.one_edge_value id key) (λ v y. refl) (λ v n is. cc) (λ v n f. false≢true f) (λ v. parts.0) old new
      (old_is (edge_value set id key) old new parts.1)
  graph_forwards (body.Message src dst value) e = g
