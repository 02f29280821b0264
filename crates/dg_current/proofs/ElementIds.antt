-- The elements of a set by their ids, and what an element put or taken out leaves of a graph.
use Rattle.std.proofs.Common.{◌≡◌, ℕ, Bool, true, false, cond, not, ◌||◌, ◌&&◌, List, [], ◌∷◌, Option, Some, None, find, is_some, refl, sym, ap, subst, ◌∙◌, eqb, ◌⊎◌, inl, inr}
use Rattle.std.proofs.lemmas.Bool.{true≢false, false≢true, eqb-true, eq-eqb, or_left, or_right}
use Rattle.std.specs.List.{list_any}
use Rattle.dg_graph.specs.declared.element.Element.{Element}
use Rattle.dg_graph.specs.declared.element.Element.TheVariants as element
use Rattle.dg_graph.specs.Completion.{has_node}
use Rattle.dg_graph.specs.Elements.{IsSet, has, same, put, take_out}
use Rattle.dg_graph.specs.Graph.{IsGraph, has_needs}
use Rattle.dg_graph.proofs.Sets.{element_exact, same_itself, has-put, has-take_out, IsSet-put, IsSet-take_out}
use Rattle.dg_current.specs.declared.element_id.ElementId.{ElementId}
use Rattle.dg_current.specs.declared.element_id.ElementId.TheVariants.{Node, Edge, NodeValue, EdgeValue, Message}
use Rattle.dg_current.specs.ElementIds.{element_id_of, has_id, at, needs_id}
use Rattle.dg_current.specs.Sorted.{OneOfEachId}

pub both : (a b : Bool) → (a && b) ≡ true → (a ≡ true) × (b ≡ true)
both true b e = (refl, e)
both false b e = absurd (false≢true e)

pub either : (a b : Bool) → (a || b) ≡ true → (a ≡ true) ⊎ (b ≡ true)
either true b e = inl refl
either false b e = inr e

-- ---- ids

pub has_id_is : (p : ElementId) (x : Element) → has_id p x ≡ true → element_id_of x ≡ p
has_id_is (Node id) (element.Node n) e = ap Node (eqb-true n id e)
has_id_is (Node id) (element.Edge b n s d) e = absurd (false≢true e)
has_id_is (Node id) (element.NodeAttr n k v) e = absurd (false≢true e)
has_id_is (Node id) (element.EdgeAttr n k v) e = absurd (false≢true e)
has_id_is (Node id) (element.Message s d v) e = absurd (false≢true e)
has_id_is (Edge id) (element.Node n) e = absurd (false≢true e)
has_id_is (Edge id) (element.Edge b n s d) e = ap Edge (eqb-true n id e)
has_id_is (Edge id) (element.NodeAttr n k v) e = absurd (false≢true e)
has_id_is (Edge id) (element.EdgeAttr n k v) e = absurd (false≢true e)
has_id_is (Edge id) (element.Message s d v) e = absurd (false≢true e)
has_id_is (NodeValue key id) (element.Node n) e = absurd (false≢true e)
has_id_is (NodeValue key id) (element.Edge b n s d) e = absurd (false≢true e)
has_id_is (NodeValue key id) (element.NodeAttr n k v) e =
    let parts = both (eqb n id) (eqb k key) e in
    λ i. NodeValue (eqb-true k key parts.1 i) (eqb-true n id parts.0 i)
has_id_is (NodeValue key id) (element.EdgeAttr n k v) e = absurd (false≢true e)
has_id_is (NodeValue key id) (element.Message s d v) e = absurd (false≢true e)
has_id_is (EdgeValue key id) (element.Node n) e = absurd (false≢true e)
has_id_is (EdgeValue key id) (element.Edge b n s d) e = absurd (false≢true e)
has_id_is (EdgeValue key id) (element.NodeAttr n k v) e = absurd (false≢true e)
has_id_is (EdgeValue key id) (element.EdgeAttr n k v) e =
    let parts = both (eqb n id) (eqb k key) e in
    λ i. EdgeValue (eqb-true k key parts.1 i) (eqb-true n id parts.0 i)
has_id_is (EdgeValue key id) (element.Message s d v) e = absurd (false≢true e)
has_id_is Message (element.Node n) e = absurd (false≢true e)
has_id_is Message (element.Edge b n s d) e = absurd (false≢true e)
has_id_is Message (element.NodeAttr n k v) e = absurd (false≢true e)
has_id_is Message (element.EdgeAttr n k v) e = absurd (false≢true e)
has_id_is Message (element.Message s d v) e = refl

two : (m n : ℕ) → (eqb m m && eqb n n) ≡ true
two m n = λ i. eq-eqb m m refl i && eq-eqb n n refl i

pub has_id_itself : (x : Element) → has_id (element_id_of x) x ≡ true
has_id_itself (element.Node n) = eq-eqb n n refl
has_id_itself (element.Edge b n s d) = eq-eqb n n refl
has_id_itself (element.NodeAttr n k v) = two n k
has_id_itself (element.EdgeAttr n k v) = two n k
has_id_itself (element.Message s d v) = refl

-- ---- look-ups in a list

pub found_in : (t : Element → Bool) (xs : List Element) (x : Element) → find t xs ≡ Some x → (has xs x ≡ true) × (t x ≡ true)
found_in t [] x e = cc
found_in t (y ∷ ys) x e = by (t y) refl e (found_in t ys x)
  where
    by : (b : Bool) → t y ≡ b → cond b (Some y) (find t ys) ≡ Some x → (find t ys ≡ Some x → (has ys x ≡ true) × (t x ≡ true))
        → (has (y ∷ ys) x ≡ true) × (t x ≡ true)
    by true ty is rest =
        let at : y ≡ x = cc in
        (subst (λ z. (same x z || has ys x) ≡ true) (sym at) (or_left (same x x) (has ys x) (same_itself x)), subst (λ z. t z ≡ true) at ty)
    by false ty is rest = (or_right (same x y) (has ys x) (rest is).0, (rest is).1)

pub found_none : (t : Element → Bool) (xs : List Element) → find t xs ≡ None → (x : Element) → has xs x ≡ true → t x ≡ false
found_none t [] e x h = absurd (false≢true h)
found_none t (y ∷ ys) e x h = by (t y) refl e (either (same x y) (has ys x) h) (λ none there. found_none t ys none x there)
  where
    by : (b : Bool) → t y ≡ b → cond b (Some y) (find t ys) ≡ None → (same x y ≡ true) ⊎ (has ys x ≡ true)
        → (find t ys ≡ None → has ys x ≡ true → t x ≡ false) → t x ≡ false
    by true ty none which rest = absurd (some_none none)
      where
        some_none : {X : Type 0} {z : X} → Some z ≡ None → ⊥
        some_none e = cc
    by false ty none (inl s) rest = ap t (element_exact x y s) ∙ ty
    by false ty none (inr there) rest = rest none there

-- ---- the element with an id

pub at_has : (set : List Element) (p : ElementId) (x : Element) → at set p ≡ Some x → (has set x ≡ true) × (element_id_of x ≡ p)
at_has set p x e =
    let got = found_in (has_id p) set x e in
    (got.0, has_id_is p x got.1)

pub at_lacks : (set : List Element) (p : ElementId) → at set p ≡ None → (x : Element) → has set x ≡ true → element_id_of x ≡ p → ⊥
at_lacks set p none x there is =
    true≢false (sym (has_id_itself x) ∙ ap (λ q. has_id q x) is ∙ found_none (has_id p) set none x there)

-- the look-up is the option that is the one element there
pub at_is : (set : List Element) (p : ElementId) (o : Option Element)
    → ((x : Element) → o ≡ Some x → (has set x ≡ true) × (element_id_of x ≡ p))
    → ((x : Element) → has set x ≡ true → element_id_of x ≡ p → o ≡ Some x)
    → at set p ≡ o
at_is set p o gives takes = by (at set p) refl o refl
  where
    by : (a : Option Element) → at set p ≡ a → (b : Option Element) → o ≡ b → a ≡ o
    by (Some x) e b f = let got = at_has set p x e in sym (takes x got.0 got.1)
    by None e None f = sym f
    by None e (Some y) f = let got = gives y f in absurd (at_lacks set p e y got.0 got.1)

pub at_from : (set : List Element) → OneOfEachId set → (x : Element) → has set x ≡ true → at set (element_id_of x) ≡ Some x
at_from set one x there =
    at_is set (element_id_of x) (Some x) (λ y e. let is : x ≡ y = cc in (ap (has set) (sym is) ∙ there, ap element_id_of (sym is)))
    (λ y has_y is. ap (λ z. Some z) (one x y there has_y (sym is)))

-- ---- what an element needs

-- some element of the set has the id
abbrev pub Lives : List Element → ElementId → Type 0
Lives set p = (z : Element) × ((has set z ≡ true) × (element_id_of z ≡ p))

pub lives_at : (set : List Element) (p : ElementId) → is_some (at set p) ≡ true → Lives set p
lives_at set p e = by (at set p) refl e
  where
    by : (a : Option Element) → at set p ≡ a → is_some a ≡ true → Lives set p
    by None is f = absurd (false≢true f)
    by (Some x) is f = (x, at_has set p x is)

pub at_lives : (set : List Element) (p : ElementId) → Lives set p → is_some (at set p) ≡ true
at_lives set p (z, got) = by (at set p) refl
  where
    by : (a : Option Element) → at set p ≡ a → is_some (at set p) ≡ true
    by None is = absurd (at_lacks set p is z got.0 got.1)
    by (Some x) is = ap is_some is

pub node_from : (z : Element) (id : ℕ) → element_id_of z ≡ Node id → z ≡ element.Node id
node_from (element.Node n) id e = let is : n ≡ id = cc in ap element.Node is
node_from (element.Edge b n s d) id e = cc
node_from (element.NodeAttr n k v) id e = cc
node_from (element.EdgeAttr n k v) id e = cc
node_from (element.Message s d v) id e = cc

pub node_lives : (set : List Element) (id : ℕ) → has_node set id ≡ true → Lives set (Node id)
node_lives set id e = (element.Node id, (e, refl))

pub lives_node : (set : List Element) (id : ℕ) → Lives set (Node id) → has_node set id ≡ true
lives_node set id (z, got) = subst (λ x. has set x ≡ true) (node_from z id got.1) got.0

-- a node is in the set where some element has its id
pub has_node_is : (set : List Element) (id : ℕ) → is_some (at set (Node id)) ≡ has_node set id
has_node_is set id = by (is_some (at set (Node id))) refl (has_node set id) refl
  where
    by : (a : Bool) → is_some (at set (Node id)) ≡ a → (b : Bool) → has_node set id ≡ b → is_some (at set (Node id)) ≡ has_node set id
    by true e b f = e ∙ sym (lives_node set id (lives_at set (Node id) e))
    by false e true f = absurd (false≢true (sym e ∙ at_lives set (Node id) (node_lives set id f)))
    by false e false f = e ∙ sym f

-- what an element of a graph needs is there
pub needs_live : (set : List Element) (x : Element) (p : ElementId) → has_needs set x ≡ true → needs_id p x ≡ true → Lives set p
needs_live set (element.Node n) (Node id) h e = absurd (false≢true e)
needs_live set (element.Node n) (Edge id) h e = absurd (false≢true e)
needs_live set (element.Edge b n s d) (Node id) h e =
    let ends = both (has_node set s) (has_node set d) h in
    by (either (eqb s id) (eqb d id) e) (node_lives set s ends.0) (node_lives set d ends.1)
  where
    by : (eqb s id ≡ true) ⊎ (eqb d id ≡ true) → Lives set (Node s) → Lives set (Node d) → Lives set (Node id)
    by (inl e) l m = subst (λ k. Lives set (Node k)) (eqb-true s id e) l
    by (inr e) l m = subst (λ k. Lives set (Node k)) (eqb-true d id e) m
needs_live set (element.Edge b n s d) (Edge id) h e = absurd (false≢true e)
needs_live set (element.NodeAttr n k v) (Node id) h e = subst (λ m. Lives set (Node m)) (eqb-true n id e) (node_lives set n h)
needs_live set (element.NodeAttr n k v) (Edge id) h e = absurd (false≢true e)
needs_live set (element.EdgeAttr n k v) (Node id) h e = absurd (false≢true e)
needs_live set (element.EdgeAttr n k v) (Edge id) h e = subst (λ m. Lives set (Edge m)) (eqb-true n id e) (lives_at set (Edge n) h)
needs_live set (element.Message s d v) (Node id) h e = absurd (false≢true e)
needs_live set (element.Message s d v) (Edge id) h e = absurd (false≢true e)
needs_live set x (NodeValue key id) h e = absurd (false≢true e)
needs_live set x (EdgeValue key id) h e = absurd (false≢true e)
needs_live set x Message h e = absurd (false≢true e)

-- what an element of one set needs in another
pub live_needs : (old set : List Element) (x : Element) → has_needs old x ≡ true → ((p : ElementId) → needs_id p x ≡ true → Lives set p) → has_needs set x ≡ true
live_needs old set (element.Node n) h l = refl
live_needs old set (element.Edge b n s d) h l =
    let src = lives_node set s (l (Node s) (or_left (eqb s s) (eqb d s) (eq-eqb s s refl))) in
    let dst = lives_node set d (l (Node d) (or_right (eqb s d) (eqb d d) (eq-eqb d d refl))) in
    λ i. src i && dst i
live_needs old set (element.NodeAttr n k v) h l = lives_node set n (l (Node n) (eq-eqb n n refl))
live_needs old set (element.EdgeAttr n k v) h l = at_lives set (Edge n) (l (Edge n) (eq-eqb n n refl))
live_needs old set (element.Message s d v) h l = absurd (false≢true h)

-- ---- graphs

pub one_of_each_id : (set : List Element) → IsGraph set → OneOfEachId set
one_of_each_id set g (element.Node m) (element.Node n) h k e = let is : m ≡ n = cc in ap element.Node is
one_of_each_id set g (element.Node m) (element.Edge b n s d) h k e = cc
one_of_each_id set g (element.Node m) (element.NodeAttr n c v) h k e = cc
one_of_each_id set g (element.Node m) (element.EdgeAttr n c v) h k e = cc
one_of_each_id set g (element.Node m) (element.Message t f w) h k e = cc
one_of_each_id set g (element.Edge b m s d) (element.Node n) h k e = cc
one_of_each_id set g (element.Edge b m s d) (element.Edge a n t f) h k e =
    let is : n ≡ m = cc in
    g.one_edge m s d t f b a h (subst (λ q. has set (element.Edge a q t f) ≡ true) is k) ∙ ap (λ q. element.Edge a q t f) (sym is)
one_of_each_id set g (element.Edge b m s d) (element.NodeAttr n c v) h k e = cc
one_of_each_id set g (element.Edge b m s d) (element.EdgeAttr n c v) h k e = cc
one_of_each_id set g (element.Edge b m s d) (element.Message t f w) h k e = cc
one_of_each_id set g (element.NodeAttr m c v) (element.Node n) h k e = cc
one_of_each_id set g (element.NodeAttr m c v) (element.Edge b n s d) h k e = cc
one_of_each_id set g (element.NodeAttr m c v) (element.NodeAttr n f w) h k e =
    let ids : n ≡ m = cc in
    let keys : f ≡ c = cc in
    let there = subst (λ q. has set (element.NodeAttr q c w) ≡ true) ids (subst (λ q. has set (element.NodeAttr n q w) ≡ true) keys k) in
    let values = g.one_node_value m c v w h there in
    λ i. element.NodeAttr (sym ids i) (sym keys i) (values i)
one_of_each_id set g (element.NodeAttr m c v) (element.EdgeAttr n f w) h k e = cc
one_of_each_id set g (element.NodeAttr m c v) (element.Message t f w) h k e = cc
one_of_each_id set g (element.EdgeAttr m c v) (element.Node n) h k e = cc
one_of_each_id set g (element.EdgeAttr m c v) (element.Edge b n s d) h k e = cc
one_of_each_id set g (element.EdgeAttr m c v) (element.NodeAttr n f w) h k e = cc
one_of_each_id set g (element.EdgeAttr m c v) (element.EdgeAttr n f w) h k e =
    let ids : n ≡ m = cc in
    let keys : f ≡ c = cc in
    let there = subst (λ q. has set (element.EdgeAttr q c w) ≡ true) ids (subst (λ q. has set (element.EdgeAttr n q w) ≡ true) keys k) in
    let values = g.one_edge_value m c v w h there in
    λ i. element.EdgeAttr (sym ids i) (sym keys i) (values i)
one_of_each_id set g (element.EdgeAttr m c v) (element.Message t f w) h k e = cc
one_of_each_id set g (element.Message s d v) y h k e = absurd (false≢true (g.needs (element.Message s d v) h))

pub graph_from : (set : List Element) → IsSet set → OneOfEachId set → ((x : Element) → has set x ≡ true → has_needs set x ≡ true) → IsGraph set
graph_from set rises one needs = record {
  rises = rises;
  needs = needs;
  one_edge = λ id s d t f b a h k. one (element.Edge b id s d) (element.Edge a id t f) h k refl;
  one_node_value = λ id key v w h k. let is = one (element.NodeAttr id key v) (element.NodeAttr id key w) h k refl in cc;
  one_edge_value = λ id key v w h k. let is = one (element.EdgeAttr id key v) (element.EdgeAttr id key w) h k refl in cc;
}

-- ---- an element more

pub put_itself : (x : Element) (set : List Element) → has (put x set) x ≡ true
put_itself x set = has-put x set x ∙ or_left (same x x) (has set x) (same_itself x)

pub put_keeps : (x : Element) (set : List Element) (q : Element) → has set q ≡ true → has (put x set) q ≡ true
put_keeps x set q h = has-put x set q ∙ or_right (same q x) (has set q) h

pub put_from : (x : Element) (set : List Element) (q : Element) → has (put x set) q ≡ true → (q ≡ x) ⊎ (has set q ≡ true)
put_from x set q h = by (either (same q x) (has set q) (sym (has-put x set q) ∙ h))
  where
    by : (same q x ≡ true) ⊎ (has set q ≡ true) → (q ≡ x) ⊎ (has set q ≡ true)
    by (inl e) = inl (element_exact q x e)
    by (inr k) = inr k

put_lives : (x : Element) (set : List Element) (p : ElementId) → Lives set p → Lives (put x set) p
put_lives x set p (z, got) = (z, (put_keeps x set z got.0, got.1))

pub put_one : (x : Element) (set : List Element) → OneOfEachId set → at set (element_id_of x) ≡ None → OneOfEachId (put x set)
put_one x set one free y z h k e = by (put_from x set y h) (put_from x set z k)
  where
    by : (y ≡ x) ⊎ (has set y ≡ true) → (z ≡ x) ⊎ (has set z ≡ true) → y ≡ z
    by (inl a) (inl b) = a ∙ sym b
    by (inl a) (inr b) = absurd (at_lacks set (element_id_of x) free z b (sym e ∙ ap element_id_of a))
    by (inr a) (inl b) = absurd (at_lacks set (element_id_of x) free y a (e ∙ ap element_id_of b))
    by (inr a) (inr b) = one y z a b e

pub put_graph : (x : Element) (set : List Element) → IsGraph set → at set (element_id_of x) ≡ None → has_needs set x ≡ true → IsGraph (put x set)
put_graph x set g free fed =
    graph_from (put x set) (IsSet-put x set g.rises) (put_one x set (one_of_each_id set g) free) (λ y h. by y (put_from x set y h))
  where
    all : (y : Element) → has_needs set y ≡ true → has_needs (put x set) y ≡ true
    all y h = live_needs set (put x set) y h (λ p n. put_lives x set p (needs_live set y p h n))

    by : (y : Element) → (y ≡ x) ⊎ (has set y ≡ true) → has_needs (put x set) y ≡ true
    by y (inl e) = all y (ap (has_needs set) e ∙ fed)
    by y (inr k) = all y (g.needs y k)

-- ---- an element less

pub out_from : (x : Element) (set : List Element) (q : Element) → has (take_out x set) q ≡ true → (same q x ≡ false) × (has set q ≡ true)
out_from x set q h = by (same q x) refl (sym (has-take_out x set q) ∙ h)
  where
    by : (b : Bool) → same q x ≡ b → (not b && has set q) ≡ true → (same q x ≡ false) × (has set q ≡ true)
    by true e f = absurd (false≢true f)
    by false e f = (e, f)

pub out_keeps : (x : Element) (set : List Element) (q : Element) → same q x ≡ false → has set q ≡ true → has (take_out x set) q ≡ true
out_keeps x set q e h = has-take_out x set q ∙ (λ i. not (e i) && h i)

-- an element that is in the set makes a test of all of them true
pub any_from : (t : Element → Bool) (set : List Element) (x : Element) → has set x ≡ true → t x ≡ true → list_any t set ≡ true
any_from t [] x h e = absurd (false≢true h)
any_from t (y ∷ ys) x h e = by (either (same x y) (has ys x) h) (λ k. any_from t ys x k e)
  where
    by : (same x y ≡ true) ⊎ (has ys x ≡ true) → (has ys x ≡ true → list_any t ys ≡ true) → list_any t (y ∷ ys) ≡ true
    by (inl s) rest = or_left (t y) (list_any t ys) (ap t (sym (element_exact x y s)) ∙ e)
    by (inr k) rest = or_right (t y) (list_any t ys) (rest k)

pub any_to : (t : Element → Bool) (set : List Element) → list_any t set ≡ true → (x : Element) × ((has set x ≡ true) × (t x ≡ true))
any_to t [] e = absurd (false≢true e)
any_to t (y ∷ ys) e = by (either (t y) (list_any t ys) e) (any_to t ys)
  where
    by : (t y ≡ true) ⊎ (list_any t ys ≡ true) → (list_any t ys ≡ true → (x : Element) × ((has ys x ≡ true) × (t x ≡ true)))
        → (x : Element) × ((has (y ∷ ys) x ≡ true) × (t x ≡ true))
    by (inl h) rest = (y, (or_left (same y y) (has ys y) (same_itself y), h))
    by (inr k) rest = let got = rest k in (got.0, (or_right (same got.0 y) (has ys got.0) got.1.0, got.1.1))

pub out_one : (x : Element) (set : List Element) → OneOfEachId set → OneOfEachId (take_out x set)
out_one x set one y z h k e = one y z (out_from x set y h).1 (out_from x set z k).1 e

pub out_graph : (x : Element) (set : List Element) → IsGraph set → list_any (needs_id (element_id_of x)) set ≡ false → IsGraph (take_out x set)
out_graph x set g free =
    graph_from (take_out x set) (IsSet-take_out x set g.rises) (out_one x set (one_of_each_id set g)) (λ y h. all y (out_from x set y h).1)
  where
    kept : (y : Element) → has set y ≡ true → (p : ElementId) → needs_id p y ≡ true → (z : Element) → element_id_of z ≡ p → same z x ≡ false
    kept y k p n z is = by (same z x) refl
      where
        by : (b : Bool) → same z x ≡ b → same z x ≡ false
        by false e = e
        by true e =
            let at : p ≡ element_id_of x = sym is ∙ ap element_id_of (element_exact z x e) in
            absurd (true≢false (sym (any_from (needs_id (element_id_of x)) set y k (ap (λ q. needs_id q y) (sym at) ∙ n)) ∙ free))

    all : (y : Element) → has set y ≡ true → has_needs (take_out x set) y ≡ true
    all y k = live_needs set (take_out x set) y (g.needs y k) (λ p n. by p n (needs_live set y p (g.needs y k) n))
      where
        by : (p : ElementId) → needs_id p y ≡ true → Lives set p → Lives (take_out x set) p
        by p n (z, got) = (z, (out_keeps x set z (kept y k p n z got.1) got.0, got.1))
