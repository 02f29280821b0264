-- What an event that can happen leaves of a graph, and that it can be undone.
use Rattle.std.proofs.Common.{◌≡◌, ℕ, Bool, true, false, cond, List, [], ◌∷◌, Option, Some, None, IfSome, nat_eq, nat_lt, refl, sym, ap, subst, ◌∙◌, eqb, ◌⊎◌, inl, inr}
use Rattle.std.proofs.lemmas.Bool.{true≢false, false≢true, eqb-true, eq-eqb, or_left}
use Rattle.std.specs.List.{list_any}
use Rattle.std.specs.Option.{option_map, option_eq, option_or}
use Rattle.dg_graph.specs.declared.element.Element.{Element}
use Rattle.dg_graph.specs.declared.element.Element.TheVariants as element
use Rattle.dg_graph.specs.declared.event.Body.{Body}
use Rattle.dg_graph.specs.declared.event.Body.TheVariants as body
use Rattle.dg_graph.specs.declared.event.Event.{Event}
use Rattle.dg_graph.specs.Effect.{moved, removed_by, added_by, forwards, backwards}
use Rattle.dg_graph.specs.Elements.{has, same, put, take_out, without, with_one}
use Rattle.dg_graph.specs.Graph.{IsGraph, has_needs}
use Rattle.dg_graph.specs.Replay.{replay_from}
use Rattle.dg_graph.proofs.Sets.{same_itself, element_exact, take_out-put, put-take_out}
use Rattle.dg_current.specs.declared.element_id.ElementId.{ElementId}
use Rattle.dg_current.specs.declared.element_id.ElementId.TheVariants.{Node, Edge, NodeValue, EdgeValue, Message}
use Rattle.dg_current.specs.HeldGraph.{HeldGraphState, knows, HasRoom, IsKnown, KeepsIds}
use Rattle.dg_current.specs.EventEffect.{changed_id, element_before, element_after, CanHappen, CameBy, AllHappen, KnowsEvent, KnowsAllEvents, rewound, Led}
use Rattle.dg_current.specs.ElementIds.{element_id_of, at, needs_id}
use Rattle.dg_current.proofs.ElementIds.{at_has, at_lacks, one_of_each_id, needs_live, live_needs, put_graph, out_graph, out_from, out_keeps, put_itself, put_from, any_to, Lives}

some_none : {X : Type 0} {x : X} → Some x ≡ None → ⊥
some_none e = cc

some_is : {X : Type 0} (x y : X) → Some x ≡ Some y → x ≡ y
some_is x y e = cc

pub if_some : {X : Type 0} (o : Option X) (P : X → Type 0) → ((x : X) → o ≡ Some x → P x) → IfSome o P
if_some None P h = tt
if_some (Some x) P h = h x refl

-- ---- bodies

-- the element before an event has the id that the event changes, and so has the one after it
pub before_has_id : (b : Body) (x : Element) → element_before b ≡ Some x → element_id_of x ≡ changed_id b
before_has_id (body.NodeAdded id) x e = absurd (some_none (sym e))
before_has_id (body.NodeRemoved id) x e = ap element_id_of (sym (some_is _ x e))
before_has_id (body.EdgeAdded b id s d) x e = absurd (some_none (sym e))
before_has_id (body.EdgeRemoved b id s d) x e = ap element_id_of (sym (some_is _ x e))
before_has_id (body.NodeAttr key id None new) x e = absurd (some_none (sym e))
before_has_id (body.NodeAttr key id (Some v) new) x e = ap element_id_of (sym (some_is _ x e))
before_has_id (body.EdgeAttr key id None new) x e = absurd (some_none (sym e))
before_has_id (body.EdgeAttr key id (Some v) new) x e = ap element_id_of (sym (some_is _ x e))
before_has_id (body.Message s d v) x e = absurd (some_none (sym e))

pub after_has_id : (b : Body) (x : Element) → element_after b ≡ Some x → element_id_of x ≡ changed_id b
after_has_id (body.NodeRemoved id) x e = absurd (some_none (sym e))
after_has_id (body.NodeAdded id) x e = ap element_id_of (sym (some_is _ x e))
after_has_id (body.EdgeRemoved b id s d) x e = absurd (some_none (sym e))
after_has_id (body.EdgeAdded b id s d) x e = ap element_id_of (sym (some_is _ x e))
after_has_id (body.NodeAttr key id old None) x e = absurd (some_none (sym e))
after_has_id (body.NodeAttr key id old (Some v)) x e = ap element_id_of (sym (some_is _ x e))
after_has_id (body.EdgeAttr key id old None) x e = absurd (some_none (sym e))
after_has_id (body.EdgeAttr key id old (Some v)) x e = ap element_id_of (sym (some_is _ x e))
after_has_id (body.Message s d v) x e = absurd (some_none (sym e))

-- an event takes the element before it away and leaves the one after it, or it changes nothing
pub record Swaps (b : Body) : Type 0 where
  pub removed : removed_by b ≡ element_before b
  pub added : added_by b ≡ element_after b
  pub apart : (x : Element) → element_before b ≡ Some x → element_after b ≡ Some x → ⊥

pub record Stays (b : Body) : Type 0 where
  pub removed : removed_by b ≡ None
  pub added : added_by b ≡ None
  pub same : element_before b ≡ element_after b

node_values : (id key m n : ℕ) → element.NodeAttr id key m ≡ element.NodeAttr id key n → m ≡ n
node_values id key m n e = cc

edge_values : (id key m n : ℕ) → element.EdgeAttr id key m ≡ element.EdgeAttr id key n → m ≡ n
edge_values id key m n e = cc

eqb_flip : (m n : ℕ) → eqb m n ≡ true → eqb n m ≡ true
eqb_flip m n e = eq-eqb n m (sym (eqb-true m n e))

eqb_apart : (m n : ℕ) → eqb m n ≡ false → eqb n m ≡ false
eqb_apart m n e = by (eqb n m) refl
  where
    by : (b : Bool) → eqb n m ≡ b → eqb n m ≡ false
    by true f = absurd (true≢false (sym (eqb_flip n m f) ∙ e))
    by false f = f

pub shape : (b : Body) → Swaps b ⊎ Stays b
shape (body.NodeAdded id) = inl (record { removed = refl; added = refl; apart = λ x e f. some_none (sym e) })
shape (body.NodeRemoved id) = inl (record { removed = refl; added = refl; apart = λ x e f. some_none (sym f) })
shape (body.EdgeAdded b id s d) = inl (record { removed = refl; added = refl; apart = λ x e f. some_none (sym e) })
shape (body.EdgeRemoved b id s d) = inl (record { removed = refl; added = refl; apart = λ x e f. some_none (sym f) })
shape (body.Message s d v) = inr (record { removed = refl; added = refl; same = refl })
shape (body.NodeAttr key id None None) = inr (record { removed = refl; added = refl; same = refl })
shape (body.NodeAttr key id None (Some n)) = inl (record { removed = refl; added = refl; apart = λ x e f. some_none (sym e) })
shape (body.NodeAttr key id (Some m) None) = inl (record { removed = refl; added = refl; apart = λ x e f. some_none (sym f) })
shape (body.NodeAttr key id (Some m) (Some n)) = by (eqb m n) refl
  where
    by : (t : Bool) → eqb m n ≡ t → Swaps (body.NodeAttr key id (Some m) (Some n)) ⊎ Stays (body.NodeAttr key id (Some m) (Some n))
    by true e = inr (record {
      removed = ap (λ t. cond t None (Some (element.NodeAttr id key m))) e;
      added = ap (λ t. cond t None (Some (element.NodeAttr id key n))) (eqb_flip m n e);
      same = ap (λ v. Some (element.NodeAttr id key v)) (eqb-true m n e);
    })
    by false e = inl (record {
      removed = ap (λ t. cond t None (Some (element.NodeAttr id key m))) e;
      added = ap (λ t. cond t None (Some (element.NodeAttr id key n))) (eqb_apart m n e);
      apart = λ x f g. true≢false (sym (eq-eqb m n (node_values id key m n (some_is _ _ (f ∙ sym g)))) ∙ e);
    })
shape (body.EdgeAttr key id None None) = inr (record { removed = refl; added = refl; same = refl })
shape (body.EdgeAttr key id None (Some n)) = inl (record { removed = refl; added = refl; apart = λ x e f. some_none (sym e) })
shape (body.EdgeAttr key id (Some m) None) = inl (record { removed = refl; added = refl; apart = λ x e f. some_none (sym f) })
shape (body.EdgeAttr key id (Some m) (Some n)) = by (eqb m n) refl
  where
    by : (t : Bool) → eqb m n ≡ t → Swaps (body.EdgeAttr key id (Some m) (Some n)) ⊎ Stays (body.EdgeAttr key id (Some m) (Some n))
    by true e = inr (record {
      removed = ap (λ t. cond t None (Some (element.EdgeAttr id key m))) e;
      added = ap (λ t. cond t None (Some (element.EdgeAttr id key n))) (eqb_flip m n e);
      same = ap (λ v. Some (element.EdgeAttr id key v)) (eqb-true m n e);
    })
    by false e = inl (record {
      removed = ap (λ t. cond t None (Some (element.EdgeAttr id key m))) e;
      added = ap (λ t. cond t None (Some (element.EdgeAttr id key n))) (eqb_apart m n e);
      apart = λ x f g. true≢false (sym (eq-eqb m n (edge_values id key m n (some_is _ _ (f ∙ sym g)))) ∙ e);
    })

pub none_needs : (set : List Element) → list_any (λ (x : Element). false) set ≡ false
none_needs [] = refl
none_needs (x ∷ set) = none_needs set

-- what an event takes away and what it adds have the id that it changes
pub removed_has_id : (b : Body) (x : Element) → removed_by b ≡ Some x → element_id_of x ≡ changed_id b
removed_has_id b x e = by (shape b)
  where
    by : Swaps b ⊎ Stays b → element_id_of x ≡ changed_id b
    by (inl s) = before_has_id b x (sym s.removed ∙ e)
    by (inr s) = absurd (some_none (sym e ∙ s.removed))

pub added_has_id : (b : Body) (x : Element) → added_by b ≡ Some x → element_id_of x ≡ changed_id b
added_has_id b x e = by (shape b)
  where
    by : Swaps b ⊎ Stays b → element_id_of x ≡ changed_id b
    by (inl s) = after_has_id b x (sym s.added ∙ e)
    by (inr s) = absurd (some_none (sym e ∙ s.added))

-- no element needs the one that an event takes away
pub id_free : (set : List Element) (b : Body) → CanHappen set b → (x : Element) → element_before b ≡ Some x → list_any (needs_id (changed_id b)) set ≡ false
id_free set (body.NodeAdded id) h x e = absurd (some_none (sym e))
id_free set (body.NodeRemoved id) h x e = h.free refl
id_free set (body.EdgeAdded b id s d) h x e = absurd (some_none (sym e))
id_free set (body.EdgeRemoved b id s d) h x e = h.free refl
id_free set (body.NodeAttr key id old new) h x e = none_needs set
id_free set (body.EdgeAttr key id old new) h x e = none_needs set
id_free set (body.Message s d v) h x e = absurd (some_none (sym e))

-- no element needs itself
own_id : (x : Element) → needs_id (element_id_of x) x ≡ true → ⊥
own_id (element.Node n) e = false≢true e
own_id (element.Edge b n s d) e = false≢true e
own_id (element.NodeAttr n k v) e = false≢true e
own_id (element.EdgeAttr n k v) e = false≢true e
own_id (element.Message s d v) e = false≢true e

-- ---- one element less and one more

pub out_lacks : (x : Element) (set : List Element) → IsGraph set → has set x ≡ true → at (take_out x set) (element_id_of x) ≡ None
out_lacks x set g there = by (at (take_out x set) (element_id_of x)) refl
  where
    by : (o : Option Element) → at (take_out x set) (element_id_of x) ≡ o → at (take_out x set) (element_id_of x) ≡ None
    by None e = e
    by (Some z) e =
        let got = at_has (take_out x set) (element_id_of x) z e in
        let from = out_from x set z got.0 in
        let is = one_of_each_id set g z x from.1 there got.1 in
        absurd (true≢false (sym (same_itself x) ∙ ap (λ q. same q x) (sym is) ∙ from.0))

-- no element needs one with its own id
pub out_fed : (x y : Element) (set : List Element) → element_id_of x ≡ element_id_of y → has_needs set y ≡ true → has_needs (take_out x set) y ≡ true
out_fed x y set is h = live_needs set (take_out x set) y h (λ p n. by p n (needs_live set y p h n))
  where
    by : (p : ElementId) → needs_id p y ≡ true → Lives set p → Lives (take_out x set) p
    by p n (z, got) = (z, (out_keeps x set z (apart (same z x) refl) got.0, got.1))
      where
        apart : (b : Bool) → same z x ≡ b → same z x ≡ false
        apart false e = e
        apart true e =
            let at : p ≡ element_id_of y = sym got.1 ∙ ap element_id_of (element_exact z x e) ∙ is in
            absurd (own_id y (ap (λ q. needs_id q y) (sym at) ∙ n))

-- one more element does not need itself
pub put_free : (x : Element) (set : List Element) → IsGraph set → at set (element_id_of x) ≡ None → list_any (needs_id (element_id_of x)) (put x set) ≡ false
put_free x set g free = by (list_any (needs_id (element_id_of x)) (put x set)) refl
  where
    none : (z : Element) → (z ≡ x) ⊎ (has set z ≡ true) → needs_id (element_id_of x) z ≡ true → ⊥
    none z (inl is) n = own_id x (ap (needs_id (element_id_of x)) (sym is) ∙ n)
    none z (inr there) n = alive (needs_live set z (element_id_of x) (g.needs z there) n)
      where
        alive : Lives set (element_id_of x) → ⊥
        alive (y, got) = at_lacks set (element_id_of x) free y got.0 got.1

    by : (b : Bool) → list_any (needs_id (element_id_of x)) (put x set) ≡ b → list_any (needs_id (element_id_of x)) (put x set) ≡ false
    by false e = e
    by true e =
        let got = any_to (needs_id (element_id_of x)) (put x set) e in
        absurd (none got.0 (put_from x set got.0 got.1.0) got.1.1)

-- ---- what an event asks of the graph

-- the element can be taken out
abbrev pub IsLoose : List Element → Element → Type 0
IsLoose set x = (has set x ≡ true) × (list_any (needs_id (element_id_of x)) set ≡ false)

-- the element can be put in
abbrev pub IsWelcome : List Element → Element → Type 0
IsWelcome set x = (at set (element_id_of x) ≡ None) × (has_needs set x ≡ true)

module _ (set : List Element) (b : Body) (g : IsGraph set) (h : CanHappen set b) where
  -- the element before it
  before_there : (x : Element) → element_before b ≡ Some x → has set x ≡ true
  before_there x e = (at_has set (changed_id b) x (h.before ∙ e)).0

  before_loose : (x : Element) → element_before b ≡ Some x → IsLoose set x
  before_loose x e =
      (before_there x e, ap (λ p. list_any (needs_id p) set) (before_has_id b x e) ∙ id_free set b h x e)

  fed_by : (y : Element) → element_after b ≡ Some y → has_needs set y ≡ true
  fed_by y e = subst (λ o. IfSome o (λ x. has_needs set x ≡ true)) e h.fed

  after_welcome : (o : Option Element) → element_before b ≡ o → (y : Element) → element_after b ≡ Some y → IsWelcome (without set o) y
  after_welcome None e y f = (ap (at set) (after_has_id b y f) ∙ h.before ∙ e, fed_by y f)
  after_welcome (Some x) e y f =
      let ids : element_id_of x ≡ element_id_of y = before_has_id b x e ∙ sym (after_has_id b y f) in
      (ap (at (take_out x set)) (sym ids) ∙ out_lacks x set g (before_there x e), out_fed x y set ids (fed_by y f))

  -- the graph without what the event takes away
  without_graph : (o : Option Element) → element_before b ≡ o → IsGraph (without set o)
  without_graph None e = g
  without_graph (Some x) e = out_graph x set g (before_loose x e).1

  with_graph : (o p : Option Element) → element_before b ≡ o → element_after b ≡ p → IsGraph (with_one (without set o) p)
  with_graph o None e f = without_graph o e
  with_graph o (Some y) e f =
      let fits = after_welcome o e y f in
      put_graph y (without set o) (without_graph o e) fits.0 fits.1

  -- what the event takes away can be taken out, and what it leaves can then be put in
  pub loose_forwards : (x : Element) → removed_by b ≡ Some x → IsLoose set x
  loose_forwards x e = by (shape b)
    where
      by : Swaps b ⊎ Stays b → IsLoose set x
      by (inl s) = before_loose x (sym s.removed ∙ e)
      by (inr s) = absurd (some_none (sym e ∙ s.removed))

  pub welcome_forwards : (y : Element) → added_by b ≡ Some y → IsWelcome (without set (removed_by b)) y
  welcome_forwards y e = by (shape b)
    where
      by : Swaps b ⊎ Stays b → IsWelcome (without set (removed_by b)) y
      by (inl s) = after_welcome (removed_by b) (sym s.removed) y (sym s.added ∙ e)
      by (inr s) = absurd (some_none (sym e ∙ s.added))

  pub graph_forwards : IsGraph (with_one (without set (removed_by b)) (added_by b))
  graph_forwards = by (shape b)
    where
      by : Swaps b ⊎ Stays b → IsGraph (with_one (without set (removed_by b)) (added_by b))
      by (inl s) = with_graph (removed_by b) (added_by b) (sym s.removed) (sym s.added)
      by (inr s) = subst IsGraph (λ i. with_one (without set (sym s.removed i)) (sym s.added i)) g

  -- the graph without what the event takes away, which is also what is left once what it leaves is taken out
  abbrev base : List Element
  base = without set (removed_by b)

  base_graph : IsGraph base
  base_graph = by (shape b)
    where
      by : Swaps b ⊎ Stays b → IsGraph (without set (removed_by b))
      by (inl s) = without_graph (removed_by b) (sym s.removed)
      by (inr s) = subst (λ o. IsGraph (without set o)) (sym s.removed) g

  back_at_base : without (with_one base (added_by b)) (added_by b) ≡ base
  back_at_base = by (added_by b) refl
    where
      by : (o : Option Element) → added_by b ≡ o → without (with_one base o) o ≡ base
      by None e = refl
      by (Some y) e = take_out-put y base base_graph.rises (lacks (has base y) refl)
        where
          lacks : (t : Bool) → has base y ≡ t → has base y ≡ false
          lacks false f = f
          lacks true f = absurd (at_lacks base (element_id_of y) (welcome_forwards y e).0 y f refl)

  removed_there : (x : Element) → removed_by b ≡ Some x → has set x ≡ true
  removed_there x e = (loose_forwards x e).0

  -- the event undone gives the graph again
  pub undone : with_one (without (with_one base (added_by b)) (added_by b)) (removed_by b) ≡ set
  undone = ap (λ s. with_one s (removed_by b)) back_at_base ∙ by (removed_by b) refl
    where
      by : (o : Option Element) → removed_by b ≡ o → with_one (without set o) o ≡ set
      by None e = refl
      by (Some x) e = put-take_out x set g.rises (removed_there x e)

  -- what the event left can be taken out again, and what it took away can then be put back
  pub loose_backwards : (y : Element) → added_by b ≡ Some y → IsLoose (with_one base (added_by b)) y
  loose_backwards y e =
      let fits = welcome_forwards y e in
      subst (λ o. IsLoose (with_one base o) y) (sym e) (put_itself y base, put_free y base base_graph fits.0)

  pub welcome_backwards : (x : Element) → removed_by b ≡ Some x → IsWelcome (without (with_one base (added_by b)) (added_by b)) x
  welcome_backwards x e =
      subst (λ s. IsWelcome s x) (sym (back_at_base ∙ ap (without set) e))
      (out_lacks x set g (removed_there x e), out_fed x x set refl (g.needs x (removed_there x e)))

-- ---- events

pub led_graph : (set : List Element) (events : List Event) → IsGraph set → AllHappen set events → IsGraph (replay_from set events)
led_graph set [] g h = g
led_graph set (e ∷ events) g h = led_graph (forwards set e) events (graph_forwards set e.body g h.0) h.1

pub rewound_back : (set : List Element) (events : List Event) → IsGraph set → AllHappen set events → rewound (replay_from set events) events ≡ set
rewound_back set [] g h = refl
rewound_back set (e ∷ events) g h =
    ap (λ s. backwards s e) (rewound_back (forwards set e) events (graph_forwards set e.body g h.0) h.1) ∙ undone set e.body g h.0

-- an event that happened in a graph came by
pub came : (set : List Element) (e : Event) → IsGraph set → CanHappen set e.body → CameBy (forwards set e) e
came set e g h =
    let back : backwards (forwards set e) e ≡ set = undone set e.body g h in
    record {
      graph = subst IsGraph (sym back) g;
      happened = subst (λ s. CanHappen s e.body) (sym back) h;
      comes = ap (λ s. forwards s e) (sym back);
    }

-- ---- entries

pub needs_still : (old new : HeldGraphState) → KeepsIds old new → (x : Element) → IsKnown old x → IsKnown new x
needs_still old new keeps x k = record { itself = keeps (element_id_of x) k.itself; needs = λ p n. keeps p (k.needs p n) }

pub if_still : (old new : HeldGraphState) → KeepsIds old new → (o : Option Element) → IfSome o (IsKnown old) → IfSome o (IsKnown new)
if_still old new keeps None k = tt
if_still old new keeps (Some x) k = needs_still old new keeps x k

pub event_still : (old new : HeldGraphState) → KeepsIds old new → (e : Event) → KnowsEvent old e → KnowsEvent new e
event_still old new keeps e k = record {
  removed = if_still old new keeps (removed_by e.body) k.removed;
  added = if_still old new keeps (added_by e.body) k.added;
}

pub known_still : (old new : HeldGraphState) (events : List Event) → KeepsIds old new → KnowsAllEvents old events → KnowsAllEvents new events
known_still old new [] keeps k = tt
known_still old new (e ∷ events) keeps k = (event_still old new keeps e k.0, known_still old new events keeps k.1)

-- what is known takes no memory
pub room_of_known : (h : HeldGraphState) (x : Element) → IsKnown h x → HasRoom h x
room_of_known h x k = record { itself = or_left (knows h (element_id_of x)) (nat_lt 0 h.spare) k.itself; needs = k.needs }

pub room_if_known : (h : HeldGraphState) (o : Option Element) → IfSome o (IsKnown h) → IfSome o (HasRoom h)
room_if_known h None k = tt
room_if_known h (Some x) k = room_of_known h x k

-- two elements with one id that need the same
record Alike (x y : Element) : Type 0 where
  ids : element_id_of x ≡ element_id_of y
  needs : (p : ElementId) → needs_id p x ≡ needs_id p y

node_values_alike : (id key v w : ℕ) → Alike (element.NodeAttr id key v) (element.NodeAttr id key w)
node_values_alike id key v w = record { ids = refl; needs = same_needs }
  where
    same_needs : (p : ElementId) → needs_id p (element.NodeAttr id key v) ≡ needs_id p (element.NodeAttr id key w)
    same_needs (Node n) = refl
    same_needs (Edge n) = refl
    same_needs (NodeValue k n) = refl
    same_needs (EdgeValue k n) = refl
    same_needs Message = refl

edge_values_alike : (id key v w : ℕ) → Alike (element.EdgeAttr id key v) (element.EdgeAttr id key w)
edge_values_alike id key v w = record { ids = refl; needs = same_needs }
  where
    same_needs : (p : ElementId) → needs_id p (element.EdgeAttr id key v) ≡ needs_id p (element.EdgeAttr id key w)
    same_needs (Node n) = refl
    same_needs (Edge n) = refl
    same_needs (NodeValue k n) = refl
    same_needs (EdgeValue k n) = refl
    same_needs Message = refl

moved_from : (make : ℕ → Element) (value other : Option ℕ) (x : Element) → moved make value other ≡ Some x → (v : ℕ) × (x ≡ make v)
moved_from make value other x e = by (option_eq nat_eq value other) value e
  where
    by : (b : Bool) (o : Option ℕ) → cond b None (option_map make o) ≡ Some x → (v : ℕ) × (x ≡ make v)
    by true o f = absurd (some_none (sym f))
    by false None f = absurd (some_none (sym f))
    by false (Some v) f = (v, sym (some_is (make v) x f))

-- the element that an event takes away and the one that it adds
alike : (b : Body) (x y : Element) → removed_by b ≡ Some x → added_by b ≡ Some y → Alike x y
alike (body.NodeAdded id) x y e f = absurd (some_none (sym e))
alike (body.NodeRemoved id) x y e f = absurd (some_none (sym f))
alike (body.EdgeAdded b id s d) x y e f = absurd (some_none (sym e))
alike (body.EdgeRemoved b id s d) x y e f = absurd (some_none (sym f))
alike (body.Message s d v) x y e f = absurd (some_none (sym e))
alike (body.NodeAttr key id old new) x y e f =
    let out = moved_from (element.NodeAttr id key) old new x e in
    let into = moved_from (element.NodeAttr id key) new old y f in
    subst (λ q. Alike q y) (sym out.1) (subst (λ q. Alike (element.NodeAttr id key out.0) q) (sym into.1) (node_values_alike id key out.0 into.0))
alike (body.EdgeAttr key id old new) x y e f =
    let out = moved_from (element.EdgeAttr id key) old new x e in
    let into = moved_from (element.EdgeAttr id key) new old y f in
    subst (λ q. Alike q y) (sym out.1) (subst (λ q. Alike (element.EdgeAttr id key out.0) q) (sym into.1) (edge_values_alike id key out.0 into.0))

-- what is put in the place of the other, past the event or back, has its id and needs the same
pub alike_forwards : (b : Body) (removed added : Option Element) → removed ≡ removed_by b → added ≡ added_by b
    → IfSome removed (λ x. IfSome added (λ y. (element_id_of y ≡ element_id_of x) × ((p : ElementId) → needs_id p y ≡ needs_id p x)))
alike_forwards b None added e f = tt
alike_forwards b (Some x) None e f = tt
alike_forwards b (Some x) (Some y) e f = let a = alike b x y (sym e) (sym f) in (sym a.ids, λ p. sym (a.needs p))

pub alike_backwards : (b : Body) (removed added : Option Element) → removed ≡ removed_by b → added ≡ added_by b
    → IfSome added (λ y. IfSome removed (λ x. (element_id_of x ≡ element_id_of y) × ((p : ElementId) → needs_id p x ≡ needs_id p y)))
alike_backwards b removed None e f = tt
alike_backwards b None (Some y) e f = tt
alike_backwards b (Some x) (Some y) e f = let a = alike b x y (sym e) (sym f) in (a.ids, a.needs)

-- where both are known, there is room for the first of the two
pub room_first : (h : HeldGraphState) (first second : Option Element) → IfSome first (IsKnown h) → IfSome second (IsKnown h) → IfSome (option_or first second) (HasRoom h)
room_first h None second k l = room_if_known h second l
room_first h (Some x) second k l = room_of_known h x k

-- what the first of the two needs is in the graph
pub fed_first : (set : List Element) (b : Body) → IsGraph set → CanHappen set b → (removed added : Option Element) → removed ≡ removed_by b → added ≡ added_by b
    → IfSome (option_or removed added) (λ x. has_needs set x ≡ true)
fed_first set b g h None None e f = tt
fed_first set b g h None (Some y) e f = by (shape b)
  where
    by : Swaps b ⊎ Stays b → has_needs set y ≡ true
    by (inl s) = subst (λ o. IfSome o (λ x. has_needs set x ≡ true)) (sym (f ∙ s.added)) h.fed
    by (inr s) = absurd (some_none (f ∙ s.added))
fed_first set b g h (Some x) added e f = g.needs x (loose_forwards set b g h x (sym e)).0

pub led_is_graph : (start : List Element) (events : List Event) (h : HeldGraphState) → Led start events h → IsGraph h.set
led_is_graph start events h led = subst IsGraph (sym led.comes) (led_graph start events led.graph led.happen)
