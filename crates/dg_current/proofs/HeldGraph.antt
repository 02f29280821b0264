-- That the entries keep a graph: what a look-up finds in them, and what a write leaves of them.
use Rattle.std.proofs.Common.{◌≡◌, ◌+◌, ◌<◌, Bool, true, false, cond, ◌||◌, ◌&&◌, List, [], ◌∷◌, Option, Some, None, is_some, length, map, refl, sym, ap, subst, ◌∙◌, arith, eqb, ◌⊎◌, inl, inr}
use Rattle.std.proofs.lemmas.Bool.{true≢false, false≢true, eqb-true, eq-eqb, or_left, or_right}
use Rattle.std.proofs.lemmas.List.Folds.{list_any-append}
use Rattle.std.proofs.lemmas.Map.Made.{is_some-lookup}
use Rattle.std.specs.List.{list_any, count_by}
use Rattle.std.specs.Map.{keys_of, lookup}
use Rattle.std.specs.Option.{option_map_or}
use Rattle.dg_graph.specs.declared.element.Element.{Element}
use Rattle.dg_graph.specs.Elements.{bit, IsSet, has, same, put, take_out, with_one}
use Rattle.dg_graph.specs.Graph.{IsGraph, has_needs}
use Rattle.dg_graph.proofs.Sets.{same_members, same_itself, element_exact, IsSet-put, IsSet-take_out}
use Rattle.dg_current.specs.declared.element_entry.ElementEntry.{ElementEntry}
use Rattle.dg_current.specs.declared.element_id.ElementId.{ElementId}
use Rattle.dg_current.specs.declared.element_id.ElementId.TheVariants.{Node, Edge, NodeValue, EdgeValue, Message}
use Rattle.dg_current.specs.contracts.element_id.ElementIdPartialEq.TheImpl as of_ids
use Rattle.dg_current.specs.HeldGraph.{element_entry_at, held_at, more_at, fewer_at, has_entry, collected, ids_of, elements_of, KeepsHeld, KeepsUses, HeldGraphIsSound}
use Rattle.dg_current.specs.ElementIds.{element_id_of, at, needs_id, same_id}
use Rattle.dg_current.specs.HeldElements.{element_in}
use Rattle.dg_current.proofs.HeldGraphUses.{count_put, count_out, any_count, count_any, length_put_new, length_out_there}
use Rattle.dg_current.proofs.ElementIds.{both, either, at_has, at_is, at_from, at_lacks, one_of_each_id, put_graph, out_graph, put_itself, put_keeps, put_from, out_from, out_keeps}

-- ---- ids

pub same_id_exact : (p q : ElementId) → same_id p q ≡ true → p ≡ q
same_id_exact (Node m) (Node n) e = ap Node (eqb-true m n e)
same_id_exact (Node m) (Edge n) e = absurd (false≢true e)
same_id_exact (Node m) (NodeValue d n) e = absurd (false≢true e)
same_id_exact (Node m) (EdgeValue d n) e = absurd (false≢true e)
same_id_exact (Node m) Message e = absurd (false≢true e)
same_id_exact (Edge m) (Node n) e = absurd (false≢true e)
same_id_exact (Edge m) (Edge n) e = ap Edge (eqb-true m n e)
same_id_exact (Edge m) (NodeValue d n) e = absurd (false≢true e)
same_id_exact (Edge m) (EdgeValue d n) e = absurd (false≢true e)
same_id_exact (Edge m) Message e = absurd (false≢true e)
same_id_exact (NodeValue c m) (Node n) e = absurd (false≢true e)
same_id_exact (NodeValue c m) (Edge n) e = absurd (false≢true e)
same_id_exact (NodeValue c m) (NodeValue d n) e =
    let parts = both (eqb c d) (eqb m n) e in
    λ i. NodeValue (eqb-true c d parts.0 i) (eqb-true m n parts.1 i)
same_id_exact (NodeValue c m) (EdgeValue d n) e = absurd (false≢true e)
same_id_exact (NodeValue c m) Message e = absurd (false≢true e)
same_id_exact (EdgeValue c m) (Node n) e = absurd (false≢true e)
same_id_exact (EdgeValue c m) (Edge n) e = absurd (false≢true e)
same_id_exact (EdgeValue c m) (NodeValue d n) e = absurd (false≢true e)
same_id_exact (EdgeValue c m) (EdgeValue d n) e =
    let parts = both (eqb c d) (eqb m n) e in
    λ i. EdgeValue (eqb-true c d parts.0 i) (eqb-true m n parts.1 i)
same_id_exact (EdgeValue c m) Message e = absurd (false≢true e)
same_id_exact Message (Node n) e = absurd (false≢true e)
same_id_exact Message (Edge n) e = absurd (false≢true e)
same_id_exact Message (NodeValue c n) e = absurd (false≢true e)
same_id_exact Message (EdgeValue c n) e = absurd (false≢true e)
same_id_exact Message Message e = refl

pub same_id_itself : (p : ElementId) → same_id p p ≡ true
same_id_itself (Node m) = eq-eqb m m refl
same_id_itself (Edge m) = eq-eqb m m refl
same_id_itself (NodeValue c m) = λ i. eq-eqb c c refl i && eq-eqb m m refl i
same_id_itself (EdgeValue c m) = λ i. eq-eqb c c refl i && eq-eqb m m refl i
same_id_itself Message = refl

pub same_id_from : (p q : ElementId) → p ≡ q → same_id p q ≡ true
same_id_from p q e = ap (same_id p) (sym e) ∙ same_id_itself p

-- the derived comparison of ids says the same
pub derived_is : (p q : ElementId) → (of_ids.ghosts).eq p q ≡ same_id p q
derived_is (Node m) (Node n) = refl
derived_is (Node m) (Edge n) = refl
derived_is (Node m) (NodeValue d n) = refl
derived_is (Node m) (EdgeValue d n) = refl
derived_is (Node m) Message = refl
derived_is (Edge m) (Node n) = refl
derived_is (Edge m) (Edge n) = refl
derived_is (Edge m) (NodeValue d n) = refl
derived_is (Edge m) (EdgeValue d n) = refl
derived_is (Edge m) Message = refl
derived_is (NodeValue c m) (Node n) = refl
derived_is (NodeValue c m) (Edge n) = refl
derived_is (NodeValue c m) (NodeValue d n) = refl
derived_is (NodeValue c m) (EdgeValue d n) = refl
derived_is (NodeValue c m) Message = refl
derived_is (EdgeValue c m) (Node n) = refl
derived_is (EdgeValue c m) (Edge n) = refl
derived_is (EdgeValue c m) (NodeValue d n) = refl
derived_is (EdgeValue c m) (EdgeValue d n) = refl
derived_is (EdgeValue c m) Message = refl
derived_is Message (Node n) = refl
derived_is Message (Edge n) = refl
derived_is Message (NodeValue c n) = refl
derived_is Message (EdgeValue c n) = refl
derived_is Message Message = refl

pub equal_ids : (p q : ElementId) (b : Bool) → b ≡ (of_ids.ghosts).eq p q → b ≡ true → p ≡ q
equal_ids p q b is e = same_id_exact p q (sym (derived_is p q) ∙ sym is ∙ e)

pub unequal_ids : (p q : ElementId) (b : Bool) → b ≡ (of_ids.ghosts).eq p q → b ≡ false → same_id p q ≡ false
unequal_ids p q b is e = sym (derived_is p q) ∙ sym is ∙ e

-- a look-up by the derived comparison is the one of the definitions
pub derived_look : {X : Type 0} → (entries : List (ElementId × X)) (p : ElementId) → lookup ((of_ids.ghosts).eq p) entries ≡ lookup (same_id p) entries
derived_look entries p i = lookup (λ q. derived_is p q i) entries

pub derived_entry : (entries : List (ElementId × ElementEntry)) (p : ElementId) → lookup ((of_ids.ghosts).eq p) entries ≡ element_entry_at entries p
derived_entry entries p = derived_look entries p

-- ---- the set of the elements of ids

some_is : {X : Type 0} (x y : X) → Some x ≡ Some y → x ≡ y
some_is x y e = cc

some_none : {X : Type 0} {x : X} → Some x ≡ None → ⊥
some_none e = cc

with_keeps : (o : Option Element) (set : List Element) (q : Element) → has set q ≡ true → has (with_one set o) q ≡ true
with_keeps None set q h = h
with_keeps (Some x) set q h = put_keeps x set q h

pub IsSet-collected : (f : ElementId → Option Element) (ids : List ElementId) → IsSet (collected f ids)
IsSet-collected f [] = tt
IsSet-collected f (p ∷ ids) = by (f p) (IsSet-collected f ids)
  where
    by : (o : Option Element) → IsSet (collected f ids) → IsSet (with_one (collected f ids) o)
    by None rest = rest
    by (Some x) rest = IsSet-put x (collected f ids) rest

pub collected_to : (f : ElementId → Option Element) (ids : List ElementId) (p : ElementId) (x : Element)
    → f p ≡ Some x → list_any (same_id p) ids ≡ true → has (collected f ids) x ≡ true
collected_to f [] p x is there = absurd (false≢true there)
collected_to f (r ∷ ids) p x is there = by (same_id p r) refl there (collected_to f ids p x is)
  where
    by : (b : Bool) → same_id p r ≡ b → (b || list_any (same_id p) ids) ≡ true
        → (list_any (same_id p) ids ≡ true → has (collected f ids) x ≡ true) → has (collected f (r ∷ ids)) x ≡ true
    by true e h rest =
        subst (λ o. has (with_one (collected f ids) o) x ≡ true) (sym (ap f (sym (same_id_exact p r e)) ∙ is)) (put_itself x (collected f ids))
    by false e h rest = with_keeps (f r) (collected f ids) x (rest h)

pub collected_from : (f : ElementId → Option Element) (ids : List ElementId) (x : Element)
    → has (collected f ids) x ≡ true → (p : ElementId) × ((f p ≡ Some x) × (list_any (same_id p) ids ≡ true))
collected_from f [] x h = absurd (false≢true h)
collected_from f (r ∷ ids) x h = by (f r) refl h (collected_from f ids x)
  where
    Found : Type 0
    Found = (p : ElementId) × ((f p ≡ Some x) × (list_any (same_id p) (r ∷ ids) ≡ true))

    later : ((p : ElementId) × ((f p ≡ Some x) × (list_any (same_id p) ids ≡ true))) → Found
    later (p, got) = (p, (got.0, or_right (same_id p r) (list_any (same_id p) ids) got.1))

    by : (o : Option Element) → f r ≡ o → has (with_one (collected f ids) o) x ≡ true
        → (has (collected f ids) x ≡ true → (p : ElementId) × ((f p ≡ Some x) × (list_any (same_id p) ids ≡ true))) → Found
    by None e k rest = later (rest k)
    by (Some y) e k rest = which (put_from y (collected f ids) x k)
      where
        which : (x ≡ y) ⊎ (has (collected f ids) x ≡ true) → Found
        which (inl is) = (r, (e ∙ ap (λ z. Some z) (sym is), or_left (same_id r r) (list_any (same_id r) ids) (same_id_itself r)))
        which (inr there) = later (rest there)

-- ---- what the entries keep

bool_is : (a b : Bool) → (a ≡ true → b ≡ true) → (b ≡ true → a ≡ true) → a ≡ b
bool_is true b f g = sym (f refl)
bool_is false true f g = g refl
bool_is false false f g = refl

abbrev pub AllHaveTheirIds : List Element → List (ElementId × ElementEntry) → Type 0
AllHaveTheirIds base entries = (p : ElementId) (x : Element) → held_at base entries p ≡ Some x → element_id_of x ≡ p

-- the id of an element is among the ids of a list of elements
pub id_listed : (base : List Element) (p : ElementId) (x : Element) → has base x ≡ true → element_id_of x ≡ p → list_any (same_id p) (map element_id_of base) ≡ true
id_listed [] p x h is = absurd (false≢true h)
id_listed (y ∷ ys) p x h is = by (either (same x y) (has ys x) h) (λ k. id_listed ys p x k is)
  where
    by : (same x y ≡ true) ⊎ (has ys x ≡ true) → (has ys x ≡ true → list_any (same_id p) (map element_id_of ys) ≡ true)
        → list_any (same_id p) (map element_id_of (y ∷ ys)) ≡ true
    by (inl s) rest =
        or_left (same_id p (element_id_of y)) (list_any (same_id p) (map element_id_of ys))
        (same_id_from p (element_id_of y) (sym is ∙ ap element_id_of (element_exact x y s)))
    by (inr k) rest = or_right (same_id p (element_id_of y)) (list_any (same_id p) (map element_id_of ys)) (rest k)

module _ (base : List Element) (entries : List (ElementId × ElementEntry)) where
  -- an id with no entry has its element at the start
  pub held_at_base : (p : ElementId) → has_entry entries p ≡ false → held_at base entries p ≡ at base p
  held_at_base p none = by (element_entry_at entries p) (is_some-lookup (same_id p) entries ∙ none)
    where
      by : (o : Option ElementEntry) → is_some o ≡ false → option_map_or (λ (c : ElementEntry). element_in p c.held) o (at base p) ≡ at base p
      by None f = refl
      by (Some c) f = absurd (true≢false f)

  pub is_listed : (p : ElementId) (x : Element) → held_at base entries p ≡ Some x → list_any (same_id p) (ids_of base entries) ≡ true
  is_listed p x e = list_any-append (same_id p) (map element_id_of base) (keys_of entries) ∙ by (has_entry entries p) refl
    where
      by : (b : Bool) → has_entry entries p ≡ b → (list_any (same_id p) (map element_id_of base) || has_entry entries p) ≡ true
      by true is = or_right (list_any (same_id p) (map element_id_of base)) (has_entry entries p) is
      by false is =
          let got = at_has base p x (sym (held_at_base p is) ∙ e) in
          or_left (list_any (same_id p) (map element_id_of base)) (has_entry entries p) (id_listed base p x got.0 got.1)

  -- the element that is held is in the set, and each element of the set is held with its id
  pub kept_to : (p : ElementId) (x : Element) → held_at base entries p ≡ Some x → has (elements_of base entries) x ≡ true
  kept_to p x e = collected_to (held_at base entries) (ids_of base entries) p x e (is_listed p x e)

  module _ (own_ids : AllHaveTheirIds base entries) where
    pub kept_from : (x : Element) → has (elements_of base entries) x ≡ true → held_at base entries (element_id_of x) ≡ Some x
    kept_from x h =
        let got = collected_from (held_at base entries) (ids_of base entries) x h in
        ap (held_at base entries) (own_ids got.0 x got.1.0) ∙ got.1.0

    pub kept_at : (p : ElementId) → at (elements_of base entries) p ≡ held_at base entries p
    kept_at p =
        at_is (elements_of base entries) p (held_at base entries p) (λ x e. (kept_to p x e, own_ids p x e))
        (λ x h is. ap (held_at base entries) (sym is) ∙ kept_from x h)

    -- what an id with no entry has is as at the start
    pub kept_unknown : (p : ElementId) → has_entry entries p ≡ false → at (elements_of base entries) p ≡ at base p
    kept_unknown p none = kept_at p ∙ held_at_base p none

  -- an element is needed where the counts do not take all of its uses at the start away
  pub needed_is : HeldGraphIsSound base entries → (p : ElementId) (b : Bool)
      → (b ≡ true → fewer_at entries p < count_by (needs_id p) base + more_at entries p)
      → (fewer_at entries p < count_by (needs_id p) base + more_at entries p → b ≡ true)
      → b ≡ list_any (needs_id p) (elements_of base entries)
  needed_is sound p b to from = by b refl (list_any (needs_id p) (elements_of base entries)) refl
    where
      by : (a : Bool) → b ≡ a → (d : Bool) → list_any (needs_id p) (elements_of base entries) ≡ d → a ≡ d
      by true e true f = refl
      by true e false f =
          let counts = sound.uses p in
          let less = to e in
          absurd (false≢true (sym f ∙ count_any (needs_id p) (elements_of base entries) (omega arith)))
      by false e true f =
          let counts = sound.uses p in
          let some = any_count (needs_id p) (elements_of base entries) f in
          absurd (false≢true (sym e ∙ from (omega arith)))
      by false e false f = refl

-- with no entries, what is held is the start
pub elements_at_start : (base : List Element) → IsGraph base → elements_of base [] ≡ base
elements_at_start base g =
    same_members (elements_of base []) base (IsSet-collected (at base) (ids_of base [])) g.rises
    (λ q. bool_is (has (elements_of base []) q) (has base q) (to q) (λ h. kept_to base [] (element_id_of q) q (at_from base (one_of_each_id base g) q h)))
  where
    to : (q : Element) → has (elements_of base []) q ≡ true → has base q ≡ true
    to q h =
        let got = collected_from (at base) (ids_of base []) q h in
        (at_has base got.0 q got.1.0).0

pub start_sound : (base : List Element) → IsGraph base → HeldGraphIsSound base []
start_sound base g = record {
  own_ids = λ p x e. (at_has base p x e).1;
  graph = subst IsGraph (sym (elements_at_start base g)) g;
  uses = λ p. ap (λ set. count_by (needs_id p) set + 0) (sym (elements_at_start base g));
}

-- where the element with each id stays, so does the set
module _ (base : List Element) (old new : List (ElementId × ElementEntry)) (sound : HeldGraphIsSound base old) (held : KeepsHeld base old new) where
  same_own_ids : AllHaveTheirIds base new
  same_own_ids p x e = sound.own_ids p x (sym (held p) ∙ e)

  pub same_elements : elements_of base new ≡ elements_of base old
  same_elements =
      same_members (elements_of base new) (elements_of base old) (IsSet-collected (held_at base new) (ids_of base new)) (IsSet-collected (held_at base old) (ids_of base old))
      (λ q. bool_is (has (elements_of base new) q) (has (elements_of base old) q)
      (λ h. kept_to base old (element_id_of q) q (sym (held (element_id_of q)) ∙ kept_from base new same_own_ids q h))
      (λ h. kept_to base new (element_id_of q) q (held (element_id_of q) ∙ kept_from base old sound.own_ids q h)))

  pub same_sound : KeepsUses old new → HeldGraphIsSound base new
  same_sound uses = record {
    own_ids = same_own_ids;
    graph = subst IsGraph (sym same_elements) sound.graph;
    uses = λ p.
        let counts = sound.uses p in
        let more = uses.more p in
        let fewer = uses.fewer p in
        let total : count_by (needs_id p) base + more_at new p ≡ count_by (needs_id p) (elements_of base old) + fewer_at new p = omega arith in
        total ∙ ap (λ s. count_by (needs_id p) s + fewer_at new p) (sym same_elements);
  }

-- ---- writes

-- the element of one id is another, and the others stay
abbrev pub Changes : List Element → List (ElementId × ElementEntry) → List (ElementId × ElementEntry) → ElementId → Option Element → Type 0
Changes base old new id o = (p : ElementId) → held_at base new p ≡ cond (same_id id p) o (held_at base old p)

either_id : (id p : ElementId) (o a b : Option Element) → b ≡ cond (same_id id p) o a
    → ((same_id id p ≡ true) × (b ≡ o)) ⊎ ((same_id id p ≡ false) × (b ≡ a))
either_id id p o a b e = by (same_id id p) e
  where
    by : (t : Bool) → b ≡ cond t o a → ((t ≡ true) × (b ≡ o)) ⊎ ((t ≡ false) × (b ≡ a))
    by true f = inl (refl, f)
    by false f = inr (refl, f)

-- an element that is put in where none has its id
module _ (base : List Element) (entries new : List (ElementId × ElementEntry)) (x : Element) (sound : HeldGraphIsSound base entries) (free : at (elements_of base entries) (element_id_of x) ≡ None)
    (fed : has_needs (elements_of base entries) x ≡ true) (changes : Changes base entries new (element_id_of x) (Some x))
    (uses : (p : ElementId) → more_at new p + fewer_at entries p ≡ more_at entries p + fewer_at new p + bit (needs_id p x)) where
  abbrev set : List Element
  set = elements_of base entries

  put_has_ids : AllHaveTheirIds base new
  put_has_ids p y e = by (either_id (element_id_of x) p (Some x) (held_at base entries p) (held_at base new p) (changes p))
    where
      by : ((same_id (element_id_of x) p ≡ true) × (held_at base new p ≡ Some x)) ⊎ ((same_id (element_id_of x) p ≡ false) × (held_at base new p ≡ held_at base entries p)) → element_id_of y ≡ p
      by (inl (s, is)) = ap element_id_of (some_is y x (sym e ∙ is)) ∙ same_id_exact (element_id_of x) p s
      by (inr (s, is)) = sound.own_ids p y (sym is ∙ e)

  put_here : held_at base new (element_id_of x) ≡ Some x
  put_here = changes (element_id_of x) ∙ ap (λ b. cond b (Some x) (held_at base entries (element_id_of x))) (same_id_itself (element_id_of x))

  put_to : (q : Element) → has (elements_of base new) q ≡ true → has (put x set) q ≡ true
  put_to q h =
      let got = kept_from base new put_has_ids q h in
      by got (either_id (element_id_of x) (element_id_of q) (Some x) (held_at base entries (element_id_of q)) (held_at base new (element_id_of q)) (changes (element_id_of q)))
    where
      by : held_at base new (element_id_of q) ≡ Some q → ((same_id (element_id_of x) (element_id_of q) ≡ true) × (held_at base new (element_id_of q) ≡ Some x)) ⊎ ((same_id (element_id_of x) (element_id_of q) ≡ false) × (held_at base new (element_id_of q) ≡ held_at base entries (element_id_of q))) → has (put x set) q ≡ true
      by got (inl (s, is)) = subst (λ z. has (put x set) z ≡ true) (some_is x q (sym is ∙ got)) (put_itself x set)
      by got (inr (s, is)) = put_keeps x set q (kept_to base entries (element_id_of q) q (sym is ∙ got))

  put_back : (q : Element) → has (put x set) q ≡ true → has (elements_of base new) q ≡ true
  put_back q h = by (put_from x set q h)
    where
      stay : has set q ≡ true → (b : Bool) → same_id (element_id_of x) (element_id_of q) ≡ b → has (elements_of base new) q ≡ true
      stay there true e = absurd (at_lacks set (element_id_of x) free q there (sym (same_id_exact (element_id_of x) (element_id_of q) e)))
      stay there false e =
          kept_to base new (element_id_of q) q
          (changes (element_id_of q) ∙ ap (λ b. cond b (Some x) (held_at base entries (element_id_of q))) e ∙ kept_from base entries sound.own_ids q there)

      by : (q ≡ x) ⊎ (has set q ≡ true) → has (elements_of base new) q ≡ true
      by (inl is) = subst (λ z. has (elements_of base new) z ≡ true) (sym is) (kept_to base new (element_id_of x) x put_here)
      by (inr there) = stay there (same_id (element_id_of x) (element_id_of q)) refl

  pub put_elements : elements_of base new ≡ put x set
  put_elements =
      same_members (elements_of base new) (put x set) (IsSet-collected (held_at base new) (ids_of base new))
      (IsSet-put x set (IsSet-collected (held_at base entries) (ids_of base entries)))
      (λ q. bool_is (has (elements_of base new) q) (has (put x set) q) (put_to q) (put_back q))

  lacking : has set x ≡ false
  lacking = by (has set x) refl
    where
      by : (b : Bool) → has set x ≡ b → has set x ≡ false
      by true e = absurd (at_lacks set (element_id_of x) free x e refl)
      by false e = e

  pub put_length : length (elements_of base new) ≡ length set + 1
  put_length = ap length put_elements ∙ length_put_new x set lacking

  pub put_sound : HeldGraphIsSound base new
  put_sound = record {
    own_ids = put_has_ids;
    graph = subst IsGraph (sym put_elements) (put_graph x set sound.graph free fed);
    uses = λ p.
        let counts = sound.uses p in
        let more = count_put (needs_id p) x set lacking in
        let moved = uses p in
        let total : count_by (needs_id p) base + more_at new p ≡ count_by (needs_id p) (put x set) + fewer_at new p = omega arith in
        total ∙ ap (λ s. count_by (needs_id p) s + fewer_at new p) (sym put_elements);
  }

-- an element that is taken out, which no other needs
module _ (base : List Element) (entries new : List (ElementId × ElementEntry)) (x : Element) (sound : HeldGraphIsSound base entries) (there : has (elements_of base entries) x ≡ true)
    (free : list_any (needs_id (element_id_of x)) (elements_of base entries) ≡ false) (changes : Changes base entries new (element_id_of x) None)
    (uses : (p : ElementId) → more_at entries p + fewer_at new p ≡ more_at new p + fewer_at entries p + bit (needs_id p x)) where
  abbrev held : List Element
  held = elements_of base entries

  out_has_ids : AllHaveTheirIds base new
  out_has_ids p y e = by (either_id (element_id_of x) p None (held_at base entries p) (held_at base new p) (changes p))
    where
      by : ((same_id (element_id_of x) p ≡ true) × (held_at base new p ≡ None)) ⊎ ((same_id (element_id_of x) p ≡ false) × (held_at base new p ≡ held_at base entries p)) → element_id_of y ≡ p
      by (inl (s, is)) = absurd (some_none (sym e ∙ is))
      by (inr (s, is)) = sound.own_ids p y (sym is ∙ e)

  out_to : (q : Element) → has (elements_of base new) q ≡ true → has (take_out x held) q ≡ true
  out_to q h =
      let got = kept_from base new out_has_ids q h in
      by got (either_id (element_id_of x) (element_id_of q) None (held_at base entries (element_id_of q)) (held_at base new (element_id_of q)) (changes (element_id_of q)))
    where
      apart : (b : Bool) → same q x ≡ b → same_id (element_id_of x) (element_id_of q) ≡ false → same q x ≡ false
      apart true e s = absurd (true≢false (sym (same_id_from (element_id_of x) (element_id_of q) (ap element_id_of (sym (element_exact q x e)))) ∙ s))
      apart false e s = e

      by : held_at base new (element_id_of q) ≡ Some q → ((same_id (element_id_of x) (element_id_of q) ≡ true) × (held_at base new (element_id_of q) ≡ None)) ⊎ ((same_id (element_id_of x) (element_id_of q) ≡ false) × (held_at base new (element_id_of q) ≡ held_at base entries (element_id_of q))) → has (take_out x held) q ≡ true
      by got (inl (s, is)) = absurd (some_none (sym got ∙ is))
      by got (inr (s, is)) = out_keeps x held q (apart (same q x) refl s) (kept_to base entries (element_id_of q) q (sym is ∙ got))

  out_back : (q : Element) → has (take_out x held) q ≡ true → has (elements_of base new) q ≡ true
  out_back q h = let got = out_from x held q h in stay got.0 got.1 (same_id (element_id_of x) (element_id_of q)) refl
    where
      stay : same q x ≡ false → has held q ≡ true → (b : Bool) → same_id (element_id_of x) (element_id_of q) ≡ b → has (elements_of base new) q ≡ true
      stay apart k true e =
          let is = one_of_each_id held sound.graph q x k there (sym (same_id_exact (element_id_of x) (element_id_of q) e)) in
          absurd (true≢false (sym (same_itself x) ∙ ap (λ z. same z x) (sym is) ∙ apart))
      stay apart k false e =
          kept_to base new (element_id_of q) q
          (changes (element_id_of q) ∙ ap (λ b. cond b None (held_at base entries (element_id_of q))) e ∙ kept_from base entries sound.own_ids q k)

  pub out_elements : elements_of base new ≡ take_out x held
  out_elements =
      same_members (elements_of base new) (take_out x held) (IsSet-collected (held_at base new) (ids_of base new))
      (IsSet-take_out x held (IsSet-collected (held_at base entries) (ids_of base entries)))
      (λ q. bool_is (has (elements_of base new) q) (has (take_out x held) q) (out_to q) (out_back q))

  pub out_length : length held ≡ length (elements_of base new) + 1
  out_length = length_out_there x held sound.graph.rises there ∙ ap (λ s. length s + 1) (sym out_elements)

  pub out_sound : HeldGraphIsSound base new
  out_sound = record {
    own_ids = out_has_ids;
    graph = subst IsGraph (sym out_elements) (out_graph x held sound.graph free);
    uses = λ p.
        let counts = sound.uses p in
        let less = count_out (needs_id p) x held sound.graph.rises there in
        let moved = uses p in
        let total : count_by (needs_id p) base + more_at new p ≡ count_by (needs_id p) (take_out x held) + fewer_at new p = omega arith in
        total ∙ ap (λ s. count_by (needs_id p) s + fewer_at new p) (sym out_elements);
  }

-- an element in the place of another of its id, which no other needs
module _ (base : List Element) (entries new : List (ElementId × ElementEntry)) (x y : Element) (sound : HeldGraphIsSound base entries) (there : has (elements_of base entries) x ≡ true)
    (loose : list_any (needs_id (element_id_of x)) (elements_of base entries) ≡ false) (alike : element_id_of y ≡ element_id_of x) (needs : (p : ElementId) → needs_id p y ≡ needs_id p x)
    (free : at (take_out x (elements_of base entries)) (element_id_of y) ≡ None) (fed : has_needs (take_out x (elements_of base entries)) y ≡ true)
    (changes : Changes base entries new (element_id_of x) (Some y)) (uses : KeepsUses entries new) where
  abbrev before : List Element
  before = elements_of base entries

  -- the others
  abbrev rest : List Element
  rest = take_out x before

  swap_has_ids : AllHaveTheirIds base new
  swap_has_ids p z e = by (either_id (element_id_of x) p (Some y) (held_at base entries p) (held_at base new p) (changes p))
    where
      by : ((same_id (element_id_of x) p ≡ true) × (held_at base new p ≡ Some y)) ⊎ ((same_id (element_id_of x) p ≡ false) × (held_at base new p ≡ held_at base entries p)) → element_id_of z ≡ p
      by (inl (s, is)) = ap element_id_of (some_is z y (sym e ∙ is)) ∙ alike ∙ same_id_exact (element_id_of x) p s
      by (inr (s, is)) = sound.own_ids p z (sym is ∙ e)

  swap_here : held_at base new (element_id_of x) ≡ Some y
  swap_here = changes (element_id_of x) ∙ ap (λ b. cond b (Some y) (held_at base entries (element_id_of x))) (same_id_itself (element_id_of x))

  swap_to : (q : Element) → has (elements_of base new) q ≡ true → has (put y rest) q ≡ true
  swap_to q h =
      let got = kept_from base new swap_has_ids q h in
      by got (either_id (element_id_of x) (element_id_of q) (Some y) (held_at base entries (element_id_of q)) (held_at base new (element_id_of q)) (changes (element_id_of q)))
    where
      apart : (b : Bool) → same q x ≡ b → same_id (element_id_of x) (element_id_of q) ≡ false → same q x ≡ false
      apart true e s = absurd (true≢false (sym (same_id_from (element_id_of x) (element_id_of q) (ap element_id_of (sym (element_exact q x e)))) ∙ s))
      apart false e s = e

      by : held_at base new (element_id_of q) ≡ Some q → ((same_id (element_id_of x) (element_id_of q) ≡ true) × (held_at base new (element_id_of q) ≡ Some y)) ⊎ ((same_id (element_id_of x) (element_id_of q) ≡ false) × (held_at base new (element_id_of q) ≡ held_at base entries (element_id_of q))) → has (put y rest) q ≡ true
      by got (inl (s, is)) = subst (λ z. has (put y rest) z ≡ true) (some_is y q (sym is ∙ got)) (put_itself y rest)
      by got (inr (s, is)) = put_keeps y rest q (out_keeps x before q (apart (same q x) refl s) (kept_to base entries (element_id_of q) q (sym is ∙ got)))

  swap_back : (q : Element) → has (put y rest) q ≡ true → has (elements_of base new) q ≡ true
  swap_back q h = by (put_from y rest q h)
    where
      stay : same q x ≡ false → has before q ≡ true → (b : Bool) → same_id (element_id_of x) (element_id_of q) ≡ b → has (elements_of base new) q ≡ true
      stay apart k true e =
          let is = one_of_each_id before sound.graph q x k there (sym (same_id_exact (element_id_of x) (element_id_of q) e)) in
          absurd (true≢false (sym (same_itself x) ∙ ap (λ z. same z x) (sym is) ∙ apart))
      stay apart k false e =
          kept_to base new (element_id_of q) q
          (changes (element_id_of q) ∙ ap (λ b. cond b (Some y) (held_at base entries (element_id_of q))) e ∙ kept_from base entries sound.own_ids q k)

      by : (q ≡ y) ⊎ (has rest q ≡ true) → has (elements_of base new) q ≡ true
      by (inl is) = subst (λ z. has (elements_of base new) z ≡ true) (sym is) (kept_to base new (element_id_of x) y swap_here)
      by (inr left) = let got = out_from x before q left in stay got.0 got.1 (same_id (element_id_of x) (element_id_of q)) refl

  pub swap_elements : elements_of base new ≡ put y rest
  swap_elements =
      same_members (elements_of base new) (put y rest) (IsSet-collected (held_at base new) (ids_of base new))
      (IsSet-put y rest (IsSet-take_out x before (IsSet-collected (held_at base entries) (ids_of base entries))))
      (λ q. bool_is (has (elements_of base new) q) (has (put y rest) q) (swap_to q) (swap_back q))

  swap_lacking : has rest y ≡ false
  swap_lacking = by (has rest y) refl
    where
      by : (b : Bool) → has rest y ≡ b → has rest y ≡ false
      by true e = absurd (at_lacks rest (element_id_of y) free y e refl)
      by false e = e

  pub swap_length : length (elements_of base new) ≡ length before
  swap_length =
      ap length swap_elements ∙ length_put_new y rest swap_lacking ∙ sym (length_out_there x before sound.graph.rises there)

  pub swap_sound : HeldGraphIsSound base new
  swap_sound = record {
    own_ids = swap_has_ids;
    graph = subst IsGraph (sym swap_elements) (put_graph y rest (out_graph x before sound.graph loose) free fed);
    uses = λ p.
        let counts = sound.uses p in
        let more_uses = count_put (needs_id p) y rest swap_lacking in
        let less_uses = count_out (needs_id p) x before sound.graph.rises there in
        let as_many : bit (needs_id p y) ≡ bit (needs_id p x) = ap bit (needs p) in
        let more = uses.more p in
        let fewer = uses.fewer p in
        let total : count_by (needs_id p) base + more_at new p ≡ count_by (needs_id p) (put y rest) + fewer_at new p = omega arith in
        total ∙ ap (λ s. count_by (needs_id p) s + fewer_at new p) (sym swap_elements);
  }
