-- Where the attributes of a node stand in the order of elements.
use Rattle.std.proofs.Common.{◌≡◌, ℕ, ◌+◌, Bool, true, false, cond, ◌||◌, ◌&&◌, not, List, [], ◌∷◌, Option, Some, None, filter_map, refl, sym, ap, ◌∙◌, subst, IsTrue, arith, eqb, ltb}
use Rattle.std.specs.List.{cons_option}
use Rattle.std.proofs.lemmas.Bool.Decides.{nat_tests}
use Rattle.dg_graph.specs.declared.element.Element.{Element}
use Rattle.dg_graph.specs.declared.element.Element.TheVariants.{Node, Edge, NodeAttr, EdgeAttr}
use Rattle.dg_graph.specs.Elements.{IsSet, before}
use Rattle.dg_query.specs.declared.answers.KeyValue.{KeyValue}
use Rattle.dg_query.specs.Queries.{value_at, values_of, first_value, attribute_of}
use Rattle.dg_pool.specs.Listing.{up_to}
use Rattle.dg_view.specs.Walk.{value_of_key, NoneBefore}
use Rattle.dg_view.proofs.WalkSearches.{later, passed_over, none_up_to}

-- ---- all attributes of a node

no_value_before : (n : ℕ) (x : Element) → before x (NodeAttr n 0 0) ≡ true → value_at n x ≡ None
no_value_before n (NodeAttr id key value) e =
    let differs : eqb id n ≡ false = grind (arith, nat_tests) in
    ap (λ b. cond b (Some (record { key = key; value = value })) None) differs
no_value_before n _ e = refl

pub values_from_first : (n : ℕ) (set : List Element) → filter_map (value_at n) (later (NodeAttr n 0 0) set) ≡ values_of set n
values_from_first n set = passed_over (value_at n) (NodeAttr n 0 0) set (no_value_before n)

pub no_value_behind : (n : ℕ) (x : Element) → before (NodeAttr (n + 1) 0 0) x ≡ true → value_at n x ≡ None
no_value_behind n (NodeAttr id key value) e =
    let differs : eqb id n ≡ false = grind (arith, nat_tests) in
    ap (λ b. cond b (Some (record { key = key; value = value })) None) differs
no_value_behind n _ e = refl

-- no attribute of a node comes behind the first of an edge
pub no_value_among_edges : (n : ℕ) (x : Element) → before (EdgeAttr 0 0 0) x ≡ true → value_at n x ≡ None
no_value_among_edges n (NodeAttr id key value) e = cc
no_value_among_edges n _ e = refl

pub none_before : (x : Element) (set : List Element) → NoneBefore x (later x set)
none_before x [] = tt
none_before x (y ∷ set) = by (before y x) refl (none_before x set)
  where
    by : (t : Bool) → before y x ≡ t → NoneBefore x (later x set) → NoneBefore x (cond (not (before y x)) (y ∷ later x set) (later x set))
    by true e rest = subst (λ b. NoneBefore x (cond (not b) (y ∷ later x set) (later x set))) (sym e) rest
    by false e rest = subst (λ b. NoneBefore x (cond (not b) (y ∷ later x set) (later x set))) (sym e) (e, rest)

-- ---- the least value of a key

abbrev first_of : List ℕ → Option ℕ
first_of [] = None
first_of (v ∷ values) = Some v

first_is : (n key : ℕ) (set : List Element) → attribute_of set n key ≡ first_of (filter_map (value_of_key n key) set)
first_is n key [] = refl
first_is n key (NodeAttr id k v ∷ set) = by (eqb id n) (eqb k key) refl (first_is n key set)
  where
    by : (a b : Bool) → eqb k key ≡ b → attribute_of set n key ≡ first_of (filter_map (value_of_key n key) set)
        → first_value key (cons_option (cond a (Some (record { key = k; value = v })) None) (values_of set n)) ≡ first_of (cons_option (cond (a && b) (Some v) None) (filter_map (value_of_key n key) set))
    by true true g rest = ap (λ t. cond t (Some v) (first_value key (values_of set n))) g
    by true false g rest = ap (λ t. cond t (Some v) (first_value key (values_of set n))) g ∙ rest
    by false b g rest = rest
first_is n key (_ ∷ set) = first_is n key set

no_key_before : (n key : ℕ) (x : Element) → before x (NodeAttr n key 0) ≡ true → value_of_key n key x ≡ None
no_key_before n key (NodeAttr id k v) e =
    let differs : (eqb id n && eqb k key) ≡ false = grind (arith, nat_tests) in
    ap (λ b. cond b (Some v) None) differs
no_key_before n key _ e = refl

-- the element stands behind all values of the key at the node
abbrev is_past_key : ℕ → ℕ → Element → Bool
is_past_key n key (Node id) = false
is_past_key n key (Edge directed id src dst) = false
is_past_key n key (NodeAttr id k v) = ltb n id || (eqb id n && ltb key k)
is_past_key n key _ = true

past_key : (n key : ℕ) (x : Element) → is_past_key n key x ≡ true → value_of_key n key x ≡ None
past_key n key (NodeAttr id k v) e =
    let differs : (eqb id n && eqb k key) ≡ false = grind (arith, nat_tests) in
    ap (λ b. cond b (Some v) None) differs
past_key n key _ e = refl

past_key_on : (n key : ℕ) (x y : Element) → is_past_key n key x ≡ true → IsTrue (before x y) → is_past_key n key y ≡ true
past_key_on n key (Node id) y e h = cc
past_key_on n key (Edge directed id src dst) y e h = cc
past_key_on n key (NodeAttr id k v) (NodeAttr id2 k2 v2) e h = grind (arith, nat_tests)
past_key_on n key x (Node id2) e h = cc
past_key_on n key x (Edge directed id2 src dst) e h = cc
past_key_on n key x (NodeAttr id2 k2 v2) e h = cc
past_key_on n key x y e h = refl

past_key_start : (n key : ℕ) (x : Element) → before x (NodeAttr n key 0) ≡ false → value_of_key n key x ≡ None → is_past_key n key x ≡ true
past_key_start n key (Node id) e f = cc
past_key_start n key (Edge directed id src dst) e f = cc
past_key_start n key (NodeAttr id k v) e f = by (eqb id n && eqb k key) refl
  where
    by : (t : Bool) → (eqb id n && eqb k key) ≡ t → (ltb n id || (eqb id n && ltb key k)) ≡ true
    by true g = let some : Some v ≡ None = ap (λ b. cond b (Some v) None) (sym g) ∙ f in cc
    by false g = grind (arith, nat_tests)
past_key_start n key _ e f = refl

past_key_all : (n key : ℕ) (x : Element) (set : List Element) → is_past_key n key x ≡ true → IsSet (x ∷ set) → filter_map (value_of_key n key) (x ∷ set) ≡ []
past_key_all n key x [] e h = ap (λ o. cons_option o []) (past_key n key x e)
past_key_all n key x (y ∷ set) e h =
    ap (λ o. cons_option o (filter_map (value_of_key n key) (y ∷ set))) (past_key n key x e)
    ∙ past_key_all n key y set (past_key_on n key x y e h.0) h.1

pub no_key_behind : (n key : ℕ) (x : Element) → before (NodeAttr n (key + 1) 0) x ≡ true → value_of_key n key x ≡ None
no_key_behind n key (NodeAttr id k v) e =
    let differs : (eqb id n && eqb k key) ≡ false = grind (arith, nat_tests) in
    ap (λ b. cond b (Some v) None) differs
no_key_behind n key _ e = refl

-- what is no attribute of the node is no value of a key there
pub no_key_without_value : (n key : ℕ) (x : Element) → value_at n x ≡ None → value_of_key n key x ≡ None
no_key_without_value n key (NodeAttr id k v) e = by (record { key = k; value = v }) (eqb id n) e
  where
    by : (found : KeyValue) (t : Bool) → cond t (Some found) None ≡ None → cond (t && eqb k key) (Some v) None ≡ None
    by found true f = let some : Some found ≡ None = f in cc
    by found false f = refl
no_key_without_value n key _ e = refl

-- where none of those that do not stand before the key's first value is left up to what comes behind all its
-- values, there is none
pub least_none : (n key : ℕ) (set from : List Element) (end : Element) → from ≡ later (NodeAttr n key 0) set → ((x : Element) → before end x ≡ true → value_of_key n key x ≡ None) → up_to from (Some end) ≡ []
    → attribute_of set n key ≡ None
least_none n key set from end is none e =
    first_is n key set
    ∙ ap first_of (sym (passed_over (value_of_key n key) (NodeAttr n key 0) set (no_key_before n key)) ∙ ap (filter_map (value_of_key n key)) (sym is) ∙ none_up_to (value_of_key n key) end from none e)

-- or the first of them decides
pub least_some : (n key : ℕ) (set : List Element) (x : Element) (rest : List Element) → IsSet (x ∷ rest) → NoneBefore (NodeAttr n key 0) (x ∷ rest) → later (NodeAttr n key 0) set ≡ x ∷ rest
    → attribute_of set n key ≡ value_of_key n key x
least_some n key set x rest h low e =
    first_is n key set
    ∙ ap first_of (sym (passed_over (value_of_key n key) (NodeAttr n key 0) set (no_key_before n key)) ∙ ap (filter_map (value_of_key n key)) e)
    ∙ by (value_of_key n key x) refl
  where
    by : (o : Option ℕ) → value_of_key n key x ≡ o → first_of (filter_map (value_of_key n key) (x ∷ rest)) ≡ o
    by (Some v) g = ap (λ o. first_of (cons_option o (filter_map (value_of_key n key) rest))) g
    by None g = ap first_of (past_key_all n key x rest (past_key_start n key x low.0 g) h)
