-- Tests, look-ups in a set, and the values of keys.
use Rattle.std.proofs.Common.{◌≡◌, ℕ, Bool, true, false, cond, ◌||◌, ◌&&◌, List, [], ◌∷◌, Option, Some, None, find, is_some, nat_eq, eqb, refl, sym, ap, ◌∙◌, ◌⊎◌, inl, inr}
use Rattle.std.specs.Option.{option_eq}
use Rattle.std.specs.List.{list_any}
use Rattle.std.proofs.lemmas.Bool.{true≢false, false≢true, and_parts, eqb-true, eq-eqb, or_cases}
use Rattle.dg_graph.specs.declared.element.Element.{Element}
use Rattle.dg_graph.specs.declared.element.Element.TheVariants as element
use Rattle.dg_graph.specs.Completion.{is_node_value, is_edge_value, value_in}
use Rattle.dg_graph.specs.Elements.{has, same}
use Rattle.dg_graph.proofs.Sets.{element_exact}

-- ---- tests

pub two_itself : (m n : ℕ) → (eqb m m && eqb n n) ≡ true
two_itself m n = λ i. eq-eqb m m refl i && eq-eqb n n refl i

pub other_value : (v : ℕ) (o : Option ℕ) → option_eq nat_eq (Some v) o ≡ false → o ≡ Some v → ⊥
other_value v None e is = cc
other_value v (Some n) e is =
    let same : v ≡ n = cc in
    true≢false (sym (eq-eqb v n same) ∙ e)

-- ---- look-ups in a list

pub found_none : (t : Element → Bool) (xs : List Element) → find t xs ≡ None → (x : Element) → has xs x ≡ true → t x ≡ false
found_none t [] e x h = absurd (false≢true h)
found_none t (y ∷ ys) e x h = by (t y) refl e (or_cases (same x y) (has ys x) h) (λ none there. found_none t ys none x there)
  where
    by : (b : Bool) → t y ≡ b → cond b (Some y) (find t ys) ≡ None → (same x y ≡ true) ⊎ (has ys x ≡ true)
        → (find t ys ≡ None → has ys x ≡ true → t x ≡ false) → t x ≡ false
    by true is e which rest = cc
    by false is e (inl s) rest = ap t (element_exact x y s) ∙ is
    by false is e (inr there) rest = rest e there

-- what a look-up does not find is not there
pub absent : (t : Element → Bool) (xs : List Element) (x : Element) → find t xs ≡ None → t x ≡ true → has xs x ≡ false
absent t xs x none passes = by (has xs x) refl
  where
    by : (b : Bool) → has xs x ≡ b → b ≡ false
    by true there = absurd (true≢false (sym passes ∙ found_none t xs none x there))
    by false there = refl

pub none_from : {X : Type 0} (o : Option X) → is_some o ≡ false → o ≡ None
none_from None e = refl
none_from (Some x) e = absurd (false≢true (sym e))

-- ---- the value of a key

pub node_attr_found : (id key : ℕ) (x : Element) → is_node_value id key x ≡ true → (v : ℕ) → value_in x ≡ Some v → x ≡ element.NodeAttr id key v
node_attr_found id key (element.Node n) e v is = absurd (false≢true e)
node_attr_found id key (element.Edge b n s d) e v is = absurd (false≢true e)
node_attr_found id key (element.NodeAttr n k w) e v is =
    let parts = and_parts (eqb n id) (eqb k key) e in
    let value : w ≡ v = cc in
    λ i. element.NodeAttr (eqb-true n id parts.0 i) (eqb-true k key parts.1 i) (value i)
node_attr_found id key (element.EdgeAttr n k w) e v is = absurd (false≢true e)
node_attr_found id key (element.Message s d w) e v is = absurd (false≢true e)

pub edge_attr_found : (id key : ℕ) (x : Element) → is_edge_value id key x ≡ true → (v : ℕ) → value_in x ≡ Some v → x ≡ element.EdgeAttr id key v
edge_attr_found id key (element.Node n) e v is = absurd (false≢true e)
edge_attr_found id key (element.Edge b n s d) e v is = absurd (false≢true e)
edge_attr_found id key (element.NodeAttr n k w) e v is = absurd (false≢true e)
edge_attr_found id key (element.EdgeAttr n k w) e v is =
    let parts = and_parts (eqb n id) (eqb k key) e in
    let value : w ≡ v = cc in
    λ i. element.EdgeAttr (eqb-true n id parts.0 i) (eqb-true k key parts.1 i) (value i)
edge_attr_found id key (element.Message s d w) e v is = absurd (false≢true e)

pub node_valued : (id key : ℕ) (x : Element) → is_node_value id key x ≡ true → is_some (value_in x) ≡ true
node_valued id key (element.Node n) e = absurd (false≢true e)
node_valued id key (element.Edge b n s d) e = absurd (false≢true e)
node_valued id key (element.NodeAttr n k w) e = refl
node_valued id key (element.EdgeAttr n k w) e = absurd (false≢true e)
node_valued id key (element.Message s d w) e = absurd (false≢true e)

pub edge_valued : (id key : ℕ) (x : Element) → is_edge_value id key x ≡ true → is_some (value_in x) ≡ true
edge_valued id key (element.Node n) e = absurd (false≢true e)
edge_valued id key (element.Edge b n s d) e = absurd (false≢true e)
edge_valued id key (element.NodeAttr n k w) e = absurd (false≢true e)
edge_valued id key (element.EdgeAttr n k w) e = refl
edge_valued id key (element.Message s d w) e = absurd (false≢true e)

-- what is in the set is found
pub find_some : (t : Element → Bool) (xs : List Element) (x : Element) → has xs x ≡ true → t x ≡ true → is_some (find t xs) ≡ true
find_some t xs x there passes = by (find t xs) refl
  where
    by : (o : Option Element) → find t xs ≡ o → is_some o ≡ true
    by None e = absurd (true≢false (sym passes ∙ found_none t xs e x there))
    by (Some y) e = refl

-- an element that passes makes a test of all of them true
pub none_passes : (t : Element → Bool) (xs : List Element) → list_any t xs ≡ false → (x : Element) → has xs x ≡ true → t x ≡ true → ⊥
none_passes t [] e x there passes = false≢true there
none_passes t (y ∷ ys) e x there passes = by (t y) refl e (or_cases (same x y) (has ys x) there) (λ f k. none_passes t ys f x k passes)
  where
    by : (b : Bool) → t y ≡ b → (b || list_any t ys) ≡ false → (same x y ≡ true) ⊎ (has ys x ≡ true) → (list_any t ys ≡ false → has ys x ≡ true → ⊥) → ⊥
    by true is f which rest = true≢false f
    by false is f (inl s) rest = true≢false (sym passes ∙ ap t (element_exact x y s) ∙ is)
    by false is f (inr k) rest = rest f k

pub differs_from : (z x : Element) → (z ≡ x → ⊥) → same z x ≡ false
differs_from z x other = by (same z x) refl
  where
    by : (b : Bool) → same z x ≡ b → b ≡ false
    by true e = absurd (other (element_exact z x e))
    by false e = refl
