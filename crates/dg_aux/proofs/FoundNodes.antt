-- The nodes that are found are those of the graph that have the value, in their order.
use Rattle.std.proofs.Common.{◌≡◌, ℕ, ◌<◌, Bool, true, false, cond, ◌||◌, ◌&&◌, List, [], ◌∷◌, Some, None, nat_eq, nat_lt, refl, sym, ap, subst, ◌∙◌, IsTrue, arith}
use Rattle.std.proofs.lemmas.Bool.{true≢false, false≢true, eqb-true, ltb-true, or_left}
use Rattle.std.proofs.lemmas.Bool.Decides.{nat_tests}
use Rattle.std.proofs.lemmas.Cmp.{nat_list_cmp_total, tied_itself}
use Rattle.std.specs.Cmp.Lexicographic.{slice_cmp}
use Rattle.std.specs.declared.cmp.Ordering.TheVariants.{Less, Equal, Greater}
use Rattle.std.specs.List.{cons_option, list_any}
use Rattle.std.specs.Ordering.{is_lt, nat_cmp, ordering_then}
use Rattle.dg_graph.specs.declared.element.Element.{Element}
use Rattle.dg_graph.specs.declared.element.Element.TheVariants as element
use Rattle.dg_graph.specs.Elements.{IsBelowFirst, IsSet, before, has, same}
use Rattle.dg_graph.proofs.Sets.{IsBelowFirst-trans}
use Rattle.dg_aux.specs.Values.{nodes_with}
use Rattle.dg_aux.specs.Turns.{IsRising, IsUnder}
use Rattle.dg_aux.specs.TurnLaws.{FoundNodesAreThere}
use Rattle.dg_aux.proofs.TurnLaws.{same_asked}

-- ---- rising lists

past : (x y : ℕ) (ys : List ℕ) → x < y → IsUnder y ys → IsUnder x ys
past x y [] lt h = tt
past x y (z ∷ ys) lt h = omega (arith, lt, h)

differs : (x y : ℕ) → x < y → nat_eq x y ≡ false
differs x y lt = grind (arith, nat_tests)

lacks : (x : ℕ) (ys : List ℕ) → IsUnder x ys → IsRising ys → list_any (nat_eq x) ys ≡ false
lacks x [] h r = refl
lacks x (y ∷ ys) h r = ap (λ b. b || list_any (nat_eq x) ys) (differs x y h) ∙ lacks x ys (past x y ys h r.0) r.1

itself : (x : ℕ) → nat_eq x x ≡ true
itself x = grind (arith, nat_tests)

first_has : (x : ℕ) (xs : List ℕ) → list_any (nat_eq x) (x ∷ xs) ≡ true
first_has x xs = or_left (nat_eq x x) (list_any (nat_eq x) xs) (itself x)

abbrev SameNumbers : List ℕ → List ℕ → Type 0
SameNumbers xs ys = (i : ℕ) → list_any (nat_eq i) xs ≡ list_any (nat_eq i) ys

missing : (x : ℕ) (xs ys : List ℕ) → SameNumbers (x ∷ xs) ys → IsUnder x ys → IsRising ys → ⊥
missing x xs ys h under r = true≢false (sym (first_has x xs) ∙ h x ∙ lacks x ys under r)

firsts : (x y : ℕ) (xs ys : List ℕ) → IsRising (x ∷ xs) → IsRising (y ∷ ys) → SameNumbers (x ∷ xs) (y ∷ ys) → x ≡ y
firsts x y xs ys r s h = by (nat_lt x y) (nat_lt y x) refl refl
  where
    by : (a b : Bool) → nat_lt x y ≡ a → nat_lt y x ≡ b → x ≡ y
    by true b e f = absurd (missing x xs (y ∷ ys) h (ltb-true x y e) s)
    by false true e f = absurd (missing y ys (x ∷ xs) (λ i. sym (h i)) (ltb-true y x f) r)
    by false false e f = grind (arith, nat_tests, e, f)

rests : (x y : ℕ) (xs ys : List ℕ) → x ≡ y → IsRising (x ∷ xs) → IsRising (y ∷ ys) → SameNumbers (x ∷ xs) (y ∷ ys) → SameNumbers xs ys
rests x y xs ys is r s h i =
    elim (nat_eq i x) as (λ b. nat_eq i x ≡ b → list_any (nat_eq i) xs ≡ list_any (nat_eq i) ys) [
      | true ↦ λ e.
          let at = eqb-true i x e in
          ap (λ n. list_any (nat_eq n) xs) at ∙ lacks x xs r.0 r.1 ∙ sym (ap (λ n. list_any (nat_eq n) ys) (at ∙ is) ∙ lacks y ys s.0 s.1)
      | false ↦ λ e.
          sym (ap (λ b. b || list_any (nat_eq i) xs) e) ∙ h i ∙ ap (λ b. b || list_any (nat_eq i) ys) (ap (nat_eq i) (sym is) ∙ e)
    ] refl

pub same_rising : (xs ys : List ℕ) → IsRising xs → IsRising ys → SameNumbers xs ys → xs ≡ ys
same_rising [] [] r s h = refl
same_rising [] (y ∷ ys) r s h = absurd (false≢true (h y ∙ first_has y ys))
same_rising (x ∷ xs) [] r s h = absurd (true≢false (sym (first_has x xs) ∙ h x))
same_rising (x ∷ xs) (y ∷ ys) r s h =
    let is = firsts x y xs ys r s h in
    λ i. is i ∷ same_rising xs ys r.1 s.1 (rests x y xs ys is r s h) i

-- ---- the nodes of a graph

module _ (key v : ℕ) where
  abbrev value_at : ℕ → Element
  value_at id = element.NodeAttr id key v

  above : (id id2 : ℕ) → IsTrue (before (value_at id) (value_at id2)) → id < id2
  above id id2 e = by (nat_lt id id2) (nat_eq id id2) refl refl
    where
      tied : slice_cmp nat_cmp (key ∷ v ∷ []) (key ∷ v ∷ []) ≡ Equal
      tied = tied_itself nat_list_cmp_total (key ∷ v ∷ [])

      by : (a b : Bool) → nat_lt id id2 ≡ a → nat_eq id id2 ≡ b → id < id2
      by true b f g = ltb-true id id2 f
      by false true f g = absurd (false≢true (sym (λ i. is_lt (ordering_then (cond (f i) Less (cond (g i) Equal Greater)) (tied i))) ∙ e))
      by false false f g = absurd (false≢true (sym (λ i. is_lt (ordering_then (cond (f i) Less (cond (g i) Equal Greater)) (tied i))) ∙ e))

  named : (k val : ℕ) → (nat_eq k key && nat_eq val v) ≡ true → (k ≡ key) × (val ≡ v)
  named k val e = by (nat_eq k key) (nat_eq val v) refl refl e
    where
      by : (a b : Bool) → nat_eq k key ≡ a → nat_eq val v ≡ b → (a && b) ≡ true → (k ≡ key) × (val ≡ v)
      by true true f g h = (eqb-true k key f, eqb-true val v g)
      by true false f g h = absurd (false≢true h)
      by false b f g h = absurd (false≢true h)

  under : (id : ℕ) (set : List Element) → IsBelowFirst (value_at id) set → IsSet set → IsUnder id (nodes_with key v set)
  under id [] b s = tt
  under id (element.Node n ∷ set) b s = under id set (IsBelowFirst-trans (value_at id) (element.Node n) set b s.0) s.1
  under id (element.Edge directed n src dst ∷ set) b s =
      under id set (IsBelowFirst-trans (value_at id) (element.Edge directed n src dst) set b s.0) s.1
  under id (element.NodeAttr n k val ∷ set) b s =
      let rest = under id set (IsBelowFirst-trans (value_at id) (element.NodeAttr n k val) set b s.0) s.1 in
      elim (nat_eq k key && nat_eq val v) as (λ t. (nat_eq k key && nat_eq val v) ≡ t → IsUnder id (cons_option (cond t (Some n) None) (nodes_with key v set))) [
        | true ↦ λ e.
            let at = named k val e in
            above id n (subst (λ (x : Element). IsTrue (before (value_at id) x)) (λ i. element.NodeAttr n (at.0 i) (at.1 i)) b)
        | false ↦ λ e. rest
      ] refl
  under id (element.EdgeAttr n k val ∷ set) b s =
      under id set (IsBelowFirst-trans (value_at id) (element.EdgeAttr n k val) set b s.0) s.1
  under id (element.Message src dst val ∷ set) b s =
      under id set (IsBelowFirst-trans (value_at id) (element.Message src dst val) set b s.0) s.1

  nodes_rise : (set : List Element) → IsSet set → IsRising (nodes_with key v set)
  nodes_rise [] s = tt
  nodes_rise (element.Node n ∷ set) s = nodes_rise set s.1
  nodes_rise (element.Edge directed n src dst ∷ set) s = nodes_rise set s.1
  nodes_rise (element.NodeAttr n k val ∷ set) s =
      elim (nat_eq k key && nat_eq val v) as (λ t. (nat_eq k key && nat_eq val v) ≡ t → IsRising (cons_option (cond t (Some n) None) (nodes_with key v set))) [
        | true ↦ λ e.
            let at = named k val e in
            (under n set (subst (λ (x : Element). IsBelowFirst x set) (λ i. element.NodeAttr n (at.0 i) (at.1 i)) s.0) s.1, nodes_rise set s.1)
        | false ↦ λ e. nodes_rise set s.1
      ] refl
  nodes_rise (element.EdgeAttr n k val ∷ set) s = nodes_rise set s.1
  nodes_rise (element.Message src dst val ∷ set) s = nodes_rise set s.1

  turned : (i n : ℕ) → nat_eq i n ≡ nat_eq n i
  turned i n = grind (arith, nat_tests)

  joined : (a b c : Bool) → ((a && b) && c) ≡ (a && (b && c))
  joined true b c = refl
  joined false b c = refl

  members : (set : List Element) (i : ℕ) → list_any (nat_eq i) (nodes_with key v set) ≡ has set (value_at i)
  members [] i = refl
  members (element.Node n ∷ set) i = members set i
  members (element.Edge directed n src dst ∷ set) i = members set i
  members (element.NodeAttr n k val ∷ set) i =
      elim (nat_eq k key && nat_eq val v) as (λ t. list_any (nat_eq i) (cons_option (cond t (Some n) None) (nodes_with key v set)) ≡ ((t && nat_eq n i) || has set (value_at i))) [
        | true ↦ λ j. turned i n j || members set i j
        | false ↦ members set i
      ]
      ∙ ap (λ b. b || has set (value_at i)) (joined (nat_eq k key) (nat_eq val v) (nat_eq n i) ∙ sym (same_asked key n k val v i))
  members (element.EdgeAttr n k val ∷ set) i = members set i
  members (element.Message src dst val ∷ set) i = members set i

pub found_there : FoundNodesAreThere
found_there key v set s ids rise are =
    same_rising ids (nodes_with key v set) rise (nodes_rise key v set s) (λ i. are i ∙ sym (members key v set i))
