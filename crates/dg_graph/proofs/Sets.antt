-- Laws of the order of elements, and of sets of elements as strictly rising lists.
--     element_total, element_exact      the order is total, and only equal elements tie
--     has-put, has-take_out, has-filter      which elements an edited list has
--     IsSet-put, IsSet-filter, IsSet-take_out      an edited set is a set
--     same_members      two sets that have the same elements are equal
--     has-unioned, has-met, has-without_all      which elements the algebra of sets gives
use Rattle.std.proofs.Common.{◌≡◌, Bool, true, false, cond, not, ◌||◌, ◌&&◌, List, [], ◌∷◌, refl, sym, ap, ◌∙◌, IsTrue, filter}
use Rattle.std.specs.declared.cmp.Ordering.{Ordering}
use Rattle.std.specs.declared.cmp.Ordering.TheVariants.{Less, Equal, Greater}
use Rattle.std.specs.Ordering.{is_lt, is_eq, ordering_reverse}
use Rattle.std.specs.Cmp.{IsTotalOrder}
use Rattle.std.specs.FinMap.{nat_cmp-IsAntisymmetric, slice_cmp-IsAntisymmetric}
use Rattle.std.proofs.lemmas.Cmp.{on_total, nat_list_cmp_total, tied_itself, alike_right}
use Rattle.std.proofs.lemmas.Bool.{true≢false, or_left, or_from}
use Rattle.std.proofs.lemmas.Map.Views.{any-filter_same}
use Rattle.dg_graph.specs.declared.element.Element.{Element}
use Rattle.dg_graph.specs.declared.element.Element.TheVariants.{Node, Edge, NodeAttr, EdgeAttr, Message}
use Rattle.dg_graph.specs.Sets.{unioned, met, without_all}
use Rattle.dg_graph.specs.Elements.{bit, spelled, element_cmp, same, before, IsBelowFirst, IsSet, has, put, take_out}

-- ---- the order

pub element_total : IsTotalOrder element_cmp
element_total = on_total spelled nat_list_cmp_total

bit_exact : (a b : Bool) → bit a ≡ bit b → a ≡ b
bit_exact true true e = refl
bit_exact true false e = cc
bit_exact false true e = cc
bit_exact false false e = refl

spelled_exact : (x y : Element) → spelled x ≡ spelled y → x ≡ y
spelled_exact (Node id) (Node id2) e = cc
spelled_exact (Node id) (Edge directed id2 src dst) e = cc
spelled_exact (Node id) (NodeAttr id2 key value) e = cc
spelled_exact (Node id) (EdgeAttr id2 key value) e = cc
spelled_exact (Node id) (Message src2 dst2 value2) e = cc
spelled_exact (Edge directed id src dst) (Node id2) e = cc
spelled_exact (Edge directed id src dst) (Edge directed2 id2 src2 dst2) e =
    let tied : bit directed ≡ bit directed2 = cc in
    let kinds = bit_exact directed directed2 tied in
    cc
spelled_exact (Edge directed id src dst) (NodeAttr id2 key value) e = cc
spelled_exact (Edge directed id src dst) (EdgeAttr id2 key value) e = cc
spelled_exact (Edge directed id src dst) (Message src2 dst2 value2) e = cc
spelled_exact (NodeAttr id key value) (Node id2) e = cc
spelled_exact (NodeAttr id key value) (Edge directed id2 src dst) e = cc
spelled_exact (NodeAttr id key value) (NodeAttr id2 key2 value2) e = cc
spelled_exact (NodeAttr id key value) (EdgeAttr id2 key2 value2) e = cc
spelled_exact (NodeAttr id key value) (Message src2 dst2 value2) e = cc
spelled_exact (EdgeAttr id key value) (Node id2) e = cc
spelled_exact (EdgeAttr id key value) (Edge directed id2 src dst) e = cc
spelled_exact (EdgeAttr id key value) (NodeAttr id2 key2 value2) e = cc
spelled_exact (EdgeAttr id key value) (EdgeAttr id2 key2 value2) e = cc
spelled_exact (EdgeAttr id key value) (Message src2 dst2 value2) e = cc
spelled_exact (Message src dst value) (Node id2) e = cc
spelled_exact (Message src dst value) (Edge directed2 id2 src2 dst2) e = cc
spelled_exact (Message src dst value) (NodeAttr id2 key2 value2) e = cc
spelled_exact (Message src dst value) (EdgeAttr id2 key2 value2) e = cc
spelled_exact (Message src dst value) (Message src2 dst2 value2) e = cc

-- only equal elements tie
pub tied_exact : (x y : Element) → element_cmp x y ≡ Equal → x ≡ y
tied_exact x y e =
    spelled_exact x y (slice_cmp-IsAntisymmetric nat_cmp-IsAntisymmetric (spelled x) (spelled y) e)

pub Less_from_test : (o : Ordering) → is_lt o ≡ true → o ≡ Less
Less_from_test Less e = refl
Less_from_test Equal e = cc
Less_from_test Greater e = cc

pub Equal_from_test : (o : Ordering) → is_eq o ≡ true → o ≡ Equal
Equal_from_test Less e = cc
Equal_from_test Equal e = refl
Equal_from_test Greater e = cc

pub element_exact : (x y : Element) → same x y ≡ true → x ≡ y
element_exact x y e = tied_exact x y (Equal_from_test (element_cmp x y) e)

pub same_itself : (x : Element) → same x x ≡ true
same_itself x = ap is_eq (tied_itself element_total x)

reverse_is_eq : (o : Ordering) → is_eq (ordering_reverse o) ≡ is_eq o
reverse_is_eq Less = refl
reverse_is_eq Equal = refl
reverse_is_eq Greater = refl

pub same_back : (x y : Element) → same x y ≡ same y x
same_back x y = ap is_eq (element_total.antisymm x y) ∙ reverse_is_eq (element_cmp y x)

-- an element that is greater stands after the other
pub before_from_Greater : (x y : Element) → element_cmp x y ≡ Greater → IsTrue (before y x)
before_from_Greater x y e = ap is_lt (element_total.antisymm y x ∙ ap ordering_reverse e)

pub Greater_from_before : (x y : Element) → IsTrue (before x y) → element_cmp y x ≡ Greater
Greater_from_before x y e =
    element_total.antisymm y x ∙ ap ordering_reverse (Less_from_test (element_cmp x y) e)

pub before_trans : (x y z : Element) → IsTrue (before x y) → IsTrue (before y z) → IsTrue (before x z)
before_trans x y z e f =
    ap is_lt (element_total.trans x y z (Less_from_test (element_cmp x y) e) (Less_from_test (element_cmp y z) f))

pub differs : (x y : Element) → IsTrue (before x y) → same x y ≡ false
differs x y e = ap is_eq (Less_from_test (element_cmp x y) e)

pub differs_back : (x y : Element) → IsTrue (before x y) → same y x ≡ false
differs_back x y e = ap is_eq (Greater_from_before x y e)

-- ---- rising lists

pub IsBelowFirst-trans : (x y : Element) (set : List Element) → IsTrue (before x y) → IsBelowFirst y set → IsBelowFirst x set
IsBelowFirst-trans x y [] e h = tt
IsBelowFirst-trans x y (z ∷ set) e h = before_trans x y z e h

-- an element before the first one is not in the set
pub lacks_below : (x : Element) (set : List Element) → IsBelowFirst x set → IsSet set → has set x ≡ false
lacks_below x [] h s = refl
lacks_below x (y ∷ set) h s =
    or_from (same x y) (has set x) (differs x y h) (lacks_below x set (IsBelowFirst-trans x y set h s.0) s.1)

pub has_first : (x : Element) (set : List Element) → has (x ∷ set) x ≡ true
has_first x set = or_left (same x x) (has set x) (same_itself x)

pub has_past : (q x : Element) (set : List Element) → same q x ≡ false → has (x ∷ set) q ≡ has set q
has_past q x set e = ap (λ b. b || has set q) e

missing : (x : Element) (xs ys : List Element) → has ys x ≡ false → has (x ∷ xs) x ≡ has ys x → ⊥
missing x xs ys lacks is = true≢false (sym (has_first x xs) ∙ is ∙ lacks)

tails : (x y : Element) (xs ys : List Element) → x ≡ y → IsSet (x ∷ xs) → IsSet (y ∷ ys) → ((q : Element) → has (x ∷ xs) q ≡ has (y ∷ ys) q) → (q : Element) → has xs q ≡ has ys q
tails x y xs ys e g h is q =
    elim (same q x) as (λ b. same q x ≡ b → has xs q ≡ has ys q) [
      | true ↦ λ t.
          let at = element_exact q x t in
          ap (has xs) at ∙ lacks_below x xs g.0 g.1 ∙ sym (ap (has ys) (at ∙ e) ∙ lacks_below y ys h.0 h.1)
      | false ↦ λ f. sym (has_past q x xs f) ∙ is q ∙ has_past q y ys (ap (same q) (sym e) ∙ f)
    ] refl

-- two sets that have the same elements are equal
pub same_members : (xs ys : List Element) → IsSet xs → IsSet ys → ((q : Element) → has xs q ≡ has ys q) → xs ≡ ys
same_members [] [] g h is = refl
same_members [] (y ∷ ys) g h is = absurd (missing y ys [] refl (sym (is y)))
same_members (x ∷ xs) [] g h is = absurd (missing x xs [] refl (is x))
same_members (x ∷ xs) (y ∷ ys) g h is =
    elim (element_cmp x y) as (λ o. element_cmp x y ≡ o → x ∷ xs ≡ y ∷ ys) [
      | Less ↦ λ p. absurd (missing x xs (y ∷ ys) (lacks_below x (y ∷ ys) (ap is_lt p) h) (is x))
      | Equal ↦ λ p.
          let e = tied_exact x y p in
          let rest = same_members xs ys g.1 h.1 (tails x y xs ys e g h is) in
          λ i. e i ∷ rest i
      | Greater ↦ λ p. absurd (missing y ys (x ∷ xs) (lacks_below y (x ∷ xs) (before_from_Greater x y p) g) (sym (is y)))
    ] refl

-- ---- an element more

or_twice : (a b c : Bool) → a ≡ b → (b || c) ≡ (a || (b || c))
or_twice true true c e = refl
or_twice true false c e = cc
or_twice false b c e = refl

pub or_swap : (a b c : Bool) → (a || (b || c)) ≡ (b || (a || c))
or_swap true true c = refl
or_swap true false c = refl
or_swap false b c = refl

-- the set with x, by where x stands to its first element y
abbrev pub put_by : Ordering → Element → Element → List Element → List Element
put_by o x y set = cond (is_lt o) (x ∷ y ∷ set) (cond (is_eq o) (y ∷ set) (y ∷ put x set))

pub has-put : (x : Element) (set : List Element) (q : Element) → has (put x set) q ≡ (same q x || has set q)
has-put x [] q = refl
has-put x (y ∷ set) q =
    elim (element_cmp x y) as (λ o. element_cmp x y ≡ o → has (put_by o x y set) q ≡ (same q x || (same q y || has set q))) [
      | Less ↦ λ p. refl
      | Equal ↦ λ p. or_twice (same q x) (same q y) (has set q) (ap is_eq (alike_right element_total x y q p))
      | Greater ↦ λ p. ap (λ b. same q y || b) (has-put x set q) ∙ or_swap (same q y) (same q x) (has set q)
    ] refl

pub IsBelowFirst-put : (z x : Element) (set : List Element) → IsTrue (before z x) → IsBelowFirst z set → IsBelowFirst z (put x set)
IsBelowFirst-put z x [] e h = e
IsBelowFirst-put z x (y ∷ set) e h =
    elim (element_cmp x y) as (λ o. IsBelowFirst z (put_by o x y set)) [ Less ↦ e | Equal ↦ h | Greater ↦ h ]

pub IsSet-put : (x : Element) (set : List Element) → IsSet set → IsSet (put x set)
IsSet-put x [] s = (tt, tt)
IsSet-put x (y ∷ set) s =
    elim (element_cmp x y) as (λ o. element_cmp x y ≡ o → IsSet (put_by o x y set)) [
      | Less ↦ λ p. (ap is_lt p, s)
      | Equal ↦ λ p. s
      | Greater ↦ λ p. (IsBelowFirst-put y x set (before_from_Greater x y p) s.0, IsSet-put x set s.1)
    ] refl

-- ---- the elements that pass a test

pub has-filter : (p : Element → Bool) (set : List Element) (q : Element) → has (filter p set) q ≡ (p q && has set q)
has-filter p set q = any-filter_same (same q) p (p q) (λ k t. ap p (sym (element_exact q k t))) set

pub IsBelowFirst-filter : (p : Element → Bool) (x : Element) (set : List Element) → IsBelowFirst x set → IsSet set → IsBelowFirst x (filter p set)
IsBelowFirst-filter p x [] h s = tt
IsBelowFirst-filter p x (y ∷ set) h s =
    let rest = IsBelowFirst-filter p x set (IsBelowFirst-trans x y set h s.0) s.1 in
    elim (p y) as (λ b. IsBelowFirst x (cond b (y ∷ filter p set) (filter p set))) [ true ↦ h | false ↦ rest ]

pub IsSet-filter : (p : Element → Bool) (set : List Element) → IsSet set → IsSet (filter p set)
IsSet-filter p [] s = tt
IsSet-filter p (y ∷ set) s =
    let rest = IsSet-filter p set s.1 in
    elim (p y) as (λ b. IsSet (cond b (y ∷ filter p set) (filter p set))) [ true ↦ (IsBelowFirst-filter p y set s.0 s.1, rest) | false ↦ rest ]

pub has-take_out : (x : Element) (set : List Element) (q : Element) → has (take_out x set) q ≡ (not (same q x) && has set q)
has-take_out x set q =
    has-filter (λ y. not (same x y)) set q ∙ ap (λ b. not b && has set q) (same_back x q)

pub IsSet-take_out : (x : Element) (set : List Element) → IsSet set → IsSet (take_out x set)
IsSet-take_out x set s = IsSet-filter (λ y. not (same x y)) set s

-- ---- an element in or out, and back

put_back : (a b : Bool) → (a ≡ true → b ≡ true) → (a || (not a && b)) ≡ b
put_back true b f = sym (f refl)
put_back false b f = refl

take_back : (a b : Bool) → (a ≡ true → b ≡ false) → (not a && (a || b)) ≡ b
take_back true b f = sym (f refl)
take_back false b f = refl

or_known : (a b : Bool) → (a ≡ true → b ≡ true) → (a || b) ≡ b
or_known true b f = sym (f refl)
or_known false b f = refl

and_known : (a b : Bool) → (a ≡ true → b ≡ false) → (not a && b) ≡ b
and_known true b f = sym (f refl)
and_known false b f = refl

-- what the set answers at x, it answers at each element that ties with x
answers : (x q : Element) (set : List Element) (b : Bool) → has set x ≡ b → same q x ≡ true → has set q ≡ b
answers x q set b h e = ap (has set) (element_exact q x e) ∙ h

pub put-there : (x : Element) (set : List Element) → IsSet set → has set x ≡ true → put x set ≡ set
put-there x set s h =
    same_members (put x set) set (IsSet-put x set s) s
    (λ q. has-put x set q ∙ or_known (same q x) (has set q) (answers x q set true h))

pub take_out-absent : (x : Element) (set : List Element) → IsSet set → has set x ≡ false → take_out x set ≡ set
take_out-absent x set s h =
    same_members (take_out x set) set (IsSet-take_out x set s) s
    (λ q. has-take_out x set q ∙ and_known (same q x) (has set q) (answers x q set false h))

pub put-take_out : (x : Element) (set : List Element) → IsSet set → has set x ≡ true → put x (take_out x set) ≡ set
put-take_out x set s h =
    same_members (put x (take_out x set)) set (IsSet-put x (take_out x set) (IsSet-take_out x set s)) s
    (λ q.
    has-put x (take_out x set) q
    ∙ ap (λ b. same q x || b) (has-take_out x set q)
    ∙ put_back (same q x) (has set q) (answers x q set true h))

pub take_out-put : (x : Element) (set : List Element) → IsSet set → has set x ≡ false → take_out x (put x set) ≡ set
take_out-put x set s h =
    same_members (take_out x (put x set)) set (IsSet-take_out x (put x set) (IsSet-put x set s)) s
    (λ q.
    has-take_out x (put x set) q
    ∙ ap (λ b. not (same q x) && b) (has-put x set q)
    ∙ take_back (same q x) (has set q) (answers x q set false h))

-- ---- the algebra

or_end : (a : Bool) → a ≡ (a || false)
or_end true = refl
or_end false = refl

pub and_swap : (a b : Bool) → (a && b) ≡ (b && a)
and_swap true true = refl
and_swap true false = refl
and_swap false true = refl
and_swap false false = refl

pub has-unioned : (a b : List Element) (q : Element) → has (unioned a b) q ≡ (has a q || has b q)
has-unioned a [] q = or_end (has a q)
has-unioned a (x ∷ b) q =
    has-put x (unioned a b) q
    ∙ ap (λ t. same q x || t) (has-unioned a b q)
    ∙ or_swap (same q x) (has a q) (has b q)

pub has-met : (a b : List Element) (q : Element) → has (met a b) q ≡ (has a q && has b q)
has-met a b q = has-filter (λ x. has b x) a q ∙ and_swap (has b q) (has a q)

pub has-without_all : (a b : List Element) (q : Element) → has (without_all a b) q ≡ (has a q && not (has b q))
has-without_all a b q =
    has-filter (λ x. not (has b x)) a q ∙ and_swap (not (has b q)) (has a q)

pub IsSet-unioned : (a b : List Element) → IsSet a → IsSet (unioned a b)
IsSet-unioned a [] s = s
IsSet-unioned a (x ∷ b) s = IsSet-put x (unioned a b) (IsSet-unioned a b s)

pub IsSet-met : (a b : List Element) → IsSet a → IsSet (met a b)
IsSet-met a b s = IsSet-filter (λ x. has b x) a s

pub IsSet-without_all : (a b : List Element) → IsSet a → IsSet (without_all a b)
IsSet-without_all a b s = IsSet-filter (λ x. not (has b x)) a s
