-- Sets of three columns, one after another.
use Rattle.std.proofs.Common.{◌≡◌, suc, ◌≤◌, Bool, true, false, cond, ◌||◌, ◌&&◌, List, [], ◌∷◌, ◌++◌, length, filter, refl, sym, ap, ◌∙◌, IsTrue, arith}
use Rattle.std.proofs.lemmas.Bool.{true≢false, false≢true, or_right}
use Rattle.std.proofs.lemmas.List.Folds.{list_any-append}
use Rattle.dg_graph.specs.declared.element.Column.{Column}
use Rattle.dg_graph.specs.declared.element.Column.TheVariants as column
use Rattle.dg_graph.specs.declared.element.Element.{Element}
use Rattle.dg_graph.specs.declared.element.Element.TheVariants.{Node, Edge, NodeAttr, EdgeAttr, Message}
use Rattle.dg_graph.specs.Columns.{same_column, in_column}
use Rattle.dg_graph.specs.Composition.{Delta, IsDelta}
use Rattle.dg_graph.specs.Elements.{IsSet, IsBelowFirst, before, column_of, has, same}
use Rattle.dg_graph.proofs.Sets.{element_exact, same_members, has_first, has-filter, IsSet-filter}
use Rattle.dg_set.specs.Apart.{AreApart}
use Rattle.dg_delta.specs.Deltas.{joined}
use Rattle.dg_columns.specs.ReadFits.{IsIn, joined_columns, PartsAreJoinedBack}

-- ---- elements of one column

abbrev pub AllIn : Column → List Element → Type 0
AllIn col [] = Unit {0}
AllIn col (x ∷ xs) = (same_column (column_of x) col ≡ true) × AllIn col xs

shorter : (p : Element → Bool) (xs : List Element) → length (filter p xs) ≤ length xs
shorter p [] = omega arith
shorter p (x ∷ xs) = elim (p x) as (λ t. length (cond t (x ∷ filter p xs) (filter p xs)) ≤ suc (length xs)) [ true ↦ omega (arith, shorter p xs) | false ↦ omega (arith, shorter p xs) ]

tail_is : (x : Element) (xs ys : List Element) → x ∷ xs ≡ x ∷ ys → xs ≡ ys
tail_is x xs ys e = cc

pub all_in : (col : Column) (xs : List Element) → in_column col xs ≡ xs → AllIn col xs
all_in col [] e = tt
all_in col (x ∷ xs) e = by (same_column (column_of x) col) refl e (λ h. all_in col xs h)
  where
    by : (t : Bool) → same_column (column_of x) col ≡ t → cond t (x ∷ in_column col xs) (in_column col xs) ≡ x ∷ xs → (in_column col xs ≡ xs → AllIn col xs) → AllIn col (x ∷ xs)
    by true is h rest = (is, rest (tail_is x (in_column col xs) xs h))
    by false is h rest = absurd (omega (arith, shorter (λ y. same_column (column_of y) col) xs, ap length h))

has_in : (col : Column) (xs : List Element) (q : Element) → AllIn col xs → has xs q ≡ true → same_column (column_of q) col ≡ true
has_in col [] q a h = absurd (false≢true h)
has_in col (x ∷ xs) q a h =
    elim (same q x) as (λ t. same q x ≡ t → (t || has xs q) ≡ true → same_column (column_of q) col ≡ true) [
      | true ↦ λ e h. ap (λ z. same_column (column_of z) col) (element_exact q x e) ∙ a.0
      | false ↦ λ e h. has_in col xs q a.1 h
    ] refl h

-- ---- one column after another

abbrev pub comes_first : Column → Column → Bool
comes_first column.Structure column.NodeAttr = true
comes_first column.Structure column.EdgeAttr = true
comes_first column.NodeAttr column.EdgeAttr = true
comes_first a b = false

columns_rise : (x y : Element) → comes_first (column_of x) (column_of y) ≡ true → IsTrue (before x y)
columns_rise (Node id) (Node id2) e = absurd (false≢true e)
columns_rise (Node id) (Edge b id2 s d) e = absurd (false≢true e)
columns_rise (Node id) (NodeAttr id2 k v) e = refl
columns_rise (Node id) (EdgeAttr id2 k v) e = refl
columns_rise (Node id) (Message src dst value) e = absurd (false≢true e)
columns_rise (Edge b id s d) (Node id2) e = absurd (false≢true e)
columns_rise (Edge b id s d) (Edge b2 id2 s2 d2) e = absurd (false≢true e)
columns_rise (Edge b id s d) (NodeAttr id2 k v) e = refl
columns_rise (Edge b id s d) (EdgeAttr id2 k v) e = refl
columns_rise (Edge b id s d) (Message src dst value) e = absurd (false≢true e)
columns_rise (NodeAttr id k v) (Node id2) e = absurd (false≢true e)
columns_rise (NodeAttr id k v) (Edge b2 id2 s2 d2) e = absurd (false≢true e)
columns_rise (NodeAttr id k v) (NodeAttr id2 k2 v2) e = absurd (false≢true e)
columns_rise (NodeAttr id k v) (EdgeAttr id2 k2 v2) e = refl
columns_rise (NodeAttr id k v) (Message src dst value) e = absurd (false≢true e)
columns_rise (EdgeAttr id k v) (Node id2) e = absurd (false≢true e)
columns_rise (EdgeAttr id k v) (Edge b2 id2 s2 d2) e = absurd (false≢true e)
columns_rise (EdgeAttr id k v) (NodeAttr id2 k2 v2) e = absurd (false≢true e)
columns_rise (EdgeAttr id k v) (EdgeAttr id2 k2 v2) e = absurd (false≢true e)
columns_rise (EdgeAttr id k v) (Message src dst value) e = absurd (false≢true e)
columns_rise (Message src dst value) y e = absurd (false≢true e)

same_is : (a b : Column) → same_column a b ≡ true → a ≡ b
same_is column.Structure column.Structure e = refl
same_is column.Structure column.NodeAttr e = absurd (false≢true e)
same_is column.Structure column.EdgeAttr e = absurd (false≢true e)
same_is column.NodeAttr column.Structure e = absurd (false≢true e)
same_is column.NodeAttr column.NodeAttr e = refl
same_is column.NodeAttr column.EdgeAttr e = absurd (false≢true e)
same_is column.EdgeAttr column.Structure e = absurd (false≢true e)
same_is column.EdgeAttr column.NodeAttr e = absurd (false≢true e)
same_is column.EdgeAttr column.EdgeAttr e = refl
same_is column.Structure column.Transient e = absurd (false≢true e)
same_is column.NodeAttr column.Transient e = absurd (false≢true e)
same_is column.EdgeAttr column.Transient e = absurd (false≢true e)
same_is column.Transient column.Structure e = absurd (false≢true e)
same_is column.Transient column.NodeAttr e = absurd (false≢true e)
same_is column.Transient column.EdgeAttr e = absurd (false≢true e)
same_is column.Transient column.Transient e = refl

in_order : (a b : Column) (x y : Element) → comes_first a b ≡ true → same_column (column_of x) a ≡ true → same_column (column_of y) b ≡ true → IsTrue (before x y)
in_order a b x y h e f =
    columns_rise x y ((λ i. comes_first (same_is (column_of x) a e i) (same_is (column_of y) b f i)) ∙ h)

below_all : (a b : Column) (x : Element) (ys : List Element) → comes_first a b ≡ true → same_column (column_of x) a ≡ true → AllIn b ys → IsBelowFirst x ys
below_all a b x [] h e f = tt
below_all a b x (y ∷ ys) h e f = in_order a b x y h e f.0

set_beside : (xs ys : List Element) → ((x : Element) → has xs x ≡ true → IsBelowFirst x ys) → IsSet xs → IsSet ys → IsSet (xs ++ ys)
set_beside [] ys h s t = t
set_beside (x ∷ []) ys h s t = (h x (has_first x []), t)
set_beside (x ∷ y ∷ xs) ys h s t = (s.0, set_beside (y ∷ xs) ys (λ z e. h z (or_right (same z x) (has (y ∷ xs) z) e)) s.1 t)

two_set : (a b : Column) → comes_first a b ≡ true → (xs ys : List Element) → AllIn a xs → AllIn b ys → IsSet xs → IsSet ys → IsSet (xs ++ ys)
two_set a b h xs ys p q s t = set_beside xs ys (λ x e. below_all a b x ys h (has_in a xs x p e) q) s t

pub columns_set : (a b c : Column) → comes_first a b ≡ true → comes_first a c ≡ true → comes_first b c ≡ true → (xs ys zs : List Element) → AllIn a xs → AllIn b ys → AllIn c zs → IsSet xs → IsSet ys → IsSet zs → IsSet (xs ++ ys ++ zs)
columns_set a b c h g f xs ys zs p q r s t u =
    set_beside (xs ++ ys) zs (λ x e. split x (has xs x) refl (sym (list_any-append (same x) xs ys) ∙ e))
    (set_beside xs ys (λ x e. below_all a b x ys h (has_in a xs x p e) q) s t) u
  where
    split : (x : Element) (t : Bool) → has xs x ≡ t → (has xs x || has ys x) ≡ true → IsBelowFirst x zs
    split x true e k = below_all a c x zs g (has_in a xs x p e) r
    split x false e k = below_all b c x zs f (has_in b ys x q (sym (ap (λ b. b || has ys x) e) ∙ k)) r

-- ---- sets that share nothing

apart_columns : (a b : Column) → same_column a b ≡ false → (xs ys : List Element) → AllIn a xs → AllIn b ys → AreApart xs ys
apart_columns a b other xs ys p q x h = by (has ys x) refl
  where
    by : (t : Bool) → has ys x ≡ t → t ≡ false
    by true e = absurd (true≢false (sym (has_in b ys x q e) ∙ ap (λ c. same_column c b) (same_is (column_of x) a (has_in a xs x p h)) ∙ other))
    by false e = refl

or_cases : (a b : Bool) (A : Type 0) → (a ≡ true → A) → (b ≡ true → A) → (a || b) ≡ true → A
or_cases true b A f g e = f refl
or_cases false b A f g e = g e

apart_left : (xs ys zs : List Element) → AreApart xs zs → AreApart ys zs → AreApart (xs ++ ys) zs
apart_left xs ys zs p q x h = or_cases (has xs x) (has ys x) (has zs x ≡ false) (p x) (q x) (sym (list_any-append (same x) xs ys) ∙ h)

apart_right : (xs ys zs : List Element) → AreApart xs ys → AreApart xs zs → AreApart xs (ys ++ zs)
apart_right xs ys zs p q x h = list_any-append (same x) ys zs ∙ (λ i. p x h i || q x h i)

apart_beside : (a b a' b' : List Element) → AreApart a a' → AreApart b b' → AreApart a b' → AreApart b a' → AreApart (a ++ b) (a' ++ b')
apart_beside a b a' b' p q r s =
    apart_left a b (a' ++ b') (apart_right a a' b' p r) (apart_right b a' b' s q)

-- ---- the three columns of a delta

module _ (s n e : Delta) (ds : IsDelta s) (dn : IsDelta n) (de : IsDelta e) (is : IsIn column.Structure s) (in_n : IsIn column.NodeAttr n) (in_e : IsIn column.EdgeAttr e) where
  abbrev sm : AllIn column.Structure s.minus
  sm = all_in column.Structure s.minus is.minus_in

  abbrev sp : AllIn column.Structure s.plus
  sp = all_in column.Structure s.plus is.plus_in

  abbrev nm : AllIn column.NodeAttr n.minus
  nm = all_in column.NodeAttr n.minus in_n.minus_in

  abbrev np : AllIn column.NodeAttr n.plus
  np = all_in column.NodeAttr n.plus in_n.plus_in

  abbrev em : AllIn column.EdgeAttr e.minus
  em = all_in column.EdgeAttr e.minus in_e.minus_in

  abbrev ep : AllIn column.EdgeAttr e.plus
  ep = all_in column.EdgeAttr e.plus in_e.plus_in

  pub two_joined : IsDelta (joined s n)
  two_joined = record {
    minus = two_set column.Structure column.NodeAttr refl s.minus n.minus sm nm ds.minus dn.minus;
    plus = two_set column.Structure column.NodeAttr refl s.plus n.plus sp np ds.plus dn.plus;
    apart = apart_beside s.minus n.minus s.plus n.plus ds.apart dn.apart (apart_columns column.Structure column.NodeAttr refl s.minus n.plus sm np) (apart_columns column.NodeAttr column.Structure refl n.minus s.plus nm sp);
  }

  pub three_joined : IsDelta (joined_columns s n e)
  three_joined = record {
    minus = columns_set column.Structure column.NodeAttr column.EdgeAttr refl refl refl s.minus n.minus e.minus sm nm em ds.minus dn.minus de.minus;
    plus = columns_set column.Structure column.NodeAttr column.EdgeAttr refl refl refl s.plus n.plus e.plus sp np ep ds.plus dn.plus de.plus;
    apart = apart_beside (s.minus ++ n.minus) e.minus (s.plus ++ n.plus) e.plus two_joined.apart de.apart
        (apart_left s.minus n.minus e.plus (apart_columns column.Structure column.EdgeAttr refl s.minus e.plus sm ep) (apart_columns column.NodeAttr column.EdgeAttr refl n.minus e.plus nm ep))
        (apart_right e.minus s.plus n.plus (apart_columns column.EdgeAttr column.Structure refl e.minus s.plus em sp) (apart_columns column.EdgeAttr column.NodeAttr refl e.minus n.plus em np));
  }

-- ---- the parts of a set, joined back

filter_in : (col : Column) (xs : List Element) → AllIn col (in_column col xs)
filter_in col [] = tt
filter_in col (x ∷ xs) =
    elim (same_column (column_of x) col) as (λ t. same_column (column_of x) col ≡ t → AllIn col (cond t (x ∷ in_column col xs) (in_column col xs))) [
      | true ↦ λ e. (e, filter_in col xs)
      | false ↦ λ e. filter_in col xs
    ] refl

-- an element that is no message is in one of the three
one_of_three : (c : Column) (h : Bool) → (same_column c column.Transient && h) ≡ false → (((same_column c column.Structure && h) || (same_column c column.NodeAttr && h)) || (same_column c column.EdgeAttr && h)) ≡ h
one_of_three column.Structure true none = refl
one_of_three column.Structure false none = refl
one_of_three column.NodeAttr true none = refl
one_of_three column.NodeAttr false none = refl
one_of_three column.EdgeAttr true none = refl
one_of_three column.EdgeAttr false none = refl
one_of_three column.Transient true none = absurd (true≢false none)
one_of_three column.Transient false none = refl

set_back : (set : List Element) → IsSet set → in_column column.Transient set ≡ [] → in_column column.Structure set ++ in_column column.NodeAttr set ++ in_column column.EdgeAttr set ≡ set
set_back set s none =
    let p : Column → Element → Bool = λ col x. same_column (column_of x) col in
    let a = in_column column.Structure set in
    let b = in_column column.NodeAttr set in
    let c = in_column column.EdgeAttr set in
    same_members (a ++ b ++ c) set
    (columns_set column.Structure column.NodeAttr column.EdgeAttr refl refl refl a b c (filter_in column.Structure set) (filter_in column.NodeAttr set) (filter_in column.EdgeAttr set)
    (IsSet-filter (p column.Structure) set s) (IsSet-filter (p column.NodeAttr) set s) (IsSet-filter (p column.EdgeAttr) set s))
    s
    (λ q.
    list_any-append (same q) (a ++ b) c
    ∙ ap (λ t. t || has c q) (list_any-append (same q) a b)
    ∙ (λ i. (has-filter (p column.Structure) set q i || has-filter (p column.NodeAttr) set q i) || has-filter (p column.EdgeAttr) set q i)
    ∙ one_of_three (column_of q) (has set q) (sym (has-filter (p column.Transient) set q) ∙ ap (λ (l : List Element). has l q) none))

pub parts_back : PartsAreJoinedBack
parts_back d is none = λ i. record { minus = set_back d.minus is.minus none.0 i; plus = set_back d.plus is.plus none.1 i }
