-- What a search by the order of elements leaves out, and where it may end.
use Rattle.std.proofs.Common.{◌≡◌, ℕ, suc, ◌+◌, ◌++◌, ◌≤◌, Bool, true, false, cond, not, List, [], ◌∷◌, Option, Some, None, is_some, filter, filter_map, length, refl, sym, ap, ◌∙◌, arith, eqb}
use Rattle.std.specs.List.{cons_option, count_by}
use Rattle.std.proofs.lemmas.Bool.Decides.{nat_tests}
use Rattle.std.proofs.lemmas.List.{append-nil}
use Rattle.std.proofs.lemmas.List.Sums.{sum_by-cons}
use Rattle.dg_graph.specs.declared.element.Element.{Element}
use Rattle.dg_graph.specs.declared.element.Element.TheVariants.{Edge, NodeAttr}
use Rattle.dg_graph.specs.Elements.{before}
use Rattle.dg_query.specs.declared.answers.Neighbour.{Neighbour}
use Rattle.dg_query.specs.declared.answers.Side.TheVariants as side
use Rattle.dg_query.specs.Queries.{is_an_edge, side_as, edge_at, neighbours_of}
use Rattle.dg_pool.specs.Listing.{up_to}

-- those of the set that do not stand before the element
abbrev pub later : Element → List Element → List Element
later x set = filter (λ y. not (before y x)) set

-- no edge comes before the first one
none_before : (n : ℕ) (x : Element) → before x (Edge false 0 0 0) ≡ true → edge_at n x ≡ None
none_before n (Edge directed id src dst) e = absurd (grind (arith, nat_tests))
none_before n _ e = refl

-- what gives nothing before an element may be passed over
pub passed_over : {B : Type 0} (f : Element → Option B) (x : Element) (set : List Element) → ((y : Element) → before y x ≡ true → f y ≡ None) → filter_map f (later x set) ≡ filter_map f set
passed_over f x [] none = refl
passed_over f x (y ∷ set) none = by (before y x) refl (passed_over f x set none)
  where
    by : (t : Bool) → before y x ≡ t → filter_map f (later x set) ≡ filter_map f set → filter_map f (cond (not (before y x)) (y ∷ later x set) (later x set)) ≡ cons_option (f y) (filter_map f set)
    by true e rest = ap (λ b. filter_map f (cond (not b) (y ∷ later x set) (later x set))) e ∙ rest ∙ sym (ap (λ o. cons_option o (filter_map f set)) (none y e))
    by false e rest = ap (λ b. filter_map f (cond (not b) (y ∷ later x set) (later x set))) e ∙ ap (cons_option (f y)) rest

pub edges_from_first : (n : ℕ) (set : List Element) → filter_map (edge_at n) (later (Edge false 0 0 0) set) ≡ neighbours_of set n
edges_from_first n set = passed_over (edge_at n) (Edge false 0 0 0) set (none_before n)

-- what gives nothing behind an element gives nothing where none is left up to it
pub none_up_to : {B : Type 0} (f : Element → Option B) (x : Element) (set : List Element) → ((y : Element) → before x y ≡ true → f y ≡ None) → up_to set (Some x) ≡ [] → filter_map f set ≡ []
none_up_to f x [] none e = refl
none_up_to f x (y ∷ set) none e = by (before x y) refl (none_up_to f x set none)
  where
    kept : Bool → List Element
    kept b = cond (not b) (y ∷ up_to set (Some x)) (up_to set (Some x))

    by : (t : Bool) → before x y ≡ t → (up_to set (Some x) ≡ [] → filter_map f set ≡ []) → filter_map f (y ∷ set) ≡ []
    by true g rest = ap (λ o. cons_option o (filter_map f set)) (none y g) ∙ rest (sym (ap kept g) ∙ e)
    by false g rest = let some : y ∷ up_to set (Some x) ≡ [] = sym (ap kept g) ∙ e in cc

-- no edge comes behind the first attribute
pub no_edge_behind : (n : ℕ) (x : Element) → before (NodeAttr 0 0 0) x ≡ true → edge_at n x ≡ None
no_edge_behind n (Edge directed id src dst) e = cc
no_edge_behind n _ e = refl

-- a node has no more edges than the graph
one_edge : (n : ℕ) (x : Element) (list : List Neighbour) → length (cons_option (edge_at n x) list) ≤ cond (is_an_edge x) 1 0 + length list
one_edge n (Edge directed id src dst) list = by (eqb src n) (eqb dst n)
  where
    by : (a b : Bool) → length (cons_option (cond a (Some (record { edge = id; node = dst; side = side_as directed side.Out })) (cond b (Some (record { edge = id; node = src; side = side_as directed side.Inward })) None)) list) ≤ 1 + length list
    by true b = omega arith
    by false true = omega arith
    by false false = omega arith
one_edge n _ list = omega arith

pub most_edges : (n : ℕ) (set : List Element) → length (neighbours_of set n) ≤ count_by is_an_edge set
most_edges n [] = omega arith
most_edges n (x ∷ set) =
    let rest = most_edges n set in
    let one = one_edge n x (neighbours_of set n) in
    let more = sum_by-cons (λ (y : Element). cond (is_an_edge y) 1 0) x set in
    omega arith

-- nothing is left
pub nothing_left : {B : Type 0} (list rest all : List B) → rest ≡ [] → list ++ rest ≡ all → list ≡ all
nothing_left list rest all e h = sym (append-nil list) ∙ ap (λ l. list ++ l) (sym e) ∙ h

-- one more than were counted is no more than all
pub one_counted : (n x : ℕ) (f : Element → Option Neighbour) (e : Element) (from behind : List Element) (all : ℕ) → from ≡ e ∷ behind → is_some (f e) ≡ true → n + length (filter_map f from) ≡ all → all ≤ x → n + 1 ≤ x
one_counted n x f e from behind all is some sum most = by (f e) refl
  where
    by : (o : Option Neighbour) → f e ≡ o → n + 1 ≤ x
    by None g = let none : false ≡ true = ap is_some (sym g) ∙ some in cc
    by (Some v) g =
        let long : length (filter_map f from) ≡ suc (length (filter_map f behind)) = ap (λ l. length (filter_map f l)) is ∙ ap (λ o. length (cons_option o (filter_map f behind))) g in
        omega arith

-- no more are left
pub all_counted : (n rest all : ℕ) (list : List Neighbour) → rest ≡ length list → list ≡ [] → n + rest ≡ all → n ≡ all
all_counted n rest all list is none sum = let e = ap length none in omega arith
