-- The elements of a combined set, element by element.
use Rattle.std.proofs.Common.{◌≡◌, ℕ, zero, suc, ◌+◌, ◌-◌, ◌<◌, Bool, true, false, cond, not, ◌||◌, ◌&&◌, List, [], ◌∷◌, ◌++◌, filter, length, take, drop, get_or, refl, sym, ap, ◌∙◌, arith}
use Rattle.std.specs.List.{list_all, list_any}
use Rattle.std.proofs.lemmas.List.{take_rest, get_or-drop}
use Rattle.std.proofs.lemmas.List.Folds.{list_all_more}
use Rattle.dg_graph.specs.declared.element.Element.{Element}
use Rattle.dg_graph.specs.declared.function.Function.{Function}
use Rattle.dg_graph.specs.declared.function.Function.TheVariants.{Intersection, Union, Balanced, Skewed}
use Rattle.dg_graph.specs.DifferentialFunction.{part, in_first, in_last, in_skewed, in_combined}
use Rattle.dg_graph.specs.Elements.{has}
use Rattle.dg_graph.specs.Sets.{without_all}
use Rattle.dg_graph.proofs.Sets.{has-filter, has-without_all, and_swap}

-- ---- one set

and_true : (a : Bool) → a ≡ (a && true)
and_true true = refl
and_true false = refl

or_false : (a : Bool) → a ≡ (a || false)
or_false true = refl
or_false false = refl

either : (p a : Bool) → a ≡ cond p a a
either true a = refl
either false a = refl

pub combined_one : (f : Function) (sets : List (List Element)) (set : List Element) (x : Element) → length sets ≡ 1
    → set ≡ get_or sets 0 set → has set x ≡ in_combined f sets x
combined_one f [] set x h at = absurd (omega arith)
combined_one f (first ∷ other ∷ sets) set x h at = absurd (omega arith)
combined_one Intersection (first ∷ []) set x h at = ap (λ s. has s x) at ∙ and_true (has first x)
combined_one Union (first ∷ []) set x h at = ap (λ s. has s x) at ∙ or_false (has first x)
combined_one Balanced (first ∷ []) set x h at = ap (λ s. has s x) at ∙ either (part x 128) (has first x)
combined_one (Skewed r) (first ∷ []) set x h at = ap (λ s. has s x) at ∙ either (part x r) (has first x)

-- ---- every set, and at least one

-- the elements of the first i sets, and then of the set at i too
pub met_more : (sets : List (List Element)) (i j : ℕ) (set all new : List Element) → i < length sets → j ≡ i + 1
    → set ≡ get_or sets i set → ((x : Element) → has new x ≡ (has all x && has set x))
    → ((x : Element) → has all x ≡ list_all (λ s. has s x) (take i sets))
    → (x : Element) → has new x ≡ list_all (λ s. has s x) (take j sets)
met_more sets i j set all new h next at is before x =
    is x
    ∙ (λ t. before x t && has (at t) x)
    ∙ sym (ap (λ n. list_all (λ s. has s x) (take n sets)) next ∙ list_all_more (λ s. has s x) sets i set h)

-- the element at i of what is left past two
pub past_two : (sets : List (List Element)) (i : ℕ) (set : List Element)
    → set ≡ get_or (take (length sets - 2) (drop 2 sets)) i set → set ≡ get_or sets (i + 2) set
past_two sets i set at =
    at
    ∙ ap (λ l. get_or l i set) (take_rest sets 2)
    ∙ get_or-drop 2 sets i set
    ∙ ap (λ n. get_or sets n set) (omega arith)

pub met_first : (sets : List (List Element)) (set : List Element) → 0 < length sets → set ≡ get_or sets 0 set
    → (x : Element) → has set x ≡ list_all (λ s. has s x) (take 1 sets)
met_first [] set h at x = absurd (omega arith)
met_first (first ∷ sets) set h at x = ap (λ s. has s x) at ∙ and_true (has first x)

-- ---- half from the first, and half from the last

-- what goes is in the first alone, what comes in the last alone, and both are in the part
pick : (p a b : Bool) → ((a && not ((a && not b) && p)) || ((b && not a) && p)) ≡ cond p b a
pick true true true = refl
pick true true false = refl
pick true false true = refl
pick true false false = refl
pick false true true = refl
pick false true false = refl
pick false false true = refl
pick false false false = refl

pub balanced : (first last gone come set : List Element) (p : Bool) (x : Element)
    → has set x ≡ ((has first x && not (has gone x)) || has come x)
    → has gone x ≡ (has (without_all first last) x && p)
    → has come x ≡ (has (without_all last first) x && p)
    → has set x ≡ cond p (has last x) (has first x)
balanced first last gone come set p x is g e =
    let goes = g ∙ ap (λ b. b && p) (has-without_all first last x) in
    let comes = e ∙ ap (λ b. b && p) (has-without_all last first x) in
    is
    ∙ (λ t. (has first x && not (goes t)) || comes t)
    ∙ pick p (has first x) (has last x)

in_first_is : (sets : List (List Element)) (set : List Element) (x : Element) → 0 < length sets
    → set ≡ get_or sets 0 set → has set x ≡ in_first sets x
in_first_is [] set x h at = absurd (omega arith)
in_first_is (first ∷ sets) set x h at = ap (λ s. has s x) at

in_last_from : (sets : List (List Element)) (i : ℕ) (d : List Element) (x : Element) → i + 1 ≡ length sets
    → has (get_or sets i d) x ≡ in_last sets x
in_last_from [] i d x h = absurd (omega arith)
in_last_from (set ∷ []) zero d x h = refl
in_last_from (set ∷ []) (suc i) d x h = absurd (omega arith)
in_last_from (set ∷ other ∷ sets) zero d x h = absurd (omega arith)
in_last_from (set ∷ other ∷ sets) (suc i) d x h = in_last_from (other ∷ sets) i d x (omega arith)

in_last_is : (sets : List (List Element)) (set : List Element) (x : Element) → 0 < length sets
    → set ≡ get_or sets (length sets - 1) set → has set x ≡ in_last sets x
in_last_is sets set x h at = ap (λ s. has s x) at ∙ in_last_from sets (length sets - 1) set x (omega arith)

-- so many of 256 from the last set and the others from the first
pub skewed_ends : (r : ℕ) (sets : List (List Element)) (first last : List Element) (x : Element) → 0 < length sets
    → first ≡ get_or sets 0 first → last ≡ get_or sets (length sets - 1) last
    → cond (part x r) (has last x) (has first x) ≡ in_skewed r sets x
skewed_ends r sets first last x h at_first at_last =
    λ t. cond (part x r) (in_last_is sets last x h at_last t) (in_first_is sets first x h at_first t)

pub in_part : (r : ℕ) (set whole half : List Element) → half ≡ filter (λ x. part x r) set → set ≡ whole → (x : Element) → has half x ≡ (has whole x && part x r)
in_part r set whole half is at x =
    ap (λ s. has s x) is ∙ has-filter (λ x. part x r) set x ∙ and_swap (part x r) (has set x) ∙ ap (λ s. has s x && part x r) at

-- ---- the union of several sets

pub union_two : (sets : List (List Element)) (first second all : List Element) → length sets ≡ 2 → first ≡ get_or sets 0 first → second ≡ get_or sets 1 second → ((x : Element) → has all x ≡ (has first x || has second x))
    → (x : Element) → has all x ≡ list_any (λ s. has s x) sets
union_two [] first second all n a b is x = absurd (omega arith)
union_two (s ∷ []) first second all n a b is x = absurd (omega arith)
union_two (s ∷ t ∷ []) first second all n a b is x =
    is x ∙ (λ i. has (a i) x || or_false (has (b i) x) i)
union_two (s ∷ t ∷ u ∷ sets) first second all n a b is x = absurd (omega arith)

or_associates : (a b c : Bool) → ((a || b) || c) ≡ (a || (b || c))
or_associates true b c = refl
or_associates false b c = refl

pub union_three : (sets : List (List Element)) (first second third two all : List Element) → length sets ≡ 3 → first ≡ get_or sets 0 first → second ≡ get_or sets 1 second → third ≡ get_or sets 2 third
    → ((x : Element) → has two x ≡ (has first x || has second x)) → ((x : Element) → has all x ≡ (has two x || has third x))
    → (x : Element) → has all x ≡ list_any (λ s. has s x) sets
union_three [] first second third two all n a b c is_two is x = absurd (omega arith)
union_three (s ∷ []) first second third two all n a b c is_two is x = absurd (omega arith)
union_three (s ∷ t ∷ []) first second third two all n a b c is_two is x = absurd (omega arith)
union_three (s ∷ t ∷ u ∷ []) first second third two all n a b c is_two is x =
    is x ∙ ap (λ b. b || has third x) (is_two x)
    ∙ or_associates (has first x) (has second x) (has third x)
    ∙ (λ i. has (a i) x || (has (b i) x || or_false (has (c i) x) i))
union_three (s ∷ t ∷ u ∷ v ∷ sets) first second third two all n a b c is_two is x = absurd (omega arith)

any_cut : (x : Element) (left right : List (List Element)) → (list_any (λ s. has s x) left || list_any (λ s. has s x) right) ≡ list_any (λ s. has s x) (left ++ right)
any_cut x [] right = refl
any_cut x (s ∷ left) right =
    or_associates (has s x) (list_any (λ s. has s x) left) (list_any (λ s. has s x) right) ∙ ap (λ b. has s x || b) (any_cut x left right)

pub union_halves : (sets left right : List (List Element)) (first second all : List Element) → sets ≡ left ++ right → ((x : Element) → has all x ≡ (has first x || has second x))
    → ((x : Element) → has first x ≡ list_any (λ s. has s x) left) → ((x : Element) → has second x ≡ list_any (λ s. has s x) right)
    → (x : Element) → has all x ≡ list_any (λ s. has s x) sets
union_halves sets left right first second all cut is a b x =
    is x ∙ (λ i. a x i || b x i) ∙ any_cut x left right ∙ ap (list_any (λ s. has s x)) (sym cut)
