-- Exact deltas between sets, and interior nodes by them.
use Rattle.std.proofs.Common.{◌≡◌, ℕ, Bool, true, false, cond, not, ◌&&◌, ◌||◌, List, [], ◌∷◌, map, refl, sym, ap, ◌∙◌}
use Rattle.std.specs.List.{list_any, list_all}
use Rattle.dg_graph.specs.declared.element.Element.{Element}
use Rattle.dg_graph.specs.declared.function.Function.{Function}
use Rattle.dg_graph.specs.declared.function.Function.TheVariants.{Intersection, Union, Balanced, Skewed}
use Rattle.dg_graph.specs.DifferentialFunction.{part, in_combined, in_last, in_skewed, all_of, combined, parted_last, inward}
use Rattle.dg_graph.specs.Composition.{Delta, between, chained}
use Rattle.dg_graph.specs.Elements.{IsSet, has}
use Rattle.dg_graph.specs.Sets.{unioned, without_all}
use Rattle.dg_graph.proofs.Sets.{same_members, has-unioned, has-without_all, has-filter, IsSet-unioned, IsSet-without_all, IsSet-filter}

-- ---- two exact deltas as one

pub has-cancelled : (a b c d : List Element) (x : Element) → has (unioned (without_all a b) (without_all c d)) x ≡ ((has a x && not (has b x)) || (has c x && not (has d x)))
has-cancelled a b c d x =
    has-unioned (without_all a b) (without_all c d) x ∙ (λ i. has-without_all a b x i || has-without_all c d x i)

between_two : (a b c : Bool) → ((((a && not b) && not (c && not b)) || ((b && not c) && not (b && not a))) ≡ (a && not c))
between_two true true true = refl
between_two true true false = refl
between_two true false true = refl
between_two true false false = refl
between_two false true true = refl
between_two false true false = refl
between_two false false true = refl
between_two false false false = refl

half : (a b c : List Element) → IsSet a → unioned (without_all (without_all a b) (without_all c b)) (without_all (without_all b c) (without_all b a)) ≡ without_all a c
half a b c s =
    let is : (x : Element) → has (unioned (without_all (without_all a b) (without_all c b)) (without_all (without_all b c) (without_all b a))) x ≡ has (without_all a c) x =
    λ x. has-cancelled (without_all a b) (without_all c b) (without_all b c) (without_all b a) x
    ∙ (λ i. (has-without_all a b x i && not (has-without_all c b x i)) || (has-without_all b c x i && not (has-without_all b a x i)))
    ∙ between_two (has a x) (has b x) (has c x) ∙ sym (has-without_all a c x) in
    same_members (unioned (without_all (without_all a b) (without_all c b)) (without_all (without_all b c) (without_all b a))) (without_all a c)
    (IsSet-unioned (without_all (without_all a b) (without_all c b)) (without_all (without_all b c) (without_all b a)) (IsSet-without_all (without_all a b) (without_all c b) (IsSet-without_all a b s)))
    (IsSet-without_all a c s) is

other_half : (a b c : List Element) → IsSet b → IsSet c → unioned (without_all (without_all b a) (without_all b c)) (without_all (without_all c b) (without_all a b)) ≡ without_all c a
other_half a b c sb sc =
    let is : (x : Element) → has (unioned (without_all (without_all b a) (without_all b c)) (without_all (without_all c b) (without_all a b))) x ≡ has (without_all c a) x =
    λ x. has-cancelled (without_all b a) (without_all b c) (without_all c b) (without_all a b) x
    ∙ (λ i. (has-without_all b a x i && not (has-without_all b c x i)) || (has-without_all c b x i && not (has-without_all a b x i)))
    ∙ by (has a x) (has b x) (has c x) ∙ sym (has-without_all c a x) in
    same_members (unioned (without_all (without_all b a) (without_all b c)) (without_all (without_all c b) (without_all a b))) (without_all c a)
    (IsSet-unioned (without_all (without_all b a) (without_all b c)) (without_all (without_all c b) (without_all a b)) (IsSet-without_all (without_all b a) (without_all b c) (IsSet-without_all b a sb)))
    (IsSet-without_all c a sc) is
  where
    by : (a b c : Bool) → ((((b && not a) && not (b && not c)) || ((c && not b) && not (a && not b))) ≡ (c && not a))
    by true true true = refl
    by true true false = refl
    by true false true = refl
    by true false false = refl
    by false true true = refl
    by false true false = refl
    by false false true = refl
    by false false false = refl

-- from a to b and from b to c is from a to c
pub chained_between : (a b c : List Element) → IsSet a → IsSet b → IsSet c → chained (between a b) (between b c) ≡ between a c
chained_between a b c sa sb sc = λ i. record { minus = half a b c sa i; plus = other_half a b c sb sc i }

-- ---- an interior node

pub has-all_of : (sets : List (List Element)) (x : Element) → has (all_of sets) x ≡ list_any (λ (set : List Element). has set x) sets
has-all_of [] x = refl
has-all_of (set ∷ sets) x = has-unioned set (all_of sets) x ∙ ap (λ b. has set x || b) (has-all_of sets x)

abbrev pub AreSets : List (List Element) → Type 0
AreSets [] = Unit {0}
AreSets (set ∷ sets) = IsSet set × AreSets sets

pub IsSet-all_of : (sets : List (List Element)) → AreSets sets → IsSet (all_of sets)
IsSet-all_of [] s = tt
IsSet-all_of (set ∷ sets) s = IsSet-unioned set (all_of sets) s.0

pub IsSet-combined : (f : Function) (sets : List (List Element)) → AreSets sets → IsSet (combined f sets)
IsSet-combined f sets s = IsSet-filter (in_combined f sets) (all_of sets) (IsSet-all_of sets s)

-- an element of the interior node is in one of its children
one_of_all : (sets : List (List Element)) (x : Element) (first : Bool) → (first && list_all (λ (set : List Element). has set x) sets) ≡ true → (first || list_any (λ (set : List Element). has set x) sets) ≡ true
one_of_all sets x true e = refl
one_of_all sets x false e = absurd cc

last_of_any : (set : List Element) (sets : List (List Element)) (x : Element) → in_last (set ∷ sets) x ≡ true → list_any (λ (set : List Element). has set x) (set ∷ sets) ≡ true
last_of_any set [] x e = ap (λ b. b || false) e
last_of_any set (other ∷ sets) x e = or_true (has set x) _ (last_of_any other sets x e)
  where
    or_true : (a b : Bool) → b ≡ true → (a || b) ≡ true
    or_true true b e = refl
    or_true false b e = e

first_or_last : (set : List Element) (sets : List (List Element)) (x : Element) (b : Bool) → cond b (in_last (set ∷ sets) x) (has set x) ≡ true → list_any (λ (set : List Element). has set x) (set ∷ sets) ≡ true
first_or_last set sets x true e = last_of_any set sets x e
first_or_last set sets x false e = ap (λ b. b || list_any (λ (set : List Element). has set x) sets) e

in_some : (f : Function) (set : List Element) (sets : List (List Element)) (x : Element) → in_combined f (set ∷ sets) x ≡ true → list_any (λ (set : List Element). has set x) (set ∷ sets) ≡ true
in_some Intersection set sets x e = one_of_all sets x (has set x) e
in_some Union set sets x e = e
in_some Balanced set sets x e = first_or_last set sets x (part x 128) e
in_some (Skewed r) set sets x e = first_or_last set sets x (part x r) e

implied : (a b : Bool) → (a ≡ true → b ≡ true) → (a && b) ≡ a
implied true b f = f refl
implied false b f = refl

-- the set of an interior node has exactly the elements of the differential function
pub has-combined : (f : Function) (set : List Element) (sets : List (List Element)) (x : Element) → has (combined f (set ∷ sets)) x ≡ in_combined f (set ∷ sets) x
has-combined f set sets x =
    has-filter (in_combined f (set ∷ sets)) (all_of (set ∷ sets)) x
    ∙ ap (λ b. in_combined f (set ∷ sets) x && b) (has-all_of (set ∷ sets) x)
    ∙ implied (in_combined f (set ∷ sets) x) (list_any (λ (set : List Element). has set x) (set ∷ sets)) (in_some f set sets x)

-- ---- from the first child to the interior node

abbrev pub to_all : List Element → List (List Element) → List Delta
to_all s rest = map (λ (r : List Element). between s r) rest

any_lost : (s : List Element) (rest : List (List Element)) (x : Element)
    → list_any (λ (set : List Element). has set x) (map (λ (d : Delta). d.minus) (to_all s rest)) ≡ (has s x && not (list_all (λ (set : List Element). has set x) rest))
any_lost s [] x = none (has s x)
  where
    none : (a : Bool) → false ≡ (a && false)
    none true = refl
    none false = refl
any_lost s (r ∷ rest) x =
    (λ i. has-without_all s r x i || any_lost s rest x i) ∙ by (has s x) (has r x) (list_all (λ (set : List Element). has set x) rest)
  where
    by : (a b c : Bool) → ((a && not b) || (a && not c)) ≡ (a && not (b && c))
    by true true c = refl
    by true false c = refl
    by false b c = refl

any_gained : (s : List Element) (rest : List (List Element)) (x : Element)
    → list_any (λ (set : List Element). has set x) (map (λ (d : Delta). d.plus) (to_all s rest)) ≡ (list_any (λ (set : List Element). has set x) rest && not (has s x))
any_gained s [] x = refl
any_gained s (r ∷ rest) x =
    (λ i. has-without_all r s x i || any_gained s rest x i) ∙ by (has s x) (has r x) (list_any (λ (set : List Element). has set x) rest)
  where
    by : (a b c : Bool) → ((b && not a) || (c && not a)) ≡ ((b || c) && not a)
    by true true true = refl
    by true true false = refl
    by true false true = refl
    by true false false = refl
    by false true c = refl
    by false false true = refl
    by false false false = refl

last_lost : (r : ℕ) (s t : List Element) (ts : List (List Element)) (x : Element) → has (parted_last r (to_all s (t ∷ ts))).minus x ≡ (part x r && (has s x && not (in_last (t ∷ ts) x)))
last_lost r s t [] x = has-filter (λ x. part x r) (without_all s t) x ∙ ap (λ b. part x r && b) (has-without_all s t x)
last_lost r s t (u ∷ ts) x = last_lost r s u ts x

last_gained : (r : ℕ) (s t : List Element) (ts : List (List Element)) (x : Element) → has (parted_last r (to_all s (t ∷ ts))).plus x ≡ (part x r && (in_last (t ∷ ts) x && not (has s x)))
last_gained r s t [] x = has-filter (λ x. part x r) (without_all t s) x ∙ ap (λ b. part x r && b) (has-without_all t s x)
last_gained r s t (u ∷ ts) x = last_gained r s u ts x

-- sets of the deltas
all_lost : (s : List Element) (rest : List (List Element)) → IsSet s → AreSets (map (λ (d : Delta). d.minus) (to_all s rest))
all_lost s [] is = tt
all_lost s (r ∷ rest) is = (IsSet-without_all s r is, all_lost s rest is)

all_gained : (s : List Element) (rest : List (List Element)) → AreSets rest → AreSets (map (λ (d : Delta). d.plus) (to_all s rest))
all_gained s [] is = tt
all_gained s (r ∷ rest) is = (IsSet-without_all r s is.0, all_gained s rest is.1)

parted_minus : (r : ℕ) (s t : List Element) (ts : List (List Element)) → IsSet s → IsSet (parted_last r (to_all s (t ∷ ts))).minus
parted_minus r s t [] is = IsSet-filter (λ x. part x r) (without_all s t) (IsSet-without_all s t is)
parted_minus r s t (u ∷ ts) is = parted_minus r s u ts is

parted_plus : (r : ℕ) (s t : List Element) (ts : List (List Element)) → AreSets (t ∷ ts) → IsSet (parted_last r (to_all s (t ∷ ts))).plus
parted_plus r s t [] is = IsSet-filter (λ x. part x r) (without_all t s) (IsSet-without_all t s is.0)
parted_plus r s t (u ∷ ts) is = parted_plus r s u ts is.1

not_in_first : (f : Function) (s : List Element) (sets : List (List Element)) (x : Element) → has (without_all s (combined f (s ∷ sets))) x ≡ (has s x && not (in_combined f (s ∷ sets) x))
not_in_first f s sets x = has-without_all s (combined f (s ∷ sets)) x ∙ ap (λ b. has s x && not b) (has-combined f s sets x)

new_in_inner : (f : Function) (s : List Element) (sets : List (List Element)) (x : Element) → has (without_all (combined f (s ∷ sets)) s) x ≡ (in_combined f (s ∷ sets) x && not (has s x))
new_in_inner f s sets x = has-without_all (combined f (s ∷ sets)) s x ∙ ap (λ b. b && not (has s x)) (has-combined f s sets x)

equal_by : (a b c : List Element) → IsSet a → IsSet b → ((x : Element) → has a x ≡ has b x) → b ≡ c → a ≡ c
equal_by a b c sa sb is e = same_members a b sa sb is ∙ e

-- a function that takes so many of 256 from the last child
parted_inward : (f : Function) (r : ℕ) → ((sets : List (List Element)) (x : Element) → in_combined f sets x ≡ in_skewed r sets x) → (s t : List Element) (ts : List (List Element)) → IsSet s → AreSets (t ∷ ts)
    → parted_last r (to_all s (t ∷ ts)) ≡ between s (combined f (s ∷ t ∷ ts))
parted_inward f r by s t ts is all =
    let c : List Element = combined f (s ∷ t ∷ ts) in
    let d : Delta = parted_last r (to_all s (t ∷ ts)) in
    let minus : d.minus ≡ without_all s c = same_members d.minus (without_all s c) (parted_minus r s t ts is) (IsSet-without_all s c is)
    (λ x. last_lost r s t ts x ∙ lost (part x r) (has s x) (in_last (t ∷ ts) x) ∙ sym (not_in_first f s (t ∷ ts) x ∙ ap (λ b. has s x && not b) (by (s ∷ t ∷ ts) x))) in
    let plus : d.plus ≡ without_all c s = same_members d.plus (without_all c s) (parted_plus r s t ts all) (IsSet-without_all c s (IsSet-combined f (s ∷ t ∷ ts) (is, all)))
    (λ x. last_gained r s t ts x ∙ gained (part x r) (has s x) (in_last (t ∷ ts) x) ∙ sym (new_in_inner f s (t ∷ ts) x ∙ ap (λ b. b && not (has s x)) (by (s ∷ t ∷ ts) x))) in
    λ i. record { minus = minus i; plus = plus i }
  where
    lost : (p a l : Bool) → (p && (a && not l)) ≡ (a && not (cond p l a))
    lost true a l = refl
    lost false true l = refl
    lost false false l = refl

    gained : (p a l : Bool) → (p && (l && not a)) ≡ (cond p l a && not a)
    gained true a l = refl
    gained false true l = refl
    gained false false l = refl

pub inward_is : (f : Function) (s t : List Element) (ts : List (List Element)) → IsSet s → AreSets (t ∷ ts) → inward f (to_all s (t ∷ ts)) ≡ between s (combined f (s ∷ t ∷ ts))
inward_is Intersection s t ts is all =
    let c : List Element = combined Intersection (s ∷ t ∷ ts) in
    let lost : List Element = all_of (map (λ (d : Delta). d.minus) (to_all s (t ∷ ts))) in
    let minus : lost ≡ without_all s c = same_members lost (without_all s c) (IsSet-all_of (map (λ (d : Delta). d.minus) (to_all s (t ∷ ts))) (all_lost s (t ∷ ts) is)) (IsSet-without_all s c is)
    (λ x. has-all_of (map (λ (d : Delta). d.minus) (to_all s (t ∷ ts))) x ∙ any_lost s (t ∷ ts) x
    ∙ by (has s x) (list_all (λ (set : List Element). has set x) (t ∷ ts)) ∙ sym (not_in_first Intersection s (t ∷ ts) x)) in
    let plus : [] ≡ without_all c s = same_members [] (without_all c s) tt (IsSet-without_all c s (IsSet-combined Intersection (s ∷ t ∷ ts) (is, all)))
    (λ x. no (has s x) (list_all (λ (set : List Element). has set x) (t ∷ ts)) ∙ sym (new_in_inner Intersection s (t ∷ ts) x)) in
    λ i. record { minus = minus i; plus = plus i }
  where
    by : (a b : Bool) → (a && not b) ≡ (a && not (a && b))
    by true b = refl
    by false b = refl

    no : (a b : Bool) → false ≡ ((a && b) && not a)
    no true true = refl
    no true false = refl
    no false b = refl
inward_is Union s t ts is all =
    let c : List Element = combined Union (s ∷ t ∷ ts) in
    let gained : List Element = all_of (map (λ (d : Delta). d.plus) (to_all s (t ∷ ts))) in
    let plus : gained ≡ without_all c s = same_members gained (without_all c s) (IsSet-all_of (map (λ (d : Delta). d.plus) (to_all s (t ∷ ts))) (all_gained s (t ∷ ts) all)) (IsSet-without_all c s (IsSet-combined Union (s ∷ t ∷ ts) (is, all)))
    (λ x. has-all_of (map (λ (d : Delta). d.plus) (to_all s (t ∷ ts))) x ∙ any_gained s (t ∷ ts) x
    ∙ by (has s x) (list_any (λ (set : List Element). has set x) (t ∷ ts)) ∙ sym (new_in_inner Union s (t ∷ ts) x)) in
    let minus : [] ≡ without_all s c = same_members [] (without_all s c) tt (IsSet-without_all s c is)
    (λ x. no (has s x) (list_any (λ (set : List Element). has set x) (t ∷ ts)) ∙ sym (not_in_first Union s (t ∷ ts) x)) in
    λ i. record { minus = minus i; plus = plus i }
  where
    by : (a b : Bool) → (b && not a) ≡ ((a || b) && not a)
    by true true = refl
    by true false = refl
    by false b = refl

    no : (a b : Bool) → false ≡ (a && not (a || b))
    no true b = refl
    no false b = refl
inward_is Balanced s t ts is all = parted_inward Balanced 128 (λ sets x. refl) s t ts is all
inward_is (Skewed r) s t ts is all = parted_inward (Skewed r) r (λ sets x. refl) s t ts is all
