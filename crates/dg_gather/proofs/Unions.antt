-- The union of sets, by halves.
use Rattle.std.proofs.Common.{◌≡◌, Result, Ok, Err, OnOk, Bool, true, false, ◌||◌, List, [], ◌∷◌, ◌++◌, map, refl, sym, ap, subst, ◌∙◌}
use Rattle.std.specs.List.{All, list_any}
use Rattle.std.proofs.lemmas.List.Elements.{All-append, All-head, All-tail}
use Rattle.std.proofs.lemmas.List.{map-append}
use Rattle.dg_graph.specs.declared.element.Element.{Element}
use Rattle.dg_graph.specs.DifferentialFunction.{all_of}
use Rattle.dg_graph.specs.Elements.{IsSet, has}
use Rattle.dg_graph.specs.Sets.{unioned}
use Rattle.dg_graph.proofs.DifferentialFunctionDeltas.{AreSets, IsSet-all_of, has-all_of}
use Rattle.dg_graph.proofs.Sets.{IsSet-unioned, has-unioned, same_members}

any_both : {X : Type 0} (t : X → Bool) (xs ys : List X) → list_any t (xs ++ ys) ≡ (list_any t xs || list_any t ys)
any_both t [] ys = refl
any_both t (x ∷ xs) ys = ap (λ b. t x || b) (any_both t xs ys) ∙ shift (t x) (list_any t xs) (list_any t ys)
  where
    shift : (a b c : Bool) → (a || (b || c)) ≡ ((a || b) || c)
    shift true b c = refl
    shift false b c = refl

sets_left : (xs ys : List (List Element)) → AreSets (xs ++ ys) → AreSets xs
sets_left [] ys s = tt
sets_left (x ∷ xs) ys s = (s.0, sets_left xs ys s.1)

all_of_both : (xs ys : List (List Element)) → AreSets (xs ++ ys) → all_of (xs ++ ys) ≡ unioned (all_of xs) (all_of ys)
all_of_both xs ys s =
    let left = IsSet-all_of xs (sets_left xs ys s) in
    same_members (all_of (xs ++ ys)) (unioned (all_of xs) (all_of ys)) (IsSet-all_of (xs ++ ys) s) (IsSet-unioned (all_of xs) (all_of ys) left)
    (λ q. has-all_of (xs ++ ys) q ∙ any_both (λ (set : List Element). has set q) xs ys
    ∙ sym (has-unioned (all_of xs) (all_of ys) q ∙ (λ i. has-all_of xs q i || has-all_of ys q i)))

are_sets : (sets : List (List Element)) → All IsSet sets → AreSets sets
are_sets [] all = tt
are_sets (set ∷ sets) all = (All-head IsSet set sets all, are_sets sets (All-tail IsSet set sets all))

-- of what each of a list shows: both fronts together
module _ {X : Type 0} (shows : X → List Element) where
  pub sets_both : (whole left right : List X) → whole ≡ left ++ right → All IsSet (map shows left) → All IsSet (map shows right) → All IsSet (map shows whole)
  sets_both whole left right is a b = subst (All IsSet) (sym (ap (map shows) is ∙ map-append shows left right)) (All-append IsSet (map shows left) (map shows right) a b)

  pub union_both : (whole left right : List X) → whole ≡ left ++ right → All IsSet (map shows left) → All IsSet (map shows right)
      → unioned (all_of (map shows left)) (all_of (map shows right)) ≡ all_of (map shows whole)
  union_both whole left right is a b =
      sym (ap (λ l. all_of (map shows l)) is ∙ ap all_of (map-append shows left right)
      ∙ all_of_both (map shows left) (map shows right) (are_sets (map shows left ++ map shows right) (All-append IsSet (map shows left) (map shows right) a b)))

pub on_ok : {A E : Type 0} (P : Type 0) (r : Result A E) → P → OnOk r P
on_ok P (Ok x) p = p
on_ok P (Err e) p = tt
