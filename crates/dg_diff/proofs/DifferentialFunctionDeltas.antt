-- The sets of an interior node's delta.
use Rattle.std.proofs.Common.{◌≡◌, ℕ, ◌-◌, ◌≤◌, suc, Bool, true, false, ◌&&◌, ◌||◌, List, [], ◌∷◌, ◌++◌, length, get_or, map, filter, refl, sym, ap, subst, ◌∙◌, arith}
use Rattle.std.proofs.lemmas.List.{map-append}
use Rattle.dg_graph.specs.declared.element.Element.{Element}
use Rattle.dg_graph.specs.DifferentialFunction.{part, all_of, parted, parted_last}
use Rattle.dg_graph.specs.Composition.{Delta}
use Rattle.dg_graph.specs.Elements.{IsSet, has}
use Rattle.dg_graph.specs.Sets.{unioned}
use Rattle.dg_graph.proofs.Sets.{same_members, has-unioned, has-filter, IsSet-unioned}
use Rattle.dg_set.specs.Apart.{AreApart}

-- ---- the elements on one side of several deltas, by halves

has-halves : (front back : List (List Element)) (x : Element) → has (all_of (front ++ back)) x ≡ (has (all_of front) x || has (all_of back) x)
has-halves [] back x = refl
has-halves (set ∷ front) back x =
    has-unioned set (all_of (front ++ back)) x
    ∙ ap (λ b. has set x || b) (has-halves front back x)
    ∙ by (has set x) (has (all_of front) x) (has (all_of back) x)
    ∙ ap (λ b. b || has (all_of back) x) (sym (has-unioned set (all_of front) x))
  where
    by : (a b c : Bool) → (a || (b || c)) ≡ ((a || b) || c)
    by true b c = refl
    by false b c = refl

module _ (e : Delta → List Element) where
  -- all elements are a set, since the first set is one
  front_is_set : (ways front back : List Delta) (d : Delta) → ways ≡ front ++ back → IsSet (e (get_or ways 0 d)) → IsSet (all_of (map e front))
  front_is_set ways [] back d cut is = tt
  front_is_set ways (w ∷ front) back d cut is =
      IsSet-unioned (e w) (all_of (map e front)) (subst IsSet (ap (λ l. e (get_or l 0 d)) cut) is)

  whole_is_set : (ways : List Delta) (d : Delta) → 1 ≤ length ways → IsSet (e (get_or ways 0 d)) → IsSet (all_of (map e ways))
  whole_is_set [] d some is = absurd (omega (arith, some))
  whole_is_set (w ∷ ways) d some is = IsSet-unioned (e w) (all_of (map e ways)) is

  pub all_halves : (ways front back : List Delta) (d : Delta) (first second both : List Element) → 1 ≤ length ways → ways ≡ front ++ back → IsSet (e (get_or ways 0 d))
      → first ≡ all_of (map e front) → second ≡ all_of (map e back) → both ≡ unioned first second → both ≡ all_of (map e ways)
  all_halves ways front back d first second both some cut is a b u =
      let joined : List Element = unioned (all_of (map e front)) (all_of (map e back)) in
      let joined_is : joined ≡ all_of (map e ways) =
      same_members joined (all_of (map e ways))
      (IsSet-unioned (all_of (map e front)) (all_of (map e back)) (front_is_set ways front back d cut is))
      (whole_is_set ways d some is)
      (λ x.
      has-unioned (all_of (map e front)) (all_of (map e back)) x
      ∙ sym (has-halves (map e front) (map e back) x)
      ∙ ap (λ l. has (all_of l) x) (sym (map-append e front back) ∙ ap (map e) (sym cut))) in
      u ∙ (λ i. unioned (a i) (b i)) ∙ joined_is

-- ---- the last child's part

pub parted_last_is : (r : ℕ) (ways : List Delta) (d : Delta) → 1 ≤ length ways → parted r (get_or ways (length ways - 1) d) ≡ parted_last r ways
parted_last_is r [] d some = absurd (omega arith)
parted_last_is r (x ∷ []) d some = refl
parted_last_is r (x ∷ y ∷ more) d some =
    ap (λ n. parted r (get_or (x ∷ y ∷ more) n d)) (let e : suc (suc (length more)) - 1 ≡ suc (suc (length more) - 1) = omega arith in e)
    ∙ parted_last_is r (y ∷ more) d (omega arith)

pub apart_parted : (r : ℕ) (a b : List Element) → AreApart a b → AreApart (filter (λ x. part x r) a) (filter (λ x. part x r) b)
apart_parted r a b apart x e =
    has-filter (λ x. part x r) b x
    ∙ by (part x r) (has a x) (has b x) (apart x) (sym (has-filter (λ x. part x r) a x) ∙ e)
  where
    by : (p a b : Bool) → (a ≡ true → b ≡ false) → (p && a) ≡ true → (p && b) ≡ false
    by true a b f e = f e
    by false a b f e = cc
