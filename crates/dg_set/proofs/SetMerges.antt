-- How a merge makes the meeting and the differences of two sets, and what a union begins with.
use Rattle.std.proofs.Common.{◌≡◌, ℕ, suc, zero, ◌+◌, ◌-◌, ◌<◌, ◌≤◌, Bool, true, false, cond, List, [], ◌∷◌, ◌++◌, length, take, drop, get_or, refl, sym, ap, ◌∙◌, subst, IsTrue, filter, ◌⊎◌, inl, inr}
use Rattle.std.specs.declared.cmp.Ordering.{Ordering}
use Rattle.std.specs.declared.cmp.Ordering.TheVariants.{Less, Equal, Greater}
use Rattle.std.specs.Ordering.{is_lt, ordering_reverse}
use Rattle.std.proofs.lemmas.Cmp.{tied_itself}
use Rattle.std.proofs.lemmas.List.{drop_more, drop_all, take_rest, length-drop, append_assoc, append-nil}
use Rattle.dg_graph.specs.declared.element.Element.{Element}
use Rattle.dg_graph.specs.Elements.{element_cmp, before, IsBelowFirst, IsSet, has, put}
use Rattle.dg_graph.specs.Sets.{unioned, met, without_all}
use Rattle.dg_graph.proofs.Sets.{element_total, before_from_Greater, differs_back, IsBelowFirst-trans, lacks_below, has_first, has_past, IsBelowFirst-put, put_by, tied_exact}
use Rattle.dg_set.proofs.Indices.{put-first, put-past}

-- ---- the first step of a merge

pub IsBelowFirst-unioned : (z : Element) (a b : List Element) → IsBelowFirst z a → IsBelowFirst z b → IsSet b → IsBelowFirst z (unioned a b)
IsBelowFirst-unioned z a [] h g s = h
IsBelowFirst-unioned z a (x ∷ b) h g s =
    IsBelowFirst-put z x (unioned a b) g (IsBelowFirst-unioned z a b h (IsBelowFirst-trans z x b g s.0) s.1)

pub unioned_less : (x : Element) (a b : List Element) → IsBelowFirst x b → IsSet b → unioned (x ∷ a) b ≡ x ∷ unioned a b
unioned_less x a [] h s = refl
unioned_less x a (y ∷ b) h s =
    ap (put y) (unioned_less x a b (IsBelowFirst-trans x y b h s.0) s.1) ∙ put-past y x (unioned a b) h

put-itself : (x : Element) (set : List Element) → put x (x ∷ set) ≡ x ∷ set
put-itself x set = ap (λ o. put_by o x x set) (tied_itself element_total x)

pub unioned_equal : (x : Element) (a b : List Element) → IsSet (x ∷ b) → unioned (x ∷ a) (x ∷ b) ≡ x ∷ unioned a b
unioned_equal x a b s = ap (put x) (unioned_less x a b s.0 s.1) ∙ put-itself x (unioned a b)

-- a test of whether the other set has an element does not see an element that is below all
pub skipped : (f : Bool → Bool) (y : Element) (b xs : List Element) → IsBelowFirst y xs → IsSet xs → filter (λ x. f (has (y ∷ b) x)) xs ≡ filter (λ x. f (has b x)) xs
skipped f y b [] h s = refl
skipped f y b (x ∷ xs) h s =
    let e = has_past x y b (differs_back y x h) in
    let rest = skipped f y b xs (IsBelowFirst-trans y x xs h s.0) s.1 in
    λ i. cond (f (e i)) (x ∷ rest i) (rest i)

-- x is not in the other set, which begins with a greater one
pub kept_less : (f : Bool → Bool) (x : Element) (a b : List Element) → IsBelowFirst x b → IsSet b → filter (λ z. f (has b z)) (x ∷ a) ≡ cond (f false) (x ∷ filter (λ z. f (has b z)) a) (filter (λ z. f (has b z)) a)
kept_less f x a b h s =
    ap (λ t. cond (f t) (x ∷ filter (λ z. f (has b z)) a) (filter (λ z. f (has b z)) a)) (lacks_below x b h s)

pub kept_equal : (f : Bool → Bool) (x : Element) (a b : List Element) → IsSet (x ∷ a) → filter (λ z. f (has (x ∷ b) z)) (x ∷ a) ≡ cond (f true) (x ∷ filter (λ z. f (has b z)) a) (filter (λ z. f (has b z)) a)
kept_equal f x a b s =
    let e = has_first x b in
    let rest = skipped f x b a s.0 s.1 in
    λ i. cond (f (e i)) (x ∷ rest i) (rest i)

-- how the second element stands to the first
pub turned : (x y : Element) (o : Ordering) → element_cmp x y ≡ o → element_cmp y x ≡ ordering_reverse o
turned x y o e = element_total.antisymm y x ∙ ap ordering_reverse e

-- ---- a step of a merge at indices

pub IsSet-drop : (n : ℕ) (xs : List Element) → IsSet xs → IsSet (drop n xs)
IsSet-drop zero xs s = s
IsSet-drop (suc n) [] s = tt
IsSet-drop (suc n) (x ∷ xs) s = IsSet-drop n xs s.1

-- the same of what is left, as the code passes it on
pub IsSet-rest : (n : ℕ) (xs : List Element) → IsSet xs → IsSet (take (length xs - n) (drop n xs))
IsSet-rest n xs s = subst IsSet (sym (take_rest xs n)) (IsSet-drop n xs s)

pub length_rest : (xs : List Element) (n : ℕ) → length (take (length xs - n) (drop n xs)) ≡ length xs - n
length_rest xs n = ap length (take_rest xs n) ∙ length-drop n xs

-- x is below what is left of the other set
pub below_rest : (x : Element) (xs : List Element) (i : ℕ) (d : Element) → i < length xs → IsTrue (before x (get_or xs i d)) → IsBelowFirst x (drop i xs)
below_rest x xs i d h e = subst (IsBelowFirst x) (sym (drop_more xs i d h)) e

pub rest_is_set : (xs : List Element) (i : ℕ) (d : Element) → i < length xs → IsSet xs → IsSet (get_or xs i d ∷ drop (i + 1) xs)
rest_is_set xs i d h s = subst IsSet (drop_more xs i d h) (IsSet-drop i xs s)

module _ (left right : List Element) (i j : ℕ) (d : Element) (left_set : IsSet left) (right_set : IsSet right) (left_in : i < length left) (right_in : j < length right) where
  abbrev x : Element
  x = get_or left i d

  abbrev y : Element
  y = get_or right j d

  -- where the two elements tie, what is left of the right begins with x
  right_from_x : element_cmp x y ≡ Equal → drop j right ≡ x ∷ drop (j + 1) right
  right_from_x e = drop_more right j d right_in ∙ ap (λ z. z ∷ drop (j + 1) right) (sym (tied_exact x y e))

  module _ (f : Bool → Bool) where
    abbrev kept : List Element → List Element → List Element
    kept a b = filter (λ z. f (has b z)) a

    pub kept_Less : element_cmp x y ≡ Less → kept (drop i left) (drop j right) ≡ cond (f false) (x ∷ kept (drop (i + 1) left) (drop j right)) (kept (drop (i + 1) left) (drop j right))
    kept_Less e =
        ap (λ l. kept l (drop j right)) (drop_more left i d left_in)
        ∙ kept_less f x (drop (i + 1) left) (drop j right) (below_rest x right j d right_in (ap is_lt e)) (IsSet-drop j right right_set)

    pub kept_Equal : element_cmp x y ≡ Equal → kept (drop i left) (drop j right) ≡ cond (f true) (x ∷ kept (drop (i + 1) left) (drop (j + 1) right)) (kept (drop (i + 1) left) (drop (j + 1) right))
    kept_Equal e =
        let l = drop_more left i d left_in in
        let r = right_from_x e in
        (λ t. kept (l t) (r t)) ∙ kept_equal f x (drop (i + 1) left) (drop (j + 1) right) (rest_is_set left i d left_in left_set)

    pub kept_Greater : element_cmp x y ≡ Greater → kept (drop i left) (drop j right) ≡ kept (drop i left) (drop (j + 1) right)
    kept_Greater e =
        ap (kept (drop i left)) (drop_more right j d right_in)
        ∙ skipped f y (drop (j + 1) right) (drop i left) (below_rest y left i d left_in (before_from_Greater x y e)) (IsSet-drop i left left_set)

-- ---- what the loop has written

-- one element more: it is the first of what was left to write
pub pushed : (out new rest whole to_come : List Element) (x : Element) → new ≡ out ++ x ∷ [] → out ++ to_come ≡ whole → to_come ≡ x ∷ rest → new ++ rest ≡ whole
pushed out new rest whole to_come x push written next =
    ap (λ l. l ++ rest) push ∙ append_assoc out (x ∷ []) rest ∙ ap (λ l. out ++ l) (sym next) ∙ written

-- nothing more
pub passed : (out rest whole to_come : List Element) → out ++ to_come ≡ whole → to_come ≡ rest → out ++ rest ≡ whole
passed out rest whole to_come written next = ap (λ l. out ++ l) (sym next) ∙ written

pub unioned_none : (b : List Element) → IsSet b → unioned [] b ≡ b
unioned_none [] s = refl
unioned_none (x ∷ b) s = ap (put x) (unioned_none b s.1) ∙ put-first x b s.0

met_none : (a : List Element) → met a [] ≡ []
met_none [] = refl
met_none (x ∷ a) = met_none a

pub without_none : (a : List Element) → without_all a [] ≡ a
without_none [] = refl
without_none (x ∷ a) = ap (λ l. x ∷ l) (without_none a)

module _ (out whole left right : List Element) (i j : ℕ) where
  pub met_done : out ++ met (drop i left) (drop j right) ≡ whole → (length left ≤ i) ⊎ (length right ≤ j) → out ≡ whole
  met_done written (inl h) =
      sym (append-nil out) ∙ ap (λ a. out ++ met a (drop j right)) (sym (drop_all i left h)) ∙ written
  met_done written (inr h) =
      let r = drop_all j right h in
      sym (append-nil out) ∙ ap (λ a. out ++ a) (sym (ap (met (drop i left)) r ∙ met_none (drop i left))) ∙ written

  pub without_done : out ++ without_all (drop i left) (drop j right) ≡ whole → (length left ≤ i) ⊎ (length right ≤ j) → out ++ drop i left ≡ whole
  without_done written (inl h) =
      let l = drop_all i left h in
      ap (λ a. out ++ a) l ∙ ap (λ a. out ++ without_all a (drop j right)) (sym l) ∙ written
  without_done written (inr h) =
      let r = drop_all j right h in
      ap (λ a. out ++ a) (sym (ap (without_all (drop i left)) r ∙ without_none (drop i left))) ∙ written
