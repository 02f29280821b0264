-- How the number of elements that pass a test follows the algebra of sets.
use Rattle.std.proofs.Common.{arith, zero-add, ◌≡◌, ◌+◌, Bool, true, false, cond, not, ◌||◌, ◌&&◌, List, [], ◌∷◌, filter, refl, sym, ap, ◌∙◌}
use Rattle.std.specs.declared.cmp.Ordering.TheVariants.{Less, Equal, Greater}
use Rattle.std.specs.Ordering.{is_eq}
use Rattle.std.specs.List.{count_by}
use Rattle.std.proofs.lemmas.Bool.{true≢false}
use Rattle.std.proofs.lemmas.List.Sums.{sum_by-cons}
use Rattle.dg_graph.specs.declared.element.Element.{Element}
use Rattle.dg_graph.specs.Elements.{IsSet, has, put, take_out, same, element_cmp}
use Rattle.dg_graph.proofs.Sets.{put_by, same_itself, put-take_out, has-take_out}

right : (a b : Bool) → (a || b) ≡ false → b ≡ false
right true b e = cc
right false b e = e

left : (a b : Bool) → (a || b) ≡ false → a ≡ false
left true b e = cc
left false b e = refl

module _ (p : Element → Bool) where
  pub count-cons : (x : Element) (xs : List Element) → count_by p (x ∷ xs) ≡ cond (p x) 1 0 + count_by p xs
  count-cons x xs = sum_by-cons (λ (y : Element). cond (p y) 1 0) x xs

  pub count-put : (x : Element) (set : List Element) → has set x ≡ false → count_by p (put x set) ≡ cond (p x) 1 0 + count_by p set
  count-put x [] e = count-cons x []
  count-put x (y ∷ set) e =
      elim (element_cmp x y) as (λ o. element_cmp x y ≡ o → count_by p (put_by o x y set) ≡ cond (p x) 1 0 + count_by p (y ∷ set)) [
        | Less ↦ λ q. count-cons x (y ∷ set)
        | Equal ↦ λ q. absurd (true≢false (sym (ap is_eq q) ∙ left (same x y) (has set x) e))
        | Greater ↦ λ q.
            let rest = count-put x set (right (same x y) (has set x) e) in
            let a = count-cons y (put x set) in
            let b = count-cons y set in
            omega (arith, rest, a, b)
      ] refl

  pub count-take_out : (x : Element) (set : List Element) → IsSet set → has set x ≡ true → count_by p set ≡ cond (p x) 1 0 + count_by p (take_out x set)
  count-take_out x set s e =
      ap (count_by p) (sym (put-take_out x set s e))
      ∙ count-put x (take_out x set) (has-take_out x set x ∙ ap (λ b. not b && has set x) (same_itself x))

  -- of those that pass a test that decides alike wherever p holds
  pub count-filter : (f : Element → Bool) (t : Bool) → ((x : Element) → p x ≡ true → f x ≡ t) → (xs : List Element) → count_by p (filter f xs) ≡ cond t (count_by p xs) 0
  count-filter f true k [] = refl
  count-filter f false k [] = refl
  count-filter f t k (x ∷ xs) = at (count-filter f t k xs) (p x) refl
    where
      without : p x ≡ false → (ys : List Element) → count_by p (x ∷ ys) ≡ count_by p ys
      without e ys = count-cons x ys ∙ ap (λ b. cond b 1 0 + count_by p ys) e ∙ zero-add (count_by p ys)

      chosen : (b : Bool) → count_by p (filter f xs) ≡ cond b (count_by p xs) 0 → count_by p (cond b (x ∷ filter f xs) (filter f xs)) ≡ cond b (count_by p (x ∷ xs)) 0
      chosen true rest = count-cons x (filter f xs) ∙ ap (λ n. cond (p x) 1 0 + n) rest ∙ sym (count-cons x xs)
      chosen false rest = rest

      passed_by : (b : Bool) → p x ≡ false → count_by p (cond b (x ∷ filter f xs) (filter f xs)) ≡ count_by p (filter f xs)
      passed_by true e = without e (filter f xs)
      passed_by false e = refl

      at : count_by p (filter f xs) ≡ cond t (count_by p xs) 0 → (a : Bool) → p x ≡ a → count_by p (cond (f x) (x ∷ filter f xs) (filter f xs)) ≡ cond t (count_by p (x ∷ xs)) 0
      at rest true e = ap (λ z. count_by p (cond z (x ∷ filter f xs) (filter f xs))) (k x e) ∙ chosen t rest
      at rest false e = passed_by (f x) e ∙ rest ∙ ap (λ n. cond t n 0) (sym (without e xs))
