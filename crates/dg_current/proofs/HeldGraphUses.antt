-- How many elements of a set pass a test, with an element more and with one less.
use Rattle.std.proofs.Common.{◌≡◌, ◌+◌, ◌≤◌, Bool, true, false, not, ◌||◌, ◌&&◌, List, [], ◌∷◌, Option, Some, None, length, refl, sym, ap, ◌∙◌, arith}
use Rattle.std.proofs.lemmas.Bool.{true≢false, false≢true}
use Rattle.std.proofs.lemmas.List.Sums.{count_by-le-length, sum_by-cons}
use Rattle.std.specs.List.{list_any, count_by}
use Rattle.std.specs.Ordering.{is_eq}
use Rattle.std.specs.declared.cmp.Ordering.{Ordering}
use Rattle.std.specs.declared.cmp.Ordering.TheVariants.{Less, Equal, Greater}
use Rattle.dg_graph.specs.declared.element.Element.{Element}
use Rattle.dg_graph.specs.Elements.{bit, element_cmp, IsSet, has, put, take_out, with_one}
use Rattle.dg_graph.proofs.Sets.{put_by, same_itself, has-take_out, put-take_out}
use Rattle.dg_current.specs.declared.element_id.ElementId.{ElementId}
use Rattle.dg_current.specs.HeldGraph.{collected}

module _ (t : Element → Bool) where
  -- one element in front
  in_front : (x : Element) (set : List Element) → count_by t (x ∷ set) ≡ bit (t x) + count_by t set
  in_front x set = sum_by-cons (λ y. bit (t y)) x set

  pub count_put : (x : Element) (set : List Element) → has set x ≡ false → count_by t (put x set) ≡ bit (t x) + count_by t set
  count_put x [] lacks = in_front x []
  count_put x (y ∷ set) lacks = by (element_cmp x y) refl (count_put x set)
    where
      by : (o : Ordering) → element_cmp x y ≡ o → (has set x ≡ false → count_by t (put x set) ≡ bit (t x) + count_by t set)
          → count_by t (put_by o x y set) ≡ bit (t x) + count_by t (y ∷ set)
      by Less p rest = in_front x (y ∷ set)
      by Equal p rest = absurd (true≢false (sym (ap (λ o. is_eq o || has set x) p) ∙ lacks))
      by Greater p rest =
          let more = rest (sym (ap (λ o. is_eq o || has set x) p) ∙ lacks) in
          let front = in_front y (put x set) in
          let old = in_front y set in
          omega arith

  pub count_out : (x : Element) (set : List Element) → IsSet set → has set x ≡ true → count_by t set ≡ bit (t x) + count_by t (take_out x set)
  count_out x set rises there =
      ap (count_by t) (sym (put-take_out x set rises there))
      ∙ count_put x (take_out x set) (has-take_out x set x ∙ ap (λ b. not b && has set x) (same_itself x))

  pub any_count : (set : List Element) → list_any t set ≡ true → 1 ≤ count_by t set
  any_count [] e = absurd (false≢true e)
  any_count (x ∷ set) e = by (t x) (in_front x set) e (any_count set)
    where
      by : (b : Bool) → count_by t (x ∷ set) ≡ bit b + count_by t set → (b || list_any t set) ≡ true
          → (list_any t set ≡ true → 1 ≤ count_by t set) → 1 ≤ count_by t (x ∷ set)
      by true is f rest = omega arith
      by false is f rest = let more = rest f in omega arith

  pub count_any : (set : List Element) → 1 ≤ count_by t set → list_any t set ≡ true
  count_any [] e = absurd (omega arith)
  count_any (x ∷ set) e = by (t x) (in_front x set) (count_any set)
    where
      by : (b : Bool) → count_by t (x ∷ set) ≡ bit b + count_by t set → (1 ≤ count_by t set → list_any t set ≡ true) → (b || list_any t set) ≡ true
      by true is rest = refl
      by false is rest = rest (omega arith)

length_put : (x : Element) (set : List Element) → length (put x set) ≤ length set + 1
length_put x [] = omega arith
length_put x (y ∷ set) = by (element_cmp x y) (length_put x set)
  where
    by : (o : Ordering) → length (put x set) ≤ length set + 1 → length (put_by o x y set) ≤ length (y ∷ set) + 1
    by Less h = omega arith
    by Equal h = omega arith
    by Greater h = omega arith

pub length_put_new : (x : Element) (set : List Element) → has set x ≡ false → length (put x set) ≡ length set + 1
length_put_new x [] lacks = refl
length_put_new x (y ∷ set) lacks = by (element_cmp x y) refl (length_put_new x set)
  where
    by : (o : Ordering) → element_cmp x y ≡ o → (has set x ≡ false → length (put x set) ≡ length set + 1) → length (put_by o x y set) ≡ length (y ∷ set) + 1
    by Less p rest = omega arith
    by Equal p rest = absurd (true≢false (sym (ap (λ o. is_eq o || has set x) p) ∙ lacks))
    by Greater p rest = let more = rest (sym (ap (λ o. is_eq o || has set x) p) ∙ lacks) in omega arith

pub length_out_there : (x : Element) (set : List Element) → IsSet set → has set x ≡ true → length set ≡ length (take_out x set) + 1
length_out_there x set rises there =
    ap length (sym (put-take_out x set rises there))
    ∙ length_put_new x (take_out x set) (has-take_out x set x ∙ ap (λ b. not b && has set x) (same_itself x))

pub length_collected : (f : ElementId → Option Element) (ids : List ElementId) → length (collected f ids) ≤ length ids
length_collected f [] = omega arith
length_collected f (p ∷ ids) = by (f p) (length_collected f ids)
  where
    by : (o : Option Element) → length (collected f ids) ≤ length ids → length (with_one (collected f ids) o) ≤ length (p ∷ ids)
    by None h = omega arith
    by (Some x) h = omega (arith, length_put x (collected f ids))

-- no test passes more often than there are ids
pub count_fits : (t : Element → Bool) (f : ElementId → Option Element) (ids : List ElementId) → count_by t (collected f ids) ≤ length ids
count_fits t f ids = omega (arith, count_by-le-length t (collected f ids), length_collected f ids)
